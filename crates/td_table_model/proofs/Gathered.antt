-- Tables that have just the rows of sound content have that content.
use Rattle.std.proofs.Common.{◌≡◌, ℕ, ◌+◌, List, [], ◌∷◌, map, flat_map, IsSome, refl, ◌∙◌, ap, ap₂, subst, arith, IsPermutation}
use Rattle.std.specs.Prelude.{◌==◌}
use Rattle.std.specs.List.{AllByRecursion}
use Rattle.sqlite_trees.proofs.ListLemmas.{map-map, all_weaker, all_both, IsPermutation-filter}
use Rattle.keyed_rows.specs.Rows.{Rises}
use Rattle.td_base.specs.Codes.{IsCountry}
use Rattle.td_guarantee.specs.declared.guarantee.Guarantee.{Guarantee}
use Rattle.td_movement.specs.declared.line.Line.{Line}
use Rattle.td_movement.specs.declared.movement.Movement.{Movement}
use Rattle.td_model.specs.Account.{HolderRows, guarantee_by_grn, holder_key}
use Rattle.td_model.specs.Sound.{AreHolderRows, IsGuaranteeRow, IsMovementRow}
use Rattle.td_model.specs.Content.{Content, IsSound}
use Rattle.td_table_model.specs.Tables.{Keyed, Tables, AreTablesOf, KeepAmounts, numbered, guarantee_row, code_row, code_rows, movement_row, line_row, line_rows, guarantees_in, kept_in, code_rows_of, movements_in, line_rows_of, guarantee_no}
use Rattle.td_table_model.specs.Gathering.{in_order, of_key, owner, place, no_of, code_rank, holder_no, part, guarantees_by, codes_by, movements_by, lines_by, with_codes, with_lines, line_from, gathered, content_of}
use Rattle.td_table_model.proofs.Orders.{brought_to_order, rises-map}
use Rattle.td_table_model.proofs.Grouped.{flat_each}
use Rattle.td_table_model.proofs.Numbered.{number, element, numbered_rises_low, elements_are, all_numbered, map_same}
use Rattle.td_table_model.proofs.Owned.{owned_guarantees, owned_kept, owned_codes, owned_movements, owned_lines, placed_codes, placed_lines, guarantees_rise, movements_rise, lines_rise, codes_rise}
use Rattle.td_table_model.proofs.References.{grn_back, grn_at}

-- a holder's part of each table has just this holder's rows, and the amounts in use where they are kept
pub record HasParts (country : List ℕ) (t : Tables) (h : HolderRows) : Type 0 where
  pub guarantees : IsPermutation (guarantees_in h) (part h.row.holder t.guarantees)
  pub kept : KeepAmounts t → IsPermutation (kept_in h) (part h.row.holder t.kept)
  pub codes : IsPermutation (code_rows_of h) (part h.row.holder t.codes)
  pub movements : IsPermutation (movements_in h) (part h.row.holder t.movements)
  pub lines : IsPermutation (line_rows_of country h) (part h.row.holder t.lines)

-- the part of a holder of a table that has just the rows of holders in order
parts_in : {X : Type 0} (f : HolderRows → List (Keyed X)) → ((h : HolderRows) → AllByRecursion (λ x. owner x ≡ holder_key h) (f h))
    → (hs : List HolderRows) (rows : List (Keyed X)) → Rises holder_key 0 hs → IsPermutation (flat_map f hs) rows → AllByRecursion (λ (h : HolderRows). IsPermutation (f h) (part h.row.holder rows)) hs
parts_in f owned hs rows rise same =
    all_weaker (λ (h : HolderRows). of_key owner (holder_key h) (flat_map f hs) ≡ f h) (λ (h : HolderRows). IsPermutation (f h) (part h.row.holder rows))
    (λ h has. subst (λ l. IsPermutation l (part h.row.holder rows)) has (IsPermutation-filter (λ r. owner r == holder_key h) (flat_map f hs) rows same))
    hs (flat_each holder_key owner f owned 0 hs rise)

-- what holds of each, under a premise
all_under : {X P : Type 0} (Q : X → Type 0) (xs : List X) → (P → AllByRecursion Q xs) → AllByRecursion (λ x. P → Q x) xs
all_under Q [] all = tt
all_under Q (x ∷ xs) all = (λ p. (all p).0, all_under Q xs (λ p. (all p).1))

pub have_parts : (t : Tables) (c : Content) → IsSound c → AreTablesOf t c → AllByRecursion (HasParts c.country t) c.holders
have_parts t c sound are =
    join c.holders (parts_in guarantees_in owned_guarantees c.holders t.guarantees sound.order are.guarantees)
    (all_under (λ (h : HolderRows). IsPermutation (kept_in h) (part h.row.holder t.kept)) c.holders (λ keep. parts_in kept_in owned_kept c.holders t.kept sound.order (are.kept keep)))
    (parts_in code_rows_of owned_codes c.holders t.codes sound.order are.codes)
    (parts_in movements_in owned_movements c.holders t.movements sound.order are.movements) (parts_in (line_rows_of c.country) (owned_lines c.country) c.holders t.lines sound.order are.lines)
  where
    join : (hs : List HolderRows) → AllByRecursion (λ (h : HolderRows). IsPermutation (guarantees_in h) (part h.row.holder t.guarantees)) hs
        → AllByRecursion (λ (h : HolderRows). KeepAmounts t → IsPermutation (kept_in h) (part h.row.holder t.kept)) hs → AllByRecursion (λ (h : HolderRows). IsPermutation (code_rows_of h) (part h.row.holder t.codes)) hs
        → AllByRecursion (λ (h : HolderRows). IsPermutation (movements_in h) (part h.row.holder t.movements)) hs → AllByRecursion (λ (h : HolderRows). IsPermutation (line_rows_of c.country h) (part h.row.holder t.lines)) hs
        → AllByRecursion (HasParts c.country t) hs
    join [] gs ks cs ms ls = tt
    join (h ∷ hs) gs ks cs ms ls = (record { guarantees = gs.0; kept = ks.0; codes = cs.0; movements = ms.0; lines = ls.0 }, join hs gs.1 ks.1 cs.1 ms.1 ls.1)

module _ (country : List ℕ) (t : Tables) (h : HolderRows) (form : IsCountry country) (sound : AreHolderRows country h) (parts : HasParts country t h) where
  -- the rows of each table, in order
  pub guarantees_are : guarantees_by h.row.holder t ≡ guarantees_in h
  guarantees_are = brought_to_order place 0 (guarantees_in h) (part h.row.holder t.guarantees) (guarantees_rise h.row.holder 0 h.guarantees) parts.guarantees

  pub movements_are : movements_by h.row.holder t ≡ movements_in h
  movements_are = brought_to_order place 0 (movements_in h) (part h.row.holder t.movements) (movements_rise h.row.holder 0 h.movements) parts.movements

  pub codes_are : AllByRecursion (λ (p : ℕ × Guarantee). codes_by h.row.holder p.0 t ≡ code_rows h.row.holder p) (numbered 0 h.guarantees)
  codes_are =
      all_both (λ (p : ℕ × Guarantee). of_key place p.0 (code_rows_of h) ≡ code_rows h.row.holder p) (λ (p : ℕ × Guarantee). IsGuaranteeRow country h.row.holder p.0 p.1) (λ (p : ℕ × Guarantee). codes_by h.row.holder p.0 t ≡ code_rows h.row.holder p)
      (λ p has is. brought_to_order code_rank 0 (code_rows h.row.holder p) (of_key place p.0 (part h.row.holder t.codes)) (codes_rise h.row.holder p.0 p.1.codes is.codes)
      (subst (λ l. IsPermutation l (of_key place p.0 (part h.row.holder t.codes))) has (IsPermutation-filter (λ r. place r == p.0) (code_rows_of h) (part h.row.holder t.codes) parts.codes)))
      (numbered 0 h.guarantees) (flat_each number place (code_rows h.row.holder) (placed_codes h.row.holder) 0 (numbered 0 h.guarantees) (numbered_rises_low 0 h.guarantees))
      (all_numbered (IsGuaranteeRow country h.row.holder) 0 h.guarantees sound.guarantees)

  pub lines_are : AllByRecursion (λ (p : ℕ × Movement). lines_by h.row.holder p.0 t ≡ line_rows country h.row.holder p) (numbered 0 h.movements)
  lines_are =
      all_weaker (λ (p : ℕ × Movement). of_key place p.0 (line_rows_of country h) ≡ line_rows country h.row.holder p) (λ (p : ℕ × Movement). lines_by h.row.holder p.0 t ≡ line_rows country h.row.holder p)
      (λ p has. brought_to_order no_of 0 (line_rows country h.row.holder p) (of_key place p.0 (part h.row.holder t.lines)) (lines_rise country h.row.holder p)
      (subst (λ l. IsPermutation l (of_key place p.0 (part h.row.holder t.lines))) has (IsPermutation-filter (λ r. place r == p.0) (line_rows_of country h) (part h.row.holder t.lines) parts.lines)))
      (numbered 0 h.movements) (flat_each number place (line_rows country h.row.holder) (placed_lines country h.row.holder) 0 (numbered 0 h.movements) (numbered_rises_low 0 h.movements))

  -- each guarantee has its codes back
  guarantee_back : (p : ℕ × Guarantee) → codes_by h.row.holder p.0 t ≡ code_rows h.row.holder p → with_codes t (guarantee_row h.row.holder p) ≡ p.1
  guarantee_back p are = ap (λ rows. record p.1 { codes = map (λ (c : Keyed (List ℕ)). c.row) rows }) are ∙ ap (λ cs. record p.1 { codes = cs }) (codes_back p.0 p.1.codes)
    where
      codes_back : (n : ℕ) (codes : List (List ℕ)) → map (λ (c : Keyed (List ℕ)). c.row) (map (code_row h.row.holder n) codes) ≡ codes
      codes_back n [] = refl
      codes_back n (c ∷ codes) = ap (λ l. c ∷ l) (codes_back n codes)

  pub guarantees_back : map (with_codes t) (guarantees_by h.row.holder t) ≡ h.guarantees
  guarantees_back =
      ap (map (with_codes t)) guarantees_are ∙ map-map (with_codes t) (guarantee_row h.row.holder) (numbered 0 h.guarantees)
      ∙ map_same (λ p. with_codes t (guarantee_row h.row.holder p)) element (numbered 0 h.guarantees) (all_weaker (λ (p : ℕ × Guarantee). codes_by h.row.holder p.0 t ≡ code_rows h.row.holder p) (λ p. with_codes t (guarantee_row h.row.holder p) ≡ element p) guarantee_back (numbered 0 h.guarantees) codes_are)
      ∙ elements_are 0 h.guarantees

  -- each line its GRN
  line_back : (n k : ℕ) (l : Line) → IsSome (guarantee_by_grn l.grn h.guarantees) → line_from t (line_row country h.row.holder n (k, l)) ≡ l
  line_back n k l some =
      ap (λ rows. record { grn = grn_at (guarantee_no country l.grn) rows; cents = l.cents }) guarantees_are
      ∙ ap (λ grn. record { grn = grn; cents = l.cents }) (grn_back country h.row.holder h.guarantees l.grn form sound.row.number (omega (arith, sound.grn_count, sound.grn_most)) sound.guarantees some)

  lines_back : (n k : ℕ) (lines : List Line) → AllByRecursion (λ l. IsSome (guarantee_by_grn l.grn h.guarantees)) lines → map (line_from t) (map (line_row country h.row.holder n) (numbered k lines)) ≡ lines
  lines_back n k [] own = refl
  lines_back n k (l ∷ lines) own = ap₂ ◌∷◌ (line_back n (k + 1) l own.0) (lines_back n (k + 1) lines own.1)

  -- and each movement its lines
  movement_back : (p : ℕ × Movement) → lines_by h.row.holder p.0 t ≡ line_rows country h.row.holder p → IsMovementRow country h.row.holder h.guarantees p.0 p.1 → with_lines t (movement_row h.row.holder p) ≡ p.1
  movement_back p are is = ap (λ rows. record p.1 { lines = map (line_from t) rows }) are ∙ ap (λ ls. record p.1 { lines = ls }) (lines_back p.0 0 p.1.lines is.lines.own)

  pub movements_back : map (with_lines t) (movements_by h.row.holder t) ≡ h.movements
  movements_back =
      ap (map (with_lines t)) movements_are ∙ map-map (with_lines t) (movement_row h.row.holder) (numbered 0 h.movements)
      ∙ map_same (λ p. with_lines t (movement_row h.row.holder p)) element (numbered 0 h.movements)
      (all_both (λ (p : ℕ × Movement). lines_by h.row.holder p.0 t ≡ line_rows country h.row.holder p) (λ (p : ℕ × Movement). IsMovementRow country h.row.holder h.guarantees p.0 p.1) (λ p. with_lines t (movement_row h.row.holder p) ≡ element p) movement_back
      (numbered 0 h.movements) lines_are (all_numbered (IsMovementRow country h.row.holder h.guarantees) 0 h.movements sound.movements))
      ∙ elements_are 0 h.movements

  -- so the holder's rows are gathered as they were
  pub gathered_back : gathered t h.row ≡ h
  gathered_back = ap₂ (λ gs ms. record { row = h.row; guarantees = gs; movements = ms }) guarantees_back movements_back

-- the holders in order
pub holders_are : (t : Tables) (c : Content) → IsSound c → AreTablesOf t c → in_order holder_no t.holders ≡ map (λ (h : HolderRows). h.row) c.holders
holders_are t c sound are = brought_to_order holder_no 0 (map (λ (h : HolderRows). h.row) c.holders) t.holders (rises-map (λ (h : HolderRows). h.row) holder_no 0 c.holders sound.order) are.holders

-- and the content whole
pub content_is : (t : Tables) (c : Content) → IsSound c → AreTablesOf t c → content_of t ≡ c
content_is t c sound are = ap₂ (λ country holders. record { country = country; holders = holders }) are.country
    (ap (map (gathered t)) (holders_are t c sound are) ∙ map-map (gathered t) (λ (h : HolderRows). h.row) c.holders ∙ map_same (λ (h : HolderRows). gathered t h.row) (λ h. h) c.holders each ∙ unmapped c.holders)
  where
    each : AllByRecursion (λ (h : HolderRows). gathered t h.row ≡ h) c.holders
    each = all_both (AreHolderRows c.country) (HasParts c.country t) (λ (h : HolderRows). gathered t h.row ≡ h) (λ h is parts. gathered_back c.country t h sound.country is parts) c.holders sound.holders (have_parts t c sound are)

    unmapped : {X : Type 0} (xs : List X) → map (λ x. x) xs ≡ xs
    unmapped [] = refl
    unmapped (x ∷ xs) = ap (λ l. x ∷ l) (unmapped xs)
