-- Tables of sound content keep the rules: those of each holder.
use Rattle.std.proofs.Common.{◌≡◌, ◌≢◌, ℕ, ◌+◌, ◌≤◌, List, [], ◌∷◌, length, map, get_or, Some, IsSome, refl, sym, ◌∙◌, ap, subst, arith, IsPermutation}
use Rattle.std.specs.Prelude.{◌==◌, AllPairs}
use Rattle.std.specs.List.{AllByRecursion}
use Rattle.std.proofs.lemmas.List.{length-map}
use Rattle.std.proofs.lemmas.List.Sorted.{length_permutation}
use Rattle.sqlite_trees.proofs.ListLemmas.{all_of, all_weaker, all_both, all-flat_map, all-map, all_from_map, all-permutation, all-get_or, IsPermutation-filter}
use Rattle.keyed_rows.specs.Rows.{row_at}
use Rattle.std.proofs.lemmas.List.Elements.{recursion_from_All}
use Rattle.td_base.specs.Codes.{IsAccessCode, IsCountry}
use Rattle.td_guarantee.specs.declared.guarantee.Guarantee.{Guarantee}
use Rattle.td_movement.specs.declared.line.Line.{Line}
use Rattle.td_movement.specs.declared.movement.Movement.{Movement}
use Rattle.td_commands.specs.Lines.{IsLineAmount}
use Rattle.td_model.specs.Account.{HolderRows, guarantee_by_grn}
use Rattle.td_model.specs.Sound.{AreHolderRows, IsGuaranteeRow, IsMovementRow, IsCovered}
use Rattle.td_model.proofs.Joined.{AllPairs-map}
use Rattle.td_model.specs.Content.{Content, IsSound}
use Rattle.td_table_model.specs.Tables.{Keyed, LineCells, Tables, AreTablesOf, numbered, guarantee_row, guarantee_no, code_row, code_rows, movement_row, line_row, line_rows, guarantees_in, kept_in, with_use, code_rows_of, movements_in, line_rows_of}
use Rattle.td_table_model.specs.Gathering.{IsApart, guarantees_by, lines_by, movements_by, no_of, of_key, part, place}
use Rattle.td_table_model.specs.Rules.{IsGuaranteeInRange, HasGuarantees, HasCodes, IsMovementInRange, HasMovements, AreLinesInRange, HasLines, HasAmounts, IsInUse, KeepsRules, KeepRules, count_of_codes, named_by}
use Rattle.td_table_model.proofs.Orders.{each_found}
use Rattle.td_table_model.proofs.Grouped.{flat_each}
use Rattle.td_table_model.proofs.Numbered.{number, numbered_rises_low, all_numbered, length-numbered, numbered_made, all_with_numbers}
use Rattle.td_table_model.proofs.Owned.{placed_codes, guarantees_rise, movements_rise}
use Rattle.td_table_model.proofs.References.{grn_at, grn_back, row_of_grn}
use Rattle.td_table_model.proofs.Gathered.{HasParts, have_parts, guarantees_are, movements_are, lines_are, gathered_back}
use Rattle.td_table_model.proofs.Pairs.{pairs_with, pairs_first, pairs_behind, pairs_apart}
use Rattle.td_table_model.proofs.RuledSound.{status_with}
use Rattle.td_table_model.proofs.Keeping.{are_stored}
use Rattle.td_base.specs.References.{greatest_grn_serial}
use Rattle.td_guarantee.specs.Codes.{most_codes}

-- pairs of elements are pairs of them with their numbers
pairs_numbered : {X : Type 0} (R : X → X → Type 0) (n : ℕ) (xs : List X) → AllPairs R xs → AllPairs (λ (p q : ℕ × X). R p.1 q.1) (numbered n xs)
pairs_numbered R n [] pairs = λ i j d less within. absurd (omega (arith, within))
pairs_numbered {X} R n (x ∷ xs) pairs =
    pairs_with (λ (p q : ℕ × X). R p.1 q.1) (n + 1, x) (numbered (n + 1) xs) (all_with_numbers (R x) (n + 1) xs (pairs_first R x xs pairs)) (pairs_numbered R (n + 1) xs (pairs_behind R x xs pairs))

-- a holder's rows in the tables of a desk of that country
module _ (country : List ℕ) (t : Tables) (same : t.country ≡ country) (h : HolderRows) (form : IsCountry country) (sound : AreHolderRows country h) (parts : HasParts country t h) where
  abbrev H : ℕ
  H = h.row.holder

  guarantees_stand : guarantees_by H t ≡ guarantees_in h
  guarantees_stand = guarantees_are country t h form sound parts

  movements_stand : movements_by H t ≡ movements_in h
  movements_stand = movements_are country t h form sound parts

  -- of the guarantees
  guarantee_rows : AllByRecursion (λ (p : ℕ × Guarantee). IsGuaranteeRow country H p.0 p.1) (numbered 0 h.guarantees)
  guarantee_rows = all_numbered (IsGuaranteeRow country H) 0 h.guarantees sound.guarantees

  has_guarantees : HasGuarantees t h.row
  has_guarantees = record {
    serials = rw guarantees_stand (numbered_made place (guarantee_row H) (λ p. refl) 0 h.guarantees);
    count = sound.grn_count ∙ sym (ap length guarantees_stand ∙ length-map (numbered 0 h.guarantees) (guarantee_row H) ∙ length-numbered 0 h.guarantees);
    most = sound.grn_most;
    columns = rw (guarantees_stand, same) (all-map (IsGuaranteeInRange country) (guarantee_row H) (numbered 0 h.guarantees)
        (all_weaker (λ (p : ℕ × Guarantee). IsGuaranteeRow country H p.0 p.1) (λ p. IsGuaranteeInRange country (guarantee_row H p)) (λ p is. record { grn = is.grn; reference = is.reference; cover = is.cover; ends = is.ends }) (numbered 0 h.guarantees) guarantee_rows));
  }

  -- of their codes
  code_parts : AllByRecursion (λ (p : ℕ × Guarantee). IsPermutation (code_rows H p) (of_key place p.0 (part H t.codes))) (numbered 0 h.guarantees)
  code_parts =
      all_weaker (λ (p : ℕ × Guarantee). of_key place p.0 (code_rows_of h) ≡ code_rows H p) (λ (p : ℕ × Guarantee). IsPermutation (code_rows H p) (of_key place p.0 (part H t.codes)))
      (λ p has. subst (λ l. IsPermutation l (of_key place p.0 (part H t.codes))) has (IsPermutation-filter (λ r. place r == p.0) (code_rows_of h) (part H t.codes) parts.codes))
      (numbered 0 h.guarantees) (flat_each number place (code_rows H) (placed_codes H) 0 (numbered 0 h.guarantees) (numbered_rises_low 0 h.guarantees))

  count_is : (p : ℕ × Guarantee) → IsPermutation (code_rows H p) (of_key place p.0 (part H t.codes)) → count_of_codes t (guarantee_row H p) ≡ length p.1.codes
  count_is p moved = length_permutation _ _ moved ∙ length-map p.1.codes (code_row H p.0)

  serials_there : AllByRecursion (λ (p : ℕ × Guarantee). IsSome (row_at place p.0 (guarantees_by H t))) (numbered 0 h.guarantees)
  serials_there = rw guarantees_stand
      (all_weaker (λ (p : ℕ × Guarantee). row_at place p.0 (guarantees_in h) ≡ Some (guarantee_row H p)) (λ (p : ℕ × Guarantee). IsSome (row_at place p.0 (guarantees_in h))) (λ p found. subst IsSome (sym found) refl) (numbered 0 h.guarantees)
      (all_from_map (λ r. row_at place (place r) (guarantees_in h) ≡ Some r) (guarantee_row H) (numbered 0 h.guarantees) (each_found place 0 (guarantees_in h) (guarantees_rise H 0 h.guarantees))))

  has_codes : HasCodes t h.row
  has_codes = record {
    name = all-permutation (λ c. IsSome (row_at place (place c) (guarantees_by H t))) (code_rows_of h) (part H t.codes) parts.codes
        (all-flat_map (λ c. IsSome (row_at place (place c) (guarantees_by H t))) (code_rows H) (numbered 0 h.guarantees)
        (all_weaker (λ (p : ℕ × Guarantee). IsSome (row_at place p.0 (guarantees_by H t))) (λ p. AllByRecursion (λ c. IsSome (row_at place (place c) (guarantees_by H t))) (code_rows H p))
        (λ p some. all-map (λ c. IsSome (row_at place (place c) (guarantees_by H t))) (code_row H p.0) p.1.codes (all_of (λ c. IsSome (row_at place p.0 (guarantees_by H t))) (λ c. some) p.1.codes)) (numbered 0 h.guarantees) serials_there));
    form = all-permutation (λ (c : Keyed (List ℕ)). IsAccessCode c.row) (code_rows_of h) (part H t.codes) parts.codes
        (all-flat_map (λ (c : Keyed (List ℕ)). IsAccessCode c.row) (code_rows H) (numbered 0 h.guarantees)
        (all_weaker (λ (p : ℕ × Guarantee). IsGuaranteeRow country H p.0 p.1) (λ p. AllByRecursion (λ (c : Keyed (List ℕ)). IsAccessCode c.row) (code_rows H p))
        (λ p is. all-map (λ (c : Keyed (List ℕ)). IsAccessCode c.row) (code_row H p.0) p.1.codes (recursion_from_All IsAccessCode p.1.codes is.codes.form)) (numbered 0 h.guarantees) guarantee_rows));
    some = rw guarantees_stand (all-map (λ g. 1 ≤ count_of_codes t g) (guarantee_row H) (numbered 0 h.guarantees)
        (all_both (λ (p : ℕ × Guarantee). IsGuaranteeRow country H p.0 p.1) (λ (p : ℕ × Guarantee). IsPermutation (code_rows H p) (of_key place p.0 (part H t.codes))) (λ p. 1 ≤ count_of_codes t (guarantee_row H p))
        (λ p is moved. omega (arith, count_is p moved, is.codes.some)) (numbered 0 h.guarantees) guarantee_rows code_parts));
    most = rw guarantees_stand (all-map (λ g. count_of_codes t g ≤ most_codes) (guarantee_row H) (numbered 0 h.guarantees)
        (all_both (λ (p : ℕ × Guarantee). IsGuaranteeRow country H p.0 p.1) (λ (p : ℕ × Guarantee). IsPermutation (code_rows H p) (of_key place p.0 (part H t.codes))) (λ p. count_of_codes t (guarantee_row H p) ≤ most_codes)
        (λ p is moved. omega (arith, count_is p moved, is.codes.most)) (numbered 0 h.guarantees) guarantee_rows code_parts));
  }

  -- of the movements
  movement_rows : AllByRecursion (λ (p : ℕ × Movement). IsMovementRow country H h.guarantees p.0 p.1) (numbered 0 h.movements)
  movement_rows = all_numbered (IsMovementRow country H h.guarantees) 0 h.movements sound.movements

  has_movements : HasMovements t h.row
  has_movements = record {
    serials = rw movements_stand (numbered_made place (movement_row H) (λ p. refl) 0 h.movements);
    count = sound.mrn_count ∙ sym (ap length movements_stand ∙ length-map (numbered 0 h.movements) (movement_row H) ∙ length-numbered 0 h.movements);
    most = sound.mrn_most;
    columns = rw (movements_stand, same) (all-map (IsMovementInRange country) (movement_row H) (numbered 0 h.movements)
        (all_weaker (λ (p : ℕ × Movement). IsMovementRow country H h.guarantees p.0 p.1) (λ p. IsMovementInRange country (movement_row H p))
        (λ p is. record { mrn = is.mrn; lrn = is.lrn; departure = is.departure; destination = is.destination; accepted = is.accepted; status = status_with p.1 [] is.status }) (numbered 0 h.movements) movement_rows));
  }

  -- of a movement's lines
  own_most : length h.guarantees ≤ greatest_grn_serial
  own_most = omega (arith, sound.grn_count, sound.grn_most)

  lines_named : (n k : ℕ) (lines : List Line) → AllByRecursion (λ l. IsSome (guarantee_by_grn l.grn h.guarantees)) lines → AllByRecursion (λ l. IsSome (row_at place (named_by l) (guarantees_by H t))) (map (line_row country H n) (numbered k lines))
  lines_named n k [] own = tt
  lines_named n k (l ∷ lines) own = (rw guarantees_stand (row_of_grn country H h.guarantees l.grn form sound.row.number own_most sound.guarantees own.0), lines_named n (k + 1) lines own.1)

  lines_apart : (n : ℕ) (lines : List Line) → AllByRecursion (λ l. IsSome (guarantee_by_grn l.grn h.guarantees)) lines → AllPairs (λ (l m : Line). l.grn ≢ m.grn) lines → IsApart named_by (map (line_row country H n) (numbered 0 lines))
  lines_apart n lines own distinct =
      let back = λ (l : Line) (some : IsSome (guarantee_by_grn l.grn h.guarantees)). grn_back country H h.guarantees l.grn form sound.row.number own_most sound.guarantees some in
      let pairs : AllPairs (λ (l m : Line). guarantee_no country l.grn ≢ guarantee_no country m.grn) lines =
      λ i j d less within e. distinct i j d less within (
      sym (back (get_or lines i d) (all-get_or (λ (l : Line). IsSome (guarantee_by_grn l.grn h.guarantees)) lines i d own (omega (arith, less, within))))
      ∙ ap (λ k. grn_at k (map (guarantee_row H) (numbered 0 h.guarantees))) e
      ∙ back (get_or lines j d) (all-get_or (λ (l : Line). IsSome (guarantee_by_grn l.grn h.guarantees)) lines j d own within)) in
      pairs_apart named_by (map (line_row country H n) (numbered 0 lines))
      (AllPairs-map (line_row country H n) (λ a b. named_by a ≢ named_by b) (numbered 0 lines) (λ l. (0, record { grn = []; cents = 0 })) (pairs_numbered (λ (l m : Line). guarantee_no country l.grn ≢ guarantee_no country m.grn) 0 lines pairs))

  lines_in_range : (p : ℕ × Movement) → lines_by H p.0 t ≡ line_rows country H p → IsMovementRow country H h.guarantees p.0 p.1 → AreLinesInRange t (movement_row H p)
  lines_in_range p stand is =
      let long : length (lines_by H p.0 t) ≡ length p.1.lines = ap length stand ∙ length-map (numbered 0 p.1.lines) (line_row country H p.0) ∙ length-numbered 0 p.1.lines in
      record {
        numbers = rw stand (numbered_made no_of (line_row country H p.0) (λ q. refl) 0 p.1.lines);
        some = omega (arith, long, is.lines.some);
        most = omega (arith, long, is.lines.most);
        name = rw stand (lines_named p.0 0 p.1.lines is.lines.own);
        apart = rw stand (lines_apart p.0 p.1.lines is.lines.own is.lines.distinct);
        amounts = rw stand (all-map (λ (l : Keyed LineCells). IsLineAmount l.row.cents) (line_row country H p.0) (numbered 0 p.1.lines) (all_with_numbers (λ (l : Line). IsLineAmount l.cents) 0 p.1.lines (recursion_from_All (λ (l : Line). IsLineAmount l.cents) p.1.lines is.lines.amounts)));
      }

  movements_there : AllByRecursion (λ (p : ℕ × Movement). IsSome (row_at place p.0 (movements_by H t))) (numbered 0 h.movements)
  movements_there = rw movements_stand
      (all_weaker (λ (p : ℕ × Movement). row_at place p.0 (movements_in h) ≡ Some (movement_row H p)) (λ (p : ℕ × Movement). IsSome (row_at place p.0 (movements_in h))) (λ p found. subst IsSome (sym found) refl) (numbered 0 h.movements)
      (all_from_map (λ r. row_at place (place r) (movements_in h) ≡ Some r) (movement_row H) (numbered 0 h.movements) (each_found place 0 (movements_in h) (movements_rise H 0 h.movements))))

  has_lines : HasLines t h.row
  has_lines = record {
    columns = rw movements_stand (all-map (AreLinesInRange t) (movement_row H) (numbered 0 h.movements)
        (all_both (λ (p : ℕ × Movement). lines_by H p.0 t ≡ line_rows country H p) (λ (p : ℕ × Movement). IsMovementRow country H h.guarantees p.0 p.1) (λ p. AreLinesInRange t (movement_row H p)) lines_in_range (numbered 0 h.movements) (lines_are country t h form sound parts) movement_rows));
    belong = all-permutation (λ l. IsSome (row_at place (place l) (movements_by H t))) (line_rows_of country h) (part H t.lines) parts.lines
        (all-flat_map (λ l. IsSome (row_at place (place l) (movements_by H t))) (line_rows country H) (numbered 0 h.movements)
        (all_weaker (λ (p : ℕ × Movement). IsSome (row_at place p.0 (movements_by H t))) (λ p. AllByRecursion (λ l. IsSome (row_at place (place l) (movements_by H t))) (line_rows country H p))
        (λ p some. all-map (λ l. IsSome (row_at place (place l) (movements_by H t))) (line_row country H p.0) (numbered 0 p.1.lines) (all_of (λ q. IsSome (row_at place p.0 (movements_by H t))) (λ q. some) (numbered 0 p.1.lines))) (numbered 0 h.movements) movements_there));
  }

  -- of the amounts that are kept
  has_amounts : HasAmounts t h.row
  has_amounts keep =
      subst (λ (g : HolderRows). AllByRecursion (IsInUse g.movements) (part H t.kept)) (sym (gathered_back country t h form sound parts))
      (all-permutation (IsInUse h.movements) (kept_in h) (part H t.kept) (parts.kept keep)
      (all-map (IsInUse h.movements) (with_use h.movements) (guarantees_in h) (all_of (λ g. IsInUse h.movements (with_use h.movements g)) (λ g. refl) (guarantees_in h))))

  pub keeps_rules : KeepsRules t h.row
  keeps_rules = record {
    holder = record { eori = sound.row.eori; last_at = sound.row.last_at };
    guarantees = has_guarantees;
    codes = has_codes;
    movements = has_movements;
    lines = has_lines;
    amounts = has_amounts;
    cover = subst (λ (g : HolderRows). AllByRecursion (IsCovered g.movements) g.guarantees) (sym (gathered_back country t h form sound parts)) sound.cover;
  }

-- all of them
pub keep_rules : (t : Tables) (c : Content) → IsSound c → AreTablesOf t c → KeepRules t
keep_rules t c sound are = record {
  stored = are_stored t c sound are;
  country = subst IsCountry (sym are.country) sound.country;
  holders = all-permutation (KeepsRules t) (map (λ (h : HolderRows). h.row) c.holders) t.holders are.holders
      (all-map (KeepsRules t) (λ (h : HolderRows). h.row) c.holders (all_both (AreHolderRows c.country) (HasParts c.country t) (λ (h : HolderRows). KeepsRules t h.row) (λ h is parts. keeps_rules c.country t are.country h sound.country is parts) c.holders sound.holders (have_parts t c sound are)));
}
