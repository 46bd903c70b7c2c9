-- The lines on a guarantee of the movements that count add up to the amount in use on it.
use Rattle.std.proofs.Common.{sum_by, ◌≡◌, ℕ, ◌+◌, Bool, true, false, cond, List, [], ◌∷◌, map, filter, flat_map, Option, Some, None, IsSome, refl, sym, ◌∙◌, ap, ap₂, subst, arith, IsPermutation}
use Rattle.std.specs.Prelude.{◌==◌, ◌&&◌, IfSome, if◌then◌else◌, unwrap_or}
use Rattle.std.specs.List.{AllByRecursion}
use Rattle.std.specs.Option.{option_map_or}
use Rattle.std.specs.Str.{bytes_eq}
use Rattle.std.proofs.lemmas.Bool.Decides.{nat_tests}
use Rattle.std.proofs.lemmas.List.Sorted.{sum_by-IsPermutation}
use Rattle.std.proofs.lemmas.List.Sums.{sum_by-cons, sum_by-append}
use Rattle.std.proofs.lemmas.Slice.Eq.{bytes_eq-Decides}
use Rattle.sqlite_trees.proofs.ListLemmas.{all_both, IsPermutation-filter}
use Rattle.keyed_rows.proofs.Putting.{row_at_has, All-row_at}
use Rattle.td_base.specs.Codes.{IsCountry}
use Rattle.td_base.specs.References.{serial_of}
use Rattle.td_guarantee.specs.Usage.{cents_on, lines_on, movement_on, used_on}
use Rattle.td_movement.specs.declared.line.Line.{Line}
use Rattle.td_movement.specs.declared.movement.Movement.{Movement}
use Rattle.td_movement.specs.States.{is_counting}
use Rattle.td_model.specs.Account.{HolderRows, guarantee_by_grn, holder_key, movement_by_mrn}
use Rattle.td_model.specs.Sound.{AreHolderRows, IsMovementRow}
use Rattle.td_model.specs.Content.{Content, account_in, rows_of, IsSound}
use Rattle.td_table_model.specs.Tables.{Keyed, LineCells, Tables, AreTablesOf, numbered, guarantee_row, guarantee_no, movement_row, line_row, line_rows, movements_in, line_rows_of}
use Rattle.td_table_model.specs.Gathering.{of_key, owner, place, part}
use Rattle.td_table_model.specs.Looking.{counting_rows, lines_of_row, lines_in_use, cents_of, amount_between, movement_no}
use Rattle.td_table_model.proofs.Amounts.{at_found}
use Rattle.td_table_model.proofs.Counting.{sum_by-map, filter_both}
use Rattle.td_table_model.proofs.Grouped.{flat_each}
use Rattle.td_table_model.proofs.Numbered.{number, element, numbered_rises_low, elements_are, all_numbered}
use Rattle.td_table_model.proofs.Owned.{placed_lines}
use Rattle.td_table_model.proofs.References.{grn_at, grn_back}
use Rattle.td_table_model.proofs.Gathered.{HasParts, have_parts}
use Rattle.td_table_model.proofs.Told.{mrns_placed}

-- a sum over lists put together
sum_by-flat_map : {X Y : Type 0} (f : Y → ℕ) (g : X → List Y) (xs : List X) → sum_by f (flat_map g xs) ≡ sum_by (λ x. sum_by f (g x)) xs
sum_by-flat_map f g [] = refl
sum_by-flat_map f g (x ∷ xs) = sum_by-append f (g x) (flat_map g xs) ∙ ap (λ n. sum_by f (g x) + n) (sum_by-flat_map f g xs) ∙ sym (sum_by-cons (λ x. sum_by f (g x)) x xs)

-- a sum over those that pass
pub sum_by-passing : {X : Type 0} (f : X → ℕ) (p : X → Bool) (xs : List X) → sum_by f (filter p xs) ≡ sum_by (λ x. if p x then f x else 0) xs
sum_by-passing f p [] = refl
sum_by-passing {X} f p (x ∷ xs) = by_test (p x) (sum_by-passing f p xs) ∙ sym (sum_by-cons (λ x. if p x then f x else 0) x xs)
  where
    by_test : (b : Bool) → sum_by f (filter p xs) ≡ sum_by (λ x. if p x then f x else 0) xs → sum_by f (cond b (x ∷ filter p xs) (filter p xs)) ≡ (if b then f x else 0) + sum_by (λ x. if p x then f x else 0) xs
    by_test true later = sum_by-cons f x (filter p xs) ∙ ap (λ n. f x + n) later
    by_test false later = later ∙ omega arith

-- sums of the same
pub sum_by-same : {X : Type 0} (f g : X → ℕ) (xs : List X) → AllByRecursion (λ x. f x ≡ g x) xs → sum_by f xs ≡ sum_by g xs
sum_by-same f g [] all = refl
sum_by-same f g (x ∷ xs) all = sum_by-cons f x xs ∙ ap₂ ◌+◌ all.0 (sum_by-same f g xs all.1) ∙ sym (sum_by-cons g x xs)

module _ (t : Tables) (country : List ℕ) (h : HolderRows) (form : IsCountry country) (is : AreHolderRows country h) (parts : HasParts country t h) (grn : List ℕ) (some : IsSome (guarantee_by_grn grn h.guarantees)) where
  -- the guarantee's serial, and what a line's row takes up on it
  abbrev n : ℕ
  n = guarantee_no country grn

  abbrev taken : Keyed LineCells → ℕ
  taken l = if l.row.guarantee == n then l.row.cents else 0

  back : (own : List ℕ) → IsSome (guarantee_by_grn own h.guarantees) → grn_at (guarantee_no country own) (map (guarantee_row h.row.holder) (numbered 0 h.guarantees)) ≡ own
  back own there = grn_back country h.row.holder h.guarantees own form is.row.number (omega (arith, is.grn_count, is.grn_most)) is.guarantees there

  -- a line's row names the guarantee exactly where the line does
  names : (l : Line) → IsSome (guarantee_by_grn l.grn h.guarantees) → (guarantee_no country l.grn == n) ≡ bytes_eq l.grn grn
  names l there = by_tests (guarantee_no country l.grn == n) (bytes_eq l.grn grn) refl refl
    where
      by_tests : (a b : Bool) → (guarantee_no country l.grn == n) ≡ a → bytes_eq l.grn grn ≡ b → a ≡ b
      by_tests true true same told = refl
      by_tests false false same told = refl
      by_tests true false same told =
          let e : guarantee_no country l.grn ≡ n = grind (arith, nat_tests, same) in
          let own : l.grn ≡ grn = sym (back l.grn there) ∙ ap (λ k. grn_at k (map (guarantee_row h.row.holder) (numbered 0 h.guarantees))) e ∙ back grn some in
          sym ((bytes_eq-Decides l.grn grn).1 own) ∙ told
      by_tests false true same told =
          let e : guarantee_no country l.grn ≡ n = ap (guarantee_no country) ((bytes_eq-Decides l.grn grn).0 told) in
          grind (arith, nat_tests, same, e)

  -- so the rows of a movement's lines add up to what they are on it
  rows_on : (serial k : ℕ) (lines : List Line) → AllByRecursion (λ l. IsSome (guarantee_by_grn l.grn h.guarantees)) lines → sum_by taken (map (line_row country h.row.holder serial) (numbered k lines)) ≡ lines_on grn lines
  rows_on serial k [] own = refl
  rows_on serial k (l ∷ lines) own =
      sum_by-cons taken (line_row country h.row.holder serial (k + 1, l)) (map (line_row country h.row.holder serial) (numbered (k + 1) lines))
      ∙ ap₂ ◌+◌ (ap (λ b. if b then l.cents else 0) (names l own.0)) (rows_on serial (k + 1) lines own.1)
      ∙ sym (sum_by-cons (cents_on grn) l lines)

  -- the lines of the table on it of a movement
  row_on : (p : ℕ × Movement) → of_key place p.0 (line_rows_of country h) ≡ line_rows country h.row.holder p → IsMovementRow country h.row.holder h.guarantees p.0 p.1
      → sum_by cents_of (lines_of_row n t (movement_row h.row.holder p)) ≡ lines_on grn p.1.lines
  row_on p has row =
      ap (sum_by cents_of) (filter_both (λ l. l.serial == p.0 && l.row.guarantee == n) (λ l. owner l == h.row.holder) t.lines
      ∙ filter_both (λ l. l.row.guarantee == n) (λ l. place l == p.0) (part h.row.holder t.lines))
      ∙ sum_by-passing cents_of (λ l. l.row.guarantee == n) (of_key place p.0 (part h.row.holder t.lines))
      ∙ sum_by-IsPermutation taken (line_rows country h.row.holder p) (of_key place p.0 (part h.row.holder t.lines))
      (subst (λ l. IsPermutation l (of_key place p.0 (part h.row.holder t.lines))) has (IsPermutation-filter (λ r. place r == p.0) (line_rows_of country h) (part h.row.holder t.lines) parts.lines))
      ∙ rows_on p.0 0 p.1.lines row.lines.own

  -- the amount of each movement on it
  amounts : AllByRecursion (λ (p : ℕ × Movement). amount_between h.row.holder p.0 n t ≡ lines_on grn p.1.lines) (numbered 0 h.movements)
  amounts = all_both (λ (p : ℕ × Movement). of_key place p.0 (line_rows_of country h) ≡ line_rows country h.row.holder p) (λ (p : ℕ × Movement). IsMovementRow country h.row.holder h.guarantees p.0 p.1)
      (λ (p : ℕ × Movement). amount_between h.row.holder p.0 n t ≡ lines_on grn p.1.lines) row_on
      (numbered 0 h.movements) (flat_each number place (line_rows country h.row.holder) (placed_lines country h.row.holder) 0 (numbered 0 h.movements) (numbered_rises_low 0 h.movements))
      (all_numbered (IsMovementRow country h.row.holder h.guarantees) 0 h.movements is.movements)

  -- and of the one with an MRN
  pub amount_of : (mrn : List ℕ) (found : Movement) → movement_by_mrn mrn h.movements ≡ Some found → amount_between h.row.holder (movement_no country mrn) n t ≡ lines_on grn found.lines
  amount_of mrn found there =
      let at = at_found (λ k m. (amount_between h.row.holder k n t ≡ lines_on grn m.lines) × (serial_of country m.mrn ≡ Some k)) mrn 0 h.movements found there
      (all_both (λ (p : ℕ × Movement). amount_between h.row.holder p.0 n t ≡ lines_on grn p.1.lines) (λ (p : ℕ × Movement). serial_of country p.1.mrn ≡ Some p.0)
      (λ p. (amount_between h.row.holder p.0 n t ≡ lines_on grn p.1.lines) × (serial_of country p.1.mrn ≡ Some p.0)) (λ p amount serial. (amount, serial)) (numbered 0 h.movements) amounts (mrns_placed country h form is)) in
      let no : movement_no country mrn ≡ at.0 = ap (λ o. unwrap_or o 0) (ap (serial_of country) (sym at.2) ∙ at.1.1) in
      ap (λ k. amount_between h.row.holder k n t) no ∙ at.1.0

  -- what a row of a movement has in use on it
  abbrev used_by : Keyed Movement → ℕ
  used_by m = if is_counting m.row.state then sum_by cents_of (lines_of_row n t m) else 0

  each : AllByRecursion (λ (p : ℕ × Movement). used_by (movement_row h.row.holder p) ≡ movement_on grn p.1) (numbered 0 h.movements)
  each = all_both (λ (p : ℕ × Movement). of_key place p.0 (line_rows_of country h) ≡ line_rows country h.row.holder p) (λ (p : ℕ × Movement). IsMovementRow country h.row.holder h.guarantees p.0 p.1) (λ p. used_by (movement_row h.row.holder p) ≡ movement_on grn p.1)
      (λ p has row. ap (λ k. if is_counting p.1.state then k else 0) (row_on p has row))
      (numbered 0 h.movements) (flat_each number place (line_rows country h.row.holder) (placed_lines country h.row.holder) 0 (numbered 0 h.movements) (numbered_rises_low 0 h.movements))
      (all_numbered (IsMovementRow country h.row.holder h.guarantees) 0 h.movements is.movements)

  pub holders_lines : sum_by cents_of (lines_in_use h.row.holder n t) ≡ used_on grn h.movements
  holders_lines =
      sum_by-flat_map cents_of (lines_of_row n t) (counting_rows h.row.holder t)
      ∙ ap (sum_by (λ m. sum_by cents_of (lines_of_row n t m))) (filter_both (λ (m : Keyed Movement). is_counting m.row.state) (λ m. owner m == h.row.holder) t.movements)
      ∙ sum_by-passing (λ m. sum_by cents_of (lines_of_row n t m)) (λ (m : Keyed Movement). is_counting m.row.state) (part h.row.holder t.movements)
      ∙ sum_by-IsPermutation used_by (movements_in h) (part h.row.holder t.movements) parts.movements
      ∙ sum_by-map used_by (movement_row h.row.holder) (numbered 0 h.movements)
      ∙ sum_by-same (λ p. used_by (movement_row h.row.holder p)) (λ p. movement_on grn (element p)) (numbered 0 h.movements) each
      ∙ sym (sum_by-map (movement_on grn) element (numbered 0 h.movements))
      ∙ ap (used_on grn) (elements_are 0 h.movements)

pub lines_are_use : (t : Tables) (c : Content) → IsSound c → AreTablesOf t c → (H : ℕ) (grn : List ℕ) → IsSome (guarantee_by_grn grn (account_in H c).guarantees) → (rows : List (Keyed LineCells))
    → IsPermutation (lines_in_use H (guarantee_no t.country grn) t) rows → sum_by cents_of rows ≡ used_on grn (account_in H c).movements
lines_are_use t c sound are H grn some rows same =
    sum_by-IsPermutation cents_of (lines_in_use H (guarantee_no t.country grn) t) rows same
    ∙ ap (λ country. sum_by cents_of (lines_in_use H (guarantee_no country grn) t)) are.country
    ∙ by_rows (rows_of H c) (row_at_has holder_key H c.holders) (All-row_at holder_key (AreHolderRows c.country) H c.holders sound.holders) (All-row_at holder_key (HasParts c.country t) H c.holders (have_parts t c sound are)) some
  where
    by_rows : (o : Option HolderRows) → IfSome o (λ h. holder_key h ≡ H) → IfSome o (AreHolderRows c.country) → IfSome o (HasParts c.country t)
        → IsSome (guarantee_by_grn grn (option_map_or (λ (h : HolderRows). h.guarantees) o []))
        → sum_by cents_of (lines_in_use H (guarantee_no c.country grn) t) ≡ used_on grn (option_map_or (λ (h : HolderRows). h.movements) o [])
    by_rows None has is parts there = cc
    by_rows (Some h) has is parts there =
        subst (λ k. sum_by cents_of (lines_in_use k (guarantee_no c.country grn) t) ≡ used_on grn h.movements) has (holders_lines t c.country h sound.country is parts grn there)
