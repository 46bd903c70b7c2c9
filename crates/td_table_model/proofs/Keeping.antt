-- Tables of sound content keep the rules: what the database keeps.
use Rattle.std.proofs.Common.{◌≡◌, ◌≢◌, ℕ, List, [], ◌∷◌, ◌++◌, length, map, filter, flat_map, Option, Some, None, IsSome, refl, sym, ◌∙◌, ap, ap₂, subst, arith, IsPermutation}
use Rattle.std.specs.Prelude.{◌==◌, IfSome, AllPairs}
use Rattle.std.specs.List.{AllByRecursion}
use Rattle.std.specs.Option.{option_map_or}
use Rattle.std.specs.Str.{bytes_eq}
use Rattle.std.proofs.lemmas.List.{length-map, map-append}
use Rattle.std.proofs.lemmas.List.Sorted.{IsPermutation-map, IsPermutation-sym, IsPermutation-trans}
use Rattle.sqlite_trees.proofs.ListLemmas.{filter-map, all_of, all_weaker, all-flat_map, all-map, all_from_map, all-permutation, IsPermutation-filter}
use Rattle.keyed_rows.specs.Rows.{row_at}
use Rattle.keyed_rows.proofs.Putting.{All-row_at}
use Rattle.std.specs.Ordering.{nat_cmp}
use Rattle.std.specs.declared.cmp.Ordering.TheVariants.{Less, Equal}
use Rattle.std.specs.Cmp.Lexicographic.{slice_cmp}
use Rattle.std.specs.List.Sorted.{IsStrictlySortedBy}
use Rattle.std.proofs.lemmas.Cmp.{nat_list_cmp_total, tied_itself}
use Rattle.td_base.specs.Codes.{IsHolderNumber}
use Rattle.td_guarantee.specs.declared.guarantee.Guarantee.{Guarantee}
use Rattle.td_guarantee.specs.Codes.{AreAscending}
use Rattle.td_movement.specs.declared.movement.Movement.{Movement}
use Rattle.td_model.specs.declared.holder_row.HolderRow.{HolderRow}
use Rattle.td_model.specs.Account.{HolderRows, holder_key}
use Rattle.td_model.specs.Sound.{AreHolderRows, IsGuaranteeRow}
use Rattle.td_model.specs.Content.{Content, IsSound}
use Rattle.td_table_model.specs.Tables.{Keyed, Tables, AreTablesOf, KeepAmounts, numbered, guarantee_row, code_row, code_rows, movement_row, line_rows, guarantees_in, kept_in, without_amount, code_rows_of, movements_in, line_rows_of}
use Rattle.td_table_model.specs.Gathering.{IsApart, IsTextApart, holder_no, no_of, of_key, owner, part, place}
use Rattle.td_table_model.specs.Stored.{AreStored, AreOfHolders}
use Rattle.td_table_model.proofs.Amounts.{guarantees_again}
use Rattle.td_table_model.proofs.Orders.{apart_permuted, rises_apart, rises-map, each_found, found_in_order}
use Rattle.td_table_model.proofs.Grouped.{flat_of}
use Rattle.td_table_model.proofs.Numbered.{number, element, numbered_rises_low, elements_are, all_numbered}
use Rattle.td_table_model.proofs.Owned.{owned_guarantees, owned_codes, owned_movements, owned_lines, placed_codes, placed_lines, guarantees_rise, movements_rise, lines_rise}
use Rattle.td_table_model.proofs.Gathered.{holders_are}
use Rattle.td_table_model.proofs.Pairs.{pairs_with, pairs_text_apart, text_apart_permuted}

-- what is made of rows has the texts of what it is made of
text_apart-map : {X Y : Type 0} (key : Y → List ℕ) (f : X → Y) (xs : List X) → IsTextApart (λ x. key (f x)) xs → IsTextApart key (map f xs)
text_apart-map key f xs apart k = omega (arith, apart k, ap length (filter-map (λ y. bytes_eq (key y) k) f xs), length-map (filter (λ x. bytes_eq (key (f x)) k) xs) f)

pub text_apart_from_map : {X Y : Type 0} (key : Y → List ℕ) (f : X → Y) (xs : List X) → IsTextApart key (map f xs) → IsTextApart (λ x. key (f x)) xs
text_apart_from_map key f xs apart k = omega (arith, apart k, ap length (filter-map (λ y. bytes_eq (key y) k) f xs), length-map (filter (λ x. bytes_eq (key (f x)) k) xs) f)

-- codes in ascending order are different texts
ascending_pairs : (codes : List (List ℕ)) → AreAscending codes → AllPairs (λ a b. a ≢ b) codes
unfolding IsStrictlySortedBy
ascending_pairs [] order = λ i j d less within. absurd (omega (arith, within))
ascending_pairs (code ∷ codes) order =
    pairs_with (λ a b. a ≢ b) code codes
    (all_weaker (λ c. slice_cmp nat_cmp code c ≡ Less) (λ c. code ≢ c) (λ c less same. let tie : slice_cmp nat_cmp code c ≡ Equal = subst (λ (x : List ℕ). slice_cmp nat_cmp code x ≡ Equal) same (tied_itself nat_list_cmp_total code) in cc) codes order.0)
    (ascending_pairs codes order.1)

module _ (t : Tables) (c : Content) (sound : IsSound c) (are : AreTablesOf t c) where
  -- the part of a number of a table is what the content has of it there
  pub part_of : {X : Type 0} (f : HolderRows → List (Keyed X)) → ((h : HolderRows) → AllByRecursion (λ x. owner x ≡ holder_key h) (f h)) → (rows : List (Keyed X)) → IsPermutation (flat_map f c.holders) rows
      → (H : ℕ) → IsPermutation (option_map_or f (row_at holder_key H c.holders) []) (part H rows)
  part_of f owned rows same H = subst (λ l. IsPermutation l (part H rows)) (flat_of holder_key owner f owned H 0 c.holders sound.order) (IsPermutation-filter (λ r. owner r == H) (flat_map f c.holders) rows same)

  -- what holds of the rows of each holder holds of the part of each number
  in_part : {X : Type 0} (f : HolderRows → List (Keyed X)) (P : List (Keyed X) → Type 0) → P [] → ((h : HolderRows) → AreHolderRows c.country h → P (f h)) → (H : ℕ) → P (option_map_or f (row_at holder_key H c.holders) [])
  in_part f P none each H = by_rows (row_at holder_key H c.holders) (All-row_at holder_key (AreHolderRows c.country) H c.holders sound.holders)
    where
      by_rows : (o : Option HolderRows) → IfSome o (AreHolderRows c.country) → P (option_map_or f o [])
      by_rows None is = none
      by_rows (Some h) is = each h is

  guarantees_apart : (H : ℕ) → IsApart place (part H t.guarantees)
  guarantees_apart H =
      apart_permuted place (option_map_or guarantees_in (row_at holder_key H c.holders) []) (part H t.guarantees) (part_of guarantees_in owned_guarantees t.guarantees are.guarantees H)
      (in_part guarantees_in (IsApart place) (λ k. omega arith) (λ h is. rises_apart place 0 (guarantees_in h) (guarantees_rise h.row.holder 0 h.guarantees)) H)

  movements_apart : (H : ℕ) → IsApart place (part H t.movements)
  movements_apart H =
      apart_permuted place (option_map_or movements_in (row_at holder_key H c.holders) []) (part H t.movements) (part_of movements_in owned_movements t.movements are.movements H)
      (in_part movements_in (IsApart place) (λ k. omega arith) (λ h is. rises_apart place 0 (movements_in h) (movements_rise h.row.holder 0 h.movements)) H)

  lrns_apart : (H : ℕ) → IsTextApart (λ (m : Keyed Movement). m.row.lrn) (part H t.movements)
  lrns_apart H =
      text_apart_permuted (λ (m : Keyed Movement). m.row.lrn) (option_map_or movements_in (row_at holder_key H c.holders) []) (part H t.movements) (part_of movements_in owned_movements t.movements are.movements H)
      (in_part movements_in (IsTextApart (λ (m : Keyed Movement). m.row.lrn)) (λ k. omega arith)
      (λ h is. text_apart-map (λ (m : Keyed Movement). m.row.lrn) (movement_row h.row.holder) (numbered 0 h.movements)
      (text_apart_from_map (λ (m : Movement). m.lrn) element (numbered 0 h.movements) (rw (elements_are 0 h.movements) (pairs_text_apart (λ (m : Movement). m.lrn) h.movements is.lrns)))) H)

  -- the codes of a serial
  codes_apart : (H n : ℕ) → IsTextApart (λ (c : Keyed (List ℕ)). c.row) (of_key place n (part H t.codes))
  codes_apart H n =
      text_apart_permuted (λ (c : Keyed (List ℕ)). c.row) (of_key place n (option_map_or code_rows_of (row_at holder_key H c.holders) [])) (of_key place n (part H t.codes))
      (IsPermutation-filter (λ r. place r == n) _ (part H t.codes) (part_of code_rows_of owned_codes t.codes are.codes H))
      (in_part code_rows_of (λ rows. IsTextApart (λ (c : Keyed (List ℕ)). c.row) (of_key place n rows)) (λ k. omega arith)
      (λ h is. subst (IsTextApart (λ (c : Keyed (List ℕ)). c.row)) (sym (flat_of number place (code_rows h.row.holder) (placed_codes h.row.holder) n 0 (numbered 0 h.guarantees) (numbered_rises_low 0 h.guarantees)))
      (of_guarantee h.row.holder (row_at number n (numbered 0 h.guarantees)) (All-row_at number (λ p. IsGuaranteeRow c.country h.row.holder p.0 p.1) n (numbered 0 h.guarantees) (all_numbered (IsGuaranteeRow c.country h.row.holder) 0 h.guarantees is.guarantees)))) H)
    where
      of_guarantee : (K : ℕ) (o : Option (ℕ × Guarantee)) → IfSome o (λ p. IsGuaranteeRow c.country K p.0 p.1) → IsTextApart (λ (c : Keyed (List ℕ)). c.row) (option_map_or (code_rows K) o [])
      of_guarantee K None is = λ k. omega arith
      of_guarantee K (Some p) is = text_apart-map (λ (c : Keyed (List ℕ)). c.row) (code_row K p.0) p.1.codes (pairs_text_apart (λ code. code) p.1.codes (ascending_pairs p.1.codes is.codes.order))

  -- the lines of a serial
  lines_apart : (H n : ℕ) → IsApart no_of (of_key place n (part H t.lines))
  lines_apart H n =
      apart_permuted no_of (of_key place n (option_map_or (line_rows_of c.country) (row_at holder_key H c.holders) [])) (of_key place n (part H t.lines))
      (IsPermutation-filter (λ r. place r == n) _ (part H t.lines) (part_of (line_rows_of c.country) (owned_lines c.country) t.lines are.lines H))
      (in_part (line_rows_of c.country) (λ rows. IsApart no_of (of_key place n rows)) (λ k. omega arith)
      (λ h is. subst (IsApart no_of) (sym (flat_of number place (line_rows c.country h.row.holder) (placed_lines c.country h.row.holder) n 0 (numbered 0 h.movements) (numbered_rises_low 0 h.movements)))
      (of_movement h.row.holder (row_at number n (numbered 0 h.movements)))) H)
    where
      of_movement : (K : ℕ) (o : Option (ℕ × Movement)) → IsApart no_of (option_map_or (line_rows c.country K) o [])
      of_movement K None = λ k. omega arith
      of_movement K (Some p) = rises_apart no_of 0 (line_rows c.country K p) (lines_rise c.country K p)

  -- each holder of the content is in the table
  holders_there : AllByRecursion (λ (h : HolderRows). IsSome (row_at holder_no (holder_key h) t.holders)) c.holders
  holders_there =
      all_weaker (λ (h : HolderRows). row_at holder_no (holder_key h) (map (λ (h : HolderRows). h.row) c.holders) ≡ Some h.row) (λ (h : HolderRows). IsSome (row_at holder_no (holder_key h) t.holders))
      (λ h found. subst IsSome (sym found ∙ sym (ap (row_at holder_no (holder_key h)) (holders_are t c sound are)) ∙ found_in_order holder_no (holder_key h) t.holders) refl)
      c.holders (all_from_map (λ r. row_at holder_no (holder_no r) (map (λ (h : HolderRows). h.row) c.holders) ≡ Some r) (λ (h : HolderRows). h.row) c.holders (each_found holder_no 0 (map (λ (h : HolderRows). h.row) c.holders) (rises-map (λ (h : HolderRows). h.row) holder_no 0 c.holders sound.order)))

  -- so the rows of each table are of holders that are there
  rows_owned : {X : Type 0} (f : HolderRows → List (Keyed X)) → ((h : HolderRows) → AllByRecursion (λ x. owner x ≡ holder_key h) (f h)) → (rows : List (Keyed X)) → IsPermutation (flat_map f c.holders) rows → AreOfHolders t.holders rows
  rows_owned f owned rows same =
      all-permutation (λ r. IsSome (row_at holder_no (owner r) t.holders)) (flat_map f c.holders) rows same
      (all-flat_map (λ r. IsSome (row_at holder_no (owner r) t.holders)) f c.holders (all_weaker (λ (h : HolderRows). IsSome (row_at holder_no (holder_key h) t.holders)) (λ h. AllByRecursion (λ r. IsSome (row_at holder_no (owner r) t.holders)) (f h))
      (λ h some. all_weaker (λ x. owner x ≡ holder_key h) (λ x. IsSome (row_at holder_no (owner x) t.holders)) (λ x own. subst (λ n. IsSome (row_at holder_no n t.holders)) (sym own) some) (f h) (owned h)) c.holders holders_there))

  -- the rows that are to keep amounts are those of the guarantees
  kept_rows : (hs : List HolderRows) → map without_amount (flat_map kept_in hs) ≡ flat_map guarantees_in hs
  kept_rows [] = refl
  kept_rows (h ∷ hs) = map-append without_amount (kept_in h) (flat_map kept_in hs) ∙ ap₂ ◌++◌ (guarantees_again h.movements (guarantees_in h)) (kept_rows hs)

  kept_guarantees : KeepAmounts t → IsPermutation t.guarantees (map without_amount t.kept)
  kept_guarantees keep =
      IsPermutation-trans _ _ _ (IsPermutation-sym _ _ are.guarantees)
      (subst (λ l. IsPermutation l (map without_amount t.kept)) (kept_rows c.holders) (IsPermutation-map without_amount _ _ (are.kept keep)))

  pub are_stored : AreStored t
  are_stored = record {
    numbers = all-permutation (λ (r : HolderRow). IsHolderNumber r.holder) (map (λ (h : HolderRows). h.row) c.holders) t.holders are.holders
        (all-map (λ (r : HolderRow). IsHolderNumber r.holder) (λ (h : HolderRows). h.row) c.holders (all_weaker (AreHolderRows c.country) (λ (h : HolderRows). IsHolderNumber h.row.holder) (λ h is. is.row.number) c.holders sound.holders));
    holders = apart_permuted holder_no (map (λ (h : HolderRows). h.row) c.holders) t.holders are.holders (rises_apart holder_no 0 (map (λ (h : HolderRows). h.row) c.holders) (rises-map (λ (h : HolderRows). h.row) holder_no 0 c.holders sound.order));
    guarantees = guarantees_apart;
    codes = codes_apart;
    movements = movements_apart;
    lrns = lrns_apart;
    lines = lines_apart;
    guarantees_owned = rows_owned guarantees_in owned_guarantees t.guarantees are.guarantees;
    codes_owned = rows_owned code_rows_of owned_codes t.codes are.codes;
    movements_owned = rows_owned movements_in owned_movements t.movements are.movements;
    lines_owned = rows_owned (line_rows_of c.country) (owned_lines c.country) t.lines are.lines;
    without_codes = all-permutation (λ (g : Keyed Guarantee). g.row.codes ≡ []) (flat_map guarantees_in c.holders) t.guarantees are.guarantees
        (all-flat_map (λ (g : Keyed Guarantee). g.row.codes ≡ []) guarantees_in c.holders (all_of (λ h. AllByRecursion (λ (g : Keyed Guarantee). g.row.codes ≡ []) (guarantees_in h))
        (λ h. all-map (λ (g : Keyed Guarantee). g.row.codes ≡ []) (guarantee_row h.row.holder) (numbered 0 h.guarantees) (all_of (λ p. (guarantee_row h.row.holder p).row.codes ≡ []) (λ p. refl) (numbered 0 h.guarantees))) c.holders));
    without_lines = all-permutation (λ (m : Keyed Movement). m.row.lines ≡ []) (flat_map movements_in c.holders) t.movements are.movements
        (all-flat_map (λ (m : Keyed Movement). m.row.lines ≡ []) movements_in c.holders (all_of (λ h. AllByRecursion (λ (m : Keyed Movement). m.row.lines ≡ []) (movements_in h))
        (λ h. all-map (λ (m : Keyed Movement). m.row.lines ≡ []) (movement_row h.row.holder) (numbered 0 h.movements) (all_of (λ p. (movement_row h.row.holder p).row.lines ≡ []) (λ p. refl) (numbered 0 h.movements))) c.holders));
    kept = kept_guarantees;
  }
