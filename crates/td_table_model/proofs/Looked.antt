-- What is looked up in tables of sound content is what the content has.
use Rattle.std.proofs.Common.{◌≡◌, ℕ, ◌≤◌, Bool, true, false, cond, List, [], ◌∷◌, length, map, filter, Option, Some, None, refl, sym, ◌∙◌, ap, ap₂, subst, arith, IsPermutation}
use Rattle.std.specs.Prelude.{◌==◌, IfSome, ◌&&◌, find}
use Rattle.std.specs.List.{AllByRecursion}
use Rattle.std.specs.Option.{option_map, option_map_or}
use Rattle.std.specs.Str.{bytes_eq}
use Rattle.std.proofs.lemmas.List.Sorted.{IsPermutation-sym, length_permutation}
use Rattle.sqlite_trees.proofs.ListLemmas.{all-permutation, IsPermutation-filter}
use Rattle.keyed_rows.specs.Rows.{row_at}
use Rattle.keyed_rows.proofs.Putting.{row_at_has, All-row_at}
use Rattle.td_guarantee.specs.declared.guarantee.Guarantee.{Guarantee}
use Rattle.td_movement.specs.declared.movement.Movement.{Movement}
use Rattle.td_model.specs.Account.{HolderRows, ReferencesDiffer, holder_key}
use Rattle.td_model.specs.Sound.{AreHolderRows}
use Rattle.td_model.specs.Content.{Content, account_in, rows_of, IsSound}
use Rattle.td_model.proofs.Kept.{references_differ}
use Rattle.td_table_model.specs.Tables.{Keyed, Tables, AreTablesOf, guarantees_in, movements_in}
use Rattle.td_table_model.specs.Gathering.{IsApart, IsTextApart, guarantees_by, holder_no, in_order, movements_by, owner, part, place, with_codes, with_lines}
use Rattle.td_table_model.specs.Stored.{AreStored}
use Rattle.td_table_model.specs.Looking.{account_by, AreFoundIn}
use Rattle.td_table_model.proofs.Orders.{found_in_order, in_order_permutes}
use Rattle.td_table_model.proofs.Owned.{owned_guarantees, owned_movements}
use Rattle.td_table_model.proofs.Gathered.{HasParts, have_parts, holders_are, guarantees_back, movements_back}
use Rattle.td_table_model.proofs.Pairs.{pairs_text_apart, text_apart_permuted}
use Rattle.td_table_model.proofs.Keeping.{part_of, text_apart_from_map, are_stored}

-- the first of a list
abbrev pub first : {X : Type 0} → List X → Option X
first [] = None
first (x ∷ xs) = Some x

-- what is found is the first that passes
pub find_first : {X : Type 0} (p : X → Bool) (xs : List X) → find p xs ≡ first (filter p xs)
find_first p [] = refl
find_first {X} p (x ∷ xs) = by_test (p x) (find_first p xs)
  where
    by_test : (b : Bool) → find p xs ≡ first (filter p xs) → cond b (Some x) (find p xs) ≡ first (cond b (x ∷ filter p xs) (filter p xs))
    by_test true later = refl
    by_test false later = later

-- at most one has one order
only : {X : Type 0} (x : X) (ys : List X) → length ys ≡ 1 → AllByRecursion (λ y. x ≡ y) ys → x ∷ [] ≡ ys
only x [] long all = absurd (omega (arith, long))
only x (y ∷ []) long all = ap (λ z. z ∷ []) all.0
only x (y ∷ z ∷ ys) long all = absurd (omega (arith, long))

pub short_permutation : {X : Type 0} (xs ys : List X) → IsPermutation xs ys → length xs ≤ 1 → xs ≡ ys
short_permutation [] [] same most = refl
short_permutation [] (y ∷ ys) same most = absurd (let long = length_permutation _ _ same in omega (arith, long))
short_permutation (x ∷ []) ys same most = only x ys (length_permutation _ _ same) (all-permutation (λ y. x ≡ y) (x ∷ []) ys same (refl, tt))
short_permutation (x ∷ z ∷ xs) ys same most = absurd (omega (arith, most))

-- so what is found doesn't depend on the order, where at most one passes
find_permuted : {X : Type 0} (p : X → Bool) (xs ys : List X) → IsPermutation xs ys → length (filter p xs) ≤ 1 → find p xs ≡ find p ys
find_permuted p xs ys same most = find_first p xs ∙ ap first (short_permutation (filter p xs) (filter p ys) (IsPermutation-filter p xs ys same) most) ∙ sym (find_first p ys)

-- of rows that passed a test before
find_filtered : {X : Type 0} (p q : X → Bool) (xs : List X) → find p (filter q xs) ≡ find (λ x. q x && p x) xs
find_filtered p q [] = refl
find_filtered {X} p q (x ∷ xs) = by_tests (q x) (p x) refl (find_filtered p q xs)
  where
    by_tests : (b d : Bool) → p x ≡ d → find p (filter q xs) ≡ find (λ x. q x && p x) xs → find p (cond b (x ∷ filter q xs) (filter q xs)) ≡ cond (b && d) (Some x) (find (λ x. q x && p x) xs)
    by_tests true true is later = rw is refl
    by_tests true false is later = rw is later
    by_tests false d is later = later

-- of rows that were made of others
find-map : {X Y : Type 0} (p : Y → Bool) (f : X → Y) (xs : List X) → find p (map f xs) ≡ option_map f (find (λ x. p (f x)) xs)
find-map p f [] = refl
find-map {X} p f (x ∷ xs) = by_test (p (f x)) (find-map p f xs)
  where
    by_test : (b : Bool) → find p (map f xs) ≡ option_map f (find (λ x. p (f x)) xs) → cond b (Some (f x)) (find p (map f xs)) ≡ option_map f (cond b (Some x) (find (λ x. p (f x)) xs))
    by_test true later = refl
    by_test false later = later

-- a row is found by its key among what was made of rows
row_at-map : {X R : Type 0} (key : R → ℕ) (f : X → R) (k : ℕ) (xs : List X) → row_at key k (map f xs) ≡ option_map f (row_at (λ x. key (f x)) k xs)
row_at-map key f k xs = find-map (λ r. key r == k) f xs

-- nothing is in order where there is nothing
nothing : {X : Type 0} (rows : List X) → IsPermutation [] rows → rows ≡ []
nothing [] same = refl
nothing (r ∷ rows) same = absurd (let long = length_permutation _ _ same in omega (arith, long))

module _ (t : Tables) (c : Content) (sound : IsSound c) (are : AreTablesOf t c) (H : ℕ) where
  -- the holder's row
  holder_is : row_at holder_no H t.holders ≡ option_map (λ (h : HolderRows). h.row) (rows_of H c)
  holder_is = sym (found_in_order holder_no H t.holders) ∙ ap (row_at holder_no H) (holders_are t c sound are) ∙ row_at-map holder_no (λ (h : HolderRows). h.row) H c.holders

  -- and all that is the holder's
  pub account_is : account_in H c ≡ account_by H t
  account_is =
      by_rows (rows_of H c) refl (row_at_has holder_key H c.holders) (All-row_at holder_key (AreHolderRows c.country) H c.holders sound.holders) (All-row_at holder_key (HasParts c.country t) H c.holders (have_parts t c sound are))
      (part_of t c sound are guarantees_in owned_guarantees t.guarantees are.guarantees H) (part_of t c sound are movements_in owned_movements t.movements are.movements H)
    where
      made : (gs : List Guarantee) (ms : List Movement) → map (with_codes t) (guarantees_by H t) ≡ gs → map (with_lines t) (movements_by H t) ≡ ms
          → record { country = c.country; holder = option_map (λ (h : HolderRows). h.row) (rows_of H c); guarantees = gs; movements = ms } ≡ account_by H t
      made gs ms are_gs are_ms =
          ap₂ (λ country holder. record { country = country; holder = holder; guarantees = gs; movements = ms }) (sym are.country) (sym holder_is)
          ∙ ap₂ (λ gs ms. record { country = t.country; holder = row_at holder_no H t.holders; guarantees = gs; movements = ms }) (sym are_gs) (sym are_ms)

      by_rows : (o : Option HolderRows) → rows_of H c ≡ o → IfSome o (λ h. holder_key h ≡ H) → IfSome o (AreHolderRows c.country) → IfSome o (HasParts c.country t)
          → IsPermutation (option_map_or guarantees_in o []) (part H t.guarantees) → IsPermutation (option_map_or movements_in o []) (part H t.movements) → account_in H c ≡ account_by H t
      by_rows None none has is parts gs ms =
          ap (λ o. record { country = c.country; holder = option_map (λ (h : HolderRows). h.row) (rows_of H c); guarantees = option_map_or (λ (h : HolderRows). h.guarantees) o []; movements = option_map_or (λ (h : HolderRows). h.movements) o [] }) none
          ∙ made [] [] (ap (λ rows. map (with_codes t) (in_order place rows)) (nothing (part H t.guarantees) gs)) (ap (λ rows. map (with_lines t) (in_order place rows)) (nothing (part H t.movements) ms))
      by_rows (Some h) some has is parts gs ms =
          ap (λ o. record { country = c.country; holder = option_map (λ (h : HolderRows). h.row) (rows_of H c); guarantees = option_map_or (λ (h : HolderRows). h.guarantees) o []; movements = option_map_or (λ (h : HolderRows). h.movements) o [] }) some
          ∙ made h.guarantees h.movements (subst (λ n. map (with_codes t) (guarantees_by n t) ≡ h.guarantees) has (guarantees_back c.country t h sound.country is parts)) (subst (λ n. map (with_lines t) (movements_by n t) ≡ h.movements) has (movements_back c.country t h sound.country is parts))

  -- rows that are found in order of their serials are found in the table
  found_in_table : {X : Type 0} (rows : List (Keyed X)) (key : Keyed X → List ℕ) (k : List ℕ) → IsApart place (part H rows) → IsTextApart key (in_order place (part H rows))
      → find (λ r. bytes_eq (key r) k) (in_order place (part H rows)) ≡ find (λ r. r.holder == H && bytes_eq (key r) k) rows
  found_in_table rows key k places apart =
      find_permuted (λ r. bytes_eq (key r) k) (in_order place (part H rows)) (part H rows) (IsPermutation-sym _ _ (in_order_permutes place (part H rows) places)) (apart k)
      ∙ find_filtered (λ r. bytes_eq (key r) k) (λ r. owner r == H) rows

  differ : ReferencesDiffer (account_by H t)
  differ = subst ReferencesDiffer account_is (references_differ H c sound)

  stored : AreStored t
  stored = are_stored t c sound are

  pub are_found : AreFoundIn t H (account_in H c)
  are_found = subst (AreFoundIn t H) (sym account_is) (record {
    grns = λ grn. find-map (λ (g : Guarantee). bytes_eq g.grn grn) (with_codes t) (guarantees_by H t)
        ∙ ap (option_map (with_codes t)) (found_in_table t.guarantees (λ g. g.row.grn) grn (stored.guarantees H) (text_apart_from_map (λ (g : Guarantee). g.grn) (with_codes t) (guarantees_by H t) (pairs_text_apart (λ (g : Guarantee). g.grn) (map (with_codes t) (guarantees_by H t)) differ.grns)));
    mrns = λ mrn. find-map (λ (m : Movement). bytes_eq m.mrn mrn) (with_lines t) (movements_by H t)
        ∙ ap (option_map (with_lines t)) (found_in_table t.movements (λ m. m.row.mrn) mrn (stored.movements H) (text_apart_from_map (λ (m : Movement). m.mrn) (with_lines t) (movements_by H t) (pairs_text_apart (λ (m : Movement). m.mrn) (map (with_lines t) (movements_by H t)) differ.mrns)));
    lrns = λ lrn. find-map (λ (m : Movement). bytes_eq m.lrn lrn) (with_lines t) (movements_by H t)
        ∙ ap (option_map (with_lines t)) (found_in_table t.movements (λ m. m.row.lrn) lrn (stored.movements H) (text_apart_permuted (λ (m : Keyed Movement). m.row.lrn) (part H t.movements) (movements_by H t) (in_order_permutes place (part H t.movements) (stored.movements H)) (stored.lrns H)));
  })
