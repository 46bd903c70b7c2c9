-- All movements and all guarantees of a content under their keys: they stand in order, and one after another they are what is listed.
use Rattle.std.proofs.Common.{Option, ◌≡◌, ◌∙◌, ℕ, ◌≤◌, Bool, true, false, cond, List, [], ◌∷◌, map, flat_map, Some, None, inl, inr, refl, sym, subst, ap, ap₂, arith}
use Rattle.std.specs.Prelude.{◌==◌, ◌&&◌, ◌||◌, nat_lt, slice_get}
use Rattle.std.specs.List.{AllByRecursion}
use Rattle.std.proofs.lemmas.Bool.Decides.{nat_tests}
use Rattle.sqlite_trees.specs.Tree.{IsAscending}
use Rattle.sqlite_trees.proofs.ListLemmas.{all-filter, all-flat_map, all-map, all_of, all_weaker, filter_all, map-flat_map, map-map}
use Rattle.keyed_rows.specs.Rows.{Rises}
use Rattle.td_guarantee.specs.declared.guarantee.Guarantee.{Guarantee}
use Rattle.td_guarantee.specs.Usage.{used_on}
use Rattle.td_movement.specs.declared.movement.Movement.{Movement}
use Rattle.td_model.specs.Account.{HolderRows, holder_key}
use Rattle.td_model.specs.Content.{Content, IsSound}
use Rattle.td_table_model.specs.Gathering.{owner, place}
use Rattle.td_table_model.specs.Listed.{guarantees_listed, movements_listed}
use Rattle.td_table_model.specs.Tables.{Keyed, numbered}
use Rattle.td_table_model.proofs.Numbered.{element, elements_are, number, numbered_rises, numbered_rises_low}
use Rattle.td_table_model.proofs.Orders.{rises-map, rises_above}
use Rattle.td_store_load.specs.Placed.{ComesNext, behind, guarantees_placed, is_behind, keyed, movements_placed, with_holder}
use Rattle.td_store_load.proofs.Behind.{all_in_order, flat_same}
use Rattle.td_store_load.proofs.Places.{IsBefore}

-- what is made of each of a holder's elements, under the holder's number and the element's
module _ {X Y : Type 0} (of : HolderRows → List X) (made : HolderRows → X → Y) where
  abbrev one_at : HolderRows → ℕ × X → Keyed Y
  one_at h p = keyed h.row.holder (p.0, made h p.1)

  abbrev pub at : HolderRows → List (Keyed Y)
  at h = map (one_at h) (numbered 0 (of h))

  pub owned_at : (h : HolderRows) → AllByRecursion (λ x. owner x ≡ holder_key h) (at h)
  owned_at h =
      all-map (λ x. owner x ≡ holder_key h) (one_at h) (numbered 0 (of h)) (all_of (λ p. holder_key h ≡ holder_key h) (λ p. refl) (numbered 0 (of h)))

  rise_at : (h : HolderRows) → Rises place 0 (at h)
  rise_at h = rises-map (one_at h) place 0 (numbered 0 (of h)) (numbered_rises_low 0 (of h))

  -- it stands in order
  in_order_at : (hs : List HolderRows) → Rises holder_key 0 hs → IsAscending IsBefore (flat_map at hs)
  in_order_at hs rises = all_in_order at owned_at rise_at 0 hs rises

  -- with the holders' numbers alone it is what is made of them one after another
  own_listed : (h : HolderRows) → map with_holder (at h) ≡ map (λ x. (h.row.holder, made h x)) (of h)
  own_listed h =
      map-map with_holder (one_at h) (numbered 0 (of h)) ∙ sym (map-map (λ x. (h.row.holder, made h x)) element (numbered 0 (of h)))
      ∙ ap (map (λ x. (h.row.holder, made h x))) (elements_are 0 (of h))

  listed_at : (hs : List HolderRows) → map with_holder (flat_map at hs) ≡ flat_map (λ h. map (λ x. (h.row.holder, made h x)) (of h)) hs
  listed_at hs =
      map-flat_map with_holder at hs
      ∙ flat_same (λ h. map with_holder (at h)) (λ h. map (λ x. (h.row.holder, made h x)) (of h)) hs
      (all_of (λ h. map with_holder (at h) ≡ map (λ x. (h.row.holder, made h x)) (of h)) own_listed hs)

  -- and all of it stands behind (0, 0)
  own_behind : (h : HolderRows) → AllByRecursion (λ x. is_behind 0 0 x ≡ true) (at h)
  own_behind h =
      all-map (λ x. is_behind 0 0 x ≡ true) (one_at h) (numbered 0 (of h))
      (all_weaker (λ p. 1 ≤ number p) (λ p. is_behind 0 0 (one_at h p) ≡ true) (λ p some. one h.row.holder p.0 some) (numbered 0 (of h))
      (rises_above number 1 (numbered 0 (of h)) (numbered_rises 0 (of h))))
    where
      one : (H n : ℕ) → 1 ≤ n → (nat_lt 0 H || (H == 0 && nat_lt 0 n)) ≡ true
      one H n some = grind (arith, nat_tests, some)

  all_behind : (hs : List HolderRows) → behind 0 0 (flat_map at hs) ≡ flat_map at hs
  all_behind hs =
      filter_all (is_behind 0 0) (flat_map at hs)
      (all-flat_map (λ x. is_behind 0 0 x ≡ true) at hs (all_of (λ h. AllByRecursion (λ x. is_behind 0 0 x ≡ true) (at h)) own_behind hs))

abbrev pub own_movements : HolderRows → List Movement
own_movements h = h.movements

abbrev pub own_guarantees : HolderRows → List Guarantee
own_guarantees h = h.guarantees

abbrev pub with_its_use : HolderRows → Guarantee → Guarantee × ℕ
with_its_use h g = (g, used_on g.grn h.movements)

module _ (c : Content) where
  pub movements_in_order : IsSound c → IsAscending IsBefore (movements_placed c)
  movements_in_order sound = in_order_at own_movements (λ h m. m) c.holders sound.order

  pub guarantees_in_order : IsSound c → IsAscending IsBefore (guarantees_placed c)
  guarantees_in_order sound = in_order_at own_guarantees with_its_use c.holders sound.order

  pub movements_are_listed : map with_holder (movements_placed c) ≡ movements_listed c
  movements_are_listed = listed_at own_movements (λ h m. m) c.holders

  pub guarantees_are_listed : map with_holder (guarantees_placed c) ≡ guarantees_listed c
  guarantees_are_listed = listed_at own_guarantees with_its_use c.holders

  pub all_movements_behind : behind 0 0 (movements_placed c) ≡ movements_placed c
  all_movements_behind = all_behind own_movements (λ h m. m) c.holders

  pub all_guarantees_behind : behind 0 0 (guarantees_placed c) ≡ guarantees_placed c
  all_guarantees_behind = all_behind own_guarantees with_its_use c.holders

-- nothing is behind a place where no first is
none_behind : {X : Type 0} (xs : List X) → slice_get xs 0 ≡ None → xs ≡ []
none_behind [] none = refl
none_behind (x ∷ xs) none = absurd (let e = none in cc)

module _ {X : Type 0} (H n : ℕ) where
  -- what stands behind a place stands on
  behind_then : (x y : Keyed X) → is_behind H n x ≡ true → IsBefore x y → is_behind H n y ≡ true
  behind_then x y is (inl less) = grind (arith, nat_tests, is, less)
  behind_then x y is (inr same) = let one = same.0 in let less = same.1 in grind (arith, nat_tests, is, one, less)

-- what is before something isn't behind it, nor is it behind itself; and what it is before is
before_not_behind : {X : Type 0} (x y : Keyed X) → IsBefore x y → is_behind y.holder y.serial x ≡ false
before_not_behind x y (inl less) = grind (arith, nat_tests, less)
before_not_behind x y (inr same) = let one = same.0 in let less = same.1 in grind (arith, nat_tests, one, less)

itself_not_behind : {X : Type 0} (x : Keyed X) → is_behind x.holder x.serial x ≡ false
itself_not_behind x = grind (arith, nat_tests)

after_behind : {X : Type 0} (x y : Keyed X) → IsBefore x y → is_behind x.holder x.serial y ≡ true
after_behind x y (inl less) = grind (arith, nat_tests, less)
after_behind x y (inr same) = let one = same.0 in let less = same.1 in grind (arith, nat_tests, one, less)

-- of what stands in order, that behind a place is its first and what stands behind that
next_behind : {X : Type 0} (H n : ℕ) (xs : List (Keyed X)) (x : Keyed X) → IsAscending IsBefore xs → slice_get (behind H n xs) 0 ≡ Some x
    → behind H n xs ≡ x ∷ behind x.holder x.serial xs
next_behind H n [] x up is = absurd (let e = is in cc)
next_behind {X} H n (y ∷ xs) x up is = by_test (is_behind H n y) refl is (next_behind H n xs x up.1)
  where
    by_test : (b : Bool) → is_behind H n y ≡ b → slice_get (cond b (y ∷ behind H n xs) (behind H n xs)) 0 ≡ Some x
        → (slice_get (behind H n xs) 0 ≡ Some x → behind H n xs ≡ x ∷ behind x.holder x.serial xs)
        → cond b (y ∷ behind H n xs) (behind H n xs) ≡ x ∷ behind x.holder x.serial (y ∷ xs)
    by_test true here is later =
        let one : y ≡ x = cc in
        let rest : behind H n xs ≡ xs = filter_all (is_behind H n) xs (all_weaker (IsBefore y) (λ z. is_behind H n z ≡ true) (λ z. behind_then H n y z here) xs up.0) in
        let again : behind y.holder y.serial xs ≡ xs =
        filter_all (is_behind y.holder y.serial) xs (all_weaker (IsBefore y) (λ z. is_behind y.holder y.serial z ≡ true) (after_behind y) xs up.0) in
        let own : behind y.holder y.serial (y ∷ xs) ≡ xs =
        ap (λ b. cond b (y ∷ behind y.holder y.serial xs) (behind y.holder y.serial xs)) (itself_not_behind y) ∙ again in
        ap₂ (λ z l. z ∷ l) one rest ∙ ap (λ l. x ∷ l) (sym own) ∙ ap (λ (z : Keyed X). x ∷ behind z.holder z.serial (y ∷ xs)) one
    by_test false here is later =
        let those = later is in
        let before : IsBefore y x = (subst (AllByRecursion (IsBefore y)) those (all-filter (IsBefore y) (is_behind H n) xs up.0)).0 in
        those ∙ ap (λ b. x ∷ cond b (y ∷ behind x.holder x.serial xs) (behind x.holder x.serial xs)) (sym (before_not_behind y x before))

pub comes_next : {X : Type 0} (H n : ℕ) (xs : List (Keyed X)) (found : Option (Keyed X)) → IsAscending IsBefore xs
    → found ≡ slice_get (behind H n xs) 0 → ComesNext H n xs found
comes_next H n xs None up first = none_behind (behind H n xs) (sym first)
comes_next H n xs (Some x) up first = next_behind H n xs x up (sym first)

-- what comes next stands behind the place
pub next_is_behind : {X : Type 0} (H n : ℕ) (xs : List (Keyed X)) (x : Keyed X) → ComesNext H n xs (Some x) → is_behind H n x ≡ true
next_is_behind {X} H n xs x next = (subst (AllByRecursion (λ y. is_behind H n y ≡ true)) next (all_pass xs)).0
  where
    all_pass : (ys : List (Keyed X)) → AllByRecursion (λ y. is_behind H n y ≡ true) (behind H n ys)
    all_pass [] = tt
    all_pass (y ∷ ys) = by_test (is_behind H n y) refl (all_pass ys)
      where
        by_test : (b : Bool) → is_behind H n y ≡ b → AllByRecursion (λ y. is_behind H n y ≡ true) (behind H n ys)
            → AllByRecursion (λ y. is_behind H n y ≡ true) (cond b (y ∷ behind H n ys) (behind H n ys))
        by_test true is later = (is, later)
        by_test false is later = later
