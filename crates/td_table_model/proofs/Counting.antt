-- The amount in use is that of the movements that count alone.
use Rattle.std.proofs.Common.{sum_by, ◌≡◌, ℕ, ◌+◌, Bool, true, false, cond, List, [], ◌∷◌, map, filter, refl, sym, ◌∙◌, ap, arith, IsPermutation}
use Rattle.std.specs.Prelude.{◌==◌, ◌&&◌}
use Rattle.std.proofs.lemmas.List.Sorted.{sum_by-IsPermutation}
use Rattle.std.proofs.lemmas.List.Sums.{sum_by-cons}
use Rattle.td_guarantee.specs.Usage.{movement_on, used_on}
use Rattle.td_movement.specs.declared.movement.Movement.{Movement}
use Rattle.td_movement.specs.States.{is_counting}
use Rattle.td_model.specs.Account.{Account}
use Rattle.td_model.specs.Content.{Content, account_in, IsSound}
use Rattle.td_table_model.specs.Tables.{Keyed, Tables, AreTablesOf}
use Rattle.td_table_model.specs.Gathering.{owner, place, part, movements_by, with_lines}
use Rattle.td_table_model.specs.Looking.{counting_rows}
use Rattle.td_table_model.proofs.Orders.{in_order_permutes}
use Rattle.td_table_model.proofs.Keeping.{are_stored}
use Rattle.td_table_model.proofs.Looked.{account_is}

-- sums of what is made of elements
pub sum_by-map : {X Y : Type 0} (f : Y → ℕ) (g : X → Y) (xs : List X) → sum_by f (map g xs) ≡ sum_by (λ x. f (g x)) xs
sum_by-map f g [] = refl
sum_by-map f g (x ∷ xs) = sum_by-cons f (g x) (map g xs) ∙ ap (λ n. f (g x) + n) (sum_by-map f g xs) ∙ sym (sum_by-cons (λ x. f (g x)) x xs)

-- what adds nothing may be left out
sum_by-filter : {X : Type 0} (f : X → ℕ) (p : X → Bool) → ((x : X) → p x ≡ false → f x ≡ 0) → (xs : List X) → sum_by f (filter p xs) ≡ sum_by f xs
sum_by-filter f p none [] = refl
sum_by-filter {X} f p none (x ∷ xs) = by_test (p x) refl (sum_by-filter f p none xs) ∙ sym (sum_by-cons f x xs)
  where
    by_test : (b : Bool) → p x ≡ b → sum_by f (filter p xs) ≡ sum_by f xs → sum_by f (cond b (x ∷ filter p xs) (filter p xs)) ≡ f x + sum_by f xs
    by_test true is later = sum_by-cons f x (filter p xs) ∙ ap (λ n. f x + n) later
    by_test false is later = let zero : f x ≡ 0 = none x is in later ∙ omega (arith, zero)

-- both tests at once
pub filter_both : {X : Type 0} (p q : X → Bool) (xs : List X) → filter (λ x. q x && p x) xs ≡ filter p (filter q xs)
filter_both p q [] = refl
filter_both {X} p q (x ∷ xs) = by_tests (q x) (p x) refl (filter_both p q xs)
  where
    by_tests : (b d : Bool) → p x ≡ d → filter (λ x. q x && p x) xs ≡ filter p (filter q xs) → cond (b && d) (x ∷ filter (λ x. q x && p x) xs) (filter (λ x. q x && p x) xs) ≡ filter p (cond b (x ∷ filter q xs) (filter q xs))
    by_tests true true is later = rw is (ap (λ l. x ∷ l) later)
    by_tests true false is later = rw is later
    by_tests false d is later = later

-- a movement that doesn't count has nothing in use
unused : (t : Tables) (grn : List ℕ) (m : Keyed Movement) → is_counting m.row.state ≡ false → movement_on grn (with_lines t m) ≡ 0
unused t grn m is = rw is refl

pub counting_is_use : (t : Tables) (c : Content) → IsSound c → AreTablesOf t c → (H : ℕ) (rows : List (Keyed Movement)) → IsPermutation (counting_rows H t) rows
    → (grn : List ℕ) → used_on grn (map (with_lines t) rows) ≡ used_on grn (account_in H c).movements
counting_is_use t c sound are H rows same grn =
    let use_of : Keyed Movement → ℕ = λ m. movement_on grn (with_lines t m) in
    sum_by-map (movement_on grn) (with_lines t) rows
    ∙ sum_by-IsPermutation use_of (counting_rows H t) rows same
    ∙ ap (sum_by use_of) (filter_both (λ (m : Keyed Movement). is_counting m.row.state) (λ m. owner m == H) t.movements)
    ∙ sum_by-filter use_of (λ (m : Keyed Movement). is_counting m.row.state) (unused t grn) (part H t.movements)
    ∙ sym (sum_by-IsPermutation use_of (part H t.movements) (movements_by H t) (in_order_permutes place (part H t.movements) ((are_stored t c sound are).movements H)))
    ∙ sym (sum_by-map (movement_on grn) (with_lines t) (movements_by H t))
    ∙ ap (λ (a : Account). used_on grn a.movements) (sym (account_is t c sound are H))
