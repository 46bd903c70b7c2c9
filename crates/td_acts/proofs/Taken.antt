-- What is taken out at the first place where a test passes is what is found by that test.
use Rattle.std.proofs.Common.{◌≡◌, ℕ, ◌<◌, Bool, true, false, inl, inr, List, length, Some, None, refl, sym, ap, ◌∙◌, cond, arith}
use Rattle.std.specs.Prelude.{nat_lt, get_or}
use Rattle.std.specs.List.{find, position, position_or_len}
use Rattle.std.proofs.lemmas.Bool.Decides.{nat_tests}
use Rattle.std.proofs.lemmas.List.Folds.{find_at}
use Rattle.std.proofs.lemmas.Option.{slice_get-get_or, slice_get_cases}

-- where there is no such place, nothing is found
pub found_nowhere : {X : Type 0} (p : X → Bool) (xs : List X) → position p xs ≡ None → None ≡ find p xs
found_nowhere p xs none = elim (slice_get_cases xs (position_or_len p xs)).1 [
  | inl inside ↦ grind (arith, nat_tests, none, inside.1)
  | inr past ↦ sym (find_at p xs ∙ past.1)
]

-- what stands at the place is found
pub found_at_place : {X : Type 0} (p : X → Bool) (xs : List X) (i : ℕ) (x : X) → position p xs ≡ Some i → x ≡ get_or xs i x → Some x ≡ find p xs
found_at_place p xs i x is stands = by_test (nat_lt (position_or_len p xs) (length xs)) refl is
  where
    by_test : (b : Bool) → nat_lt (position_or_len p xs) (length xs) ≡ b → cond b (Some (position_or_len p xs)) None ≡ Some i → Some x ≡ find p xs
    by_test true inside same =
        let place : position_or_len p xs ≡ i = cc in
        let below : position_or_len p xs < length xs = grind (arith, nat_tests, inside) in
        sym (find_at p xs ∙ slice_get-get_or xs (position_or_len p xs) x below ∙ ap (λ n. Some (get_or xs n x)) place ∙ ap (λ y. Some y) (sym stands))
    by_test false inside same = cc
