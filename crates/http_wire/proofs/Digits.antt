-- Numbers that digits write.
use Rattle.std.proofs.Common.{rules, ◌≡◌, ℕ, ◌+◌, ◌-◌, ◌*◌, ◌<◌, ◌≤◌, List, [], ◌∷◌, drop, get_or, length, arith, true, ◌∙◌, ap}
use Rattle.std.specs.Prelude.{IsTrue}
use Rattle.std.specs.List.{list_all}
use Rattle.std.specs.Str.Parse.{digits_value_after}
use Rattle.std.specs.Char.{digit_value, is_ascii_digit}
use Rattle.std.proofs.lemmas.Grind.{common_steps}
use Rattle.std.proofs.lemmas.List.{drop_more}
use Rattle.std.proofs.lemmas.List.Elements.{All-get_or}
use Rattle.std.proofs.lemmas.List.Sums.{AllPass-from_list_all}

-- digits that follow make no number smaller
pub value_grows : (n : ℕ) (ds : List ℕ) → n ≤ digits_value_after 10 n ds
value_grows n [] = omega arith
value_grows n (d ∷ ds) = omega (arith, value_grows (n * 10 + digit_value d) ds)

-- the value of a decimal digit
digit_is : (d : ℕ) → is_ascii_digit d ≡ true → digit_value d ≡ d - 48
digit_is d h = grind (arith, common_steps)

-- each place of a list of digits has a digit
is_digit_at : (ds : List ℕ) (i : ℕ) → IsTrue (list_all is_ascii_digit ds) → i < length ds → is_ascii_digit (get_or ds i 0) ≡ true
is_digit_at ds i all h =
    All-get_or (λ x. is_ascii_digit x ≡ true) ds i 0 h (AllPass-from_list_all is_ascii_digit ds (search rules))

-- the value after one digit more
pub value_step : (ds : List ℕ) (i n : ℕ) → IsTrue (list_all is_ascii_digit ds) → i < length ds
    → digits_value_after 10 n (drop i ds) ≡ digits_value_after 10 (n * 10 + (get_or ds i 0 - 48)) (drop (i + 1) ds)
value_step ds i n all h =
    ap (digits_value_after 10 n) (drop_more ds i 0 h)
    ∙ ap (λ d. digits_value_after 10 (n * 10 + d) (drop (i + 1) ds)) (digit_is (get_or ds i 0) (is_digit_at ds i all h))
