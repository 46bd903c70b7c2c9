-- What is read is printed as it was.
use Rattle.std.proofs.Common.{◌≡◌, ℕ, ◌/◌, List, refl, ap, arith, sym, ◌∙◌}
use Rattle.ascii_text.specs.Digits.{digits_value, fixed_decimal}
use Rattle.td_base.specs.Codes.{IsHolderText, holder_text}
use Rattle.ascii_text.proofs.DigitsAgain.{digits_again}

-- a holder's text in six digits
six_digits : (n : ℕ) → holder_text n ≡ fixed_decimal 6 n
unfolding fixed_decimal
six_digits n = let whole : n / 1 ≡ n = omega arith in rw whole refl

-- the text of a holder
pub holder_again : (text : List ℕ) → IsHolderText text → holder_text (digits_value text) ≡ text
holder_again text h =
    six_digits (digits_value text) ∙ ap (λ (width : ℕ). fixed_decimal width (digits_value text)) (sym h.size) ∙ digits_again text h.digits
