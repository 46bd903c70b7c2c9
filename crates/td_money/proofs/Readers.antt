-- Each test of specs/ tells its fact, and so what is read of a text.
use Rattle.std.proofs.Common.{◌≡◌, ℕ, ◌+◌, List, length, take, drop, Option}
use Rattle.std.proofs.lemmas.Bool.Decides.{Decides-and, Decides-eqb, Decides-like}
use Rattle.std.specs.Prelude.{SomeIff}
use Rattle.std.specs.Bool.{Decides}
use Rattle.std.specs.List.{slice_get}
use Rattle.ascii_text.proofs.Decided.{some_where, le_decided, some_decided, implies_decided, digits_decided}
use Rattle.td_money.specs.Money.{IsCentsText, IsWhole, is_cents_text, is_whole, cents_read, cents_value, point_of, most_cents}

pub whole_decided : (text : List ℕ) → Decides (is_whole text) (IsWhole text)
whole_decided text =
    Decides-like (is_whole text)
    (λ h. record { size = h.0.0; digits = h.0.1; shortest = h.1 })
    (λ h. ((h.size, h.digits), h.shortest))
    (Decides-and _ _ (Decides-and _ _ (le_decided 1 (length text)) (digits_decided text))
    (implies_decided _ _ (some_decided (slice_get text 0) 48) (Decides-eqb (length text) 1)))

pub cents_text_decided : (text : List ℕ) → Decides (is_cents_text text) (IsCentsText text)
cents_text_decided text =
    Decides-like (is_cents_text text)
    (λ h. record { whole = h.0.0.0; point = h.0.0.1; fraction = h.0.1; range = h.1 })
    (λ h. (((h.whole, h.point), h.fraction), h.range))
    (Decides-and _ _ (Decides-and _ _ (Decides-and _ _ (whole_decided (take (point_of text) text)) (some_decided (slice_get text (point_of text)) 46))
    (digits_decided (drop (point_of text + 1) text))) (le_decided (cents_value text) most_cents))

-- what a text is read as, where it is an amount's or isn't
pub cents_read_is : (text : List ℕ) (r : Option ℕ) → SomeIff r (IsCentsText text) (cents_value text) → r ≡ cents_read text
cents_read_is text r h = some_where (is_cents_text text) r (cents_value text) (cents_text_decided text) h
