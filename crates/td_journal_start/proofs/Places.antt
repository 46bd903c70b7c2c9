-- The place of the last line, by its beginning and its end.
use Rattle.std.proofs.Common.{◌≡◌, ◌⊎◌, ℕ, ◌+◌, ◌-◌, ◌≤◌, List, [], length, take, drop, inl, inr, ap, arith}
use Rattle.std.proofs.lemmas.List.{length-drop, length-take-le}
use Rattle.std.specs.Prelude.{slice_range}
use Rattle.td_journal_rows.specs.Rows.{IsOneLine}
use Rattle.td_journal_start.specs.Texts.{HasLast}

module _ (text : List ℕ) (begin end : ℕ) (below : begin ≤ end) (within : end ≤ length text) where
  pub before_size : length (take begin text) ≡ begin
  before_size = length-take-le begin text (omega (arith, below, within))

  line_size : length (slice_range text begin end) ≡ end - begin
  line_size = length-take-le (end - begin) (drop begin text) (let rest = length-drop begin text in omega (arith, rest, below, within))

  pub place_is : end ≡ length (take begin text) + length (slice_range text begin end)
  place_is = omega (arith, before_size, line_size, below)

  -- a text with a last line has one
  pub one_at : (torn : List ℕ) → HasLast text (take begin text) (slice_range text begin end) torn → (end ≡ 0 → ⊥) → IsOneLine (slice_range text begin end)
  one_at torn last some = by last.line_is
    where
      by : IsOneLine (slice_range text begin end) ⊎ ((take begin text ≡ []) × (slice_range text begin end ≡ [])) → IsOneLine (slice_range text begin end)
      by (inl one) = one
      by (inr none) =
          let first : length (take begin text) ≡ 0 = ap length none.0 in
          let second : length (slice_range text begin end) ≡ 0 = ap length none.1 in
          absurd (some (omega (arith, place_is, first, second)))
