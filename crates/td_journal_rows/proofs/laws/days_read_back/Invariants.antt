use Rattle.std.proofs.Common.{◌≡◌, ℕ, ◌<◌, ◌≤◌, Some}
use Rattle.td_base.specs.Days.{day_read, day_text}
use Rattle.td_journal_rows.proofs.laws.days_read_back.Given as goal

-- each day before is read of its text
abbrev pub invariant-loop-number : goal.invariant-loop-number
invariant-loop-number l = (n : ℕ) → 10957 ≤ n → n < l.number → day_read (day_text n) ≡ Some n
