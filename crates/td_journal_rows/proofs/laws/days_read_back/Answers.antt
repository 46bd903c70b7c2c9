use Rattle.std.proofs.Common.{◌≡◌, arith, inl, inr, subst, Some}
use Rattle.std.proofs.lemmas.Bool.{cases_lt}
use Rattle.td_base.specs.Days.{day_read, day_text}
use Rattle.td_journal_rows.proofs.laws.days_read_back.Goals as goal

pub loop-number-preserved : goal.loop-number-preserved
loop-number-preserved c n first within =
    elim (cases_lt n c.loop-number.number) [
      | inl before ↦ c.loop-number.invariant n first before
      | inr there ↦
          let same : c.loop-number.number ≡ n = omega (arith, there, within) in
          subst (λ m. day_read (day_text m) ≡ Some m) same c.number_is_read.ensures
    ]
