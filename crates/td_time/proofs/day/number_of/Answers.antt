use Rattle.std.proofs.Common.{◌≡◌, unsigned_abs, w8, w16, w32, FitsSigned, arith, ap, refl, ◌∙◌}
use Rattle.std.proofs.lemmas.Int.{to_z_pos, to_z-of_z}
use Rattle.jiff.proofs.SpanFacts.{signed_arith}
use Rattle.td_time.specs.Days.{IsDateOfDesk, day_number}
use Rattle.td_time.proofs.Calendar.{number_by_parts, number_range}
use Rattle.td_time.proofs.day.number_of.Goals as goal

-- the date that is made has these parts
is_date : (c : goal.After-unsigned_abs) → IsDateOfDesk c.args.year c.args.month c.args.day
is_date c =
    let year = to_z_pos w16 c.args.year (omega arith) in
    let month = to_z_pos w8 c.args.month (omega arith) in
    let day = to_z_pos w8 c.args.day (omega arith) in
    record {
      date = rw (year, month, day) at (c.in-Ok.ensures.succeeds.0 refl);
      first = omega arith;
      last = omega arith;
    }

number_is : (c : goal.After-unsigned_abs) → c.unsigned_abs.result ≡ day_number c.args.year c.args.month c.args.day
number_is c =
    let year = to_z_pos w16 c.args.year (omega arith) in
    let month = to_z_pos w8 c.args.month (omega arith) in
    let day = to_z_pos w8 c.args.day (omega arith) in
    let parts = rw (year, month, day) at c.in-Ok.ensures.value in
    let date = c.in-Ok.date in
    let same_month : date.month ≡ c.args.month = cc in
    let same_day : date.day ≡ c.args.day = cc in
    let number = rw c.to_plain.ensures at c.to_unix_epoch_day.ensures.value in
    let fits : FitsSigned w32 c.to_unix_epoch_day.result = omega (arith, signed_arith, c.to_unix_epoch_day.ensures.bound) in
    let known = simp to_z-of_z at c.unsigned_abs.ensures.value in
    known ∙ ap unsigned_abs number ∙ number_by_parts date.year date.month date.day c.args.year c.args.month c.args.day parts.0 same_month same_day

pub returns-in-Ok-clause-value : goal.returns-in-Ok-clause-value
returns-in-Ok-clause-value c = (is_date c, number_is c)

pub returns-in-Ok-clause-range : goal.returns-in-Ok-clause-range
returns-in-Ok-clause-range c = rw (number_is c) (number_range c.args.year c.args.month c.args.day (is_date c))
