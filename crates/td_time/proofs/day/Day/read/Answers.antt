use Rattle.std.proofs.Common.{◌≡◌, ℕ, Option, Some, None, SomeIff, refl, ◌∙◌, arith, rules}
use Rattle.std.proofs.lemmas.Grind.{common_steps}
use Rattle.td_time.specs.Days.{IsDayText, number_in}
use Rattle.td_time.proofs.DayTexts.{made_day_text, day_read_is}
use Rattle.std.proofs.lemmas.List.{take_rest}
use Rattle.td_time.proofs.day.Day.read.Goals as goal

pub returns : goal.returns
returns c =
    let year = c.in_ok-year.ensures.value in
    let month = c.in_ok-month.ensures.value in
    let day = rw take_rest at c.in_ok-day.ensures.value in
    let found = c.in_ok-number_of.ensures.value in
    let text = c.args.text.now in
    let day_found : Option ℕ = Some c.in_ok-number_of.field-0 in
    let form : SomeIff day_found (IsDayText text) (number_in text) = (made_day_text text c.in_ok-year.year c.in_ok-month.month c.in_ok-day.day c.if-text-ne10.false c.if-text-ne45.false c.if-text-ne45-2.false year month day found.0, found.1 ∙ rw (year.1, month.1, day.1) refl) in
    record { value = day_read_is text day_found form; form = form }

pub returns-in_err-year-clause-value : goal.returns-in_err-year-clause-value
returns-in_err-year-clause-value c = day_read_is c.args.text.now c.from_residual.result (grind (arith, common_steps))

pub returns-in_err-month-clause-value : goal.returns-in_err-month-clause-value
returns-in_err-month-clause-value c = day_read_is c.args.text.now c.from_residual-in_err-month.result (grind (arith, common_steps))

pub returns-in_err-day-clause-value : goal.returns-in_err-day-clause-value
returns-in_err-day-clause-value c = day_read_is c.args.text.now c.from_residual-in_err-day.result (grind (arith, common_steps))

pub returns-in_err-number_of-clause-value : goal.returns-in_err-number_of-clause-value
returns-in_err-number_of-clause-value c =
    let year = c.in_ok-year.ensures.value in
    let month = c.in_ok-month.ensures.value in
    let day = rw take_rest at c.in_ok-day.ensures.value in
    let none : c.from_residual-in_err-number_of.result ≡ None = search rules in
    none ∙ day_read_is c.args.text.now None (λ h. c.in_err-number_of.ensures.value (rw (year.1, month.1, day.1) h.date))
