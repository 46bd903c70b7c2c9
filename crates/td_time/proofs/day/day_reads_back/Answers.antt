use Rattle.std.proofs.Common.{◌∙◌}
use Rattle.td_time.proofs.DayTexts.{date_reads}
use Rattle.td_time.proofs.day.day_reads_back.Goals as goal

pub returns-clause-form : goal.returns-clause-form
returns-clause-form c =
    let civil = c.civil_of-civil.result in
    let is = c.civil_of-civil.ensures in
    rw (← c.day.view_is, ← is.year, ← is.month, ← is.day) (date_reads civil.year civil.month civil.day is.date).0

pub returns-clause-value : goal.returns-clause-value
returns-clause-value c =
    let civil = c.civil_of-civil.result in
    let is = c.civil_of-civil.ensures in
    rw (← c.day.view_is, ← is.year, ← is.month, ← is.day) ((date_reads civil.year civil.month civil.day is.date).1 ∙ is.number)
