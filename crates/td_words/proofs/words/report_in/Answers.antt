use Rattle.std.proofs.Common.{codes}
use Rattle.clap.specs.Words.{first_of, found_of, rows_of}
use Rattle.td_words.proofs.Asked.{day_of_report, none_up}
use Rattle.td_words.specs.Words.{ShowsDay, IsReport, MayMean}
use Rattle.td_words.proofs.words.report_in.Goals as goal

pub returns-in_err-day-in-Some-overdue-clause-none : goal.returns-in_err-day-in-Some-overdue-clause-none
returns-in_err-day-in-Some-overdue-clause-none c =
    let rows = rows_of (found_of c.args.matches.now) in
    none_up (MayMean ShowsDay (first_of (codes "day") rows)) (IsReport rows) (day_of_report _ _) c.from_residual.result
    c.in_err-day-in-Some-overdue.field-0.0 c.from_residual.ensures.1 c.in_err-day-in-Some-overdue.ensures.none

pub returns-in_err-day_in-in-Some-guarantees-clause-none : goal.returns-in_err-day_in-in-Some-guarantees-clause-none
returns-in_err-day_in-in-Some-guarantees-clause-none c =
    let rows = rows_of (found_of c.args.matches.now) in
    none_up (MayMean ShowsDay (first_of (codes "day") rows)) (IsReport rows) (day_of_report _ _) _
    c.in_err-day_in-in-Some-guarantees.field-0.0 c.from_residual-in_err-day_in-in-Some-guarantees.ensures.1
    c.in_err-day_in-in-Some-guarantees.ensures.none
