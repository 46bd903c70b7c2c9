use Rattle.jiff_core.proofs.CalendarLemmas.{days_in_month_bounds}
use Rattle.jiff_core.proofs.DateLemmas.{civil}
use Rattle.jiff.proofs.SpanFacts.{signed_arith}
use Rattle.std.proofs.Common.{◌≡◌, ap, unsigned_abs, arith, FitsSigned, w8, w16, ◌∙◌}
use Rattle.std.proofs.lemmas.Int.{to_z-of_z}
use Rattle.td_time.proofs.Calendar.{year_is, month_is, day_is, date_from}
use Rattle.td_time.proofs.day.civil_of.Goals as goal

-- the parts are those of jiff's date
year_same : (c : goal.After-from-3) → c.from.result ≡ unsigned_abs c.date_of-date.result.year
year_same c =
    let date = c.date_of-date.result in
    let is = civil date in
    let short = days_in_month_bounds date.year date.month in
    let fits : FitsSigned w16 c.year.result = rw c.year.ensures (omega (arith, signed_arith, is)) in
    let known = simp to_z-of_z at c.unsigned_abs.ensures.value in
    c.from.ensures ∙ known ∙ ap unsigned_abs c.year.ensures

month_same : (c : goal.After-from-3) → c.from-2.result ≡ c.date_of-date.result.month
month_same c =
    let date = c.date_of-date.result in
    let is = civil date in
    let short = days_in_month_bounds date.year date.month in
    let fits : FitsSigned w8 c.month.result = rw c.month.ensures (omega (arith, signed_arith, is)) in
    let known = simp to_z-of_z at c.unsigned_abs-2.ensures.value in
    c.from-2.ensures ∙ known ∙ ap unsigned_abs c.month.ensures

day_same : (c : goal.After-from-3) → c.from-3.result ≡ c.date_of-date.result.day
day_same c =
    let date = c.date_of-date.result in
    let is = civil date in
    let short = days_in_month_bounds date.year date.month in
    let fits : FitsSigned w8 c.day.result = rw c.day.ensures (omega (arith, signed_arith, is)) in
    let known = simp to_z-of_z at c.unsigned_abs-3.ensures.value in
    c.from-3.ensures ∙ known ∙ ap unsigned_abs c.day.ensures

pub returns-clause-year : goal.returns-clause-year
returns-clause-year c =
    let date = c.date_of-date.result in
    year_same c ∙ year_is date.year date.month date.day c.args.number (civil date) c.date_of-date.ensures c.requires

pub returns-clause-month : goal.returns-clause-month
returns-clause-month c =
    let date = c.date_of-date.result in
    month_same c ∙ month_is date.year date.month date.day c.args.number (civil date) c.date_of-date.ensures c.requires

pub returns-clause-day : goal.returns-clause-day
returns-clause-day c =
    let date = c.date_of-date.result in
    day_same c ∙ day_is date.year date.month date.day c.args.number (civil date) c.date_of-date.ensures c.requires

pub returns-clause-date : goal.returns-clause-date
returns-clause-date c =
    let date = c.date_of-date.result in
    rw (year_same c, month_same c, day_same c) (date_from date.year date.month date.day c.args.number (civil date) c.date_of-date.ensures c.requires).0

pub returns-clause-number : goal.returns-clause-number
returns-clause-number c =
    let date = c.date_of-date.result in
    rw (year_same c, month_same c, day_same c) (date_from date.year date.month date.day c.args.number (civil date) c.date_of-date.ensures c.requires).1
