use Rattle.std.proofs.Common.{◌∙◌, [], ap, sym}
use Rattle.std.proofs.lemmas.List.{append_assoc}
use Rattle.std.specs.List.{filter_map}
use Rattle.std.specs.Prelude.{IsTrue, map}
use Rattle.sqlite.specs.Held.{state}
use Rattle.td_table_model.specs.Listed.{movements_listed}
use Rattle.td_store.specs.Kept.{content_in}
use Rattle.td_store.specs.Visits.{shown_of_movement}
use Rattle.td_reports.specs.Texts.{deadlines_line, overdue_header, overdue_line}
use Rattle.td_report_pieces.proofs.Begun.{begun}
use Rattle.td_report_pieces.proofs.Folding.{taken_all, HasTaken}
use Rattle.td_report_pieces.proofs.Reporting.{cause_of, has_written, reported, told_write}
use Rattle.td_reports.proofs.Shown.{filter_map-map, lines_shown}
use Rattle.td_reports.proofs.Texts.{made_as}
use Rattle.td_reports.proofs.reports.overdue.Given.{Over}
use Rattle.td_reports.proofs.reports.overdue.Goals as goal

-- the report began
starts : (g : Over) (c : goal.After-end g)
    → HasTaken g.W.Write.contents (λ report row. deadlines_line report.day row) (overdue_header c.args.day) (record { day = c.args.day })
    c.args.writer.now [] c.begin-report.result c.args.writer.now
starts g c =
    let begins = c.begin-report.ensures in
    begun _ _ _ _ _ c.begin-report.result begins.report begins.lines c.format-header.result (made_as _ _ _ c.format-header.ensures.ok (simp append_assoc))
    begins.header begins.none

pub returns-clause-stays : goal.returns-clause-stays
returns-clause-stays g c clean live write =
    told_write c.visit_deadlines-visited.result _ _ c.end.result c.end.ensures.by write (IsTrue (state g.S.Store c.visit_deadlines-visited.new.self).is_open)
    (λ ok. (c.visit_deadlines-visited.ensures.looked.shown clean ok).1) (c.visit_deadlines-visited.ensures.memory clean)

pub returns-clause-written : goal.returns-clause-written
returns-clause-written g c clean live =
    let visit = c.visit_deadlines-visited.ensures.visited clean live in
    let all = movements_listed (content_in (state g.S.Store c.args.desk.now).now.trees) in
    let taken = taken_all g.W.Write.contents (λ report row. deadlines_line report.day row) (overdue_header c.args.day) (record { day = c.args.day }) c.args.writer.now [] visit.shown
    (c.begin-report.result, c.args.writer.now) (c.visit_deadlines-visited.new.visitor, c.visit_deadlines-visited.new.beside) (starts g c) visit.told in
    reported g.W.Write.contents (λ report row. deadlines_line report.day row) (overdue_header c.args.day) (record { day = c.args.day }) c.args.writer.now visit.shown
    c.visit_deadlines-visited.new.visitor c.visit_deadlines-visited.new.beside c.end.new.writer c.visit_deadlines-visited.result c.end.result taken c.end.ensures (filter_map (overdue_line c.args.day) all) (filter_map (deadlines_line c.args.day) visit.rest)
    (lines_shown (deadlines_line c.args.day) (λ row. row) visit.shown visit.rest (map shown_of_movement all) visit.are
    ∙ sym (filter_map-map (deadlines_line c.args.day) shown_of_movement all))
    (λ is. ap (filter_map (deadlines_line c.args.day)) (visit.whole is)) c.visit_deadlines-visited.ensures.stopped

pub returns-clause-chain : goal.returns-clause-chain
returns-clause-chain g c =
    let seen = c.visit_deadlines-visited.ensures.seen in
    let taken = taken_all g.W.Write.contents (λ report row. deadlines_line report.day row) (overdue_header c.args.day) (record { day = c.args.day }) c.args.writer.now [] seen.0
    (c.begin-report.result, c.args.writer.now) (c.visit_deadlines-visited.new.visitor, c.visit_deadlines-visited.new.beside) (starts g c) seen.1 in
    has_written g.W.Write.contents (λ report row. deadlines_line report.day row) (overdue_header c.args.day) (record { day = c.args.day }) c.args.writer.now seen.0
    c.visit_deadlines-visited.new.visitor c.visit_deadlines-visited.new.beside c.end.new.writer c.visit_deadlines-visited.result c.end.result taken c.end.ensures

pub returns-clause-cause : goal.returns-clause-cause
returns-clause-cause g c = cause_of g.W.Write.contents c.args.writer.now c.end.new.writer c.end.result (returns-clause-chain g c)
