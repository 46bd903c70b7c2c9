use Rattle.std.proofs.Common.{◌∙◌, Some, [], ap, refl}
use Rattle.std.specs.List.{filter_map}
use Rattle.std.specs.Prelude.{IsTrue, map}
use Rattle.sqlite.specs.Held.{state}
use Rattle.td_table_model.specs.Listed.{guarantees_listed, without_codes}
use Rattle.td_store.specs.Kept.{content_in}
use Rattle.td_store.specs.Visits.{said_of_guarantee}
use Rattle.td_reports.specs.Texts.{guarantee_line, guarantees_header}
use Rattle.td_report_pieces.proofs.Begun.{begun}
use Rattle.td_report_pieces.proofs.Folding.{taken_all, HasTaken}
use Rattle.td_report_pieces.proofs.Reporting.{cause_of, has_written, reported, told_write}
use Rattle.td_reports.proofs.Shown.{all_have_lines, lines_of_forms, lines_shown}
use Rattle.td_reports.proofs.reports.guarantees.Given.{Over}
use Rattle.td_reports.proofs.reports.guarantees.Goals as goal

-- the report began
starts : (g : Over) (c : goal.After-end g)
    → HasTaken g.W.Write.contents (λ report row. Some (guarantee_line (said_of_guarantee row))) guarantees_header (record {})
    c.args.writer.now [] c.begin-report.result c.args.writer.now
starts g c =
    let begins = c.begin-report.ensures in
    begun _ _ _ _ _ c.begin-report.result begins.report begins.lines c.from_str-header.result c.from_str-header.ensures.ok begins.header begins.none

pub returns-clause-stays : goal.returns-clause-stays
returns-clause-stays g c clean live write =
    told_write c.visit_guarantees-visited.result _ _ c.end.result c.end.ensures.by write (IsTrue (state g.S.Store c.visit_guarantees-visited.new.self).is_open)
    (λ ok. (c.visit_guarantees-visited.ensures.looked.shown clean ok).1) (c.visit_guarantees-visited.ensures.memory clean)

pub returns-clause-written : goal.returns-clause-written
returns-clause-written g c clean live =
    let visit = c.visit_guarantees-visited.ensures.visited clean live in
    let all = guarantees_listed (content_in (state g.S.Store c.args.desk.now).now.trees) in
    let taken = taken_all g.W.Write.contents (λ report row. Some (guarantee_line (said_of_guarantee row))) guarantees_header (record {}) c.args.writer.now [] visit.shown
    (c.begin-report.result, c.args.writer.now) (c.visit_guarantees-visited.new.visitor, c.visit_guarantees-visited.new.beside) (starts g c) visit.told in
    reported g.W.Write.contents (λ report row. Some (guarantee_line (said_of_guarantee row))) guarantees_header (record {}) c.args.writer.now visit.shown
    c.visit_guarantees-visited.new.visitor c.visit_guarantees-visited.new.beside c.end.new.writer c.visit_guarantees-visited.result c.end.result taken c.end.ensures (map guarantee_line all) (filter_map (λ row. Some (guarantee_line row)) visit.rest)
    (lines_shown (λ row. Some (guarantee_line row)) said_of_guarantee visit.shown visit.rest (map without_codes all) visit.are
    ∙ lines_of_forms (λ row. Some (guarantee_line row)) without_codes (λ row. refl) all ∙ all_have_lines guarantee_line all)
    (λ is. ap (filter_map (λ row. Some (guarantee_line row))) (visit.whole is)) c.visit_guarantees-visited.ensures.stopped

pub returns-clause-chain : goal.returns-clause-chain
returns-clause-chain g c =
    let seen = c.visit_guarantees-visited.ensures.seen in
    let taken = taken_all g.W.Write.contents (λ report row. Some (guarantee_line (said_of_guarantee row))) guarantees_header (record {}) c.args.writer.now [] seen.0
    (c.begin-report.result, c.args.writer.now) (c.visit_guarantees-visited.new.visitor, c.visit_guarantees-visited.new.beside) (starts g c) seen.1 in
    has_written g.W.Write.contents (λ report row. Some (guarantee_line (said_of_guarantee row))) guarantees_header (record {}) c.args.writer.now seen.0
    c.visit_guarantees-visited.new.visitor c.visit_guarantees-visited.new.beside c.end.new.writer c.visit_guarantees-visited.result c.end.result taken c.end.ensures

pub returns-clause-cause : goal.returns-clause-cause
returns-clause-cause g c = cause_of g.W.Write.contents c.args.writer.now c.end.new.writer c.end.result (returns-clause-chain g c)
