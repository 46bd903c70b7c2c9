use Rattle.std.proofs.Common.{◌-◌, arith}
use Rattle.std.proofs.lemmas.List.{length-take-le}
use Rattle.td_journal_start.proofs.LastLine.{last_found}
use Rattle.td_journal_start.proofs.tail.last_line.Goals as goal

pub returns-clause-last : goal.returns-clause-last
returns-clause-last c =
    let text = c.args.text.now in
    let end = c.lines_end-end.result in
    let within = c.lines_end-end.ensures.end in
    let inner = c.lines_end.ensures.end in
    last_found text c.lines_end.result end (omega arith) within (omega (arith, inner, within, length-take-le (end - 1) text)) c.lines_end-end.ensures.split c.lines_end.ensures.split
