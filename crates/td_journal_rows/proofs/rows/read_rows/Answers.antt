use Rattle.std.proofs.Common.{◌≡◌, ◌+◌, ◌∙◌, ◌++◌, ◌∷◌, [], None, Some, length, map, rules, true}
use Rattle.std.proofs.lemmas.List.{map-append, length-append}
use Rattle.std.specs.Result.{is_ok}
use Rattle.td_journal_rows.specs.Rows.{row_of_line, row_shown}
use Rattle.td_journal_rows.proofs.Lines.{cut_torn, row_refused, row_taken}
use Rattle.td_journal_rows.proofs.rows.read_rows.Goals as goal

pub returns-in_default-2-clause-bad : goal.returns-in_default-2-clause-bad
returns-in_default-2-clause-bad c =
    let cut = c.in-Some.ensures.line in
    let none : row_of_line (cut.0 ++ 10 ∷ []) ≡ None = search rules in
    let size : c.len.result ≡ length c.loop-line.rows.items = search rules in
    rw size (c.loop-line.invariant.rows ∙ row_refused _ _ c.loop-line.rest.now cut.0 c.in-Some.behind.now cut.2 none)

pub loop-line-preserved : goal.loop-line-preserved
loop-line-preserved c =
    let cut = c.in-Some.ensures.line in
    let is : row_of_line (cut.0 ++ 10 ∷ []) ≡ Some (row_shown c.in-Some-2.row) = search rules in
    let good : is_ok c.push.result ≡ true = search rules in
    let items : c.push.new.self.items ≡ c.loop-line.rows.items ++ c.in-Some-2.row ∷ [] = rw good at c.push.ensures.items in
    record {
      rows = rw (items, map-append row_shown c.loop-line.rows.items (c.in-Some-2.row ∷ []), length-append c.loop-line.rows.items (c.in-Some-2.row ∷ []))
          (c.loop-line.invariant.rows ∙ row_taken (map row_shown c.loop-line.rows.items) (length c.loop-line.rows.items + 1) c.loop-line.rest.now cut.0 c.in-Some.behind.now (row_shown c.in-Some-2.row) cut.2 is);
      torn = c.loop-line.invariant.torn ∙ cut_torn c.loop-line.rest.now cut.0 c.in-Some.behind.now cut.2;
    }
