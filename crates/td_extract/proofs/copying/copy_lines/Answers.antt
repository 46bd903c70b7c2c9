use Rattle.std.proofs.Common.{[], map}
use Rattle.std.proofs.lemmas.List.Sorted.{IsPermutation-refl}
use Rattle.sqlite.specs.Held.{state}
use Rattle.sqlite.specs.State.{State}
use Rattle.typed_sql.proofs.Leaving.{on_ok}
use Rattle.td_store_rows.specs.LineTable.{line_row_of}
use Rattle.td_store_rows.specs.StoreTables.{tables_in}
use Rattle.td_extract.specs.Copied.{lines_within, no_rows}
use Rattle.td_extract.proofs.Rows.{turned_same}
use Rattle.td_extract.proofs.copying.copy_lines.Goals as goal

pub returns-clause-copied : goal.returns-clause-copied
returns-clause-copied g c clean clean_to =
    let a : State = state g.S.Store c.args.from.now.conn.now in
    let o : State = state g.T.Store c.args.to.now.conn.now in
    let p : State = state g.T.Store c.put_lines.new.tx.conn.now in
    on_ok c.put_lines.result
    (λ turns content holds.
    turned_same (record no_rows { lines = map line_row_of c.in_ok-rows.rows.items }) (lines_within c.args.holder c.args.first c.args.end (tables_in holds.trees.layout a.now.trees))
    (record {
      holders = IsPermutation-refl [];
      kept = IsPermutation-refl [];
      codes = IsPermutation-refl [];
      movements = IsPermutation-refl [];
      lines = c.in_ok-rows.ensures.found clean holds.trees.layout holds.trees.newest holds.schema holds.trees.typed.lines;
    }) o p turns)
    (rw c.deref.ensures.value at (c.put_lines.ensures.put clean_to))
