use Rattle.std.proofs.Common.{[], map}
use Rattle.std.proofs.lemmas.List.Sorted.{IsPermutation-refl}
use Rattle.sqlite.specs.Held.{state}
use Rattle.sqlite.specs.State.{State}
use Rattle.typed_sql.proofs.Leaving.{on_ok}
use Rattle.td_store_rows.specs.CodeTable.{code_row_of}
use Rattle.td_store_rows.specs.StoreTables.{tables_in}
use Rattle.td_extract.specs.Copied.{codes_within, no_rows}
use Rattle.td_extract.proofs.Rows.{turned_same}
use Rattle.td_extract.proofs.copying.copy_codes.Goals as goal

pub returns-clause-copied : goal.returns-clause-copied
returns-clause-copied g c clean clean_to =
    let a : State = state g.S.Store c.args.from.now.conn.now in
    let o : State = state g.T.Store c.args.to.now.conn.now in
    let p : State = state g.T.Store c.put_codes.new.tx.conn.now in
    on_ok c.put_codes.result
    (λ turns content holds.
    turned_same (record no_rows { codes = map code_row_of c.in_ok-rows.rows.items }) (codes_within c.args.holder c.args.first c.args.end (tables_in holds.trees.layout a.now.trees))
    (record {
      holders = IsPermutation-refl [];
      kept = IsPermutation-refl [];
      codes = c.in_ok-rows.ensures.found clean holds.trees.layout holds.schema holds.trees.typed.codes;
      movements = IsPermutation-refl [];
      lines = IsPermutation-refl [];
    }) o p turns)
    (rw c.deref.ensures.value at (c.put_codes.ensures.put clean_to))
