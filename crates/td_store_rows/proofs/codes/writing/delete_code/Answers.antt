use Rattle.sqlite.specs.Held.{state}
use Rattle.sqlite.specs.Values.{bound}
use Rattle.typed_sql.proofs.Leaving.{on_ok}
use Rattle.td_store_rows.specs.CodeTable.{code_row_of}
use Rattle.td_store_rows.proofs.CodeStatements.{deleted}
use Rattle.td_store_rows.proofs.codes.writing.delete_code.Goals as goal

pub returns-clause-deleted : goal.returns-clause-deleted
returns-clause-deleted g c clean =
    on_ok c.delete.result
    (deleted (code_row_of c.args.code.now) (bound c.columns.result) c.columns.ensures
    (state g.S.Store c.args.tx.now.conn.now) (state g.S.Store c.delete.new.tx.conn.now))
    (c.delete.ensures.deleted clean)
