use Rattle.sqlite.specs.Held.{state}
use Rattle.sqlite.specs.Values.{bound}
use Rattle.typed_sql.proofs.Leaving.{on_ok}
use Rattle.td_store_rows.specs.CodeTable.{code_row_of}
use Rattle.td_store_rows.proofs.CodeStatements.{inserted}
use Rattle.td_store_rows.proofs.codes.writing.insert_code.Goals as goal

pub returns-clause-inserted : goal.returns-clause-inserted
returns-clause-inserted g c clean =
    on_ok c.insert.result
    (inserted (code_row_of c.args.code.now) (bound c.columns.result) c.columns.ensures
    (state g.S.Store c.args.tx.now.conn.now) (state g.S.Store c.insert.new.tx.conn.now))
    (c.insert.ensures.inserted clean)
