use Rattle.sqlite.specs.Held.{state}
use Rattle.typed_sql.proofs.Leaving.{on_ok}
use Rattle.td_store_rows.proofs.HolderStatements.{inserted}
use Rattle.td_store_rows.proofs.holders.writing.insert_holder.Goals as goal

pub returns-clause-inserted : goal.returns-clause-inserted
returns-clause-inserted g c clean =
    on_ok c.insert.result
    (inserted c.args.row.now (state g.S.Store c.args.tx.now.conn.now) (state g.S.Store c.insert.new.tx.conn.now))
    (rw c.columns.ensures at (c.insert.ensures.inserted clean))
