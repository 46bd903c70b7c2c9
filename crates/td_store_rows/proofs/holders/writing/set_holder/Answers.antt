use Rattle.sqlite.specs.Held.{state}
use Rattle.typed_sql.proofs.Leaving.{on_ok}
use Rattle.td_store_rows.proofs.HolderStatements.{set_anew}
use Rattle.td_store_rows.proofs.holders.writing.set_holder.Goals as goal

pub returns-clause-set : goal.returns-clause-set
returns-clause-set g c clean =
    on_ok c.update.result
    (set_anew c.args.row.now (state g.S.Store c.args.tx.now.conn.now) (state g.S.Store c.update.new.tx.conn.now))
    (rw c.columns.ensures at (c.update.ensures.updated clean))
