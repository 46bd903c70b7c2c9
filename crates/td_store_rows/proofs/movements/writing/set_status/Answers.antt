use Rattle.sqlite.specs.Held.{state}
use Rattle.sqlite.specs.Values.{bound}
use Rattle.typed_sql.proofs.Leaving.{on_ok}
use Rattle.td_store_rows.proofs.MovementStatements.{status_turned}
use Rattle.td_store_rows.proofs.movements.writing.set_status.Goals as goal

pub returns-clause-set : goal.returns-clause-set
returns-clause-set g c clean =
    on_ok c.update.result
    (status_turned c.args.holder c.args.serial c.args.status.now (bound c.status_columns.result)
    c.status_columns.ensures (state g.S.Store c.args.tx.now.conn.now) (state g.S.Store c.update.new.tx.conn.now))
    (c.update.ensures.updated clean)
