use Rattle.sqlite.specs.Held.{state}
use Rattle.sqlite.specs.Values.{bound}
use Rattle.typed_sql.proofs.Leaving.{on_ok}
use Rattle.td_store_rows.proofs.KeptStatements.{added}
use Rattle.td_store_rows.proofs.guarantees.writing.add_used.Goals as goal

pub returns-clause-added : goal.returns-clause-added
returns-clause-added g c clean =
    on_ok c.update.result
    (added c.args.holder c.args.serial c.args.cents (bound c.amount_columns.result) c.amount_columns.ensures
    (state g.S.Store c.args.tx.now.conn.now) (state g.S.Store c.update.new.tx.conn.now))
    (c.update.ensures.updated clean)
