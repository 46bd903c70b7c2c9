use Rattle.sqlite.specs.Held.{state}
use Rattle.sqlite.specs.Values.{bound}
use Rattle.typed_sql.proofs.Leaving.{on_ok}
use Rattle.td_store_rows.proofs.KeptStatements.{taken}
use Rattle.td_store_rows.proofs.guarantees.writing.take_used.Goals as goal

pub returns-clause-taken : goal.returns-clause-taken
returns-clause-taken g c clean =
    on_ok c.update.result
    (taken c.args.holder c.args.serial c.args.cents (bound c.amount_columns.result) c.amount_columns.ensures
    (state g.S.Store c.args.tx.now.conn.now) (state g.S.Store c.update.new.tx.conn.now))
    (c.update.ensures.updated clean)
