use Rattle.sqlite.specs.Held.{state}
use Rattle.sqlite.specs.Values.{bound}
use Rattle.typed_sql.proofs.Leaving.{on_ok}
use Rattle.td_store_rows.proofs.KeptStatements.{terms_turned}
use Rattle.td_store_rows.proofs.guarantees.writing.set_terms.Goals as goal

pub returns-clause-set : goal.returns-clause-set
returns-clause-set g c clean =
    on_ok c.update.result
    (terms_turned c.args.holder c.args.serial c.args.terms.now (bound c.terms_columns.result) c.terms_columns.ensures
    (state g.S.Store c.args.tx.now.conn.now) (state g.S.Store c.update.new.tx.conn.now))
    (c.update.ensures.updated clean)
