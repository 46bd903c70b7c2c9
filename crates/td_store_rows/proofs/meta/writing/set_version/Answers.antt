use Rattle.sqlite.specs.Held.{state}
use Rattle.sqlite.specs.Values.{bound}
use Rattle.typed_sql.proofs.Leaving.{on_ok}
use Rattle.td_store_rows.proofs.MetaStatements.{version_set}
use Rattle.td_store_rows.proofs.meta.writing.set_version.Goals as goal

pub returns-clause-set : goal.returns-clause-set
returns-clause-set g c clean =
    on_ok c.update.result
    (version_set c.args.version (bound c.version_value.result) c.version_value.ensures
    (state g.S.Store c.args.tx.now.conn.now) (state g.S.Store c.update.new.tx.conn.now))
    (c.update.ensures.updated clean)
