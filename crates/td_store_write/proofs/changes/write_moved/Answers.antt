use Rattle.std.proofs.Common.{◌∙◌, sym}
use Rattle.sqlite.specs.Held.{state}
use Rattle.typed_sql.proofs.Leaving.{on_ok}
use Rattle.td_store_write.proofs.Changed.{moved_without_use}
use Rattle.td_store_write.proofs.changes.write_moved.Goals as goal

pub returns-clause-written : goal.returns-clause-written
returns-clause-written g c clean =
    on_ok c.write_status.result
    (moved_without_use c.args.country c.args.row.now c.args.status.now (state g.S.Store c.args.tx.now.conn.now) (state g.S.Store c.write_status.new.tx.conn.now)
    (sym c.changes_use.ensures ∙ c.if-changes_use.false))
    (c.write_status.ensures.written clean)
