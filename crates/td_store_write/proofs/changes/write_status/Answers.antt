use Rattle.std.proofs.Common.{arith}
use Rattle.sqlite.specs.Held.{state}
use Rattle.sqlite.specs.State.{State, HasCleanDisk}
use Rattle.typed_sql.proofs.Leaving.{on_ok}
use Rattle.td_store_write.proofs.Changed.{moved_on}
use Rattle.td_store_write.proofs.changes.write_status.Goals as goal

pub returns-clause-written : goal.returns-clause-written
returns-clause-written g c clean =
    on_ok c.set_status.result (moved_on c.args.country c.args.row.now c.args.status.now a b d
    (c.in_ok-set_holder.ensures.set clean_b)) (rw (c.unwrap_or-serial.ensures, c.serial.ensures) at (c.set_status.ensures.set clean))
  where
    a : State
    a = state g.S.Store c.args.tx.now.conn.now

    b : State
    b = state g.S.Store c.set_holder.new.tx.conn.now

    d : State
    d = state g.S.Store c.set_status.new.tx.conn.now

    clean_b : HasCleanDisk b
    clean_b = omega (arith, clean, c.set_status.ensures.within.survives.clean)
