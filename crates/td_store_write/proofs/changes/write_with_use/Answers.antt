use Rattle.std.proofs.Common.{arith, refl}
use Rattle.sqlite.specs.Held.{state}
use Rattle.sqlite.specs.State.{State, HasCleanDisk}
use Rattle.typed_sql.proofs.Leaving.{on_ok}
use Rattle.td_store_rows.proofs.StoreReads.{newest_more_lines, reads_less}
use Rattle.td_store_write.proofs.Changed.{moved_with_use}
use Rattle.td_store_write.proofs.changes.write_with_use.Goals as goal

pub returns-clause-written : goal.returns-clause-written
returns-clause-written g c clean =
    on_ok c.change_by_lines.result (moved_with_use c.args.country c.args.row.now c.args.status.now c.in_ok-lines.lines.items a b d e
    ((reads_less newest_more_lines c.in_ok-lines.ensures.reads).still clean_b refl) (rw (c.unwrap_or-serial.ensures, c.serial.ensures) at (c.in_ok-lines.ensures.found clean_b))
    (c.in_ok-write_status.ensures.written clean_d))
    (rw c.deref.ensures.value at (c.change_by_lines.ensures.changed clean))
  where
    a : State
    a = state g.S.Store c.args.tx.now.conn.now

    b : State
    b = state g.S.Store c.lines_of.new.tx.conn.now

    d : State
    d = state g.S.Store c.write_status.new.tx.conn.now

    e : State
    e = state g.S.Store c.change_by_lines.new.tx.conn.now

    clean_d : HasCleanDisk d
    clean_d = omega (arith, clean, c.change_by_lines.ensures.within.survives.clean)

    clean_b : HasCleanDisk b
    clean_b = omega (arith, clean_d, c.write_status.ensures.within.survives.clean)
