use Rattle.std.proofs.Common.{arith}
use Rattle.sqlite.specs.Held.{state}
use Rattle.sqlite.specs.State.{State, HasCleanDisk}
use Rattle.typed_sql.proofs.Leaving.{on_ok}
use Rattle.td_migrate.proofs.BecomingThird.{becomes_third}
use Rattle.td_migrate.proofs.lines.write_3.Goals as goal

pub returns-clause-written : goal.returns-clause-written
returns-clause-written g c clean =
    let a : State = state g.S.Store c.args.tx.now.conn.now in
    let b : State = state g.S.Store c.move_lines.new.tx.conn.now in
    let d : State = state g.S.Store c.set_version.new.tx.conn.now in
    let clean_b : HasCleanDisk b = omega (arith, clean, c.set_version.ensures.within.survives.clean) in
    on_ok c.set_version.result (becomes_third a b d (c.in_ok-move_lines.ensures.moved clean_b)) (c.set_version.ensures.set clean)
