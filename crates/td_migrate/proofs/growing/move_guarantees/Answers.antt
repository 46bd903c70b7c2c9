use Rattle.std.proofs.Common.{arith}
use Rattle.sqlite.specs.Held.{state}
use Rattle.sqlite.specs.State.{State, HasCleanDisk}
use Rattle.typed_sql.proofs.Leaving.{on_ok}
use Rattle.td_migrate.proofs.Becoming.{moved}
use Rattle.td_migrate.proofs.growing.move_guarantees.Goals as goal

pub returns-clause-moved : goal.returns-clause-moved
returns-clause-moved g c clean =
    let a : State = state g.S.Store c.args.tx.now.conn.now in
    let b : State = state g.S.Store c.make_guarantees2.new.tx.conn.now in
    let d : State = state g.S.Store c.fill.new.tx.conn.now in
    let e : State = state g.S.Store c.empty_guarantees1.new.tx.conn.now in
    let clean_d : HasCleanDisk d = omega (arith, clean, c.empty_guarantees1.ensures.within.survives.clean) in
    let clean_b : HasCleanDisk b = omega (arith, clean_d, c.fill.ensures.within.survives.clean) in
    on_ok c.empty_guarantees1.result (moved a b d e (c.in_ok-make_guarantees2.ensures.made clean_b) (c.in_ok-fill.ensures.filled clean_d)) (c.empty_guarantees1.ensures.emptied clean)
