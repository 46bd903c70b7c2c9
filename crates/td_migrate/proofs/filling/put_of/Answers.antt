use Rattle.std.proofs.Common.{refl, arith}
use Rattle.sqlite.specs.Held.{state}
use Rattle.sqlite.specs.State.{State, HasCleanDisk}
use Rattle.typed_sql.proofs.Leaving.{on_ok}
use Rattle.td_migrate.proofs.EachHolder.{filled_of}
use Rattle.td_migrate.proofs.filling.put_of.Goals as goal

pub returns-clause-filled : goal.returns-clause-filled
returns-clause-filled g c clean =
    let a : State = state g.S.Store c.args.tx.now.conn.now in
    let m : State = state g.S.Store c.amounts_in_use.new.tx.conn.now in
    let d : State = state g.S.Store c.put_below.new.tx.conn.now in
    let clean_m : HasCleanDisk m = omega (arith, clean, c.put_below.ensures.within.survives.clean) in
    on_ok c.put_below.result
    (filled_of c.args.raw.now c.in_ok-end.end c.in_ok-end.ensures c.in_ok-totals.totals a m d (c.in_ok-totals.ensures.reads.still clean_m refl) (c.in_ok-totals.ensures.found clean_m))
    (c.put_below.ensures.filled clean)
