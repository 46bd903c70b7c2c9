use Rattle.std.proofs.Common.{arith}
use Rattle.sqlite.specs.Held.{state}
use Rattle.sqlite.specs.State.{HasCleanDisk}
use Rattle.td_migrate.proofs.upgrading.step_of_sound.Goals as goal

pub returns-in-Ok-clause-grown : goal.returns-in-Ok-clause-grown
returns-in-Ok-clause-grown g c clean =
    let clean_before : HasCleanDisk (state g.S.Store c.args.conn.now) = omega (arith, clean, c.grow.ensures.crash.clean) in
    (c.requires.held clean_before, c.in-Ok.ensures.grown clean)
