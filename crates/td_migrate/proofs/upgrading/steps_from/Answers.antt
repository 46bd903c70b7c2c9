use Rattle.std.proofs.Common.{◌≡◌, arith, subst}
use Rattle.sqlite.specs.Held.{state}
use Rattle.sqlite.specs.State.{State}
use Rattle.td_table_model.specs.Tables.{first_version, version_with_amounts}
use Rattle.td_store_check.specs.Opened.{MaySay}
use Rattle.td_migrate.proofs.upgrading.steps_from.Goals as goal

pub two_steps-requires-clause-says : goal.two_steps-requires-clause-says
two_steps-requires-clause-says g c clean =
    let o : State = state g.S.Store c.args.conn.now in
    let told = c.requires.says clean in
    let is : c.args.version ≡ first_version = omega (arith, told.0.0, c.if-version-lt-VERSION_WITH_AMOUNTS.true) in
    subst (λ version. MaySay version o.now.trees) is told.1

pub last_step-requires-clause-says : goal.last_step-requires-clause-says
last_step-requires-clause-says g c clean =
    let o : State = state g.S.Store c.args.conn.now in
    let told = c.requires.says clean in
    let is : c.args.version ≡ version_with_amounts = omega (arith, told.0.1, c.if-version-lt-VERSION_WITH_AMOUNTS.false) in
    subst (λ version. MaySay version o.now.trees) is told.1
