use Rattle.std.proofs.Common.{arith, inr, refl}
use Rattle.sqlite.specs.Held.{state}
use Rattle.sqlite.specs.State.{State}
use Rattle.sqlite.proofs.StateLemmas.{survives_weaker}
use Rattle.td_table_model.specs.Tables.{version_with_amounts}
use Rattle.td_store_check.specs.Opened.{IsEarlier}
use Rattle.td_migrate.specs.Upgraded.{MayLeaveStep, MayLeaveUpgraded}
use Rattle.td_migrate.proofs.Reached.{reached_one, step_leaves}
use Rattle.td_migrate.proofs.Stepping.{upgraded_from_second}
use Rattle.td_migrate.proofs.upgrading.last_step.Goals as goal

earlier : IsEarlier version_with_amounts
earlier = (omega arith, omega arith)

pub returns-in_err-step-clause-crash : goal.returns-in_err-step-clause-crash
returns-in_err-step-clause-crash g c =
    let o : State = state g.S.Store c.args.conn.now in
    let d : State = state g.S.Store c.step.new.conn in
    survives_weaker o d (MayLeaveStep version_with_amounts o.now) (MayLeaveUpgraded o.now)
    (λ clean trees may. step_leaves version_with_amounts earlier o.now trees may) c.step.ensures.crash

pub returns-clause-told : goal.returns-clause-told
returns-clause-told g c clean =
    let o : State = state g.S.Store c.args.conn.now in
    let d : State = state g.S.Store c.step.new.conn in
    (refl, inr (upgraded_from_second o.now d (c.in_ok-step.ensures.told clean)))

pub returns-clause-crash : goal.returns-clause-crash
returns-clause-crash g c =
    let o : State = state g.S.Store c.args.conn.now in
    let d : State = state g.S.Store c.step.new.conn in
    survives_weaker o d (MayLeaveStep version_with_amounts o.now) (MayLeaveUpgraded o.now)
    (λ clean trees may. step_leaves version_with_amounts earlier o.now trees may) c.step.ensures.crash

pub returns-in_err-step-clause-reached : goal.returns-in_err-step-clause-reached
returns-in_err-step-clause-reached g c clean before =
    reached_one version_with_amounts (state g.S.Store c.args.conn.now) (state g.S.Store c.step.new.conn) c.step.ensures.crash clean before

pub returns-clause-reached : goal.returns-clause-reached
returns-clause-reached g c clean before =
    reached_one version_with_amounts (state g.S.Store c.args.conn.now) (state g.S.Store c.step.new.conn) c.step.ensures.crash clean before
