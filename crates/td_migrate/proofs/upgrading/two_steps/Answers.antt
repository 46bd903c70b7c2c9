use Rattle.std.proofs.Common.{arith, inr, refl, rules}
use Rattle.std.specs.Prelude.{IsTrue}
use Rattle.sqlite.specs.Held.{state}
use Rattle.sqlite.specs.State.{HasCleanDisk, State, Survives}
use Rattle.sqlite.proofs.StateLemmas.{survives_then, survives_weaker}
use Rattle.td_table_model.specs.Tables.{first_version, version_with_amounts}
use Rattle.td_store_check.specs.Opened.{IsEarlier}
use Rattle.typed_sql.specs.Outside.{CrashLeavesShown}
use Rattle.td_schema.specs.declared.layout.Layout.TheVariants.{Grown2}
use Rattle.td_migrate.specs.Upgraded.{LeavesReached, LeavesShown, MayLeaveStep, MayLeaveUpgraded, WasGrown}
use Rattle.td_migrate.proofs.Reached.{reached_one, reached_two, step_leaves}
use Rattle.td_migrate.proofs.Stepping.{first_was, nothing_told, second_leaves, second_left, upgraded_from_first}
use Rattle.td_migrate.proofs.upgrading.two_steps.Goals as goal

earlier : IsEarlier first_version
earlier = (omega arith, omega arith)

-- the steps one after the other
steps_leave : (o b d : State) → (HasCleanDisk b → WasGrown first_version o.now b.now) → Survives o b (MayLeaveStep first_version o.now)
    → Survives b d (MayLeaveStep version_with_amounts b.now) → Survives o d (MayLeaveUpgraded o.now)
steps_leave o b d was one two =
    survives_then o b d (MayLeaveStep first_version o.now) (MayLeaveStep version_with_amounts b.now) (MayLeaveUpgraded o.now)
    (λ clean trees may. step_leaves first_version earlier o.now trees may)
    (λ clean trees may. second_leaves o.now b.now (first_was o.now b.now (was (omega (arith, clean, two.clean)))) trees may) one two

pub returns-in_err-step-clause-crash : goal.returns-in_err-step-clause-crash
returns-in_err-step-clause-crash g c =
    let o : State = state g.S.Store c.args.conn.now in
    let b : State = state g.S.Store c.step.new.conn in
    survives_weaker o b (MayLeaveStep first_version o.now) (MayLeaveUpgraded o.now)
    (λ clean trees may. step_leaves first_version earlier o.now trees may) c.step.ensures.crash

pub step_of_sound-requires-clause-held : goal.step_of_sound-requires-clause-held
step_of_sound-requires-clause-held g c clean =
    let o : State = state g.S.Store c.args.conn.now in
    let b : State = state g.S.Store c.step.new.conn in
    let was = first_was o.now b.now (c.in_ok-step.ensures.told clean) in
    (Grown2, refl, was.content, was.became)

pub returns-in_err-step_of_sound-clause-told : goal.returns-in_err-step_of_sound-clause-told
returns-in_err-step_of_sound-clause-told g c clean =
    let o : State = state g.S.Store c.args.conn.now in
    let d : State = state g.S.Store c.step_of_sound.new.conn in
    let told = nothing_told o.now d c.in_err-step_of_sound.field-0.0 c.in_err-step_of_sound.ensures.fault in
    search (rules, told)

pub returns-in_err-step_of_sound-clause-crash : goal.returns-in_err-step_of_sound-clause-crash
returns-in_err-step_of_sound-clause-crash g c =
    steps_leave (state g.S.Store c.args.conn.now) (state g.S.Store c.step.new.conn) (state g.S.Store c.step_of_sound.new.conn)
    c.in_ok-step.ensures.told c.step.ensures.crash c.step_of_sound.ensures.crash

pub returns-clause-told : goal.returns-clause-told
returns-clause-told g c clean =
    let o : State = state g.S.Store c.args.conn.now in
    let b : State = state g.S.Store c.step.new.conn in
    let d : State = state g.S.Store c.step_of_sound.new.conn in
    let clean_b : HasCleanDisk b = omega (arith, clean, c.step_of_sound.ensures.crash.clean) in
    (refl, inr (upgraded_from_first o.now b.now (first_was o.now b.now (c.in_ok-step.ensures.told clean_b)) d (c.in_ok-step_of_sound.ensures.grown clean)))

pub returns-clause-crash : goal.returns-clause-crash
returns-clause-crash g c =
    steps_leave (state g.S.Store c.args.conn.now) (state g.S.Store c.step.new.conn) (state g.S.Store c.step_of_sound.new.conn)
    c.in_ok-step.ensures.told c.step.ensures.crash c.step_of_sound.ensures.crash

pub returns-in_err-step_of_sound-clause-left : goal.returns-in_err-step_of_sound-clause-left
returns-in_err-step_of_sound-clause-left g c clean is_open =
    let o : State = state g.S.Store c.args.conn.now in
    let b : State = state g.S.Store c.step.new.conn in
    let d : State = state g.S.Store c.step_of_sound.new.conn in
    let clean_b : HasCleanDisk b = omega (arith, clean, c.step_of_sound.ensures.crash.clean) in
    let told = second_left o.now b.now (c.in_ok-step.ensures.told clean_b) d c.in_err-step_of_sound.field-0.0
    c.in_err-step_of_sound.ensures.fault (c.in_err-step_of_sound.ensures.err clean is_open) in
    search (rules, told)

pub returns-in_err-step-clause-reached : goal.returns-in_err-step-clause-reached
returns-in_err-step-clause-reached g c clean before =
    reached_one first_version (state g.S.Store c.args.conn.now) (state g.S.Store c.step.new.conn) c.step.ensures.crash clean before

-- a crash leaves what the first step made, once that stands
module _ (o b d : State) (was : HasCleanDisk b → WasGrown first_version o.now b.now) (is_open : HasCleanDisk b → IsTrue b.is_open)
    (settled : CrashLeavesShown b) (crash : Survives b d (MayLeaveStep version_with_amounts b.now)) (clean : HasCleanDisk d) where
  clean_b : HasCleanDisk b
  clean_b = omega (arith, clean, crash.clean)

  after_first : LeavesShown b
  after_first trees may = (settled (is_open clean_b) trees).0 may

  second_reached : LeavesReached o.now d.may_leave
  second_reached = reached_two o b d (was clean_b) after_first crash clean

pub returns-in_err-step_of_sound-clause-reached : goal.returns-in_err-step_of_sound-clause-reached
returns-in_err-step_of_sound-clause-reached g c clean before =
    second_reached (state g.S.Store c.args.conn.now) (state g.S.Store c.step.new.conn) (state g.S.Store c.step_of_sound.new.conn)
    c.in_ok-step.ensures.told (λ clean_b. (c.in_ok-step.ensures.shown clean_b).1) c.see_settled.ensures.settled c.step_of_sound.ensures.crash clean

pub returns-clause-reached : goal.returns-clause-reached
returns-clause-reached g c clean before =
    second_reached (state g.S.Store c.args.conn.now) (state g.S.Store c.step.new.conn) (state g.S.Store c.step_of_sound.new.conn)
    c.in_ok-step.ensures.told (λ clean_b. (c.in_ok-step.ensures.shown clean_b).1) c.see_settled.ensures.settled c.step_of_sound.ensures.crash clean
