use Rattle.std.proofs.Common.{◌≡◌, arith, refl, subst, sym}
use Rattle.std.specs.Prelude.{OnErr}
use Rattle.sqlite.specs.Effect.{Database}
use Rattle.sqlite.specs.Held.{state}
use Rattle.sqlite.specs.State.{HasCleanDisk, State}
use Rattle.sqlite.proofs.StateLemmas.{survives_then}
use Rattle.td_migrate.specs.Upgraded.{HeldVersion, MayLeaveStep, TellsStep}
use Rattle.td_migrate.proofs.Reached.{held_there}
use Rattle.td_migrate.proofs.Stepping.{step_told}
use Rattle.td_migrate.proofs.upgrading.step.Goals as goal

pub step_of_sound-requires-clause-held : goal.step_of_sound-requires-clause-held
step_of_sound-requires-clause-held g c clean =
    let o : State = state g.S.Store c.args.conn.now in
    let b : State = state g.S.Store c.audit.new.conn in
    let clean_o : HasCleanDisk o = omega (arith, clean, c.audit.ensures.looks.crash.clean) in
    let now_is : b.now ≡ o.now = c.in_default.ensures.looks.same clean (c.in_default.ensures.looks.shown clean refl).1 in
    subst (HeldVersion c.args.version) (sym now_is) (held_there c.args.version o.now (c.requires.says clean_o) (c.in_default.ensures.told clean))

pub returns-clause-told : goal.returns-clause-told
returns-clause-told g c clean =
    let o : State = state g.S.Store c.args.conn.now in
    let b : State = state g.S.Store c.audit.new.conn in
    let d : State = state g.S.Store c.step_of_sound.new.conn in
    let clean_b : HasCleanDisk b = omega (arith, clean, c.step_of_sound.ensures.crash.clean) in
    let now_is : b.now ≡ o.now = c.in_default.ensures.looks.same clean_b (c.in_default.ensures.looks.shown clean_b refl).1 in
    subst (λ (x : Database). TellsStep c.args.version x d c.step_of_sound.result) now_is
    (step_told c.args.version b.now d c.step_of_sound.result (c.step_of_sound.ensures.grown clean) c.step_of_sound.ensures.fault)

pub returns-clause-err : goal.returns-clause-err
returns-clause-err g c clean is_open =
    let o : State = state g.S.Store c.args.conn.now in
    let b : State = state g.S.Store c.audit.new.conn in
    let d : State = state g.S.Store c.step_of_sound.new.conn in
    let clean_b : HasCleanDisk b = omega (arith, clean, c.step_of_sound.ensures.crash.clean) in
    let now_is : b.now ≡ o.now = c.in_default.ensures.looks.same clean_b (c.in_default.ensures.looks.shown clean_b refl).1 in
    subst (λ (x : Database). OnErr c.step_of_sound.result (d.now ≡ x)) now_is (c.step_of_sound.ensures.err clean is_open)

pub returns-clause-crash : goal.returns-clause-crash
returns-clause-crash g c =
    let o : State = state g.S.Store c.args.conn.now in
    let b : State = state g.S.Store c.audit.new.conn in
    let d : State = state g.S.Store c.step_of_sound.new.conn in
    survives_then o b d (λ _. ⊥) (MayLeaveStep c.args.version b.now) (MayLeaveStep c.args.version o.now) (λ _ trees none. absurd none)
    (λ clean trees may.
    let clean_b : HasCleanDisk b = omega (arith, clean, c.step_of_sound.ensures.crash.clean) in
    let now_is : b.now ≡ o.now = c.in_default.ensures.looks.same clean_b (c.in_default.ensures.looks.shown clean_b refl).1 in
    subst (λ (x : Database). MayLeaveStep c.args.version x trees) now_is may)
    c.audit.ensures.looks.crash c.step_of_sound.ensures.crash
