use Rattle.std.proofs.Common.{◌≡◌, arith, refl, subst}
use Rattle.sqlite.specs.Effect.{Database}
use Rattle.sqlite.specs.Held.{state}
use Rattle.sqlite.specs.State.{HasCleanDisk, State}
use Rattle.sqlite.proofs.StateLemmas.{survives_then}
use Rattle.td_migrate.specs.Upgraded.{LeavesReached, MayLeaveUpgraded}
use Rattle.td_migrate.proofs.Reached.{reached_none, shown_still}
use Rattle.td_migrate.proofs.Stepping.{newest_told}
use Rattle.td_migrate.proofs.upgrading.go_on.Goals as goal

pub returns-then-found-lt-NEWEST_VERSION-clause-crash : goal.returns-then-found-lt-NEWEST_VERSION-clause-crash
returns-then-found-lt-NEWEST_VERSION-clause-crash g c =
    let o : State = state g.S.Store c.args.conn.now in
    let b : State = state g.S.Store c.version.new.conn in
    let d : State = state g.S.Store c.steps_from.new.conn in
    survives_then o b d (λ _. ⊥) (MayLeaveUpgraded b.now) (MayLeaveUpgraded o.now) (λ _ trees none. absurd none)
    (λ clean trees may.
    let clean_b : HasCleanDisk b = omega (arith, clean, c.steps_from.ensures.crash.clean) in
    let now_is : b.now ≡ o.now = c.in_ok-found.ensures.looks.same clean_b (c.in_ok-found.ensures.looks.shown clean_b refl).1 in
    subst (λ (db : Database). MayLeaveUpgraded db trees) now_is may)
    c.version.ensures.looks.crash c.steps_from.ensures.crash

pub returns-then-found-lt-NEWEST_VERSION-clause-reached : goal.returns-then-found-lt-NEWEST_VERSION-clause-reached
returns-then-found-lt-NEWEST_VERSION-clause-reached g c clean before =
    let o : State = state g.S.Store c.args.conn.now in
    let b : State = state g.S.Store c.version.new.conn in
    let d : State = state g.S.Store c.steps_from.new.conn in
    let clean_b : HasCleanDisk b = omega (arith, clean, c.steps_from.ensures.crash.clean) in
    let now_is : b.now ≡ o.now = c.in_ok-found.ensures.looks.same clean_b (c.in_ok-found.ensures.looks.shown clean_b refl).1 in
    subst (λ (db : Database). LeavesReached db d.may_leave) now_is
    (c.steps_from.ensures.reached clean (shown_still o b c.version.ensures.looks.crash clean_b now_is before))

pub returns-in_err-found-clause-reached : goal.returns-in_err-found-clause-reached
returns-in_err-found-clause-reached g c clean before =
    reached_none (state g.S.Store c.args.conn.now) (state g.S.Store c.version.new.conn) c.version.ensures.looks.crash clean before

pub returns-clause-reached : goal.returns-clause-reached
returns-clause-reached g c clean before =
    reached_none (state g.S.Store c.args.conn.now) (state g.S.Store c.version.new.conn) c.version.ensures.looks.crash clean before

pub returns-clause-told : goal.returns-clause-told
returns-clause-told g c clean =
    let o : State = state g.S.Store c.args.conn.now in
    let b : State = state g.S.Store c.version.new.conn in
    let told = c.in_ok-found.ensures.told clean in
    newest_told o.now b c.in_ok-found.found (omega (arith, told.1.1, c.if-found-lt-NEWEST_VERSION.false))
    (c.in_ok-found.ensures.looks.same clean (c.in_ok-found.ensures.looks.shown clean refl).1) told
