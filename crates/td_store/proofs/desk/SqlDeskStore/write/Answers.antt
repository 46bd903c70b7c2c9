use Rattle.std.proofs.Common.{◌≡◌, ◌∙◌, ap, arith}
use Rattle.std.specs.Prelude.{IsTrue}
use Rattle.sqlite.specs.Effect.{Database}
use Rattle.sqlite.specs.Held.{state}
use Rattle.sqlite.specs.State.{State, HasCleanDisk, Survives}
use Rattle.td_store_write.specs.Carried.{CarriesChange, MayLeave}
use Rattle.td_store.specs.Kept.{IsDeskOf, content_in}
use Rattle.td_store.proofs.Calls.{adds_change, content_carried, desk_carried, desk_left, desk_then, then_asked}
use Rattle.td_store.proofs.Leaving.{counts_faults, leaves_shown}
use Rattle.td_store.proofs.desk.SqlDeskStore.write.Goals as goal

pub returns-in-Err-clause-crash : goal.returns-in-Err-clause-crash
returns-in-Err-clause-crash g c = λ clean.
    let country = c.self.inside.country in
    let a : State = state g.S.Store c.args.self.now in
    let b : State = state g.S.Store c.carry_change.new.conn in
    let desk : IsDeskOf country a = rw c.self.view_is at c.self.invariant.0 in
    let survives : Survives a b (MayLeave country c.args.change a) = rw c.self.view_is at c.carry_change.ensures.crash in
    let e : State = state g.S.Store c.fault_of-fault.new.conn in
    let asked = c.fault_of-fault.ensures in
    adds_change g.S.Store country c.args.change c.args.self.now c.fault_of-fault.new.conn desk c.requires.decided
    (then_asked a b e (MayLeave country c.args.change a) survives asked.looks.crash) clean

pub returns-in-Err-clause-err : goal.returns-in-Err-clause-err
returns-in-Err-clause-err g c = λ clean is.
    let a : State = state g.S.Store c.args.self.now in
    let b : State = state g.S.Store c.carry_change.new.conn in
    let asked = c.fault_of-fault.ensures in
    let same : HasCleanDisk b → IsTrue b.is_open → b.now ≡ a.now = rw c.self.view_is at c.in-Err.ensures.err in
    let clean_b : HasCleanDisk b = omega (arith, clean, asked.looks.crash.clean) in
    ap (λ (d : Database). content_in d.trees) (asked.looks.same clean is ∙ same clean_b (asked.looks.live clean is))

pub returns-in-Err-clause-settled : goal.returns-in-Err-clause-settled
returns-in-Err-clause-settled g c = λ clean.
    let country = c.self.inside.country in
    let a : State = state g.S.Store c.args.self.now in
    let b : State = state g.S.Store c.carry_change.new.conn in
    let desk : IsDeskOf country a = rw c.self.view_is at c.self.invariant.0 in
    let survives : Survives a b (MayLeave country c.args.change a) = rw c.self.view_is at c.carry_change.ensures.crash in
    let live : HasCleanDisk b → IsTrue b.is_open → IsTrue a.is_open = rw c.self.view_is at c.carry_change.ensures.live in
    let same : HasCleanDisk b → IsTrue b.is_open → b.now ≡ a.now = rw c.self.view_is at c.in-Err.ensures.err in
    let e : State = state g.S.Store c.fault_of-fault.new.conn in
    let asked = c.fault_of-fault.ensures in
    let desk_b = desk_left country a b (MayLeave country c.args.change a) desk survives live same in
    leaves_shown g.S.Store c.fault_of-fault.new.conn c.see_settled.ensures.settled
    (λ is. let it = desk_then country b e desk_b asked.looks clean is in (it.0, it.1))

pub returns-in-Err-clause-call : goal.returns-in-Err-clause-call
returns-in-Err-clause-call g c =
    let country = c.self.inside.country in
    let a : State = state g.S.Store c.args.self.now in
    let b : State = state g.S.Store c.carry_change.new.conn in
    let desk : IsDeskOf country a = rw c.self.view_is at c.self.invariant.0 in
    let survives : Survives a b (MayLeave country c.args.change a) = rw c.self.view_is at c.carry_change.ensures.crash in
    let e : State = state g.S.Store c.fault_of-fault.new.conn in
    let asked = c.fault_of-fault.ensures in
    counts_faults a e (MayLeave country c.args.change a) (then_asked a b e (MayLeave country c.args.change a) survives asked.looks.crash)

pub invariant_of-self : goal.invariant_of-self
invariant_of-self g c =
    let country = c.self.inside.country in
    let a : State = state g.S.Store c.args.self.now in
    let b : State = state g.S.Store c.carry_change.new.conn in
    let desk : IsDeskOf country a = rw c.self.view_is at c.self.invariant.0 in
    let survives : Survives a b (MayLeave country c.args.change a) = rw c.self.view_is at c.carry_change.ensures.crash in
    let live : HasCleanDisk b → IsTrue b.is_open → IsTrue a.is_open = rw c.self.view_is at c.carry_change.ensures.live in
    let same : HasCleanDisk b → IsTrue b.is_open → b.now ≡ a.now = rw c.self.view_is at c.in-Err.ensures.err in
    let e : State = state g.S.Store c.fault_of-fault.new.conn in
    let asked = c.fault_of-fault.ensures in
    let desk_b = desk_left country a b (MayLeave country c.args.change a) desk survives live same in
    (desk_then country b e desk_b asked.looks, asked.ended)

pub returns-clause-written : goal.returns-clause-written
returns-clause-written g c =
    let country = c.self.inside.country in
    let a : State = state g.S.Store c.args.self.now in
    let b : State = state g.S.Store c.carry_change.new.conn in
    let desk : IsDeskOf country a = rw c.self.view_is at c.self.invariant.0 in
    let survives : Survives a b (MayLeave country c.args.change a) = rw c.self.view_is at c.carry_change.ensures.crash in
    let live : HasCleanDisk b → IsTrue b.is_open → IsTrue a.is_open = rw c.self.view_is at c.carry_change.ensures.live in
    let carries : HasCleanDisk b → CarriesChange country c.args.change a b = rw c.self.view_is at c.in_default.ensures.carried in
    content_carried g.S.Store country c.args.change c.args.self.now c.carry_change.new.conn desk c.requires.decided survives live carries

pub returns-clause-crash : goal.returns-clause-crash
returns-clause-crash g c = λ clean.
    let country = c.self.inside.country in
    let a : State = state g.S.Store c.args.self.now in
    let b : State = state g.S.Store c.carry_change.new.conn in
    let desk : IsDeskOf country a = rw c.self.view_is at c.self.invariant.0 in
    let survives : Survives a b (MayLeave country c.args.change a) = rw c.self.view_is at c.carry_change.ensures.crash in
    adds_change g.S.Store country c.args.change c.args.self.now c.carry_change.new.conn desk c.requires.decided survives clean

pub returns-clause-settled : goal.returns-clause-settled
returns-clause-settled g c = λ clean.
    let country = c.self.inside.country in
    let a : State = state g.S.Store c.args.self.now in
    let b : State = state g.S.Store c.carry_change.new.conn in
    let desk : IsDeskOf country a = rw c.self.view_is at c.self.invariant.0 in
    let survives : Survives a b (MayLeave country c.args.change a) = rw c.self.view_is at c.carry_change.ensures.crash in
    let live : HasCleanDisk b → IsTrue b.is_open → IsTrue a.is_open = rw c.self.view_is at c.carry_change.ensures.live in
    let carries : HasCleanDisk b → CarriesChange country c.args.change a b = rw c.self.view_is at c.in_default.ensures.carried in
    leaves_shown g.S.Store c.carry_change.new.conn c.see_settled-2.ensures.settled
    (λ is.
    let it = desk_carried g.S.Store country c.args.change c.args.self.now c.carry_change.new.conn desk c.requires.decided survives live carries clean is in
    (it.0, it.1))

pub returns-clause-call : goal.returns-clause-call
returns-clause-call g c =
    let country = c.self.inside.country in
    let a : State = state g.S.Store c.args.self.now in
    let b : State = state g.S.Store c.carry_change.new.conn in
    let desk : IsDeskOf country a = rw c.self.view_is at c.self.invariant.0 in
    let survives : Survives a b (MayLeave country c.args.change a) = rw c.self.view_is at c.carry_change.ensures.crash in
    counts_faults a b (MayLeave country c.args.change a) survives

pub invariant_of-self-2 : goal.invariant_of-self-2
invariant_of-self-2 g c =
    let country = c.self.inside.country in
    let a : State = state g.S.Store c.args.self.now in
    let b : State = state g.S.Store c.carry_change.new.conn in
    let desk : IsDeskOf country a = rw c.self.view_is at c.self.invariant.0 in
    let survives : Survives a b (MayLeave country c.args.change a) = rw c.self.view_is at c.carry_change.ensures.crash in
    let live : HasCleanDisk b → IsTrue b.is_open → IsTrue a.is_open = rw c.self.view_is at c.carry_change.ensures.live in
    let carries : HasCleanDisk b → CarriesChange country c.args.change a b = rw c.self.view_is at c.in_default.ensures.carried in
    (desk_carried g.S.Store country c.args.change c.args.self.now c.carry_change.new.conn desk c.requires.decided survives live carries, c.carry_change.ensures.ended)
