use Rattle.std.proofs.Common.{arith}
use Rattle.std.specs.Prelude.{is_ok}
use Rattle.sqlite.specs.Held.{state}
use Rattle.sqlite.specs.State.{HasCleanDisk, State}
use Rattle.td_store_rows.specs.Visited.{VisitsKept}
use Rattle.typed_sql.specs.Outside.{Looks}
use Rattle.typed_sql.specs.Visited.{is_whole}
use Rattle.td_store.specs.Kept.{IsDeskOf}
use Rattle.td_store.proofs.Calls.{desk_then}
use Rattle.td_store.proofs.Leaving.{counts_faults}
use Rattle.td_store.proofs.Looking.{has_looked, looks_told}
use Rattle.td_store.proofs.Visiting.{guarantees_visited, told_whole}
use Rattle.td_store.proofs.desk.SqlDesk.visit_guarantees.Goals as goal

pub invariant_of-self : goal.invariant_of-self
invariant_of-self g c =
    let a : State = state g.S.Store c.args.self.now in
    let b : State = state g.S.Store c.show_guarantees-shown.new.conn in
    let desk : IsDeskOf c.self.inside.country a = rw c.self.view_is at c.self.invariant.0 in
    let looks : Looks (is_ok c.show_guarantees-shown.result) a b = rw c.self.view_is at c.show_guarantees-shown.ensures.looks in
    let all = looks_told g.S.Store a c.show_guarantees-shown.new.conn c.told.new.conn c.show_guarantees-shown.result c.told.result c.told.ensures.well looks c.told.ensures.looks in
    (desk_then c.self.inside.country a (state g.S.Store c.told.new.conn) desk all, c.told.ensures.ended)

pub returns-clause-looked : goal.returns-clause-looked
returns-clause-looked g c =
    let a : State = state g.S.Store c.args.self.now in
    let b : State = state g.S.Store c.show_guarantees-shown.new.conn in
    let desk : IsDeskOf c.self.inside.country a = rw c.self.view_is at c.self.invariant.0 in
    let looks : Looks (is_ok c.show_guarantees-shown.result) a b = rw c.self.view_is at c.show_guarantees-shown.ensures.looks in
    let all = looks_told g.S.Store a c.show_guarantees-shown.new.conn c.told.new.conn c.show_guarantees-shown.result c.told.result c.told.ensures.well looks c.told.ensures.looks in
    has_looked g.S.Store c.self.inside.country c.args.self.now c.told.new.conn desk all c.told.ensures.settled

pub returns-clause-counted : goal.returns-clause-counted
returns-clause-counted g c =
    let a : State = state g.S.Store c.args.self.now in
    let b : State = state g.S.Store c.show_guarantees-shown.new.conn in
    let desk : IsDeskOf c.self.inside.country a = rw c.self.view_is at c.self.invariant.0 in
    let looks : Looks (is_ok c.show_guarantees-shown.result) a b = rw c.self.view_is at c.show_guarantees-shown.ensures.looks in
    let all = looks_told g.S.Store a c.show_guarantees-shown.new.conn c.told.new.conn c.show_guarantees-shown.result c.told.result c.told.ensures.well looks c.told.ensures.looks in
    counts_faults a (state g.S.Store c.told.new.conn) (λ _. ⊥) all.crash

pub returns-clause-visited : goal.returns-clause-visited
returns-clause-visited g c clean is =
    let a : State = state g.S.Store c.args.self.now in
    let b : State = state g.S.Store c.show_guarantees-shown.new.conn in
    let desk : IsDeskOf c.self.inside.country a = rw c.self.view_is at c.self.invariant.0 in
    let looks : Looks (is_ok c.show_guarantees-shown.result) a b = rw c.self.view_is at c.show_guarantees-shown.ensures.looks in
    let all = looks_told g.S.Store a c.show_guarantees-shown.new.conn c.told.new.conn c.show_guarantees-shown.result c.told.result c.told.ensures.well looks c.told.ensures.looks in
    let clean_b : HasCleanDisk b = omega (arith, clean, c.told.ensures.looks.crash.clean) in
    let visits : VisitsKept g.V.Visitor.sees a (is_whole c.show_guarantees-shown.result) (c.args.visitor.now, c.args.beside.now)
    (c.show_guarantees-shown.new.visitor, c.show_guarantees-shown.new.beside) = rw c.self.view_is at (c.show_guarantees-shown.ensures.visited clean_b) in
    guarantees_visited (is_whole c.show_guarantees-shown.result) (c.args.visitor.now, c.args.beside.now) (c.show_guarantees-shown.new.visitor, c.show_guarantees-shown.new.beside)
    c.self.inside.country a desk (omega (arith, clean_b, looks.crash.clean)) is c.told.result
    (told_whole c.show_guarantees-shown.new.conn c.told.new.conn c.show_guarantees-shown.result c.told.result c.told.ensures.well) g.V.Visitor.sees visits
