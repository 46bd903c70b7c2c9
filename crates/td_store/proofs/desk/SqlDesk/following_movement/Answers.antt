use Rattle.std.proofs.Common.{arith}
use Rattle.std.specs.Option.{option_map}
use Rattle.std.specs.Prelude.{IfOk, is_ok}
use Rattle.sqlite.specs.Held.{state}
use Rattle.sqlite.specs.State.{State}
use Rattle.td_store_load.proofs.Listing.{movements_in_order}
use Rattle.td_store_load.specs.Placed.{IsFirstBehind, found_at, movements_placed}
use Rattle.typed_sql.specs.Outside.{Looks}
use Rattle.td_store.specs.Kept.{IsDeskOf}
use Rattle.td_store.proofs.Calls.{desk_then}
use Rattle.td_store.proofs.Leaving.{counts_faults}
use Rattle.td_store.proofs.Looking.{found_behind, has_looked, looks_told}
use Rattle.td_store.proofs.desk.SqlDesk.following_movement.Goals as goal

pub invariant_of-self : goal.invariant_of-self
invariant_of-self g c =
    let a : State = state g.S.Store c.args.self.now in
    let b : State = state g.S.Store c.read_following_movement-found.new.conn in
    let desk : IsDeskOf c.self.inside.country a = rw c.self.view_is at c.self.invariant.0 in
    let looks : Looks (is_ok c.read_following_movement-found.result) a b = rw c.self.view_is at c.read_following_movement-found.ensures.looks in
    let all = looks_told g.S.Store a c.read_following_movement-found.new.conn c.told.new.conn c.read_following_movement-found.result c.told.result c.told.ensures.well looks c.told.ensures.looks in
    (desk_then c.self.inside.country a (state g.S.Store c.told.new.conn) desk all, c.told.ensures.ended)

pub returns-clause-looked : goal.returns-clause-looked
returns-clause-looked g c =
    let a : State = state g.S.Store c.args.self.now in
    let b : State = state g.S.Store c.read_following_movement-found.new.conn in
    let desk : IsDeskOf c.self.inside.country a = rw c.self.view_is at c.self.invariant.0 in
    let looks : Looks (is_ok c.read_following_movement-found.result) a b = rw c.self.view_is at c.read_following_movement-found.ensures.looks in
    let all = looks_told g.S.Store a c.read_following_movement-found.new.conn c.told.new.conn c.read_following_movement-found.result c.told.result c.told.ensures.well looks c.told.ensures.looks in
    has_looked g.S.Store c.self.inside.country c.args.self.now c.told.new.conn desk all c.told.ensures.settled

pub returns-clause-counted : goal.returns-clause-counted
returns-clause-counted g c =
    let a : State = state g.S.Store c.args.self.now in
    let b : State = state g.S.Store c.read_following_movement-found.new.conn in
    let desk : IsDeskOf c.self.inside.country a = rw c.self.view_is at c.self.invariant.0 in
    let looks : Looks (is_ok c.read_following_movement-found.result) a b = rw c.self.view_is at c.read_following_movement-found.ensures.looks in
    let all = looks_told g.S.Store a c.read_following_movement-found.new.conn c.told.new.conn c.read_following_movement-found.result c.told.result c.told.ensures.well looks c.told.ensures.looks in
    counts_faults a (state g.S.Store c.told.new.conn) (λ _. ⊥) all.crash

pub returns-clause-found : goal.returns-clause-found
returns-clause-found g c clean is =
    let a : State = state g.S.Store c.args.self.now in
    let b : State = state g.S.Store c.read_following_movement-found.new.conn in
    let desk : IsDeskOf c.self.inside.country a = rw c.self.view_is at c.self.invariant.0 in
    let looks : Looks (is_ok c.read_following_movement-found.result) a b = rw c.self.view_is at c.read_following_movement-found.ensures.looks in
    let all = looks_told g.S.Store a c.read_following_movement-found.new.conn c.told.new.conn c.read_following_movement-found.result c.told.result c.told.ensures.well looks c.told.ensures.looks in
    let found : IfOk c.read_following_movement-found.result (λ found. IsFirstBehind movements_placed c.args.holder c.args.serial a (option_map found_at found)) =
    rw c.self.view_is at (c.read_following_movement-found.ensures.found (omega (arith, clean, c.told.ensures.looks.crash.clean))) in
    found_behind g.S.Store c.self.inside.country c.args.self.now c.told.new.conn desk all movements_placed movements_in_order found_at c.args.holder c.args.serial
    c.read_following_movement-found.new.conn c.read_following_movement-found.result c.told.result c.told.ensures.well found clean is
