use Rattle.std.proofs.Common.{◌∙◌, sym, subst}
use Rattle.std.specs.Prelude.{IfOk}
use Rattle.sqlite.specs.Held.{state}
use Rattle.sqlite.specs.State.{State}
use Rattle.td_commands.specs.Commands.{need_said}
use Rattle.td_store_load.specs.Needed.{IsLoadedFor}
use Rattle.td_store_load.proofs.needs.load_for.Goals as goal

pub returns-in-Nothing-clause-loaded : goal.returns-in-Nothing-clause-loaded
returns-in-Nothing-clause-loaded g c clean content holds at row = record {
  country = c.row_alone.ensures.country ∙ sym at;
  holder = c.row_alone.ensures.row ∙ sym row;
  things = rw c.in-Nothing.is tt;
}

pub returns-in-Lodging-clause-loaded : goal.returns-in-Lodging-clause-loaded
returns-in-Lodging-clause-loaded g c clean =
    let old : State = state g.S.Store c.args.tx.now.conn.now in
    subst (λ needs. IfOk c.load_lodging.result (IsLoadedFor c.args.country c.args.row (need_said needs) old)) (sym c.in-Lodging.is) (c.load_lodging.ensures.loaded clean)

pub returns-in-Movement-clause-loaded : goal.returns-in-Movement-clause-loaded
returns-in-Movement-clause-loaded g c clean =
    let old : State = state g.S.Store c.args.tx.now.conn.now in
    subst (λ needs. IfOk c.load_movement.result (IsLoadedFor c.args.country c.args.row (need_said needs) old)) (sym c.in-Movement.is) (c.load_movement.ensures.loaded clean)

pub returns-in-Status-clause-loaded : goal.returns-in-Status-clause-loaded
returns-in-Status-clause-loaded g c clean =
    let old : State = state g.S.Store c.args.tx.now.conn.now in
    subst (λ needs. IfOk c.load_status.result (IsLoadedFor c.args.country c.args.row (need_said needs) old)) (sym c.in-Status.is) (c.load_status.ensures.loaded clean)

pub returns-in-Release-clause-loaded : goal.returns-in-Release-clause-loaded
returns-in-Release-clause-loaded g c clean =
    let old : State = state g.S.Store c.args.tx.now.conn.now in
    subst (λ needs. IfOk c.load_release.result (IsLoadedFor c.args.country c.args.row (need_said needs) old)) (sym c.in-Release.is) (c.load_release.ensures.loaded clean)

pub returns-in-AllMovements-clause-loaded : goal.returns-in-AllMovements-clause-loaded
returns-in-AllMovements-clause-loaded g c clean =
    let old : State = state g.S.Store c.args.tx.now.conn.now in
    subst (λ needs. IfOk c.load_movements.result (IsLoadedFor c.args.country c.args.row (need_said needs) old)) (sym c.in-AllMovements.is) (c.load_movements.ensures.loaded clean)

pub returns-in-Guarantee-clause-loaded : goal.returns-in-Guarantee-clause-loaded
returns-in-Guarantee-clause-loaded g c clean =
    let old : State = state g.S.Store c.args.tx.now.conn.now in
    subst (λ needs. IfOk c.load_guarantee.result (IsLoadedFor c.args.country c.args.row (need_said needs) old)) (sym c.in-Guarantee.is) (c.load_guarantee.ensures.loaded clean)

pub returns-in-AllGuarantees-clause-loaded : goal.returns-in-AllGuarantees-clause-loaded
returns-in-AllGuarantees-clause-loaded g c clean =
    let old : State = state g.S.Store c.args.tx.now.conn.now in
    subst (λ needs. IfOk c.load_guarantees.result (IsLoadedFor c.args.country c.args.row (need_said needs) old)) (sym c.in-AllGuarantees.is) (c.load_guarantees.ensures.loaded clean)
