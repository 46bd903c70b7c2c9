use Rattle.std.proofs.Common.{ap}
use Rattle.sqlite.specs.Held.{state}
use Rattle.td_model.specs.Content.{Content}
use Rattle.td_store_load.specs.Placed.{movements_placed}
use Rattle.td_store.specs.Kept.{content_in}
use Rattle.td_store.proofs.Stepping.{IsStep, fails_so, gives_so, moves_on}
use Rattle.td_store.proofs.rows.MovementRows.next.Goals as goal

pub returns-clause-gave : goal.returns-clause-gave
returns-clause-gave g c clean is =
    rw c.in-After.is
    (gives_so c.in-After.holder c.in-After.serial (movements_placed old) (movements_placed new) c.following_movement-found.result c.step-at.result step
    (λ well. ap movements_placed (c.following_movement-found.ensures.looked.same clean (c.following_movement-found.ensures.looked.shown clean well).1))
    (c.following_movement-found.ensures.found clean is))
  where
    old : Content
    old = content_in (state g.S.Store c.args.self.now.desk.now).now.trees

    new : Content
    new = content_in (state g.S.Store c.following_movement-found.new.self).now.trees

    step : IsStep c.in-After.holder c.in-After.serial c.following_movement-found.result c.step-at.result
    step = record { some = c.step-at.ensures.some; other = c.step-at.ensures.other; none = c.step-at.ensures.none; err = c.step-at.ensures.err }

pub returns-clause-fails : goal.returns-clause-fails
returns-clause-fails g c fault = fails_so c.in-After.holder c.in-After.serial fault c.following_movement-found.result c.step-at.result step
  where
    step : IsStep c.in-After.holder c.in-After.serial c.following_movement-found.result c.step-at.result
    step = record { some = c.step-at.ensures.some; other = c.step-at.ensures.other; none = c.step-at.ensures.none; err = c.step-at.ensures.err }

pub returns-clause-rises : goal.returns-clause-rises
returns-clause-rises g c =
    rw c.in-After.is (moves_on c.in-After.holder c.in-After.serial c.following_movement-found.result c.step-at.result step)
  where
    step : IsStep c.in-After.holder c.in-After.serial c.following_movement-found.result c.step-at.result
    step = record { some = c.step-at.ensures.some; other = c.step-at.ensures.other; none = c.step-at.ensures.none; err = c.step-at.ensures.err }
