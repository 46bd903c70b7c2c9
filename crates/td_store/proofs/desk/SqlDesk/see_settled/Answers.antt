use Rattle.sqlite.specs.Held.{state}
use Rattle.sqlite.specs.State.{HasCleanDisk}
use Rattle.td_store.proofs.Leaving.{leaves_shown}
use Rattle.td_store.proofs.desk.SqlDesk.see_settled.Goals as goal

pub returns : goal.returns
returns g c = record {
  settled =
      rw c.self.view_is at (λ (clean : HasCleanDisk (state g.S.Store c.self.inside.conn)).
      leaves_shown g.S.Store c.self.inside.conn c.see_settled.ensures.settled (λ is. let it = c.self.invariant.0 clean is in (it.0, it.1)));
}
