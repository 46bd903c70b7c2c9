use Rattle.sqlite.specs.Held.{state}
use Rattle.td_store.proofs.Holding.{holds_own}
use Rattle.td_store.proofs.Leaving.{leaves_shown}
use Rattle.td_store.proofs.desk.SqlDesk.close.Goals as goal

pub returns-clause-holds : goal.returns-clause-holds
returns-clause-holds g c = holds_own c.self.inside.country (state g.S.Store c.self.inside.conn) c.self.invariant.0

pub returns-clause-leaves : goal.returns-clause-leaves
returns-clause-leaves g c = λ clean.
    leaves_shown g.S.Store c.self.inside.conn c.see_settled.ensures.settled
    (λ is. let it = c.self.invariant.0 clean is in (it.0, it.1))
