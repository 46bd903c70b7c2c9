use Rattle.std.proofs.Common.{ap}
use Rattle.td_machine.proofs.InOrder.{in_order}
use Rattle.td_machine.proofs.laws.clients_are_served_in_order.Goals as goal

pub returns : goal.returns
returns g c = λ old new all_served served.
    in_order (λ l. l.clients.items) (λ l. l.told.items) (λ l. l.gone) _ _
    (λ old reader writer new gave. (gave.0, ap (λ t. t.items) gave.2, gave.3)) (λ old reader writer new took. (ap (λ t. t.items) took.0, took.1))
    all_served old new served
