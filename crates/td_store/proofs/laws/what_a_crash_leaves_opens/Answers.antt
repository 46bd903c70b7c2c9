use Rattle.td_store.proofs.Acknowledged.{opens_again}
use Rattle.td_store.proofs.laws.what_a_crash_leaves_opens.Goals as goal

pub returns : goal.returns
returns g c = opens_again g.S.Store
