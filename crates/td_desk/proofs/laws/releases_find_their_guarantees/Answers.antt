use Rattle.td_desk.proofs.Releasing.{releases_find}
use Rattle.td_desk.proofs.laws.releases_find_their_guarantees.Goals as goal

pub returns : goal.returns
returns c = releases_find
