use Rattle.td_journal.proofs.Parts.{part_tells_the_same}
use Rattle.td_journal.proofs.laws.a_part_tells_the_same.Goals as goal

pub returns : goal.returns
returns c = part_tells_the_same
