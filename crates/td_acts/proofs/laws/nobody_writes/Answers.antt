use Rattle.td_base.specs.Days.{moment_of}
use Rattle.td_acts.proofs.AcceptedRows.{nobody_writes}
use Rattle.td_acts.proofs.laws.nobody_writes.Goals as goal

pub returns : goal.returns
returns c = λ country s none. nobody_writes country (moment_of s.at) s.command none
