use Rattle.td_cli.proofs.WorkTold.{work_alike}
use Rattle.td_cli.proofs.laws.agreeing_work_tells_the_same.Goals as goal

pub returns : goal.returns
returns c = λ H one other first second begin same. work_alike H one other first second begin same
