use Rattle.std.proofs.Common.{rules}
use Rattle.td_base.proofs.Readers.{holder_read_is}
use Rattle.td_base.proofs.holder.HolderNo.read.Goals as goal

pub returns-clause-value : goal.returns-clause-value
returns-clause-value c = holder_read_is c.args.text.now c.new.result (search rules)
