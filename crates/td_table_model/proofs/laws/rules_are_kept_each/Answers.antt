use Rattle.td_table_model.proofs.Failing.{kept_each}
use Rattle.td_table_model.proofs.laws.rules_are_kept_each.Goals as goal

pub returns : goal.returns
returns c = kept_each
