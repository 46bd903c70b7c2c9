use Rattle.td_table_model.proofs.KeptAmounts.{amounts_are_use}
use Rattle.td_table_model.proofs.laws.amounts_are_use.Goals as goal

pub returns : goal.returns
returns c = amounts_are_use
