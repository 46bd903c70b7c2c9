use Rattle.td_table_model.proofs.KeptAmounts.{tables_grow}
use Rattle.td_table_model.proofs.laws.tables_grow.Goals as goal

pub returns : goal.returns
returns c = tables_grow
