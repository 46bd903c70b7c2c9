use Rattle.td_table_model.proofs.Gathered.{content_is}
use Rattle.td_table_model.proofs.laws.content_is_of_tables.Goals as goal

pub returns : goal.returns
returns c = content_is
