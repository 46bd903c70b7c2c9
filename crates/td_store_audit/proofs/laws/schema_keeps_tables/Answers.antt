use Rattle.td_store_audit.proofs.Live.{keeps_tables}
use Rattle.td_store_audit.proofs.laws.schema_keeps_tables.Goals as goal

pub returns : goal.returns
returns c = keeps_tables
