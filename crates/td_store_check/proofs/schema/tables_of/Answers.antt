use Rattle.std.proofs.Common.{rules}
use Rattle.td_store_check.proofs.Begins.{begins_alike}
use Rattle.td_store_check.proofs.schema.tables_of.Goals as goal

pub returns-then-has_same_first_table : goal.returns-then-has_same_first_table
returns-then-has_same_first_table g c =
    begins_alike c.named_layout-layout.result c.args.conn.now.schema c.in_ok-model.model.schema (search rules) c.in_ok-model.ensures
