use Rattle.sqlite.proofs.Callers.{memory_is_clean}
use Rattle.td_store_check.proofs.schema.model.Goals as goal

pub returns : goal.returns
returns c =
    c.in_ok-make_store_tables.ensures (memory_is_clean c.make_store_tables.new.conn)
    (record { schema = c.in_ok-conn.ensures.empty.2; empty = tt })
