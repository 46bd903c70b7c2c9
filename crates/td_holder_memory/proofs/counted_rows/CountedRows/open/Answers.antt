use Rattle.td_guarantee.specs.Usage.{used_on}
use Rattle.td_holder_memory.proofs.counted_rows.CountedRows.open.Goals as goal

-- as much is in use as before
pub invariant_of-self : goal.invariant_of-self
invariant_of-self c = c.open.ensures (λ grn. used_on grn c.self.inside.rows) c.self.invariant
