use Rattle.std.proofs.Common.{◌≡◌, take}
use Rattle.td_acts.proofs.rows.copy_entries.Given as goal

-- the entries so far
abbrev pub invariant-loop-guarantee : goal.invariant-loop-guarantee
invariant-loop-guarantee l = l.items.items ≡ take l.guarantee-index l.entries
