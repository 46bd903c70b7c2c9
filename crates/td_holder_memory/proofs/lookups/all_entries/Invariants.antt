use Rattle.std.proofs.Common.{◌≡◌, map, take}
use Rattle.std.specs.List.{AllByRecursion}
use Rattle.td_guarantee.specs.Usage.{used_on}
use Rattle.td_model.specs.Sound.{IsCovered}
use Rattle.td_holder_memory.proofs.lookups.all_entries.Given as goal

-- those before have their entries
abbrev pub invariant-loop-guarantee : goal.invariant-loop-guarantee
invariant-loop-guarantee l = AllByRecursion (IsCovered l.movements) l.guarantees → l.entries.items ≡ map (λ g. (g, used_on g.grn l.movements)) (take l.guarantee-index l.guarantees)
