use Rattle.std.proofs.Common.{◌≡◌, take}
use Rattle.std.specs.Prelude.{filter_map, option_map}
use Rattle.std.specs.List.{AllByRecursion}
use Rattle.td_guarantee.specs.Terms.{without_codes}
use Rattle.td_guarantee.specs.Usage.{used_on}
use Rattle.td_model.specs.Account.{guarantee_by_grn}
use Rattle.td_model.specs.Sound.{IsCovered}
use Rattle.td_holder_memory.proofs.lookups.entries_of.Given as goal

-- the guarantees of the lines before were found
abbrev pub invariant-loop-line : goal.invariant-loop-line
invariant-loop-line l = AllByRecursion (IsCovered l.movements) l.guarantees → l.found.items ≡ filter_map (λ i. option_map (λ g. (without_codes g, used_on g.grn l.movements)) (guarantee_by_grn i.grn l.guarantees)) (take l.line-index l.lines)
