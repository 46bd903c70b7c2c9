use Rattle.std.proofs.Common.{◌≡◌, take, map}
use Rattle.std.specs.Prelude.{filter_map}
use Rattle.td_model.specs.Account.{guarantee_by_grn}
use Rattle.td_holder_memory.proofs.lookups.guarantees_of.Given as goal

-- the guarantees of the lines before were found
abbrev pub invariant-loop-line : goal.invariant-loop-line
invariant-loop-line l = map (λ e. e.0) l.found.items ≡ filter_map (λ i. guarantee_by_grn i.0.grn l.guarantees) (take l.line-index l.lines)
