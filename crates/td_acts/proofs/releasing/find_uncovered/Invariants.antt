use Rattle.std.proofs.Common.{◌≡◌, drop}
use Rattle.td_acts.specs.Deciding.{entry_by_grn}
use Rattle.td_model.specs.Declaring.{first_uncovered}
use Rattle.td_acts.proofs.releasing.find_uncovered.Given as goal

-- none of the lines before is refused
abbrev pub invariant-loop-line : goal.invariant-loop-line
invariant-loop-line l = first_uncovered l.day (λ grn. entry_by_grn grn l.entries) (drop l.line-index l.lines) ≡ first_uncovered l.day (λ grn. entry_by_grn grn l.entries) l.lines
