use Rattle.std.proofs.Common.{◌≡◌, drop, map}
use Rattle.td_model.specs.Declaring.{first_refusal}
use Rattle.td_acts.proofs.declaring.find_refusal.Given as goal

-- none of the lines before is refused
abbrev pub invariant-loop-line : goal.invariant-loop-line
invariant-loop-line l = first_refusal l.day (map (λ e. e.0) l.guarantees) (drop l.line-index l.lines) ≡ first_refusal l.day (map (λ e. e.0) l.guarantees) l.lines
