use Rattle.std.proofs.Common.{ℕ, List, ◌<◌, ◌≢◌, get_or}
use Rattle.td_movement.specs.declared.line.Line.{Line}
use Rattle.td_commands.specs.Lines.{IsLineAmount}
use Rattle.td_commands.proofs.lines.are_lines.Given as goal

-- the lines before are of good amounts, and on different guarantees
abbrev pub invariant-loop-i : goal.invariant-loop-i
invariant-loop-i l = record {
  amounts : (j : ℕ) (d : Line × List ℕ) → j < l.i → IsLineAmount (get_or l.items j d).0.cents;
  distinct : (j k : ℕ) (d : Line × List ℕ) → j < k → k < l.i → (get_or l.items j d).0.grn ≢ (get_or l.items k d).0.grn;
}
