use Rattle.std.proofs.Common.{◌≡◌, ◌≤◌, ◌++◌, ℕ, List, length}
use Rattle.td_replay.specs.Following.{HasGiven}
use Rattle.td_replay.proofs.following.next_line.Given as goal

-- what was read so far stands behind the bytes, and each read brought some
abbrev pub invariant-loop : goal.invariant-loop
invariant-loop g l =
    (given : List ℕ) × HasGiven g.R.Read.remaining l.fn.input given l.input × (l.bytes.items ≡ l.fn.bytes.items ++ given) × (l.counter ≤ length given)
