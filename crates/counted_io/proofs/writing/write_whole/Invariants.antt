use Rattle.std.proofs.Common.{ℕ, length, ◌-◌, ◌≤◌, take, true}
use Rattle.std.specs.Io.KnownBytes.{Appends}
use Rattle.counted_io.specs.Counted.{known_bytes, calls_of, HasMade, HasNotFallen}
use Rattle.counted_io.specs.Chains.{Wrote}
use Rattle.counted_io.proofs.writing.write_whole.Given as goal

abbrev pub invariant-loop-sent : goal.invariant-loop-sent
invariant-loop-sent g l = record {
  within : l.sent ≤ length l.bytes;
  written : Appends (known_bytes g.W.Write.contents l.initial.writer) (known_bytes g.W.Write.contents l.writer) (take l.sent l.bytes);
  called : HasNotFallen (calls_of l.initial.writer) (calls_of l.writer);
  chain : Wrote g.W.Write.contents l.initial.writer l.writer (take l.sent l.bytes) true;
  writes : (n : ℕ) × HasMade n (calls_of l.initial.writer) (calls_of l.writer);
}

abbrev pub decreases-loop-sent : goal.decreases-loop-sent
decreases-loop-sent g l = length l.bytes - l.sent
