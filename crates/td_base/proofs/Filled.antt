-- An array whose front is replaced by a text.
use Rattle.std.proofs.Common.{◌≡◌, ◌++◌, ℕ, List, arith, length, drop, replicate}
use Rattle.std.proofs.lemmas.List.{drop-replicate, length-append}
use Rattle.std.proofs.Math.Seq.{take-append_seam, drop-append_seam}
use Rattle.td_base.specs.Kept.{IsKept}

-- what is then kept is that text
pub filled : (IsText : List ℕ → Type 0) (room : ℕ) (text copied : List ℕ) → IsText text → copied ≡ text → IsKept IsText room (copied ++ drop (length text) (replicate room 0)) (length text)
filled IsText room text copied form same = record {
  text = rw (same, take-append_seam) form;
  within = rw same (simp length-append (omega arith));
  zeros = rw (same, drop-append_seam) (drop-replicate (length text) room 0);
}
