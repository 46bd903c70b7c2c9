-- The ways in which a row is taken up.
use Rattle.std.proofs.Common.{◌≡◌, ◌≢◌, ◌<◌, ◌≤◌, ℕ, ◌+◌, ◌^◌, true, false, List, [], ◌++◌, length, Option, Some, None, Result, Ok, Err, IsErrAnd, refl, ap, append-nil, inl, inr, arith, string_bytes}
use Rattle.std.specs.Result.{result_err}
use Rattle.counted_io.specs.declared.counted.Counted.{Counted}
use Rattle.counted_io.specs.Chains.{Wrote}
use Rattle.counted_io.proofs.Chaining.{wrote_nothing}
use Rattle.td_report_pieces.specs.declared.fault.ReportFault.{ReportFault}
use Rattle.td_report_pieces.specs.declared.fault.ReportFault.TheVariants.{Write, Store, NoMemory}
use Rattle.td_report_pieces.specs.declared.pieces.Pieces.{Pieces}
use Rattle.td_report_pieces.specs.Pieces.{TakesUp, piece, text_in}
use Rattle.td_report_pieces.specs.Written.{no_write_failed}

module _ {R W : Type 0} (contents : W → Option (List ℕ)) (line : Option (List ℕ)) (old new : Pieces R) (before after : Counted W)
    (same : new.report ≡ old.report) where
  -- it was not, for want of memory or since there are too many lines: all is as it was
  pub not_taken : (why : ReportFault) → why ≢ Write → (why ≡ Store → 2 ^ 64 ≤ old.lines + 1) → after ≡ before → string_bytes new.text ≡ string_bytes old.text
      → TakesUp contents line old before (Some why) new after
  not_taken why other full still text =
      record {
        sent = [];
        rest = text_in line;
        wrote = rw still (kept why other);
        text = rw text refl;
        same = same;
        whole = λ none. absurd (cc none);
        none = λ write. absurd (other (cc write));
        short = λ short. rw text short;
        few = inl still;
        full = λ store. full (cc store);
      }
    where
      kept : (why : ReportFault) → why ≢ Write → Wrote contents before before [] (no_write_failed (Some why))
      kept Write other = absurd (other refl)
      kept Store other = wrote_nothing contents before
      kept NoMemory other = wrote_nothing contents before

  -- it has no line
  pub has_no_line : line ≡ None → after ≡ before → string_bytes new.text ≡ string_bytes old.text → new.lines ≡ old.lines
      → TakesUp contents line old before None new after
  has_no_line none still text lines =
      record {
        sent = [];
        rest = [];
        wrote = rw still (wrote_nothing contents before);
        text = rw (none, text) refl;
        same = same;
        whole = λ _. (refl, rw (none, lines) (omega arith));
        none = λ write. absurd (cc write);
        short = λ short. rw text short;
        few = inl still;
        full = λ store. absurd (cc store);
      }

  module _ (found : List ℕ) (has : line ≡ Some found) where
    -- its line waits
    pub line_waits : after ≡ before → string_bytes new.text ≡ string_bytes old.text ++ found → new.lines ≡ old.lines + 1
        → length (string_bytes new.text) < piece → TakesUp contents line old before None new after
    line_waits still text lines short =
        record {
          sent = [];
          rest = [];
          wrote = rw still (wrote_nothing contents before);
          text = rw (has, append-nil (string_bytes new.text)) text;
          same = same;
          whole = λ _. (refl, rw (has, lines) refl);
          none = λ write. absurd (cc write);
          short = λ _. short;
          few = inl still;
          full = λ store. absurd (cc store);
        }

    -- it made a piece, which was written
    pub piece_written : Wrote contents before after (string_bytes old.text ++ found) true → string_bytes new.text ≡ [] → new.lines ≡ old.lines + 1
        → piece ≤ length (string_bytes old.text ++ found) → TakesUp contents line old before None new after
    piece_written wrote text lines large =
        record {
          sent = string_bytes old.text ++ found;
          rest = [];
          wrote = wrote;
          text = rw (has, text) (append-nil (string_bytes old.text ++ found));
          same = same;
          whole = λ _. (refl, rw (has, lines) refl);
          none = λ write. absurd (cc write);
          short = λ _. rw text (omega arith);
          few = inr (rw has large);
          full = λ store. absurd (cc store);
        }

    -- it made a piece, of which a write failed
    pub write_failed : (sent rest : List ℕ) → sent ++ rest ≡ string_bytes old.text ++ found → Wrote contents before after sent false
        → string_bytes new.text ≡ [] → piece ≤ length (string_bytes old.text ++ found) → TakesUp contents line old before (Some Write) new after
    write_failed sent rest is wrote text large =
        record {
          sent = sent;
          rest = rest;
          wrote = wrote;
          text = rw (has, text) is;
          same = same;
          whole = λ none. absurd (cc none);
          none = λ _. text;
          short = λ _. rw text (omega arith);
          few = inr (rw has large);
          full = λ store. absurd (cc store);
        }

-- want of memory is told as such
pub told_no_memory : (r : Result (Unit {0}) ReportFault) → IsErrAnd r (λ e. e ≡ NoMemory) → result_err r ≡ Some NoMemory
told_no_memory (Ok done) is = absurd is
told_no_memory (Err e) is = ap (λ (x : ReportFault). Some x) is
