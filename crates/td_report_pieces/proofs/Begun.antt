-- What a report begins with.
use Rattle.std.proofs.Common.{◌≡◌, ℕ, List, [], Option, None, Some, Result, Ok, Err, IfOk, IsErr, String, Global, refl, sym, ◌∙◌, append-nil, string_bytes}
use Rattle.counted_io.specs.declared.counted.Counted.{Counted}
use Rattle.counted_io.proofs.Chaining.{wrote_nothing}
use Rattle.td_report_pieces.specs.declared.fault.ReportFault.TheVariants.{NoMemory}
use Rattle.td_report_pieces.specs.declared.pieces.Pieces.{Pieces}
use Rattle.td_report_pieces.proofs.Folding.{HasTaken}

module _ {T R W : Type 0} (contents : W → Option (List ℕ)) (line : R → T → Option (List ℕ)) (header : List ℕ) (report : R) (start : Counted W)
    (p : Pieces R) (same : p.report ≡ report) (lines : p.lines ≡ 0) where
  -- with its header, or stopped for want of memory
  pub begun : {E : Type 0} (made : Result (String Global) E) → IfOk made (λ s. string_bytes s ≡ header)
      → IfOk made (λ s. (string_bytes p.text ≡ string_bytes s) × (p.fault ≡ None))
      → (IsErr made → (string_bytes p.text ≡ []) × (p.fault ≡ Some NoMemory)) → HasTaken contents line header report start [] p start
  begun (Ok s) is there none =
      record {
        sent = [];
        rest = [];
        wrote = rw there.1 (wrote_nothing contents start);
        text = append-nil (string_bytes p.text) ∙ (there.0 ∙ (is ∙ sym (append-nil header)));
        same = same;
        whole = λ _. (refl, lines);
        none = λ write. cc (write, there.1);
      }
  begun (Err e) is there none =
      let stopped = none refl in
      record {
        sent = [];
        rest = header;
        wrote = rw stopped.1 (wrote_nothing contents start);
        text = rw stopped.0 (sym (append-nil header));
        same = same;
        whole = λ well. cc (well, stopped.1);
        none = λ write. stopped.0;
      }
