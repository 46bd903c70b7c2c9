-- The ways in which a report ends.
use Rattle.std.proofs.Common.{◌≡◌, ◌⊎◌, ℕ, Bool, true, false, List, [], ◌∷◌, ◌++◌, Option, None, Result, Ok, Err, IsOk, OnOk, OnErr, IfErr, refl, sym, ap, ◌∙◌, append-nil, append_assoc, inl, inr, string_bytes}
use Rattle.counted_io.specs.declared.counted.Counted.{Counted}
use Rattle.counted_io.specs.Chains.{Wrote}
use Rattle.td_desk.specs.declared.fault.Fault.{Fault}
use Rattle.td_report_pieces.specs.declared.fault.ReportFault.{ReportFault}
use Rattle.td_report_pieces.specs.declared.fault.ReportFault.TheVariants.{Write, Store, NoMemory}
use Rattle.td_report_pieces.specs.declared.pieces.Pieces.{Pieces}
use Rattle.td_report_pieces.specs.Pieces.{Ends, left_of}
use Rattle.td_report_pieces.specs.Written.{EndsBy, IsStopped, fault_after_write, stop_of}

-- where all writes were well, it ends as it was closed
ends_as_closed : (stop : Option ReportFault) (closed : Result (Unit {0}) ReportFault) → OnOk closed (stop ≡ None) → IfErr closed (IsStopped stop) → EndsBy stop true closed
ends_as_closed stop (Ok done) ok why = (ok, refl)
ends_as_closed stop (Err Write) ok (inl is) = (λ store. cc (is, store), inr is)
ends_as_closed stop (Err Write) ok (inr none) = absurd (cc none.1)
ends_as_closed stop (Err Store) ok (inl is) = is
ends_as_closed stop (Err Store) ok (inr none) = absurd (cc none.1)
ends_as_closed stop (Err NoMemory) ok (inl is) = (refl, inl is)
ends_as_closed stop (Err NoMemory) ok (inr none) = (refl, inr none.0)

-- what waits begins what is left to be written, and is all of it where the total was put
begins_left : (text total waits left : List ℕ) (closed : Result (Unit {0}) ReportFault) → left ≡ waits ++ total
    → OnOk closed (text ≡ left) → OnErr closed (text ≡ waits)
    → (rest : List ℕ) × (text ++ rest ≡ left) × (IsOk closed → rest ≡ []) × ((rest ≡ []) ⊎ (text ≡ waits))
begins_left text total waits left (Ok done) is ok err = ([], append-nil text ∙ ok, (λ _. refl), inl refl)
begins_left text total waits left (Err why) is ok err = (total, ap (λ (l : List ℕ). l ++ total) err ∙ sym is, (λ ok. cc ok), inr err)

-- where one failed
ends_after_write : (stop : Option ReportFault) (closed : Result (Unit {0}) ReportFault) → OnOk closed (stop ≡ None) → IfErr closed (IsStopped stop)
    → EndsBy stop false (Err (fault_after_write closed))
ends_after_write stop (Ok done) ok why = (λ store. cc (ok, store), inl refl)
ends_after_write stop (Err Write) ok (inl is) = (λ store. cc (is, store), inl refl)
ends_after_write stop (Err Write) ok (inr none) = absurd (cc none.1)
ends_after_write stop (Err Store) ok (inl is) = is
ends_after_write stop (Err Store) ok (inr none) = absurd (cc none.1)
ends_after_write stop (Err NoMemory) ok (inl is) = (λ store. cc (is, store), inl refl)
ends_after_write stop (Err NoMemory) ok (inr none) = (λ store. cc (none.0, store), inl refl)

both : (A B : Type 0) (closed : Result (Unit {0}) ReportFault) → OnOk closed (A × B) → OnOk closed A × OnOk closed B
both A B (Ok done) p = (p.0, p.1)
both A B (Err why) p = (p, p)

-- what begins nothing is nothing
pub append-nil-left : (xs ys : List ℕ) → xs ++ ys ≡ [] → xs ≡ []
append-nil-left [] ys none = refl
append-nil-left (x ∷ xs) ys none = cc none

module _ {R W : Type 0} (contents : W → Option (List ℕ)) (old : Pieces R) (visited : Result Bool Fault) (before after : Counted W) (text : List ℕ)
    (closed : Result (Unit {0}) ReportFault) (ok : OnOk closed ((stop_of visited old.fault ≡ None) × (text ≡ left_of old visited)))
    (err : OnErr closed (text ≡ string_bytes old.text)) (idle : text ≡ [] → after ≡ before) where
  -- all of it was taken
  pub well_ended : IfErr closed (IsStopped (stop_of visited old.fault)) → Wrote contents before after text true → Ends contents old visited before closed after
  well_ended why wrote =
      let left = begins_left text _ (string_bytes old.text) (left_of old visited) closed refl (both _ _ closed ok).1 err in
      record {
        sent = text;
        rest = left.0;
        well = true;
        wrote = wrote;
        text = left.1;
        whole = left.2;
        waited = λ _. left.3;
        still = λ none. idle (append-nil-left text left.0 (left.1 ∙ none));
        by = ends_as_closed _ closed (both _ _ closed ok).0 why;
      }

  -- a write failed
  pub cut_short : IfErr closed (IsStopped (stop_of visited old.fault)) → (sent rest : List ℕ) → sent ++ rest ≡ text → Wrote contents before after sent false
      → Ends contents old visited before (Err (fault_after_write closed)) after
  cut_short why sent rest is wrote =
      let left = begins_left text _ (string_bytes old.text) (left_of old visited) closed refl (both _ _ closed ok).1 err in
      record {
        sent = sent;
        rest = rest ++ left.0;
        well = false;
        wrote = wrote;
        text = sym (append_assoc sent rest left.0) ∙ (ap (λ (l : List ℕ). l ++ left.0) is ∙ left.1);
        whole = λ ok. cc ok;
        waited = λ well. cc well;
        still = λ none. idle (append-nil-left text left.0 (left.1 ∙ none));
        by = ends_after_write _ closed (both _ _ closed ok).0 why;
      }
