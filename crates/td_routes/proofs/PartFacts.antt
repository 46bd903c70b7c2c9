-- A part of a path that is read as a reference, with its first fault told as a fault of the request.
use Rattle.std.proofs.Common.{◌≡◌, ℕ, List, Result, Ok, Err, Bool, true, false, if◌then◌else◌, refl, ap, ◌∙◌}
use Rattle.std.specs.Prelude.{IsErrAnd, MatchResult}
use Rattle.td_base.specs.References.{is_reference_text, first_fault, reference_read}
use Rattle.td_base.specs.declared.references.RefFault.{RefFault}
use Rattle.td_fields.specs.declared.fault.WebFault.{WebFault}

-- the reference that a part is, or the fault that is made of the first
abbrev pub part_read : ℕ → (RefFault → WebFault) → List ℕ → Result (List ℕ) WebFault
part_read places fault text = if is_reference_text places text then Ok text else Err (fault (first_fault places text))

-- an error that is known
known_error : (told : Result (List ℕ) WebFault) (e : WebFault) → IsErrAnd told (λ d. d ≡ e) → told ≡ Err e
known_error (Ok x) e is = absurd is
known_error (Err d) e is = ap Err is

-- what a reader of references gives, its error told as a fault
pub part_read_is : (places : ℕ) (fault : RefFault → WebFault) (text : List ℕ) (r : Result (List ℕ) RefFault) (told : Result (List ℕ) WebFault)
    → r ≡ reference_read places text → MatchResult r (λ x. told ≡ Ok x) (λ e. IsErrAnd told (λ d. d ≡ fault e)) → told ≡ part_read places fault text
part_read_is places fault text r told read is = by (is_reference_text places text) refl
  where
    by : (b : Bool) → is_reference_text places text ≡ b → told ≡ part_read places fault text
    by true e =
        let same : r ≡ Ok text = read ∙ rw e refl in
        rw e (rw same at is)
    by false e =
        let same : r ≡ Err (first_fault places text) = read ∙ rw e refl in
        rw e (known_error told (fault (first_fault places text)) (rw same at is))
