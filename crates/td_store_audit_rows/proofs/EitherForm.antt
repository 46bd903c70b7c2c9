-- An MRN that is compared with those that are made of its parts, in either form.
use Rattle.std.proofs.Common.{◌≡◌, ◌≤◌, ◌%◌, ◌∙◌, ◌↔◌, ℕ, List, Option, Some, None, SomeIff, true, false, arith, ap, sym, inl, inr}
use Rattle.std.proofs.lemmas.Bool.{false≢true}
use Rattle.std.proofs.lemmas.Slice.Eq.{bytes_eq-Decides}
use Rattle.std.specs.Option.{option_eq}
use Rattle.std.specs.Str.{bytes_eq}
use Rattle.td_base.specs.Days.{year_of}
use Rattle.td_base.specs.References.{IsMrnSerial, IsMrnTextOf, IsOlderMrnSerial, mrn_text, older_mrn_text}

-- a text is one that is made where it is made and they are equal
matched : (r : Option (List ℕ)) (P : Type 0) (v text : List ℕ) → SomeIff r P v → (option_eq bytes_eq r (Some text) ≡ true) ↔ (P × (text ≡ v))
matched None P v text h = (λ t. absurd (false≢true t), λ k. absurd (h k.0))
matched (Some x) P v text h = (λ t. (h.0, sym ((bytes_eq-Decides x text).0 t) ∙ h.1), λ k. (bytes_eq-Decides x text).1 (h.1 ∙ sym k.1))

-- a text that isn't the MRN with the letter is the MRN of its parts where it is that of the older form
pub in_the_older_form : (r s : Option (List ℕ)) (y day : ℕ) (country : List ℕ) (H n : ℕ) (text : List ℕ) → y ≡ year_of day % 100
    → SomeIff r ((y ≤ 99) × IsMrnSerial n) (mrn_text y country H n) → SomeIff s ((y ≤ 99) × IsOlderMrnSerial n) (older_mrn_text y country H n)
    → option_eq bytes_eq r (Some text) ≡ false
    → (option_eq bytes_eq s (Some text) ≡ true) ↔ IsMrnTextOf (year_of day % 100) country H n text
in_the_older_form r s y day country H n text year new older other = (λ t. is_older (older_is.0 t), made)
  where
    new_is : (option_eq bytes_eq r (Some text) ≡ true) ↔ (((y ≤ 99) × IsMrnSerial n) × (text ≡ mrn_text y country H n))
    new_is = matched r ((y ≤ 99) × IsMrnSerial n) (mrn_text y country H n) text new

    older_is : (option_eq bytes_eq s (Some text) ≡ true) ↔ (((y ≤ 99) × IsOlderMrnSerial n) × (text ≡ older_mrn_text y country H n))
    older_is = matched s ((y ≤ 99) × IsOlderMrnSerial n) (older_mrn_text y country H n) text older

    is_older : ((y ≤ 99) × IsOlderMrnSerial n) × (text ≡ older_mrn_text y country H n) → IsMrnTextOf (year_of day % 100) country H n text
    is_older it = inr (it.0.1, it.1 ∙ ap (λ z. older_mrn_text z country H n) year)

    made : IsMrnTextOf (year_of day % 100) country H n text → option_eq bytes_eq s (Some text) ≡ true
    made (inl it) = absurd (false≢true (sym other ∙ new_is.1 ((omega (arith, year), it.0), it.1 ∙ sym (ap (λ z. mrn_text z country H n) year))))
    made (inr it) = older_is.1 ((omega (arith, year), it.0), it.1 ∙ sym (ap (λ z. older_mrn_text z country H n) year))
