-- In sound rows a movement is found by its MRN in one form alone.
use Rattle.std.proofs.Common.{◌≡◌, ◌≢◌, ℕ, ◌+◌, ◌≤◌, Bool, true, false, List, [], ◌∷◌, Option, Some, None, refl, ap, sym, ◌∙◌, arith}
use Rattle.std.specs.Prelude.{IsSome, if◌then◌else◌}
use Rattle.std.specs.Option.{is_some}
use Rattle.std.specs.Str.{bytes_eq}
use Rattle.std.proofs.lemmas.Bool.{false≢true}
use Rattle.std.proofs.lemmas.Slice.Eq.{bytes_eq-Decides}
use Rattle.td_base.specs.Codes.{IsCountry, IsHolderNumber}
use Rattle.td_base.specs.References.{mrn_text, older_mrn_text, serial_of}
use Rattle.td_base.proofs.MadeReferences.{made_either, made_serial_is, lettered_serial_is}
use Rattle.td_guarantee.specs.declared.guarantee.Guarantee.{Guarantee}
use Rattle.td_movement.specs.declared.movement.Movement.{Movement}
use Rattle.td_model.specs.Account.{movement_by_mrn}
use Rattle.td_model.specs.Sound.{AllNumbered, IsMovementRow}
use Rattle.td_acts.specs.Laws.{OtherFormNamesNothing}
use Rattle.td_model.proofs.Differing.{numbered_mrn}

module _ (country : List ℕ) (H : ℕ) (gs : List Guarantee) (form : IsCountry country) (number : IsHolderNumber H) where
  -- a movement of this number has an MRN of this serial alone
  serial_here : (n serial : ℕ) (m : Movement) (text : List ℕ) → IsMovementRow country H gs n m → serial_of country text ≡ Some serial → bytes_eq m.mrn text ≡ true → n ≡ serial
  serial_here n serial m text is of same =
      let key : m.mrn ≡ text = (bytes_eq-Decides m.mrn text).0 same in
      let all : Some n ≡ Some serial = sym (numbered_mrn country H gs n m form number is) ∙ ap (serial_of country) key ∙ of in
      cc

  -- movements of greater numbers aren't found by a text of this serial
  none_behind : (n serial : ℕ) (text : List ℕ) (ms : List Movement) → serial ≤ n → serial_of country text ≡ Some serial → AllNumbered (IsMovementRow country H gs) n ms → movement_by_mrn text ms ≡ None
  none_behind n serial text [] less of all = refl
  none_behind n serial text (m ∷ ms) less of all = by_test (bytes_eq m.mrn text) refl (none_behind (n + 1) serial text ms (omega (arith, less)) of all.1)
    where
      by_test : (b : Bool) → bytes_eq m.mrn text ≡ b → movement_by_mrn text ms ≡ None → if◌then◌else◌ {A = Option Movement} b (Some m) (movement_by_mrn text ms) ≡ None
      by_test true same later = absurd (omega (arith, less, serial_here (n + 1) serial m text all.0 of same))
      by_test false other later = later

  -- where one text of a serial is a movement's, no other text of it is
  other_text : (n serial : ℕ) (text other : List ℕ) (ms : List Movement) → serial_of country text ≡ Some serial → serial_of country other ≡ Some serial → text ≢ other → AllNumbered (IsMovementRow country H gs) n ms
      → IsSome (movement_by_mrn text ms) → movement_by_mrn other ms ≡ None
  other_text n serial text other [] of of' differ all found = refl
  other_text n serial text other (m ∷ ms) of of' differ all found =
      by_tests (bytes_eq m.mrn text) (bytes_eq m.mrn other) refl refl found (other_text (n + 1) serial text other ms of of' differ all.1)
    where
      by_tests : (b b' : Bool) → bytes_eq m.mrn text ≡ b → bytes_eq m.mrn other ≡ b' → IsSome (if◌then◌else◌ {A = Option Movement} b (Some m) (movement_by_mrn text ms))
          → (IsSome (movement_by_mrn text ms) → movement_by_mrn other ms ≡ None) → if◌then◌else◌ {A = Option Movement} b' (Some m) (movement_by_mrn other ms) ≡ None
      by_tests true true same same' found later = absurd (differ (sym ((bytes_eq-Decides m.mrn text).0 same) ∙ (bytes_eq-Decides m.mrn other).0 same'))
      by_tests true false same other' found later = none_behind (n + 1) serial other ms (omega (arith, serial_here (n + 1) serial m text all.0 of same)) of' all.1
      by_tests false true other' same found later =
          absurd (false≢true (sym (ap is_some (none_behind (n + 1) serial text ms (omega (arith, serial_here (n + 1) serial m other all.0 of' same)) of all.1)) ∙ found))
      by_tests false false a b found later = later found

pub other_form_names_nothing : OtherFormNamesNothing
other_form_names_nothing country h year older_year serial form sound fits =
    let number = sound.row.number in
    let new = lettered_serial_is year country h.row.holder serial form number (omega (arith, fits)) in
    let older = made_serial_is 7 older_year country h.row.holder serial form number (omega (arith, fits)) in
    let differ = made_either year older_year country country h.row.holder h.row.holder serial serial form form in (
      other_text country h.row.holder h.guarantees form number 0 serial (mrn_text year country h.row.holder serial) (older_mrn_text older_year country h.row.holder serial) h.movements new older differ sound.movements,
      other_text country h.row.holder h.guarantees form number 0 serial (older_mrn_text older_year country h.row.holder serial) (mrn_text year country h.row.holder serial) h.movements older new (λ e. differ (sym e)) sound.movements,
    )
