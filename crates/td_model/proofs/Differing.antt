-- In sound rows no two references of a holder are alike.
use Rattle.std.proofs.Common.{◌≡◌, ◌≢◌, ℕ, zero, suc, ◌+◌, ◌<◌, ◌≤◌, ◌%◌, List, [], ◌∷◌, length, get_or, Option, Some, None, ap, sym, ◌∙◌, subst, arith}
use Rattle.std.specs.Prelude.{AllPairs, IfSome}
use Rattle.td_base.specs.Codes.{IsCountry, IsHolderNumber}
use Rattle.td_base.specs.Days.{year_of}
use Rattle.td_base.proofs.MadeReferences.{made_apart, either_read_back}
use Rattle.td_guarantee.specs.declared.guarantee.Guarantee.{Guarantee}
use Rattle.td_movement.specs.declared.movement.Movement.{Movement}
use Rattle.td_model.specs.Account.{HolderRows, account_with, ReferencesDiffer}
use Rattle.td_model.specs.Sound.{AllNumbered, IsGuaranteeRow, IsMovementRow, AreHolderRows}
use Rattle.td_base.specs.References.{greatest_grn_serial, serial_of}

-- the row at a place has the number of the place
numbered_at : {R : Type 0} (P : ℕ → R → Type 0) (n : ℕ) (rows : List R) (k : ℕ) (d : R) → k < length rows → AllNumbered P n rows → P (n + k + 1) (get_or rows k d)
numbered_at P n [] k d within all = absurd (omega (arith, within))
numbered_at P n (r ∷ rows) zero d within all = subst (λ m. P m r) (omega arith) all.0
numbered_at P n (r ∷ rows) (suc k) d within all = subst (λ m. P m (get_or rows k d)) (omega arith) (numbered_at P (n + 1) rows k d (omega (arith, within)) all.1)

grns_differ : (country : List ℕ) (H : ℕ) (gs : List Guarantee) → IsCountry country → IsHolderNumber H → length gs ≤ greatest_grn_serial → AllNumbered (IsGuaranteeRow country H) 0 gs → AllPairs (λ a b. a.grn ≢ b.grn) gs
grns_differ country H gs form number most all = λ j k d less within same.
    let first = numbered_at (IsGuaranteeRow country H) 0 gs j d (omega (arith, less, within)) all in
    let second = numbered_at (IsGuaranteeRow country H) 0 gs k d within all in
    let apart = made_apart 6 first.grn.0 second.grn.0 country country H H (0 + j + 1) (0 + k + 1) form form number number (omega (arith, less, within, most)) (omega (arith, within, most)) (sym first.grn.2 ∙ same ∙ second.grn.2) in
    absurd (omega (arith, apart.1, less))

-- the serial of a movement's MRN is the movement's number
pub numbered_mrn : (country : List ℕ) (H : ℕ) (gs : List Guarantee) (n : ℕ) (m : Movement) → IsCountry country → IsHolderNumber H → IsMovementRow country H gs n m → serial_of country m.mrn ≡ Some n
numbered_mrn country H gs n m form number is = (either_read_back (year_of m.accepted % 100) country H n m.mrn form number is.mrn).number

mrns_differ : (country : List ℕ) (H : ℕ) (gs : List Guarantee) (ms : List Movement) → IsCountry country → IsHolderNumber H → AllNumbered (IsMovementRow country H gs) 0 ms → AllPairs (λ a b. a.mrn ≢ b.mrn) ms
mrns_differ country H gs ms form number all = λ j k d less within same.
    let first = numbered_mrn country H gs (0 + j + 1) (get_or ms j d) form number (numbered_at (IsMovementRow country H gs) 0 ms j d (omega (arith, less, within)) all) in
    let second = numbered_mrn country H gs (0 + k + 1) (get_or ms k d) form number (numbered_at (IsMovementRow country H gs) 0 ms k d within all) in
    let apart : Some (0 + j + 1) ≡ Some (0 + k + 1) = sym first ∙ ap (serial_of country) same ∙ second in
    let equal : 0 + j + 1 ≡ 0 + k + 1 = cc in
    absurd (omega (arith, equal, less))

pub differ_with : (country : List ℕ) (o : Option HolderRows) → IsCountry country → IfSome o (AreHolderRows country) → ReferencesDiffer (account_with country o)
differ_with country None form rules = record { grns = λ j k d less within. absurd (omega (arith, within)); mrns = λ j k d less within. absurd (omega (arith, within)) }
differ_with country (Some h) form rules = record {
  grns = grns_differ country h.row.holder h.guarantees form rules.row.number (omega (arith, rules.grn_count, rules.grn_most)) rules.guarantees;
  mrns = mrns_differ country h.row.holder h.guarantees h.movements form rules.row.number rules.movements;
}
