-- A reference tells the key of the row that it stands in.
use Rattle.std.proofs.Common.{◌%◌, ◌≡◌, ℕ, ◌+◌, ◌≤◌, Bool, true, false, List, [], ◌∷◌, length, flat_map, Some, refl, sym, ◌∙◌, ap, arith}
use Rattle.std.specs.Prelude.{◌==◌, unwrap_or, ◌&&◌}
use Rattle.std.specs.List.{AllByRecursion}
use Rattle.std.specs.Str.{bytes_eq}
use Rattle.std.proofs.lemmas.Bool.Decides.{nat_tests}
use Rattle.std.proofs.lemmas.Slice.Eq.{bytes_eq-Decides}
use Rattle.sqlite_trees.proofs.ListLemmas.{all_weaker, all_both, all-flat_map, all-map, all_from_map, all-permutation}
use Rattle.td_base.specs.Codes.{IsCountry}
use Rattle.td_base.specs.Days.{year_of}
use Rattle.td_base.specs.References.{owner_of, serial_of}
use Rattle.td_base.proofs.MadeReferences.{made_owner, made_serial_is, either_read_back}
use Rattle.td_guarantee.specs.declared.guarantee.Guarantee.{Guarantee}
use Rattle.td_movement.specs.declared.movement.Movement.{Movement}
use Rattle.td_model.specs.Account.{HolderRows}
use Rattle.td_model.specs.Sound.{AreHolderRows, IsGuaranteeRow, IsMovementRow}
use Rattle.td_model.specs.Content.{Content, IsSound}
use Rattle.td_table_model.specs.Tables.{Keyed, Tables, AreTablesOf, numbered, guarantee_row, movement_row, guarantees_in, movements_in}
use Rattle.td_table_model.specs.Looking.{TellKeys, MayBeAskedByKey}
use Rattle.td_table_model.proofs.Numbered.{all_numbered}

-- numbers are at most how many stand before and here
numbers_within : {X : Type 0} (n : ℕ) (xs : List X) → AllByRecursion (λ (p : ℕ × X). p.0 ≤ n + length xs) (numbered n xs)
numbers_within n [] = tt
numbers_within {X} n (x ∷ xs) = (omega arith, all_weaker (λ (p : ℕ × X). p.0 ≤ n + 1 + length xs) (λ (p : ℕ × X). p.0 ≤ n + length (x ∷ xs)) (λ p within. omega (arith, within)) (numbered (n + 1) xs) (numbers_within (n + 1) xs))

-- what the references of rows tell
abbrev IsToldIn : List ℕ → List ℕ → ℕ → ℕ → Type 0
IsToldIn country reference H n = (owner_of country reference ≡ Some H) × (serial_of country reference ≡ Some n)

guarantees_told : (country : List ℕ) (h : HolderRows) → IsCountry country → AreHolderRows country h → AllByRecursion (λ (g : Keyed Guarantee). IsToldIn country g.row.grn g.holder g.serial) (guarantees_in h)
guarantees_told country h form is =
    all-map (λ (g : Keyed Guarantee). IsToldIn country g.row.grn g.holder g.serial) (guarantee_row h.row.holder) (numbered 0 h.guarantees)
    (all_both (λ (p : ℕ × Guarantee). p.0 ≤ 0 + length h.guarantees) (λ (p : ℕ × Guarantee). IsGuaranteeRow country h.row.holder p.0 p.1) (λ (p : ℕ × Guarantee). IsToldIn country p.1.grn h.row.holder p.0)
    (λ p within g. (
      ap (owner_of country) g.grn.2 ∙ made_owner 6 g.grn.0 country h.row.holder p.0 form is.row.number,
      ap (serial_of country) g.grn.2 ∙ made_serial_is 6 g.grn.0 country h.row.holder p.0 form is.row.number (omega (arith, within, is.grn_count, is.grn_most)),
    ))
    (numbered 0 h.guarantees) (numbers_within 0 h.guarantees) (all_numbered (IsGuaranteeRow country h.row.holder) 0 h.guarantees is.guarantees))

movements_told : (country : List ℕ) (h : HolderRows) → IsCountry country → AreHolderRows country h → AllByRecursion (λ (m : Keyed Movement). IsToldIn country m.row.mrn m.holder m.serial) (movements_in h)
movements_told country h form is =
    all-map (λ (m : Keyed Movement). IsToldIn country m.row.mrn m.holder m.serial) (movement_row h.row.holder) (numbered 0 h.movements)
    (all_both (λ (p : ℕ × Movement). p.0 ≤ 0 + length h.movements) (λ (p : ℕ × Movement). IsMovementRow country h.row.holder h.guarantees p.0 p.1) (λ (p : ℕ × Movement). IsToldIn country p.1.mrn h.row.holder p.0)
    (λ p within m.
    let read = either_read_back (year_of p.1.accepted % 100) country h.row.holder p.0 p.1.mrn form is.row.number m.mrn in
    (read.owner, read.number))
    (numbered 0 h.movements) (numbers_within 0 h.movements) (all_numbered (IsMovementRow country h.row.holder h.guarantees) 0 h.movements is.movements))

-- the serials in the references of a holder's guarantees and movements are their places
pub grns_placed : (country : List ℕ) (h : HolderRows) → IsCountry country → AreHolderRows country h → AllByRecursion (λ (p : ℕ × Guarantee). serial_of country p.1.grn ≡ Some p.0) (numbered 0 h.guarantees)
grns_placed country h form is =
    all_weaker (λ (p : ℕ × Guarantee). IsToldIn country p.1.grn h.row.holder p.0) (λ (p : ℕ × Guarantee). serial_of country p.1.grn ≡ Some p.0) (λ p told. told.1) (numbered 0 h.guarantees)
    (all_from_map (λ (g : Keyed Guarantee). IsToldIn country g.row.grn g.holder g.serial) (guarantee_row h.row.holder) (numbered 0 h.guarantees) (guarantees_told country h form is))

pub mrns_placed : (country : List ℕ) (h : HolderRows) → IsCountry country → AreHolderRows country h → AllByRecursion (λ (p : ℕ × Movement). serial_of country p.1.mrn ≡ Some p.0) (numbered 0 h.movements)
mrns_placed country h form is =
    all_weaker (λ (p : ℕ × Movement). IsToldIn country p.1.mrn h.row.holder p.0) (λ (p : ℕ × Movement). serial_of country p.1.mrn ≡ Some p.0) (λ p told. told.1) (numbered 0 h.movements)
    (all_from_map (λ (m : Keyed Movement). IsToldIn country m.row.mrn m.holder m.serial) (movement_row h.row.holder) (numbered 0 h.movements) (movements_told country h form is))

-- of all rows of a table
pub tell_keys : (t : Tables) (c : Content) → IsSound c → AreTablesOf t c → TellKeys t
tell_keys t c sound are = record {
  grns = rw are.country (all-permutation (λ (g : Keyed Guarantee). IsToldIn c.country g.row.grn g.holder g.serial) (flat_map guarantees_in c.holders) t.guarantees are.guarantees
      (all-flat_map (λ (g : Keyed Guarantee). IsToldIn c.country g.row.grn g.holder g.serial) guarantees_in c.holders (all_weaker (AreHolderRows c.country) (λ h. AllByRecursion (λ (g : Keyed Guarantee). IsToldIn c.country g.row.grn g.holder g.serial) (guarantees_in h)) (λ h is. guarantees_told c.country h sound.country is) c.holders sound.holders)));
  mrns = rw are.country (all-permutation (λ (m : Keyed Movement). IsToldIn c.country m.row.mrn m.holder m.serial) (flat_map movements_in c.holders) t.movements are.movements
      (all-flat_map (λ (m : Keyed Movement). IsToldIn c.country m.row.mrn m.holder m.serial) movements_in c.holders (all_weaker (AreHolderRows c.country) (λ h. AllByRecursion (λ (m : Keyed Movement). IsToldIn c.country m.row.mrn m.holder m.serial) (movements_in h)) (λ h is. movements_told c.country h sound.country is) c.holders sound.holders)));
}

-- the same reference has the same serial
same_test : (country own asked : List ℕ) (n : ℕ) → serial_of country own ≡ Some n → bytes_eq own asked ≡ (n == unwrap_or (serial_of country asked) 0 && bytes_eq own asked)
same_test country own asked n is = by_test (bytes_eq own asked) refl
  where
    by_number : (b : Bool) → b ≡ true → true ≡ (b && true)
    by_number true is = refl
    by_number false is = cc

    fails : (b : Bool) → false ≡ (b && false)
    fails true = refl
    fails false = refl

    by_test : (b : Bool) → bytes_eq own asked ≡ b → b ≡ (n == unwrap_or (serial_of country asked) 0 && b)
    by_test true same =
        let e : unwrap_or (serial_of country asked) 0 ≡ n = ap (λ r. unwrap_or (serial_of country r) 0) (sym ((bytes_eq-Decides own asked).0 same)) ∙ ap (λ o. unwrap_or o 0) is in
        by_number (n == unwrap_or (serial_of country asked) 0) (grind (arith, nat_tests, e))
    by_test false other = fails (n == unwrap_or (serial_of country asked) 0)

pub may_be_asked : (t : Tables) → TellKeys t → MayBeAskedByKey t
may_be_asked t tell = record {
  grns = λ grn. all_weaker (λ (g : Keyed Guarantee). IsToldIn t.country g.row.grn g.holder g.serial) (λ (g : Keyed Guarantee). bytes_eq g.row.grn grn ≡ (g.serial == unwrap_or (serial_of t.country grn) 0 && bytes_eq g.row.grn grn)) (λ g told. same_test t.country g.row.grn grn g.serial told.1) t.guarantees tell.grns;
  mrns = λ mrn. all_weaker (λ (m : Keyed Movement). IsToldIn t.country m.row.mrn m.holder m.serial) (λ (m : Keyed Movement). bytes_eq m.row.mrn mrn ≡ (m.serial == unwrap_or (serial_of t.country mrn) 0 && bytes_eq m.row.mrn mrn)) (λ m told. same_test t.country m.row.mrn mrn m.serial told.1) t.movements tell.mrns;
}

pub references_tell : (t : Tables) (c : Content) → IsSound c → AreTablesOf t c → TellKeys t × MayBeAskedByKey t
references_tell t c sound are = let tell = tell_keys t c sound are in (tell, may_be_asked t tell)
