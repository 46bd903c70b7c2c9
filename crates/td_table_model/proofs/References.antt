-- A guarantee is found by its serial as it is found by its GRN.
use Rattle.std.proofs.Common.{◌≡◌, ℕ, ◌+◌, ◌<◌, ◌≤◌, Bool, true, false, cond, List, [], ◌∷◌, length, map, Some, IsSome, refl, sym, ◌∙◌, ap, subst, arith}
use Rattle.std.specs.Prelude.{◌==◌, unwrap_or}
use Rattle.std.specs.Option.{option_map_or}
use Rattle.std.specs.Str.{bytes_eq}
use Rattle.std.proofs.lemmas.Bool.Decides.{nat_tests}
use Rattle.std.proofs.lemmas.Slice.Eq.{bytes_eq-Decides}
use Rattle.keyed_rows.specs.Rows.{row_at}
use Rattle.td_base.specs.Codes.{IsCountry, IsHolderNumber}
use Rattle.td_base.specs.References.{serial_of, greatest_grn_serial}
use Rattle.td_base.proofs.MadeReferences.{made_serial_is}
use Rattle.td_guarantee.specs.declared.guarantee.Guarantee.{Guarantee}
use Rattle.td_model.specs.Account.{guarantee_by_grn}
use Rattle.td_model.specs.Sound.{AllNumbered, IsGuaranteeRow}
use Rattle.td_table_model.specs.Tables.{Keyed, numbered, guarantee_row, guarantee_no}
use Rattle.td_table_model.specs.Gathering.{place}

-- the GRN of the row of a serial
abbrev pub grn_at : ℕ → List (Keyed Guarantee) → List ℕ
grn_at n rows = option_map_or (λ (r : Keyed Guarantee). r.row.grn) (row_at place n rows) []

-- the serial of a guarantee's GRN is its own
pub serial_of_row : (country : List ℕ) (H n : ℕ) (g : Guarantee) → IsCountry country → IsHolderNumber H → n ≤ greatest_grn_serial → IsGuaranteeRow country H n g → serial_of country g.grn ≡ Some n
serial_of_row country H n g form number most is = ap (serial_of country) is.grn.2 ∙ made_serial_is 6 is.grn.0 country H n form number (omega (arith, most))

-- a GRN that is found, among guarantees before which n stand, has the serial under which its row stands
pub record IsPlaceOf (country : List ℕ) (H n : ℕ) (gs : List Guarantee) (grn : List ℕ) : Type 0 where
  pub serial : ℕ
  pub is : serial_of country grn ≡ Some serial
  pub above : n < serial
  pub there : grn_at serial (map (guarantee_row H) (numbered n gs)) ≡ grn
  pub some : IsSome (row_at place serial (map (guarantee_row H) (numbered n gs)))

pub place_of : (country : List ℕ) (H n : ℕ) (gs : List Guarantee) (grn : List ℕ) → IsCountry country → IsHolderNumber H → n + length gs ≤ greatest_grn_serial → AllNumbered (IsGuaranteeRow country H) n gs
    → IsSome (guarantee_by_grn grn gs) → IsPlaceOf country H n gs grn
place_of country H n [] grn form number most all some = cc
place_of country H n (g ∷ gs) grn form number most all some =
    by_test (bytes_eq g.grn grn) refl some (place_of country H (n + 1) gs grn form number (omega (arith, most)) all.1)
  where
    here : (b : Bool) → b ≡ true → option_map_or (λ (r : Keyed Guarantee). r.row.grn) (cond b (Some (guarantee_row H (n + 1, g))) (row_at place (n + 1) (map (guarantee_row H) (numbered (n + 1) gs)))) [] ≡ g.grn
    here true is = refl
    here false is = cc

    later : (m : ℕ) (b : Bool) → (n + 1 == m) ≡ b → n + 1 < m → option_map_or (λ (r : Keyed Guarantee). r.row.grn) (cond b (Some (guarantee_row H (n + 1, g))) (row_at place m (map (guarantee_row H) (numbered (n + 1) gs)))) [] ≡ grn_at m (map (guarantee_row H) (numbered (n + 1) gs))
    later m true same above = absurd (grind (arith, nat_tests, same, above))
    later m false other above = refl

    some_here : (b : Bool) → b ≡ true → IsSome (cond b (Some (guarantee_row H (n + 1, g))) (row_at place (n + 1) (map (guarantee_row H) (numbered (n + 1) gs))))
    some_here true is = refl
    some_here false is = cc

    some_later : (m : ℕ) (b : Bool) → IsSome (row_at place m (map (guarantee_row H) (numbered (n + 1) gs))) → IsSome (cond b (Some (guarantee_row H (n + 1, g))) (row_at place m (map (guarantee_row H) (numbered (n + 1) gs))))
    some_later m true some = refl
    some_later m false some = some

    by_test : (b : Bool) → bytes_eq g.grn grn ≡ b → IsSome (cond b (Some g) (guarantee_by_grn grn gs)) → (IsSome (guarantee_by_grn grn gs) → IsPlaceOf country H (n + 1) gs grn) → IsPlaceOf country H n (g ∷ gs) grn
    by_test true is some behind =
        let same : g.grn ≡ grn = (bytes_eq-Decides g.grn grn).0 is in
        record {
          serial = n + 1;
          is = ap (serial_of country) (sym same) ∙ serial_of_row country H (n + 1) g form number (omega (arith, most)) all.0;
          above = omega arith;
          there = here (n + 1 == n + 1) (grind (arith, nat_tests)) ∙ same;
          some = some_here (n + 1 == n + 1) (grind (arith, nat_tests));
        }
    by_test false other some behind =
        let p = behind some in
        record {
          serial = p.serial;
          is = p.is;
          above = omega (arith, p.above);
          there = later p.serial (n + 1 == p.serial) refl p.above ∙ p.there;
          some = some_later p.serial (n + 1 == p.serial) p.some;
        }

-- so the serial of a line's GRN leads back to the GRN
pub grn_back : (country : List ℕ) (H : ℕ) (gs : List Guarantee) (grn : List ℕ) → IsCountry country → IsHolderNumber H → length gs ≤ greatest_grn_serial → AllNumbered (IsGuaranteeRow country H) 0 gs
    → IsSome (guarantee_by_grn grn gs) → grn_at (guarantee_no country grn) (map (guarantee_row H) (numbered 0 gs)) ≡ grn
grn_back country H gs grn form number most all some =
    let p = place_of country H 0 gs grn form number (omega (arith, most)) all some in
    ap (λ o. grn_at (unwrap_or o 0) (map (guarantee_row H) (numbered 0 gs))) p.is ∙ p.there

-- and to its row
pub row_of_grn : (country : List ℕ) (H : ℕ) (gs : List Guarantee) (grn : List ℕ) → IsCountry country → IsHolderNumber H → length gs ≤ greatest_grn_serial → AllNumbered (IsGuaranteeRow country H) 0 gs
    → IsSome (guarantee_by_grn grn gs) → IsSome (row_at place (guarantee_no country grn) (map (guarantee_row H) (numbered 0 gs)))
row_of_grn country H gs grn form number most all some =
    let p = place_of country H 0 gs grn form number (omega (arith, most)) all some in
    subst (λ o. IsSome (row_at place (unwrap_or o 0) (map (guarantee_row H) (numbered 0 gs)))) (sym p.is) p.some
