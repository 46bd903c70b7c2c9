-- The rules that one holder's rows keep.
use Rattle.std.specs.Prelude.{◌≡◌, ◌≢◌, ℕ, ◌+◌, ◌%◌, ◌≤◌, List, [], ◌∷◌, length, All, AllPairs, IfSome, IsSome}
use Rattle.std.specs.List.{AllByRecursion}
use Rattle.td_base.specs.Codes.{IsAccessCode, IsLrn, IsOfficeNo, IsEori, IsHolderNumber}
use Rattle.td_base.specs.Days.{IsDay, year_of, IsMoment}
use Rattle.td_base.specs.Money.{IsReference, IsCover}
use Rattle.td_base.specs.References.{grn_text, IsMrnTextOf, greatest_grn_serial, greatest_older_mrn_serial}
use Rattle.td_movement.specs.declared.line.Line.{Line}
use Rattle.td_movement.specs.Status.{IsStatus}
use Rattle.td_guarantee.specs.Codes.{AreAscending, most_codes}
use Rattle.td_guarantee.specs.Usage.{used_on}
use Rattle.td_model.specs.declared.holder_row.HolderRow.{HolderRow}
use Rattle.td_guarantee.specs.declared.guarantee.Guarantee.{Guarantee}
use Rattle.td_movement.specs.declared.movement.Movement.{Movement}
use Rattle.td_model.specs.Account.{HolderRows, guarantee_by_grn}
use Rattle.td_commands.specs.Lines.{IsLineAmount}
use Rattle.td_movement.specs.Lines.{most_lines}

-- the columns of a holder's row are in their ranges
pub record IsHolderRow (row : HolderRow) : Type 0 where
  pub number : IsHolderNumber row.holder
  pub eori : IsEori row.eori
  pub last_at : IsMoment row.last_at

-- a guarantee has 1 to 20 access codes, in ascending order of their characters and no two alike
pub record AreCodes (codes : List (List ℕ)) : Type 0 where
  pub some : 1 ≤ length codes
  pub most : length codes ≤ most_codes
  pub form : All IsAccessCode codes
  pub order : AreAscending codes

-- the GRN of guarantee n of a holder: it was made of the desk's country, the holder and this serial, in some year
abbrev pub IsGrnOf : List ℕ → ℕ → ℕ → Guarantee → Type 0
IsGrnOf country H n g = (year : ℕ) × (year ≤ 99) × (g.grn ≡ grn_text year country H n)

-- the MRN of movement n of a holder: it was made of the year of its acceptance, the desk's country, the holder and this serial,
-- in either form
abbrev pub IsMrnOf : List ℕ → ℕ → ℕ → Movement → Type 0
IsMrnOf country H n m = IsMrnTextOf (year_of m.accepted % 100) country H n m.mrn

-- guarantee n of a holder
pub record IsGuaranteeRow (country : List ℕ) (H n : ℕ) (g : Guarantee) : Type 0 where
  pub grn : IsGrnOf country H n g
  pub reference : IsReference g.reference
  pub cover : IsCover g.cover
  pub ends : IfSome g.ends IsDay
  pub codes : AreCodes g.codes

-- the lines of a movement: 1 to 99, each on a guarantee of the holder's own, no two on one, with amounts in
-- range
pub record AreMovementLines (guarantees : List Guarantee) (lines : List Line) : Type 0 where
  pub some : 1 ≤ length lines
  pub most : length lines ≤ most_lines
  pub amounts : All (λ l. IsLineAmount l.cents) lines
  pub distinct : AllPairs (λ l m. l.grn ≢ m.grn) lines
  pub own : AllByRecursion (λ l. IsSome (guarantee_by_grn l.grn guarantees)) lines

-- movement n of a holder: it has the days and offices of its state
pub record IsMovementRow (country : List ℕ) (H : ℕ) (guarantees : List Guarantee) (n : ℕ)
    (m : Movement) : Type 0 where
  pub mrn : IsMrnOf country H n m
  pub lrn : IsLrn m.lrn
  pub departure : IsOfficeNo m.departure
  pub destination : IsOfficeNo m.destination
  pub accepted : IsDay m.accepted
  pub status : IsStatus m
  pub lines : AreMovementLines guarantees m.lines

-- the amount in use is at most the reference amount
abbrev pub IsCovered : List Movement → Guarantee → Type 0
IsCovered movements g = used_on g.grn movements ≤ g.reference

-- what holds of each row and its number, where n rows stand before
abbrev pub AllNumbered : {R : Type 0} → (ℕ → R → Type 0) → ℕ → List R → Type 0
AllNumbered P n [] = Unit {0}
AllNumbered P n (r ∷ rows) = P (n + 1) r × AllNumbered P (n + 1) rows

-- A holder's rows keep their rules: serials begin at 1 and none is left out, no two movements have one LRN,
-- and the amount in use on each guarantee is at most its reference amount.
pub record AreHolderRows (country : List ℕ) (h : HolderRows) : Type 0 where
  pub row : IsHolderRow h.row
  pub guarantees : AllNumbered (IsGuaranteeRow country h.row.holder) 0 h.guarantees
  pub grn_count : h.row.grn_count ≡ length h.guarantees
  pub grn_most : h.row.grn_count ≤ greatest_grn_serial
  pub movements : AllNumbered (IsMovementRow country h.row.holder h.guarantees) 0 h.movements
  pub mrn_count : h.row.mrn_count ≡ length h.movements
  pub mrn_most : h.row.mrn_count ≤ greatest_older_mrn_serial
  pub lrns : AllPairs (λ a b. a.lrn ≢ b.lrn) h.movements
  pub cover : AllByRecursion (IsCovered h.movements) h.guarantees
