-- One holder's rows that keep the rules of sound tables, given by their serials or numbers. What stands in each column is
-- what its field's type says; these are the rules beyond that.
use Rattle.std.specs.Prelude.{◌≡◌, ℕ, ◌+◌, ◌≤◌, List, length}
use Rattle.std.specs.List.{AllByRecursion}
use Rattle.td_base.specs.References.{greatest_grn_serial, greatest_older_mrn_serial}
use Rattle.td_guarantee.specs.declared.guarantee.Guarantee.{Guarantee}
use Rattle.td_movement.specs.declared.movement.Movement.{Movement}
use Rattle.td_movement.specs.Status.{HasDaysOf}
use Rattle.td_commands.specs.Lines.{IsLineAmount}
use Rattle.td_table_model.specs.Gathering.{IsApart, IsNumbered, no_of, place}
use Rattle.td_table_model.specs.Rules.{named_by}
use Rattle.td_table_model.specs.Tables.{Keyed, LineCells}
use Rattle.td_movement.specs.Lines.{most_lines}
use Rattle.td_model.specs.Sound.{IsMrnOf, IsGrnOf}

-- a guarantee has a GRN of the country, its holder and its serial, and a reference amount above nothing
pub record IsGuaranteeInPlace (country : List ℕ) (g : Keyed Guarantee) : Type 0 where
  pub grn : IsGrnOf country g.holder g.serial g.row
  pub reference : 1 ≤ g.row.reference

-- a movement has the MRN of the year of its acceptance, the country, its holder and its serial, in either form, and the
-- days and the office of its state
pub record IsMovementInPlace (country : List ℕ) (m : Keyed Movement) : Type 0 where
  pub mrn : IsMrnOf country m.holder m.serial m.row
  pub days : HasDaysOf m.row.state m.row

-- a line is on one of so many guarantees, and its amount is in range
pub record IsLineInPlace (guarantees : ℕ) (l : Keyed LineCells) : Type 0 where
  pub first : 1 ≤ named_by l
  pub last : named_by l ≤ guarantees
  pub amount : IsLineAmount l.row.cents

-- rows of a holder from the one after a serial on up to another, which is at most the greatest that may stand: none is left out, and
-- each is in its place
pub record AreNext {R : Type 0} (IsPlaced : Keyed R → Type 0) (greatest before last : ℕ) (rows : List (Keyed R)) : Type 0 where
  pub serials : IsNumbered place before rows
  pub count : last ≡ before + length rows
  pub most : last ≤ greatest
  pub each : AllByRecursion IsPlaced rows

abbrev pub AreNextGuarantees : List ℕ → ℕ → ℕ → List (Keyed Guarantee) → Type 0
AreNextGuarantees country = AreNext (IsGuaranteeInPlace country) greatest_grn_serial

abbrev pub AreNextMovements : List ℕ → ℕ → ℕ → List (Keyed Movement) → Type 0
AreNextMovements country = AreNext (IsMovementInPlace country) greatest_older_mrn_serial

-- all guarantees of a holder, of which the holder's row counts so many; all movements
abbrev pub AreGuaranteesInPlace : List ℕ → ℕ → List (Keyed Guarantee) → Type 0
AreGuaranteesInPlace country = AreNextGuarantees country 0

abbrev pub AreMovementsInPlace : List ℕ → ℕ → List (Keyed Movement) → Type 0
AreMovementsInPlace country = AreNextMovements country 0

-- the lines of a movement of a holder who has so many guarantees: 1 to 99, no two on one guarantee
pub record AreLinesInPlace (guarantees : ℕ) (rows : List (Keyed LineCells)) : Type 0 where
  pub numbers : IsNumbered no_of 0 rows
  pub some : 1 ≤ length rows
  pub most : length rows ≤ most_lines
  pub each : AllByRecursion (IsLineInPlace guarantees) rows
  pub apart : IsApart named_by rows

-- each row has one of the serials from 1 to this
abbrev pub BelongTo : {R : Type 0} → ℕ → List (Keyed R) → Type 0
BelongTo last rows = AllByRecursion (λ r. (1 ≤ place r) × (place r ≤ last)) rows
