-- The rules of sound tables, beside what the database itself keeps: S1 of the country, S2 to S8 each of one
-- holder's rows. S7 is of tables that keep the amounts in use; it asks nothing of others.
-- The rules one by one, and which of them tables break first.
use Rattle.std.specs.Prelude.{◌≡◌, ℕ, ◌≤◌, List, length, IfSome, IsSome, ◌↔◌, ◌<◌, codes}
use Rattle.std.specs.List.{AllByRecursion}
use Rattle.keyed_rows.specs.Rows.{row_at}
use Rattle.td_base.specs.Codes.{IsAccessCode, IsLrn, IsOfficeNo, IsCountry, IsEori}
use Rattle.td_base.specs.Days.{IsDay, IsMoment}
use Rattle.td_base.specs.Money.{IsReference, IsCover}
use Rattle.td_base.specs.References.{greatest_grn_serial, greatest_older_mrn_serial}
use Rattle.td_guarantee.specs.declared.guarantee.Guarantee.{Guarantee}
use Rattle.td_guarantee.specs.Usage.{used_on}
use Rattle.td_movement.specs.declared.movement.Movement.{Movement}
use Rattle.td_movement.specs.Status.{IsStatus}
use Rattle.td_commands.specs.Lines.{IsLineAmount}
use Rattle.td_model.specs.declared.holder_row.HolderRow.{HolderRow}
use Rattle.td_model.specs.Sound.{IsCovered, IsMrnOf, IsGrnOf}
use Rattle.td_table_model.specs.Tables.{Keyed, Kept, LineCells, Tables, KeepAmounts}
use Rattle.td_table_model.specs.Gathering.{IsApart, IsNumbered, gathered, guarantees_by, lines_by, movements_by, no_of, of_key, part, place}
use Rattle.td_table_model.specs.Stored.{AreStored}
use Rattle.td_guarantee.specs.Codes.{most_codes}
use Rattle.td_movement.specs.Lines.{most_lines}
use Rattle.td_table_model.specs.declared.rule.Rule.{Rule}
use Rattle.td_table_model.specs.declared.rule.Rule.TheVariants.{S1, S2, S3, S4, S5, S6, S7, S8}

-- S1: the country is two capital letters
abbrev pub HasCountry : Tables → Type 0
HasCountry t = IsCountry t.country

-- S2: the EORI is well formed, and the moment of the last change is in range
pub record IsHolderInRange (row : HolderRow) : Type 0 where
  pub eori : IsEori row.eori
  pub last_at : IsMoment row.last_at

-- the columns of a guarantee: the GRN of this guarantee of the holder, and the rest in range
pub record IsGuaranteeInRange (country : List ℕ) (g : Keyed Guarantee) : Type 0 where
  pub grn : IsGrnOf country g.holder g.serial g.row
  pub reference : IsReference g.row.reference
  pub cover : IsCover g.row.cover
  pub ends : IfSome g.row.ends IsDay

-- S3: the serials of the holder's guarantees are 1 to the count in the holder's row, none left out, and six
-- digits hold them; their columns are in range
pub record HasGuarantees (t : Tables) (row : HolderRow) : Type 0 where
  pub serials : IsNumbered place 0 (guarantees_by row.holder t)
  pub count : row.grn_count ≡ length (guarantees_by row.holder t)
  pub most : row.grn_count ≤ greatest_grn_serial
  pub columns : AllByRecursion (IsGuaranteeInRange t.country) (guarantees_by row.holder t)

-- how many codes a guarantee has
abbrev pub count_of_codes : Tables → Keyed Guarantee → ℕ
count_of_codes t g = length (of_key place g.serial (part g.holder t.codes))

-- S4: each of the holder's codes names a guarantee and is well formed, and each guarantee has 1 to 20
pub record HasCodes (t : Tables) (row : HolderRow) : Type 0 where
  pub name : AllByRecursion (λ c. IsSome (row_at place (place c) (guarantees_by row.holder t)))
      (part row.holder t.codes)
  pub form : AllByRecursion (λ (c : Keyed (List ℕ)). IsAccessCode c.row) (part row.holder t.codes)
  pub some : AllByRecursion (λ g. 1 ≤ count_of_codes t g) (guarantees_by row.holder t)
  pub most : AllByRecursion (λ g. count_of_codes t g ≤ most_codes) (guarantees_by row.holder t)

-- the columns of a movement: the MRN of this movement of the holder, the rest in range, and the days and offices of its state
pub record IsMovementInRange (country : List ℕ) (m : Keyed Movement) : Type 0 where
  pub mrn : IsMrnOf country m.holder m.serial m.row
  pub lrn : IsLrn m.row.lrn
  pub departure : IsOfficeNo m.row.departure
  pub destination : IsOfficeNo m.row.destination
  pub accepted : IsDay m.row.accepted
  pub status : IsStatus m.row

-- S5: the serials of the holder's movements are 1 to the count in the holder's row, none left out, and seven
-- digits hold them; their columns are in range
pub record HasMovements (t : Tables) (row : HolderRow) : Type 0 where
  pub serials : IsNumbered place 0 (movements_by row.holder t)
  pub count : row.mrn_count ≡ length (movements_by row.holder t)
  pub most : row.mrn_count ≤ greatest_older_mrn_serial
  pub columns : AllByRecursion (IsMovementInRange t.country) (movements_by row.holder t)

-- the serial of the guarantee that a line names
abbrev pub named_by : Keyed LineCells → ℕ
named_by l = l.row.guarantee

-- the lines of a movement: numbered from 1 to at most 99, each on a guarantee of the holder's, no two on one,
-- with amounts in range
pub record AreLinesInRange (t : Tables) (m : Keyed Movement) : Type 0 where
  pub numbers : IsNumbered no_of 0 (lines_by m.holder m.serial t)
  pub some : 1 ≤ length (lines_by m.holder m.serial t)
  pub most : length (lines_by m.holder m.serial t) ≤ most_lines
  pub name : AllByRecursion (λ l. IsSome (row_at place (named_by l) (guarantees_by m.holder t)))
      (lines_by m.holder m.serial t)
  pub apart : IsApart named_by (lines_by m.holder m.serial t)
  pub amounts : AllByRecursion (λ (l : Keyed LineCells). IsLineAmount l.row.cents) (lines_by m.holder m.serial t)

-- S6: the lines of each of the holder's movements are as that asks, and none is without a movement
pub record HasLines (t : Tables) (row : HolderRow) : Type 0 where
  pub columns : AllByRecursion (AreLinesInRange t) (movements_by row.holder t)
  pub belong : AllByRecursion (λ l. IsSome (row_at place (place l) (movements_by row.holder t)))
      (part row.holder t.lines)

-- the amount that a row keeps is what is in use on its guarantee by these movements
abbrev pub IsInUse : List Movement → Keyed Kept → Type 0
IsInUse movements k = k.row.used ≡ used_on k.row.guarantee.grn movements

-- S7: where amounts are kept, the one on each of the holder's guarantees is what is in use by the holder's movements
abbrev pub HasAmounts : Tables → HolderRow → Type 0
HasAmounts t row = KeepAmounts t → AllByRecursion (IsInUse (gathered t row).movements) (part row.holder t.kept)

-- S8: on each of the holder's guarantees the amount in use is at most the reference amount
abbrev pub IsHolderCovered : Tables → HolderRow → Type 0
IsHolderCovered t row = AllByRecursion (IsCovered (gathered t row).movements) (gathered t row).guarantees

-- the rules of one holder's rows
pub record KeepsRules (t : Tables) (row : HolderRow) : Type 0 where
  pub holder : IsHolderInRange row
  pub guarantees : HasGuarantees t row
  pub codes : HasCodes t row
  pub movements : HasMovements t row
  pub lines : HasLines t row
  pub amounts : HasAmounts t row
  pub cover : IsHolderCovered t row

-- the tables keep the rules
pub record KeepRules (t : Tables) : Type 0 where
  pub stored : AreStored t
  pub country : HasCountry t
  pub holders : AllByRecursion (KeepsRules t) t.holders

-- its name
abbrev pub rule_name : Rule → List ℕ
rule_name S1 = codes "S1"
rule_name S2 = codes "S2"
rule_name S3 = codes "S3"
rule_name S4 = codes "S4"
rule_name S5 = codes "S5"
rule_name S6 = codes "S6"
rule_name S7 = codes "S7"
rule_name S8 = codes "S8"

-- its place among them
abbrev pub rule_no : Rule → ℕ
rule_no S1 = 1
rule_no S2 = 2
rule_no S3 = 3
rule_no S4 = 4
rule_no S5 = 5
rule_no S6 = 6
rule_no S7 = 7
rule_no S8 = 8

-- the tables keep the rule
abbrev pub Keeps : Tables → Rule → Type 0
Keeps t S1 = HasCountry t
Keeps t S2 = AllByRecursion IsHolderInRange t.holders
Keeps t S3 = AllByRecursion (HasGuarantees t) t.holders
Keeps t S4 = AllByRecursion (HasCodes t) t.holders
Keeps t S5 = AllByRecursion (HasMovements t) t.holders
Keeps t S6 = AllByRecursion (HasLines t) t.holders
Keeps t S7 = AllByRecursion (HasAmounts t) t.holders
Keeps t S8 = AllByRecursion (IsHolderCovered t) t.holders

-- it is the first that they break
pub record IsFirstBroken (t : Tables) (rule : Rule) : Type 0 where
  pub broken : ¬ Keeps t rule
  pub before : (other : Rule) → rule_no other < rule_no rule → Keeps t other

-- tables of which the database keeps what it does keep the rules exactly where they keep each
abbrev pub RulesAreKeptEach : Type 0
RulesAreKeptEach = (t : Tables) → AreStored t → KeepRules t ↔ ((rule : Rule) → Keeps t rule)
