-- Whether a holder's rows in a store's file are in their places, and who tells it.
use Rattle.std.specs.Prelude.{◌≡◌, ◌↔◌, ℕ, ◌≤◌, Bool, List, unwrap_or, IsTrue}
use Rattle.std.specs.List.{AllByRecursion, sum_by}
use Rattle.sqlite_trees.specs.Tree.{Trees}
use Rattle.sqlite.specs.State.{State}
use Rattle.td_guarantee.specs.declared.guarantee.Guarantee.{Guarantee}
use Rattle.td_table_model.specs.Gathering.{IsApart, guarantees_by, movements_by, part, place}
use Rattle.td_table_model.specs.Looking.{cents_of, lines_in_use}
use Rattle.td_table_model.specs.Tables.{Keyed, Kept}
use Rattle.typed_sql.specs.Typed.{AreTyped, Typing, typed_rows}
use Rattle.typed_sql.specs.Writing.{HasSchema}
use Rattle.typed_sql.specs.Reading.{OnlyRead}
use Rattle.td_schema.specs.Layouts.{schema_of}
use Rattle.td_schema.specs.declared.layout.Layout.{Layout}
use Rattle.td_store_rows.specs.StoreTables.{tables_in}
use Rattle.td_store_audit_rows.specs.InPlace.{AreGuaranteesInPlace, AreMovementsInPlace}
use Rattle.td_store_audit_rows.specs.Found.{HasGrns, HasMrns}
use Rattle.td_store_audit_rows.specs.declared.holders.RawHolder.{RawHolder}

-- the holder's guarantees are counted, and in their places
abbrev pub HasGuaranteesInPlace : Layout → List ℕ → Trees → RawHolder → Type 0
HasGuaranteesInPlace layout country trees h =
    HasGrns h × AreGuaranteesInPlace country (unwrap_or h.grn_count 0) (guarantees_by h.holder (tables_in layout trees))

-- so are the holder's movements
abbrev pub HasMovementsInPlace : Layout → List ℕ → Trees → RawHolder → Type 0
HasMovementsInPlace layout country trees h =
    HasMrns h × AreMovementsInPlace country (unwrap_or h.mrn_count 0) (movements_by h.holder (tables_in layout trees))

-- a table's rows are typed, and no two of one holder have one serial
pub record AreTypedApart {X : Type 0} (ty : Typing (Keyed X)) (trees : Trees) : Type 0 where
  pub typed : AreTyped ty trees
  pub apart : (H : ℕ) → IsApart place (part H (typed_rows ty trees))

-- what is in use on the guarantee in a row is at most its reference amount
abbrev pub IsRowCovered : Layout → Trees → Keyed Guarantee → Type 0
IsRowCovered layout trees g = sum_by cents_of (lines_in_use g.holder g.serial (tables_in layout trees)) ≤ g.row.reference

-- so it is on each of the holder's
abbrev pub IsHolderCoveredInFile : Layout → Trees → RawHolder → Type 0
IsHolderCoveredInFile layout trees h = AllByRecursion (IsRowCovered layout trees) (guarantees_by h.holder (tables_in layout trees))

-- the amount that a row keeps is what is in use on the guarantee in it
abbrev pub IsRowKept : Layout → Trees → Keyed Kept → Type 0
IsRowKept layout trees k = k.row.used ≡ sum_by cents_of (lines_in_use k.holder k.serial (tables_in layout trees))

-- so it is in each of the holder's rows
abbrev pub IsHolderKeptInFile : Layout → Trees → RawHolder → Type 0
IsHolderKeptInFile layout trees h = AllByRecursion (IsRowKept layout trees) (part h.holder (tables_in layout trees).kept)

-- where the first is so of the tables of a file of one of these layouts, so is the second; and it is told whether it is
abbrev pub IsSoWhere : (Layout → Type 0) → (Layout → Trees → Type 0) → (Layout → Trees → Type 0) → State → Type 0
IsSoWhere At Q P state =
    (layout : Layout) → At layout → HasSchema state (schema_of layout) → Q layout state.now.trees → P layout state.now.trees

abbrev pub TellsWhere : (Layout → Type 0) → (Layout → Trees → Type 0) → (Layout → Trees → Type 0) → State → Bool → Type 0
TellsWhere At Q P state is = IsSoWhere At Q (λ layout trees. IsTrue is ↔ P layout trees) state

-- the calls between two states have only read, in a file of one of these layouts
abbrev pub OnlyReadIn : (Layout → Type 0) → State → State → Type 0
OnlyReadIn At old new = (layout : Layout) → At layout → OnlyRead (schema_of layout) old new
