-- What each rule asks of one holder's rows, as they stand in a store's file, and of its own table.
use Rattle.std.specs.Prelude.{ℕ, List, Option, Some, IsTrue}
use Rattle.sqlite_trees.specs.Tree.{Trees}
use Rattle.td_table_model.specs.declared.rule.Rule.{Rule}
use Rattle.td_table_model.specs.declared.rule.Rule.TheVariants.{S1, S2, S3, S4, S5, S6, S7, S8}
use Rattle.typed_sql.specs.Typed.{IsTypedRow}
use Rattle.td_schema.specs.declared.layout.Layout.{Layout}
use Rattle.td_store_rows.specs.Columns.{code_typing, guarantee_typing, line_typing, movement_typing}
use Rattle.td_store_rows.specs.StoreReads.{KeepsUse}
use Rattle.td_store_audit_rows.specs.Found.{HasFieldsOfS2}
use Rattle.td_store_audit_rows.specs.Laws.{AreKept}
use Rattle.td_store_audit_rows.specs.Untyped.{AllRows}
use Rattle.td_store_audit_rows.specs.declared.holders.RawHolder.{RawHolder}
use Rattle.td_store_audit_rows.specs.declared.tables.Readable.{Readable}
use Rattle.td_store_audit.specs.FirstRule.{AreSoBefore}
use Rattle.td_store_audit.specs.InFile.{HasGuaranteesInPlace, HasMovementsInPlace, IsHolderCoveredInFile, IsHolderKeptInFile}
use Rattle.td_store_audit.specs.Premises.{HasCodesInPlace, HasLinesInPlace}
use Rattle.td_store_audit.specs.Tallies.{IsHandedOn, raw_holder_of}
use Rattle.td_store_audit.specs.declared.tallies.HolderTotals.{HolderTotals}

-- The holder keeps the rule, by what was read of the holder's row and by the holder's parts; S1 asks nothing of a holder.
abbrev pub HolderKeeps : Layout → List ℕ → Trees → RawHolder → Rule → Type 0
HolderKeeps layout country trees raw S1 = Unit {0}
HolderKeeps layout country trees raw S2 = HasFieldsOfS2 raw
HolderKeeps layout country trees raw S3 = HasGuaranteesInPlace layout country trees raw
HolderKeeps layout country trees raw S4 = HasCodesInPlace trees raw
HolderKeeps layout country trees raw S5 = HasMovementsInPlace layout country trees raw
HolderKeeps layout country trees raw S6 = HasLinesInPlace layout trees raw
HolderKeeps layout country trees raw S7 = KeepsUse layout → IsHolderKeptInFile layout trees raw
HolderKeeps layout country trees raw S8 = IsHolderCoveredInFile layout trees raw

-- the table that the rule is of can be read row by row, if it is one of these
abbrev pub IsReadFor : Readable → Rule → Type 0
IsReadFor readable S1 = Unit {0}
IsReadFor readable S2 = Unit {0}
IsReadFor readable S3 = IsTrue readable.guarantees
IsReadFor readable S4 = IsTrue readable.codes
IsReadFor readable S5 = IsTrue readable.movements
IsReadFor readable S6 = IsTrue readable.lines
IsReadFor readable S7 = Unit {0}
IsReadFor readable S8 = Unit {0}

-- the rows of that table are typed
abbrev pub AreTypedFor : Layout → Trees → Rule → Type 0
AreTypedFor layout trees S1 = Unit {0}
AreTypedFor layout trees S2 = Unit {0}
AreTypedFor layout trees S3 = AllRows (guarantee_typing layout) (IsTypedRow (guarantee_typing layout)) trees
AreTypedFor layout trees S4 = AllRows code_typing (IsTypedRow code_typing) trees
AreTypedFor layout trees S5 = AllRows movement_typing (IsTypedRow movement_typing) trees
AreTypedFor layout trees S6 = AllRows (line_typing layout) (IsTypedRow (line_typing layout)) trees
AreTypedFor layout trees S7 = Unit {0}
AreTypedFor layout trees S8 = Unit {0}

-- what one holder is asked by for the rules before that one: what the database keeps, and that the tables of those rules are typed
pub record IsAskable (end : Option Rule) (layout : Layout) (trees : Trees) : Type 0 where
  pub kept : AreKept layout trees
  pub typed : AreSoBefore (AreTypedFor layout trees) end

-- what the holder is asked by for the rules from this one on: the holder keeps those before it
pub record IsAskableFrom (rule : Rule) (end : Option Rule) (country : List ℕ) (raw : RawHolder) (layout : Layout) (trees : Trees) : Type 0 where
  pub askable : IsAskable end layout trees
  pub before : AreSoBefore (HolderKeeps layout country trees raw) (Some rule)

-- and what for those from S7 on: what was handed on of the holder is so
pub record IsUseAskable (country : List ℕ) (parts : HolderTotals) (layout : Layout) (trees : Trees) : Type 0 where
  pub handed : IsHandedOn layout trees parts
  pub before : AreSoBefore (HolderKeeps layout country trees (raw_holder_of parts)) (Some S7)
