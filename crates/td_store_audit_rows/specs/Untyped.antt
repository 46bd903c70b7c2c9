-- Which columns of a store's file a rule speaks of, and when they are of their kinds; and which rule the tables break first as
-- they stand in the file, whatever stands in their columns.
use Rattle.std.specs.Prelude.{◌≡◌, ℕ, ◌<◌, List, length}
use Rattle.std.specs.List.{AllByRecursion}
use Rattle.sqlite_value.specs.declared.value.Value.{Value}
use Rattle.sqlite_value.specs.declared.value.Value.TheVariants.{Text}
use Rattle.sqlite_value.specs.Order.{Row, column}
use Rattle.sqlite_trees.specs.Tree.{Trees}
use Rattle.td_table_model.specs.declared.rule.Rule.{Rule}
use Rattle.td_table_model.specs.declared.rule.Rule.TheVariants.{S1, S2, S3, S4, S5, S6, S7, S8}
use Rattle.td_table_model.specs.Rules.{Keeps, rule_no}
use Rattle.typed_sql.specs.Typed.{Typing, IsTypedRow}
use Rattle.typed_sql.specs.Values.{number_value}
use Rattle.td_schema.specs.declared.layout.Layout.{Layout}
use Rattle.td_store_rows.specs.Columns.{meta_typing, holder_typing, guarantee_typing, kept_typing, code_typing, movement_typing, line_typing}
use Rattle.td_store_rows.specs.StoreReads.{KeepsUse}
use Rattle.td_store_rows.specs.StoreTables.{tables_in}

-- the column holds a number; a text
abbrev pub IsNumber : Value → Type 0
IsNumber v = (n : ℕ) × (v ≡ number_value n)

abbrev pub IsText : Value → Type 0
IsText v = (text : List ℕ) × (v ≡ Text text)

-- each row of the table is so
abbrev pub AllRows : {R : Type 0} → Typing R → (Row → Type 0) → Trees → Type 0
AllRows ty P trees = AllByRecursion P (trees ty.table.tree)

-- a holder's number, the EORI and the moment of the last change, the count of guarantees, and that of movements
abbrev pub HasNumber : Row → Type 0
HasNumber r = IsNumber (column r 0)

abbrev pub HasIdentity : Row → Type 0
HasIdentity r = IsText (column r 2) × IsNumber (column r 3)

abbrev pub HasGrnCount : Row → Type 0
HasGrnCount r = IsNumber (column r 4)

abbrev pub HasMrnCount : Row → Type 0
HasMrnCount r = IsNumber (column r 5)

-- The columns that the rule speaks of are of their kinds, in each row: of S1 in the office's own row, which is there
-- once, of S7 where amounts in use are kept.
abbrev pub HasColumnTypes : Layout → Rule → Trees → Type 0
HasColumnTypes l S1 trees = (length (trees meta_typing.table.tree) ≡ 1) × AllRows meta_typing (IsTypedRow meta_typing) trees
HasColumnTypes l S2 trees = AllRows holder_typing HasIdentity trees
HasColumnTypes l S3 trees = AllRows holder_typing HasGrnCount trees × AllRows (guarantee_typing l) (IsTypedRow (guarantee_typing l)) trees
HasColumnTypes l S4 trees = AllRows code_typing (IsTypedRow code_typing) trees
HasColumnTypes l S5 trees = AllRows holder_typing HasMrnCount trees × AllRows movement_typing (IsTypedRow movement_typing) trees
HasColumnTypes l S6 trees = AllRows (line_typing l) (IsTypedRow (line_typing l)) trees
HasColumnTypes l S7 trees = KeepsUse l → AllRows (kept_typing l) (IsTypedRow (kept_typing l)) trees
HasColumnTypes l S8 trees = Unit {0}

-- the tables keep the rule as they stand: a column of another kind breaks it
abbrev pub KeepsUntyped : Layout → Trees → Rule → Type 0
KeepsUntyped l trees rule = HasColumnTypes l rule trees × Keeps (tables_in l trees) rule

-- it is the first that they break
pub record IsFirstBrokenUntyped (l : Layout) (trees : Trees) (rule : Rule) : Type 0 where
  pub broken : ¬ KeepsUntyped l trees rule
  pub before : (other : Rule) → rule_no other < rule_no rule → KeepsUntyped l trees other
