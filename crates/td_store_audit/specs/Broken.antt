-- Which rule of sound tables a store's file breaks first, as it stands.
use Rattle.std.specs.Prelude.{IsTrue, ◌≡◌, ℕ, ℤ, List, [], ◌∷◌, Option, Some, None}
use Rattle.sqlite_value.specs.declared.value.Value.TheVariants.{Int, Text}
use Rattle.sqlite_value.specs.Order.{Row, column}
use Rattle.sqlite_trees.specs.Tree.{Trees}
use Rattle.sqlite.specs.State.{State}
use Rattle.td_base.specs.Codes.{IsCountry}
use Rattle.td_table_model.specs.declared.rule.Rule.{Rule}
use Rattle.td_table_model.specs.declared.rule.Rule.TheVariants.{S1}
use Rattle.td_schema.specs.Layouts.{schema_of}
use Rattle.td_schema.specs.declared.layout.Layout.{Layout}
use Rattle.typed_sql.specs.Writing.{HasSchema}
use Rattle.td_store_rows.specs.StoreTables.{tables_in}
use Rattle.td_store_audit_rows.specs.Untyped.{IsFirstBrokenUntyped, KeepsUntyped}
use Rattle.td_store_audit_rows.specs.Laws.{AreKept}
use Rattle.td_store_audit_rows.specs.Scans.{TellReadable}
use Rattle.td_store_audit_rows.specs.declared.tables.Readable.{Readable}

-- the first rule that the tables break as they stand, or none
abbrev pub TellsBroken : Layout → Trees → Option Rule → Type 0
TellsBroken layout trees None = (rule : Rule) → KeepsUntyped layout trees rule
TellsBroken layout trees (Some rule) = IsFirstBrokenUntyped layout trees rule

-- the office's own row is the only one that is shown: a version, and this text
pub record IsOffice (rows : List Row) (text : List ℕ) : Type 0 where
  pub row : Row
  pub alone : rows ≡ row ∷ []
  pub version : ℤ
  pub version_is : column row 0 ≡ Int version
  pub text_is : column row 1 ≡ Text text

-- the country that is shown so, or none where no text that is shown so is one
abbrev pub ShowsCountry : List Row → Option (List ℕ) → Type 0
ShowsCountry rows None = (text : List ℕ) → IsOffice rows text → ¬ IsCountry text
ShowsCountry rows (Some country) = IsOffice rows country × IsCountry country

-- the tables keep S1, and this is the country; or they don't
abbrev pub TellsCountry : Layout → Trees → Option (List ℕ) → Type 0
TellsCountry layout trees None = ¬ KeepsUntyped layout trees S1
TellsCountry layout trees (Some country) = KeepsUntyped layout trees S1 × ((tables_in layout trees).country ≡ country)

-- what the rules after S1 are asked by: S1 is kept, the country, and which tables can be read row by row
pub record HasOffice (country : List ℕ) (readable : Readable) (layout : Layout) (trees : Trees) : Type 0 where
  pub kept : AreKept layout trees
  pub country_is : (tables_in layout trees).country ≡ country
  pub keeps : KeepsUntyped layout trees S1
  pub told : TellReadable layout readable trees

-- so it is in a file with the tables of a layout
abbrev pub TellsCountryIn : State → Option (List ℕ) → Type 0
TellsCountryIn state country = (layout : Layout) → HasSchema state (schema_of layout) → TellsCountry layout state.now.trees country

-- where the tables are those of a layout as far as the connection is open, it is open
abbrev pub IsOpenStore : State → Type 0
IsOpenStore state = (layout : Layout) → HasSchema state (schema_of layout) → IsTrue state.is_open
