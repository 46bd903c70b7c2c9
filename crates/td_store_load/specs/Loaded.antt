-- What is read out of the tables of a store's file.
use Rattle.std.specs.Prelude.{◌≡◌, ℕ, List}
use Rattle.sqlite.specs.State.{State}
use Rattle.td_model.specs.Content.{Content}
use Rattle.td_movement.specs.declared.line.Line.{Line}
use Rattle.td_table_model.specs.Gathering.{grn_by}
use Rattle.td_table_model.specs.Tables.{Keyed, LineCells, Tables}
use Rattle.td_store_rows.specs.declared.codes.stored.StoredCode.{StoredCode}
use Rattle.td_store_rows.specs.StoreTables.{HoldsContent, tables_in}

-- the code in a row
abbrev pub code_of : StoredCode → List ℕ
code_of row = row.code

-- the line in a row of a holder's movement, on the guarantee of the holder's that the row names
abbrev pub line_of : ℕ → Tables → Keyed LineCells → Line
line_of H t r = record { grn = grn_by H r.row.guarantee t; cents = r.row.cents }

-- where the store holds a content, this is what f says of its tables
abbrev pub IsOfTables : {X : Type 0} → (Tables → X) → State → X → Type 0
IsOfTables f s x = (c : Content) (holds : HoldsContent c s) → x ≡ f (tables_in holds.trees.layout s.now.trees)

-- where the store holds a content of that country, this is what f says of the content
abbrev pub IsOfContent : {X : Type 0} → List ℕ → (Content → X) → State → X → Type 0
IsOfContent country f s x = (c : Content) → HoldsContent c s → c.country ≡ country → x ≡ f c
