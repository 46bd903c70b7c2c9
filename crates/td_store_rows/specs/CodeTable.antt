-- What is asked of the codes in a store's file, and what is written into them.
use Rattle.std.specs.Prelude.{◌≡◌, ℕ, ◌==◌, Bool, ◌&&◌, List, map}
use Rattle.sqlite.specs.State.{State}
use Rattle.std.specs.List.{AllByRecursion}
use Rattle.sqlite_trees.specs.Tree.{Trees}
use Rattle.td_base.specs.Codes.{IsAccessCode}
use Rattle.td_table_model.specs.Gathering.{IsTextApart, code_rank, in_order, of_key, part, place}
use Rattle.td_table_model.specs.Tables.{Keyed}
use Rattle.td_schema.specs.Layouts.{schema_of}
use Rattle.td_schema.specs.declared.layout.Layout.{Layout}
use Rattle.typed_sql.specs.Typed.{AreThose, AreTyped, Turns, typed_rows}
use Rattle.typed_sql.specs.Writing.{HasSchema}
use Rattle.td_store_rows.specs.Columns.{code_typing}
use Rattle.td_store_rows.specs.declared.codes.stored.StoredCode.{StoredCode}

-- a code of a holder's guarantee, as its row
abbrev pub code_row_of : StoredCode → Keyed (List ℕ)
code_row_of c = record { holder = c.holder; serial = c.serial; row = c.code }

-- the codes of a holder's guarantee with a serial
abbrev pub is_code_of_guarantee : ℕ → ℕ → Keyed (List ℕ) → Bool
is_code_of_guarantee H n c = c.holder == H && c.serial == n

-- the statement turned the codes into what f makes of them
abbrev pub TurnsCodes : (List (Keyed (List ℕ)) → List (Keyed (List ℕ))) → State → State → Type 0
TurnsCodes f old new = (l : Layout) → Turns code_typing (schema_of l) f old new

-- these are the codes that pass the test
abbrev pub AreCodes : (Keyed (List ℕ) → Bool) → State → List StoredCode → Type 0
AreCodes p state found = (l : Layout) → AreThose code_typing (schema_of l) p state (map code_row_of found)

-- the codes of a holder's guarantee in a store's file, in no order
abbrev pub code_rows_in : ℕ → ℕ → Trees → List (Keyed (List ℕ))
code_rows_in H n trees = of_key place n (part H (typed_rows code_typing trees))

-- where all of them are access codes, and no two one text, these are they in ascending order
abbrev pub AreByCode : ℕ → ℕ → State → List StoredCode → Type 0
AreByCode H n state found =
    (l : Layout) → HasSchema state (schema_of l) → AreTyped code_typing state.now.trees
    → AllByRecursion (λ (c : Keyed (List ℕ)). IsAccessCode c.row) (code_rows_in H n state.now.trees)
    → IsTextApart (λ (c : Keyed (List ℕ)). c.row) (code_rows_in H n state.now.trees)
    → map code_row_of found ≡ in_order code_rank (code_rows_in H n state.now.trees)
