-- The row of a command's owner, as the tables have it.
use Rattle.std.proofs.Common.{◌≡◌, ◌∙◌, ℕ, List, Option, Some, None, refl, sym, ap, subst}
use Rattle.std.specs.Prelude.{◌==◌, IfSome}
use Rattle.keyed_rows.specs.Rows.{row_at}
use Rattle.keyed_rows.proofs.Putting.{row_at_has}
use Rattle.sqlite.specs.State.{State}
use Rattle.td_commands.specs.Commands.{Need}
use Rattle.td_model.specs.declared.holder_row.HolderRow.{HolderRow}
use Rattle.td_acts.specs.declared.rows.Loaded.{Loaded}
use Rattle.td_model.specs.Account.{Account, HolderRows, account_with, empty_account}
use Rattle.td_acts.specs.Deciding.{IsLoaded}
use Rattle.td_model.specs.Content.{Content, account_in, rows_of}
use Rattle.td_table_model.specs.Tables.{Tables}
use Rattle.td_table_model.specs.Gathering.{holder_no}
use Rattle.td_table_model.proofs.Looked.{account_is}
use Rattle.td_store_rows.specs.StoreReads.{OnlyReadNewest}
use Rattle.td_store_rows.specs.HolderTable.{IsTheHolder}
use Rattle.td_store_rows.specs.StoreTables.{HoldsContent, tables_in}
use Rattle.td_store_load.proofs.Reading.{held_after}
use Rattle.td_store_load.proofs.Whole.{found_alone}
use Rattle.td_store_load.specs.Needed.{IsLoadedFor}

-- nothing is kept of a number without a row
nothing_kept : (country : List ℕ) (o : Option HolderRows) → (account_with country o).holder ≡ None → account_with country o ≡ empty_account country
nothing_kept country None is = refl
nothing_kept country (Some h) is = cc

module _ (a : State) (H : ℕ) (content : Content) (holds : HoldsContent content a) where
  abbrev t : Tables
  t = tables_in holds.trees.layout a.now.trees

  found_at : (found : Option HolderRow) → IsTheHolder H a found → row_at holder_no H t.holders ≡ found
  found_at found is = found_alone (λ r. holder_no r == H) t.holders found (is holds.trees.layout holds.schema holds.trees.typed.holders)

  -- the row that was found is the account's
  row_is : (found : Option HolderRow) → IsTheHolder H a found → (account_in H content).holder ≡ found
  row_is found is = ap (λ (k : Account). k.holder) (account_is t content holds.trees.sound holds.trees.tables H) ∙ found_at found is

  -- and it is of that number
  number_is : (row : HolderRow) → IsTheHolder H a (Some row) → row.holder ≡ H
  number_is row is = subst (λ o. IfSome o (λ r. holder_no r ≡ H)) (found_at (Some row) is) (row_at_has holder_no H t.holders)

-- where no row was found, nothing is what is needed
pub nothing_loaded : (a : State) (H : ℕ) (country : List ℕ) (need : Need) (loaded : Loaded) → IsTheHolder H a None → IsLoaded (empty_account country) need loaded
    → (content : Content) → HoldsContent content a → content.country ≡ country → IsLoaded (account_in H content) need loaded
nothing_loaded a H country need loaded is nothing content holds at =
    subst (λ k. IsLoaded k need loaded)
    (sym (nothing_kept content.country (rows_of H content) (row_is a H content holds None is) ∙ ap empty_account at)) nothing

-- where a row was found, what is needed beside it
pub loaded_for : (a b : State) (H : ℕ) (country : List ℕ) (row : HolderRow) (need : Need) (loaded : Loaded) → IsTheHolder H a (Some row) → OnlyReadNewest a b → IsLoadedFor country row need b loaded
    → (content : Content) → HoldsContent content a → content.country ≡ country → IsLoaded (account_in H content) need loaded
loaded_for a b H country row need loaded is left says content holds at =
    let number : row.holder ≡ H = number_is a H content holds row is in
    subst (λ k. IsLoaded (account_in k content) need loaded) number
    (says content (held_after content a b left holds) at (ap (λ k. (account_in k content).holder) number ∙ row_is a H content holds (Some row) is))
