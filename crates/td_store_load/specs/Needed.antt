-- What a verdict needs of a holder's rows, as the tables of a store's file say it.
use Rattle.std.specs.Prelude.{◌≡◌, ◌==◌, ℕ, List, None, Option, Some, filter_map, find, option_map}
use Rattle.std.specs.List.{AllByRecursion}
use Rattle.keyed_rows.specs.Rows.{row_at}
use Rattle.sqlite.specs.State.{State}
use Rattle.td_guarantee.specs.declared.guarantee.Guarantee.{Guarantee}
use Rattle.td_guarantee.specs.Terms.{without_codes}
use Rattle.td_guarantee.specs.Usage.{used_on}
use Rattle.td_movement.specs.declared.line.Line.{Line}
use Rattle.td_commands.specs.Commands.{Need}
use Rattle.td_model.specs.declared.holder_row.HolderRow.{HolderRow}
use Rattle.td_acts.specs.declared.rows.Loaded.{Loaded}
use Rattle.td_model.specs.Account.{Account, guarantee_by_grn}
use Rattle.td_acts.specs.Deciding.{IsLoaded}
use Rattle.td_model.specs.Content.{Content, account_in}
use Rattle.td_table_model.specs.Tables.{Keyed, Kept, Tables, without_amount}
use Rattle.td_table_model.specs.Gathering.{grn_by, in_order, part, place, with_codes}
use Rattle.td_store_rows.specs.StoreTables.{HoldsContent, tables_in}
use Rattle.td_store_rows.specs.declared.guarantees.stored.KeptGuarantee.{KeptGuarantee}

-- the guarantee in a row with its codes, and the amount in use that the row keeps
abbrev pub entry_from : Tables → Keyed Kept → Guarantee × ℕ
entry_from t k = (with_codes t (without_amount k), k.row.used)

-- a holder's rows of guarantees with the amounts, by their serials
abbrev pub kept_by : ℕ → Tables → List (Keyed Kept)
kept_by H t = in_order place (part H t.kept)

-- a guarantee of an account, and the amount in use on it
abbrev pub with_use : Account → Guarantee → Guarantee × ℕ
with_use account g = (g, used_on g.grn account.movements)

-- the terms of an account's guarantee with a GRN, without codes, and the amount in use on it
abbrev pub terms_in : Account → List ℕ → Option (Guarantee × ℕ)
terms_in account grn = option_map (λ g. (without_codes g, used_on g.grn account.movements)) (guarantee_by_grn grn account.guarantees)

-- a row of a guarantee says what the holder's guarantee with its serial is: its GRN, its terms, and the amount in use on it
abbrev pub IsKeptOf : ℕ → Tables → Account → KeptGuarantee → Type 0
IsKeptOf H t account k =
    (k.guarantee.grn ≡ grn_by H k.serial t) × (Some (without_codes k.guarantee, k.used) ≡ terms_in account k.guarantee.grn)

-- each of these rows does so, where the store holds that content
abbrev pub AreKeptIn : ℕ → (c : Content) {s : State} → HoldsContent c s → List KeptGuarantee → Type 0
AreKeptIn H c {s} holds kept = AllByRecursion (IsKeptOf H (tables_in holds.trees.layout s.now.trees) (account_in H c)) kept

-- if one of a holder's guarantees has that serial, one of these rows has it
abbrev pub HasKeptOf : ℕ → ℕ → (c : Content) {s : State} → HoldsContent c s → List KeptGuarantee → Type 0
HasKeptOf H n c {s} holds kept =
    find (λ k. k.serial == n) kept ≡ None → row_at place n (kept_by H (tables_in holds.trees.layout s.now.trees)) ≡ None

-- where the store holds a content, these are the terms of the guarantees of a holder's that lines name, as far as they are there
abbrev pub AreTermsOf : ℕ → State → List Line → List (Guarantee × ℕ) → Type 0
AreTermsOf H s lines terms =
    (c : Content) → HoldsContent c s → terms ≡ filter_map (λ l. terms_in (account_in H c) l.grn) lines

-- where the store holds a content of that country in which this is the row of a holder, this is what is needed of the
-- holder's account
abbrev pub IsLoadedFor : List ℕ → HolderRow → Need → State → Loaded → Type 0
IsLoadedFor country row need s loaded =
    (c : Content) → HoldsContent c s → c.country ≡ country → (account_in row.holder c).holder ≡ Some row
    → IsLoaded (account_in row.holder c) need loaded
