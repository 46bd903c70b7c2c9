-- What is asked of the guarantees in a store's file that keeps the amounts in use on them, and what is written of them.
use Rattle.std.specs.Prelude.{◌≡◌, ◌≤◌, ◌<◌, ◌^◌, [], ◌∷◌, ℕ, ◌+◌, ◌-◌, true, Bool, if◌then◌else◌, List, filter, map, Option}
use Rattle.std.specs.List.{AllByRecursion}
use Rattle.std.specs.Option.{option_map, option_to_list}
use Rattle.td_guarantee.specs.declared.guarantee.Guarantee.{Guarantee}
use Rattle.td_model.specs.Changes.{with_terms}
use Rattle.td_model.specs.declared.change.NewTerms.{NewTerms}
use Rattle.td_table_model.specs.Gathering.{IsApart, in_order, place}
use Rattle.td_table_model.specs.Tables.{Keyed, Kept, with_amount, without_amount}
use Rattle.td_schema.specs.Layouts.{schema_of}
use Rattle.td_schema.specs.declared.layout.Layout.{Layout}
use Rattle.td_schema.specs.declared.layout.Layout.TheVariants.{Made1, Grown2}
use Rattle.typed_sql.specs.Typed.{AreThose, AreTyped, HasNow, IsFirst, Turns, typed_rows}
use Rattle.typed_sql.specs.Values.{number_value, number_or_null}
use Rattle.typed_sql.specs.Writing.{HasSchema, HaveIds, IsEmptied}
use Rattle.sqlite_schema.specs.declared.schema.Table.{Table}
use Rattle.sqlite_value.specs.declared.value.Value.TheVariants.{Text}
use Rattle.sqlite_value.specs.Order.{Row}
use Rattle.sqlite.specs.State.{State}
use Rattle.td_store_rows.specs.Columns.{guarantees_table, kept_typing}
use Rattle.td_store_rows.specs.GuaranteeTable.{has_grn}
use Rattle.td_store_rows.specs.Places.{by_place}
use Rattle.td_store_rows.specs.StoreReads.{KeepsUse}
use Rattle.td_store_rows.specs.declared.guarantees.stored.KeptGuarantee.{KeptGuarantee}

-- a guarantee that was found with the amount in use on it, as its row
abbrev pub kept_row_of : KeptGuarantee → Keyed Kept
kept_row_of k = record { holder = k.holder; serial = k.serial; row = record { guarantee = k.guarantee; used = k.used } }

-- the guarantee of a holder with a serial and a GRN
abbrev pub has_kept_grn : ℕ → ℕ → List ℕ → Keyed Kept → Bool
has_kept_grn H n grn k = has_grn H n grn (without_amount k)

-- the guarantee with new terms, which leave the amount
abbrev pub with_new_terms : NewTerms → Keyed Guarantee → Keyed Guarantee
with_new_terms terms g = record g { row = with_terms terms g.row }

abbrev pub with_new_kept_terms : NewTerms → Keyed Kept → Keyed Kept
with_new_kept_terms terms k = with_amount k.row.used (with_new_terms terms (without_amount k))

-- the guarantee with so many cents more in use, and with so many less
abbrev pub with_more : ℕ → Keyed Kept → Keyed Kept
with_more cents k = with_amount (k.row.used + cents) (without_amount k)

abbrev pub with_less : ℕ → Keyed Kept → Keyed Kept
with_less cents k = with_amount (k.row.used - cents) (without_amount k)

-- there is room for so much more, as an integer of SQL; and so much is in use, which is one
abbrev pub HasRoom : ℕ → Keyed Kept → Type 0
HasRoom cents k = k.row.used + cents < 2 ^ 63

abbrev pub HasInUse : ℕ → Keyed Kept → Type 0
HasInUse cents k = (cents ≤ k.row.used) × (k.row.used < 2 ^ 63)

-- in a file that keeps the amounts the statement turned the guarantees into what f makes of them
abbrev pub TurnsKept : (List (Keyed Kept) → List (Keyed Kept)) → State → State → Type 0
TurnsKept f old new = (l : Layout) → KeepsUse l → Turns (kept_typing l) (schema_of l) f old new

-- each guarantee that passes the test is one that may be changed so
abbrev pub MayChange : (Keyed Kept → Bool) → (Keyed Kept → Type 0) → List (Keyed Kept) → Type 0
MayChange p May rows = AllByRecursion (λ k. p k ≡ true → May k) rows

-- where it is so, the statement made of each what f makes of it, and left the others
abbrev pub TurnsWhere : (Keyed Kept → Bool) → (Keyed Kept → Type 0) → (Keyed Kept → Keyed Kept) → State → State → Type 0
TurnsWhere p May f old new =
    (l : Layout) → KeepsUse l → HasSchema old (schema_of l) → AreTyped (kept_typing l) old.now.trees
    → MayChange p May (typed_rows (kept_typing l) old.now.trees)
    → HasNow (kept_typing l) (schema_of l) (map (λ k. if p k then f k else k) (typed_rows (kept_typing l) old.now.trees)) old.now new.now

-- in a file that keeps the amounts these are the guarantees that pass the test
abbrev pub AreKept : (Keyed Kept → Bool) → State → List KeptGuarantee → Type 0
AreKept p state found =
    (l : Layout) → KeepsUse l → AreThose (kept_typing l) (schema_of l) p state (map kept_row_of found)

-- where no two of them have one serial, these are they by their serials
abbrev pub AreKeptBySerial : (Keyed Kept → Bool) → State → List KeptGuarantee → Type 0
AreKeptBySerial p state found =
    (l : Layout) → KeepsUse l → HasSchema state (schema_of l) → AreTyped (kept_typing l) state.now.trees
    → IsApart place (filter p (typed_rows (kept_typing l) state.now.trees))
    → map kept_row_of found ≡ in_order place (filter p (typed_rows (kept_typing l) state.now.trees))

-- this is the guarantee that passes the test, or there is none
abbrev pub IsTheKept : (Keyed Kept → Bool) → State → Option KeptGuarantee → Type 0
IsTheKept p state found = AreKept p state (option_to_list found)

-- in a file that keeps the amounts this is the first of the guarantees that pass the test, by holder and then by serial; none: none
-- of them passes
abbrev pub IsFirstKept : (Keyed Kept → Bool) → State → Option KeptGuarantee → Type 0
IsFirstKept p state found =
    (l : Layout) → KeepsUse l → IsFirst (kept_typing l) (schema_of l) p by_place state (option_map kept_row_of found)

-- the table of guarantees of version 1, in a file that was migrated from there, has no row now, and the others are as
-- they were
abbrev pub first_guarantees : Table
first_guarantees = guarantees_table Made1

abbrev pub EmptiesFirst : State → State → Type 0
EmptiesFirst old new =
    HasSchema old (schema_of Grown2) → HaveIds (old.now.trees first_guarantees.tree)
    → IsEmptied (schema_of Grown2) first_guarantees old.now new.now

-- what new terms are written by: the holder, the serial and the GRN, and then the terms
abbrev pub terms_values : ℕ → ℕ → NewTerms → Row
terms_values H n terms =
    number_value H ∷ number_value n ∷ Text terms.grn ∷ number_or_null terms.reference ∷ number_or_null terms.cover
    ∷ number_or_null terms.ends ∷ []
