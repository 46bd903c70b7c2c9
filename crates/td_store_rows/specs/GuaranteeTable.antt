-- What is asked of the guarantees in a store's file, without the amounts in use on them.
use Rattle.std.specs.Prelude.{◌≡◌, ℕ, ◌==◌, Bool, ◌&&◌, List, filter, map, Option}
use Rattle.std.specs.Option.{option_map, option_to_list}
use Rattle.std.specs.Str.{bytes_eq}
use Rattle.td_guarantee.specs.declared.guarantee.Guarantee.{Guarantee}
use Rattle.td_table_model.specs.Gathering.{IsApart, in_order, place}
use Rattle.td_table_model.specs.Tables.{Keyed}
use Rattle.td_schema.specs.Layouts.{newest_version, schema_of}
use Rattle.td_schema.specs.declared.layout.Layout.{Layout}
use Rattle.typed_sql.specs.Typed.{AreThose, AreTyped, IsFirst, typed_rows}
use Rattle.typed_sql.specs.Writing.{HasSchema}
use Rattle.sqlite.specs.State.{State}
use Rattle.td_store_rows.specs.Columns.{guarantee_typing}
use Rattle.td_store_rows.specs.Places.{by_place}
use Rattle.td_store_rows.specs.StoreReads.{IsOfVersion}
use Rattle.td_store_rows.specs.declared.guarantees.stored.StoredGuarantee.{StoredGuarantee}

-- a guarantee that was found, as its row
abbrev pub guarantee_row_of : StoredGuarantee → Keyed Guarantee
guarantee_row_of g = record { holder = g.holder; serial = g.serial; row = g.guarantee }

-- the guarantee of a holder with a serial and a GRN; with a serial: with an amount in use or without
abbrev pub has_grn : ℕ → ℕ → List ℕ → Keyed Guarantee → Bool
has_grn H n grn g = g.holder == H && (g.serial == n && bytes_eq g.row.grn grn)

abbrev pub has_serial : {R : Type 0} → ℕ → ℕ → Keyed R → Bool
has_serial H n g = g.holder == H && g.serial == n

-- in a file of a layout of the version these are the guarantees that pass the test
abbrev pub AreGuarantees : ℕ → (Keyed Guarantee → Bool) → State → List StoredGuarantee → Type 0
AreGuarantees version p state found =
    (l : Layout) → IsOfVersion version l → AreThose (guarantee_typing l) (schema_of l) p state (map guarantee_row_of found)

-- where no two of them have one serial, these are they by their serials
abbrev pub AreBySerial : ℕ → (Keyed Guarantee → Bool) → State → List StoredGuarantee → Type 0
AreBySerial version p state found =
    (l : Layout) → IsOfVersion version l → HasSchema state (schema_of l) → AreTyped (guarantee_typing l) state.now.trees
    → IsApart place (filter p (typed_rows (guarantee_typing l) state.now.trees))
    → map guarantee_row_of found ≡ in_order place (filter p (typed_rows (guarantee_typing l) state.now.trees))

-- this is the first of the guarantees that pass the test, by holder and then by serial; none: none of them passes
abbrev pub IsFirstGuarantee : ℕ → (Keyed Guarantee → Bool) → State → Option StoredGuarantee → Type 0
IsFirstGuarantee version p state found =
    (l : Layout) → IsOfVersion version l → IsFirst (guarantee_typing l) (schema_of l) p by_place state (option_map guarantee_row_of found)

-- in a file of the newest version this is the guarantee that passes the test, or there is none
abbrev pub IsTheGuarantee : (Keyed Guarantee → Bool) → State → Option StoredGuarantee → Type 0
IsTheGuarantee p state found = AreGuarantees newest_version p state (option_to_list found)
