-- What the rules of movements and of lines hand on of each holder, and what is asked of the guarantees by it.
use Rattle.std.specs.Prelude.{◌≡◌, ℕ, ◌≤◌, Bool, List, filter, map}
use Rattle.sqlite_trees.specs.Tree.{Trees}
use Rattle.td_movement.specs.States.{is_counting}
use Rattle.td_movement.specs.declared.movement.Movement.{Movement}
use Rattle.td_table_model.specs.Gathering.{IsApart, movements_by, part, place}
use Rattle.td_table_model.specs.Tables.{Keyed}
use Rattle.td_schema.specs.declared.layout.Layout.{Layout}
use Rattle.td_store_rows.specs.Columns.{guarantee_typing, kept_typing}
use Rattle.td_store_rows.specs.declared.guarantees.stored.StoredGuarantee.{StoredGuarantee}
use Rattle.td_store_rows.specs.declared.guarantees.stored.KeptGuarantee.{KeptGuarantee}
use Rattle.td_store_rows.specs.MovementTable.{serial_of_stored}
use Rattle.td_store_rows.specs.StoreReads.{KeepsUse}
use Rattle.td_store_rows.specs.StoreTables.{tables_in}
use Rattle.td_store_audit.specs.Totals.{AreTotals, sum_on}
use Rattle.td_store_audit_rows.specs.Kept.{AreWithinReference}
use Rattle.td_store_audit_rows.specs.declared.holders.RawHolder.{RawHolder}
use Rattle.td_store_audit.specs.InFile.{AreTypedApart, HasGuaranteesInPlace}
use Rattle.td_store_audit.specs.declared.tallies.CountingSerials.{CountingSerials}
use Rattle.td_store_audit.specs.declared.tallies.HolderTotals.{HolderTotals}
use Rattle.td_store_audit.specs.declared.totals.Totals.{Totals}

-- whose movements they are, and whose lines
abbrev pub raw_of : CountingSerials → RawHolder
raw_of h = h.raw

abbrev pub raw_holder_of : HolderTotals → RawHolder
raw_holder_of h = h.movements.raw

-- whether the movement in a row counts against its guarantees
abbrev pub is_counting_row : Keyed Movement → Bool
is_counting_row m = is_counting m.row.state

-- these are the serials of the holder's movements that count, in their order
abbrev pub AreCounting : Layout → Trees → CountingSerials → Type 0
AreCounting layout trees h = map serial_of_stored h.serials.items ≡ map place (filter is_counting_row (movements_by h.raw.holder (tables_in layout trees)))

-- these are what the holder's lines on each guarantee add up to, of those of the movements that count
abbrev pub AreItsTotals : Layout → Trees → CountingSerials → Totals → Type 0
AreItsTotals layout trees h totals = AreTotals (λ n. sum_on n h.serials.items (part h.raw.holder (tables_in layout trees).lines)) totals

-- what was handed on of a holder is so, and the holder's guarantees are in their places, and typed, with the amounts in use where a
-- file keeps them: none of these is above the reference amount
pub record IsHandedOn (layout : Layout) (trees : Trees) (h : HolderTotals) : Type 0 where
  pub placed : (country : List ℕ) × HasGuaranteesInPlace layout country trees (raw_holder_of h)
  pub guarantees : AreTypedApart (guarantee_typing layout) trees
  pub kept : KeepsUse layout → AreTypedApart (kept_typing layout) trees
  pub within : KeepsUse layout → AreWithinReference (tables_in layout trees)
  pub apart : IsApart place (part h.movements.raw.holder (tables_in layout trees).movements)
  pub counting : AreCounting layout trees h.movements
  pub totals : AreItsTotals layout trees h.movements h.totals

-- by the sums that were handed on what is in use on the guarantee in a row is at most its reference amount
abbrev pub IsCoveredBy : (ℕ → ℕ) → StoredGuarantee → Type 0
IsCoveredBy sums g = sums g.serial ≤ g.guarantee.reference

-- and by them the amount that a row keeps is what is in use on its guarantee
abbrev pub IsKeptBy : (ℕ → ℕ) → KeptGuarantee → Type 0
IsKeptBy sums k = k.used ≡ sums k.serial
