-- Rows of one desk's file that are put into another.
use Rattle.std.specs.Prelude.{ℕ, ◌+◌, List, [], ◌∷◌, ◌++◌, filter, map}
use Rattle.sqlite.specs.State.{State}
use Rattle.td_movement.specs.declared.movement.Movement.{Movement}
use Rattle.td_model.specs.declared.holder_row.HolderRow.{HolderRow}
use Rattle.td_model.specs.Content.{Content}
use Rattle.td_table_model.specs.Gathering.{owner}
use Rattle.td_table_model.specs.Tables.{Keyed, Kept, LineCells, Tables, guarantee_row, movement_row, with_amount, without_amount}
use Rattle.td_store_rows.specs.Places.{is_within}
use Rattle.td_store_rows.specs.StoreTables.{HoldsContent, TurnsTables, tables_in}
use Rattle.td_store_rows.specs.declared.guarantees.stored.KeptGuarantee.{KeptGuarantee}
use Rattle.td_store_rows.specs.declared.movements.stored.StoredMovement.{StoredMovement}
use Rattle.td_extract.specs.Between.{is_between}

-- Rows for the tables of a desk: those of guarantees with the amounts in use.
pub record Rows : Type 0 where
  pub holders : List HolderRow
  pub kept : List (Keyed Kept)
  pub codes : List (Keyed (List ℕ))
  pub movements : List (Keyed Movement)
  pub lines : List (Keyed LineCells)

abbrev pub no_rows : Rows
no_rows = record { holders = []; kept = []; codes = []; movements = []; lines = [] }

-- the tables with these rows more
abbrev pub with_rows : Rows → Tables → Tables
with_rows more t = record t {
  holders = more.holders ++ t.holders;
  guarantees = map without_amount more.kept ++ t.guarantees;
  kept = more.kept ++ t.kept;
  codes = more.codes ++ t.codes;
  movements = more.movements ++ t.movements;
  lines = more.lines ++ t.lines;
}

-- a row that was read of a guarantee, or of a movement, as it is put: without codes, or without lines
abbrev pub bare_kept : KeptGuarantee → Keyed Kept
bare_kept row = with_amount row.used (guarantee_row row.holder (row.serial, row.guarantee))

abbrev pub bare_movement : StoredMovement → Keyed Movement
bare_movement row = movement_row row.holder (row.serial, row.movement)

-- Whatever content the first file held, the rows that are picked of its tables were put into those of the other, beside the rows that
-- stood there.
abbrev pub Copies : (Tables → Rows) → State → State → State → Type 0
Copies picked from old new =
    (c : Content) (holds : HoldsContent c from) → TurnsTables (with_rows (picked (tables_in holds.trees.layout from.now.trees))) old new

-- of a holder's guarantees with serials from one on and below another: their rows, and those of their codes
abbrev pub kept_within : ℕ → ℕ → ℕ → Tables → Rows
kept_within H first end t = record no_rows { kept = filter (is_within H first end) t.kept }

abbrev pub codes_within : ℕ → ℕ → ℕ → Tables → Rows
codes_within H first end t = record no_rows { codes = filter (is_within H first end) t.codes }

abbrev pub guarantees_within : ℕ → ℕ → ℕ → Tables → Rows
guarantees_within H first end t =
    record no_rows { kept = filter (is_within H first end) t.kept; codes = filter (is_within H first end) t.codes }

-- of a holder's movements: their rows, and those of their lines
abbrev pub rows_within : ℕ → ℕ → ℕ → Tables → Rows
rows_within H first end t = record no_rows { movements = filter (is_within H first end) t.movements }

abbrev pub lines_within : ℕ → ℕ → ℕ → Tables → Rows
lines_within H first end t = record no_rows { lines = filter (is_within H first end) t.lines }

abbrev pub movements_within : ℕ → ℕ → ℕ → Tables → Rows
movements_within H first end t =
    record no_rows { movements = filter (is_within H first end) t.movements; lines = filter (is_within H first end) t.lines }

-- a holder's row, and what it counts: guarantees with serials up to one count, and movements up to the other
abbrev pub of_row : HolderRow → Tables → Rows
of_row row t = record {
  holders = row ∷ [];
  kept = filter (is_within row.holder 0 (row.grn_count + 1)) t.kept;
  codes = filter (is_within row.holder 0 (row.grn_count + 1)) t.codes;
  movements = filter (is_within row.holder 0 (row.mrn_count + 1)) t.movements;
  lines = filter (is_within row.holder 0 (row.mrn_count + 1)) t.lines;
}

-- all rows of the holders of a range
abbrev pub of_holders : ℕ → ℕ → Tables → Rows
of_holders first last t = record {
  holders = filter (λ (h : HolderRow). is_between first last h.holder) t.holders;
  kept = filter (λ r. is_between first last (owner r)) t.kept;
  codes = filter (λ r. is_between first last (owner r)) t.codes;
  movements = filter (λ r. is_between first last (owner r)) t.movements;
  lines = filter (λ r. is_between first last (owner r)) t.lines;
}
