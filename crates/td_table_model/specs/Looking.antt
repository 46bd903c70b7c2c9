-- What is looked up in the tables: all that they have of a holder's number, and single rows by their references.
use Rattle.std.specs.Prelude.{◌≡◌, ℕ, ◌==◌, ◌&&◌, List, map, filter, find, Option, Some, unwrap_or}
use Rattle.std.specs.List.{AllByRecursion, flat_map, sum_by}
use Rattle.std.specs.Option.{option_map}
use Rattle.std.specs.Str.{bytes_eq}
use Rattle.keyed_rows.specs.Rows.{row_at}
use Rattle.td_base.specs.References.{owner_of, serial_of}
use Rattle.td_guarantee.specs.declared.guarantee.Guarantee.{Guarantee}
use Rattle.td_movement.specs.declared.movement.Movement.{Movement}
use Rattle.td_movement.specs.States.{is_counting}
use Rattle.td_model.specs.Account.{Account, guarantee_by_grn, movement_by_mrn, movement_by_lrn}
use Rattle.td_table_model.specs.Tables.{Keyed, LineCells, Tables, guarantee_no}
use Rattle.td_table_model.specs.Gathering.{holder_no, guarantees_by, movements_by, with_codes, with_lines}

-- what the tables have of a holder's number: nothing where nobody is registered under it
abbrev pub account_by : ℕ → Tables → Account
account_by H t = record {
  country = t.country;
  holder = row_at holder_no H t.holders;
  guarantees = map (with_codes t) (guarantees_by H t);
  movements = map (with_lines t) (movements_by H t);
}

-- the row of the holder's guarantee with a GRN, of the holder's movement with an MRN, and of that with an LRN
abbrev pub row_by_grn : ℕ → List ℕ → Tables → Option (Keyed Guarantee)
row_by_grn H grn t = find (λ g. g.holder == H && bytes_eq g.row.grn grn) t.guarantees

abbrev pub row_by_mrn : ℕ → List ℕ → Tables → Option (Keyed Movement)
row_by_mrn H mrn t = find (λ m. m.holder == H && bytes_eq m.row.mrn mrn) t.movements

abbrev pub row_by_lrn : ℕ → List ℕ → Tables → Option (Keyed Movement)
row_by_lrn H lrn t = find (λ m. m.holder == H && bytes_eq m.row.lrn lrn) t.movements

-- a holder's guarantees and movements are found by their references as in the tables, there with their codes
-- and lines
pub record AreFoundIn (t : Tables) (H : ℕ) (account : Account) : Type 0 where
  pub grns : (grn : List ℕ) → guarantee_by_grn grn account.guarantees
      ≡ option_map (with_codes t) (row_by_grn H grn t)
  pub mrns : (mrn : List ℕ) → movement_by_mrn mrn account.movements
      ≡ option_map (with_lines t) (row_by_mrn H mrn t)
  pub lrns : (lrn : List ℕ) → movement_by_lrn lrn account.movements
      ≡ option_map (with_lines t) (row_by_lrn H lrn t)

-- the rows of the holder's movements that count
abbrev pub counting_rows : ℕ → Tables → List (Keyed Movement)
counting_rows H t = filter (λ m. m.holder == H && is_counting m.row.state) t.movements

-- the lines by which movement m of a holder stands on the holder's guarantee n
abbrev pub lines_between : ℕ → ℕ → ℕ → Tables → List (Keyed LineCells)
lines_between H m n t = filter (λ l. l.holder == H && (l.serial == m && l.row.guarantee == n)) t.lines

-- those of a row of a movement
abbrev pub lines_of_row : ℕ → Tables → Keyed Movement → List (Keyed LineCells)
lines_of_row n t m = lines_between m.holder m.serial n t

-- those of all movements of the holder that count, as a join of the two tables shows them
abbrev pub lines_in_use : ℕ → ℕ → Tables → List (Keyed LineCells)
lines_in_use H n t = flat_map (lines_of_row n t) (counting_rows H t)

-- the amount of a line
abbrev pub cents_of : Keyed LineCells → ℕ
cents_of l = l.row.cents

-- the amount of movement m of a holder on the holder's guarantee n
abbrev pub amount_between : ℕ → ℕ → ℕ → Tables → ℕ
amount_between H m n t = sum_by cents_of (lines_between H m n t)

-- the serial in an MRN of a desk of that country
abbrev pub movement_no : List ℕ → List ℕ → ℕ
movement_no country mrn = unwrap_or (serial_of country mrn) 0

-- a reference tells the key of the row that it stands in: its holder and its serial
pub record TellKeys (t : Tables) : Type 0 where
  pub grns : AllByRecursion (λ (g : Keyed Guarantee). (owner_of t.country g.row.grn ≡ Some g.holder)
      × (serial_of t.country g.row.grn ≡ Some g.serial)) t.guarantees
  pub mrns : AllByRecursion (λ (m : Keyed Movement). (owner_of t.country m.row.mrn ≡ Some m.holder)
      × (serial_of t.country m.row.mrn ≡ Some m.serial)) t.movements

-- so a row that is asked for by its reference may be asked for by its key and its reference
pub record MayBeAskedByKey (t : Tables) : Type 0 where
  pub grns : (grn : List ℕ) → AllByRecursion (λ (g : Keyed Guarantee).
      bytes_eq g.row.grn grn ≡ (g.serial == guarantee_no t.country grn && bytes_eq g.row.grn grn)) t.guarantees
  pub mrns : (mrn : List ℕ) → AllByRecursion (λ (m : Keyed Movement).
      bytes_eq m.row.mrn mrn ≡ (m.serial == movement_no t.country mrn && bytes_eq m.row.mrn mrn)) t.movements
