-- Tables worked by hand: two holders, of whom the first has two guarantees with three codes and a movement with two lines.
-- No table is in order.
use Rattle.std.specs.Prelude.{◌≡◌, ℕ, List, [], ◌∷◌, codes, Some, None}
use Rattle.td_guarantee.specs.declared.guarantee.Guarantee.{Guarantee}
use Rattle.td_movement.specs.declared.line.Line.{Line}
use Rattle.td_movement.specs.declared.movement.Movement.{Movement}
use Rattle.td_movement.specs.declared.state.State.{State}
use Rattle.td_movement.specs.declared.state.State.TheVariants.{Accepted, Arrived, Released, WrittenOff}
use Rattle.td_model.specs.declared.holder_row.HolderRow.{HolderRow}
use Rattle.td_model.specs.declared.change.Change.TheVariants.{Declared, Moved, CodeAdded, CodeRemoved}
use Rattle.td_model.specs.Changes.{new_state}
use Rattle.td_model.specs.Content.{Content}
use Rattle.td_table_model.specs.Tables.{Keyed, Kept, LineCells, Tables, first_version, version_with_amounts, with_amount}
use Rattle.td_table_model.specs.Gathering.{content_of}
use Rattle.td_table_model.specs.Changes.{tables_after}

-- the holders
abbrev pub first_holder : HolderRow
first_holder = record { holder = 1; eori = codes "CH1"; last_at = 1740819600; grn_count = 2; mrn_count = 1 }

abbrev pub second_holder : HolderRow
second_holder = record { holder = 2; eori = codes "CH2"; last_at = 1740819601; grn_count = 0; mrn_count = 0 }

-- the first holder's guarantees, with their codes
abbrev pub first_guarantee : List (List ℕ) → Guarantee
first_guarantee own = record {
  grn = codes "25CH0000010000014";
  reference = 900000;
  cover = 100;
  ends = None;
  codes = own;
}

abbrev pub second_guarantee : List (List ℕ) → Guarantee
second_guarantee own = record {
  grn = codes "25CH0000010000023";
  reference = 500000;
  cover = 30;
  ends = Some 20300;
  codes = own;
}

-- the first holder's movement, with its lines
abbrev pub first_movement : List Line → Movement
first_movement own = record {
  mrn = codes "25CH00000100000013";
  lrn = codes "A-1";
  departure = codes "CH000001";
  destination = codes "DE000002";
  accepted = 20148;
  state = Accepted;
  limit = None;
  arrival = None;
  actual = None;
  lines = own;
}

-- a line of the first movement, as its row
abbrev pub line_of_first : ℕ → ℕ → ℕ → Keyed LineCells
line_of_first n guarantee cents =
    record { holder = 1; serial = 1; row = record { no = n; guarantee = guarantee; cents = cents } }

abbrev pub worked_tables : Tables
worked_tables = record {
  version = first_version;
  country = codes "CH";
  holders = second_holder ∷ first_holder ∷ [];
  guarantees =
      record { holder = 1; serial = 2; row = second_guarantee [] }
      ∷ record { holder = 1; serial = 1; row = first_guarantee [] } ∷ [];
  kept = [];
  codes =
      record { holder = 1; serial = 1; row = codes "B001" } ∷ record { holder = 1; serial = 2; row = codes "A001" }
      ∷ record { holder = 1; serial = 1; row = codes "A002" } ∷ [];
  movements = record { holder = 1; serial = 1; row = first_movement [] } ∷ [];
  lines = line_of_first 2 1 700 ∷ line_of_first 1 2 300 ∷ [];
}

-- what they hold
abbrev pub worked_content : Content
worked_content = record {
  country = codes "CH";
  holders =
      record {
        row = first_holder;
        guarantees =
            first_guarantee (codes "A002" ∷ codes "B001" ∷ []) ∷ second_guarantee (codes "A001" ∷ []) ∷ [];
        movements = first_movement (
            record { grn = codes "25CH0000010000023"; cents = 300 }
            ∷ record { grn = codes "25CH0000010000014"; cents = 700 } ∷ []) ∷ [];
      }
      ∷ record { row = second_holder; guarantees = []; movements = [] } ∷ [];
}

-- the codes after one is put to the second guarantee, and after one is taken from the first
abbrev pub HaveWorkedCodes : Type 0
HaveWorkedCodes =
    ((tables_after (CodeAdded first_holder (codes "25CH0000010000023") (codes "C003")) worked_tables).codes
    ≡ record { holder = 1; serial = 2; row = codes "C003" } ∷ worked_tables.codes)
    × ((tables_after (CodeRemoved first_holder (codes "25CH0000010000014") (codes "A002")) worked_tables).codes
    ≡ record { holder = 1; serial = 1; row = codes "B001" } ∷ record { holder = 1; serial = 2; row = codes "A001" } ∷ [])

-- the lines after a further movement with a line on the second guarantee
abbrev pub HasWorkedLine : Type 0
HasWorkedLine =
    (tables_after (Declared (record first_holder { mrn_count = 2 }) (first_movement (
    record { grn = codes "25CH0000010000023"; cents = 50 } ∷ []))) worked_tables).lines
    ≡ record { holder = 1; serial = 2; row = record { no = 1; guarantee = 2; cents = 50 } } ∷ worked_tables.lines

-- the guarantees where amounts are kept, with the amount in use on the first and on the second
abbrev pub worked_kept : ℕ → ℕ → List (Keyed Kept)
worked_kept first second =
    with_amount second (record { holder = 1; serial = 2; row = second_guarantee [] })
    ∷ with_amount first (record { holder = 1; serial = 1; row = first_guarantee [] }) ∷ []

-- what is kept of them after the movement came into a state
abbrev pub kept_after : State → List (Keyed Kept) → List (Keyed Kept)
kept_after state kept =
    (tables_after (Moved first_holder (new_state (codes "25CH00000100000013") state))
    (record worked_tables { version = version_with_amounts; kept = kept })).kept

-- the movement takes up its lines' amounts at its release, and gives them back as it is written off
abbrev pub HaveWorkedAmounts : Type 0
HaveWorkedAmounts =
    (kept_after Released (worked_kept 50 20) ≡ worked_kept 750 320)
    × (kept_after Arrived (worked_kept 750 320) ≡ worked_kept 750 320)
    × (kept_after WrittenOff (worked_kept 750 320) ≡ worked_kept 50 20)

abbrev pub WorkedByHand : Type 0
WorkedByHand = (content_of worked_tables ≡ worked_content) × HaveWorkedCodes × HasWorkedLine × HaveWorkedAmounts
