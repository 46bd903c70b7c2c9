-- The columns of the rows of each table in a store, and the row that columns are read as.
use Rattle.std.specs.Prelude.{◌≡◌, ℕ, ℤ, pos, List, [], ◌∷◌, unwrap_or, if◌then◌else◌}
use Rattle.sqlite_value.specs.declared.value.Value.TheVariants.{Int, Text}
use Rattle.sqlite_value.specs.Order.{Row, column}
use Rattle.sqlite_schema.specs.declared.schema.Schema.{Schema}
use Rattle.sqlite_schema.specs.declared.schema.Table.{Table}
use Rattle.td_schema.specs.declared.layout.Layout.{Layout}
use Rattle.td_schema.specs.Layouts.{guarantees_shape, guarantees_tree, lines_shape, lines_tree}
use Rattle.td_schema.specs.Tables.{meta, holders, codes_table, movements}
use Rattle.typed_sql.specs.Typed.{Typing}
use Rattle.typed_sql.specs.Values.{as_integer, text_in, number_in, number_value, number_if, number_or_null, text_if, text_or_null}
use Rattle.td_model.specs.declared.holder_row.HolderRow.{HolderRow}
use Rattle.td_guarantee.specs.declared.guarantee.Guarantee.{Guarantee}
use Rattle.td_table_model.specs.Tables.{Keyed, Kept, LineCells, with_amount}
use Rattle.std.specs.Str.{bytes_eq}
use Rattle.td_movement.specs.States.{state_name}
use Rattle.td_movement.specs.declared.movement.Movement.{Movement}
use Rattle.td_movement.specs.declared.state.State.{State}
use Rattle.td_movement.specs.declared.state.State.TheVariants.{Accepted, Cancelled, Released, Enquired, Arrived, Discrepant, Cleared, WrittenOff}

-- the version of the tables and the country, as a file has them: any integer, and any text
pub record MetaRow : Type 0 where
  pub version : ℤ
  pub country : List ℕ

-- the row with this version and country
abbrev pub meta_row : ℕ → List ℕ → MetaRow
meta_row version country = record { version = pos version; country = country }

-- the two columns of a row; the first one, which is 1, is the rowid, and is kept as NULL
abbrev pub meta_columns : Row → Row
meta_columns r = column r 2 ∷ column r 3 ∷ []

abbrev pub meta_cells : MetaRow → Row
meta_cells m = Int m.version ∷ Text m.country ∷ []

-- the row that two columns are read as; 0 where there is no integer
abbrev pub meta_from : Row → MetaRow
meta_from cells = record { version = unwrap_or (as_integer (column cells 0)) (pos 0); country = text_in (column cells 1) }

-- the table in a store's file, and how its rows are typed
abbrev pub meta_table : Table
meta_table = record meta { tree = 0 }

abbrev pub meta_typing : Typing MetaRow
meta_typing = record { table = meta_table; columns = meta_columns; cells = meta_cells; from = meta_from }

-- the table is the first that was made, as it is in each version of the tables, whatever others there are
abbrev pub MetaIsFirst : Schema → Type 0
MetaIsFirst s = (others : List Table) × (s.tables ≡ meta_table ∷ others)

-- the five columns of a row; the holder's number is the rowid, and the first column is kept as NULL
abbrev pub holder_columns : Row → Row
holder_columns r = column r 0 ∷ column r 2 ∷ column r 3 ∷ column r 4 ∷ column r 5 ∷ []

-- those of a holder
abbrev pub holder_cells : HolderRow → Row
holder_cells h =
    number_value h.holder ∷ Text h.eori ∷ number_value h.last_at ∷ number_value h.grn_count ∷ number_value h.mrn_count ∷ []

-- the holder that five columns are read as
abbrev pub holder_from : Row → HolderRow
holder_from cells = record {
  holder = number_in (column cells 0);
  eori = text_in (column cells 1);
  last_at = number_in (column cells 2);
  grn_count = number_in (column cells 3);
  mrn_count = number_in (column cells 4);
}

-- the table of holders in a store's file, and how its rows are typed
abbrev pub holders_table : Table
holders_table = record holders { tree = 1 }

abbrev pub holder_typing : Typing HolderRow
holder_typing = record {
  table = holders_table;
  columns = holder_columns;
  cells = holder_cells;
  from = holder_from;
}

-- the six columns of a row
abbrev pub guarantee_columns : Row → Row
guarantee_columns r = column r 1 ∷ column r 2 ∷ column r 3 ∷ column r 4 ∷ column r 5 ∷ column r 6 ∷ []

-- those of a guarantee: its end day may be NULL
abbrev pub guarantee_cells : Keyed Guarantee → Row
guarantee_cells g =
    number_value g.holder ∷ number_value g.serial ∷ Text g.row.grn ∷ number_value g.row.reference
    ∷ number_value g.row.cover ∷ number_or_null g.row.ends ∷ []

-- the guarantee that six columns are read as, without its codes
abbrev pub guarantee_from : Row → Keyed Guarantee
guarantee_from cells = record {
  holder = number_in (column cells 0);
  serial = number_in (column cells 1);
  row = record {
    grn = text_in (column cells 2);
    reference = number_in (column cells 3);
    cover = number_in (column cells 4);
    ends = number_if (column cells 5);
    codes = [];
  };
}

-- the table of guarantees in a store's file of a layout, and how its rows are typed: by these six columns in each
abbrev pub guarantees_table : Layout → Table
guarantees_table l = record (guarantees_shape l) { tree = guarantees_tree l }

abbrev pub guarantee_typing : Layout → Typing (Keyed Guarantee)
guarantee_typing l = record {
  table = guarantees_table l;
  columns = guarantee_columns;
  cells = guarantee_cells;
  from = guarantee_from;
}

-- The seven columns of a row that keeps the amount in use; those of a guarantee with it; and what seven columns are
-- read as. The rows of the same table are typed by them where a layout keeps the amounts.
abbrev pub kept_columns : Row → Row
kept_columns r =
    column r 1 ∷ column r 2 ∷ column r 3 ∷ column r 4 ∷ column r 5 ∷ column r 6 ∷ column r 7 ∷ []

abbrev pub kept_cells : Keyed Kept → Row
kept_cells k =
    number_value k.holder ∷ number_value k.serial ∷ Text k.row.guarantee.grn ∷ number_value k.row.guarantee.reference
    ∷ number_value k.row.guarantee.cover ∷ number_or_null k.row.guarantee.ends ∷ number_value k.row.used ∷ []

abbrev pub kept_from : Row → Keyed Kept
kept_from cells = with_amount (number_in (column cells 6)) (guarantee_from cells)

abbrev pub kept_typing : Layout → Typing (Keyed Kept)
kept_typing l = record { table = guarantees_table l; columns = kept_columns; cells = kept_cells; from = kept_from }

-- the three columns of a row
abbrev pub code_columns : Row → Row
code_columns r = column r 1 ∷ column r 2 ∷ column r 3 ∷ []

-- those of a code of a holder's guarantee
abbrev pub code_cells : Keyed (List ℕ) → Row
code_cells c = number_value c.holder ∷ number_value c.serial ∷ Text c.row ∷ []

-- the code that three columns are read as
abbrev pub code_from : Row → Keyed (List ℕ)
code_from cells = record {
  holder = number_in (column cells 0);
  serial = number_in (column cells 1);
  row = text_in (column cells 2);
}

-- the table of codes in a store's file, and how its rows are typed
abbrev pub stored_table : Table
stored_table = record codes_table { tree = 2 }

abbrev pub code_typing : Typing (Keyed (List ℕ))
code_typing = record { table = stored_table; columns = code_columns; cells = code_cells; from = code_from }

-- the state with a name; another text is read as the first state
abbrev pub state_in : List ℕ → State
state_in name =
    if bytes_eq name (state_name Cancelled) then Cancelled
    else (if bytes_eq name (state_name Released) then Released
    else (if bytes_eq name (state_name Enquired) then Enquired
    else (if bytes_eq name (state_name Arrived) then Arrived
    else (if bytes_eq name (state_name Discrepant) then Discrepant
    else (if bytes_eq name (state_name Cleared) then Cleared
    else (if bytes_eq name (state_name WrittenOff) then WrittenOff else Accepted))))))

-- the eleven columns of a row
abbrev pub movement_columns : Row → Row
movement_columns r =
    column r 1 ∷ column r 2 ∷ column r 3 ∷ column r 4 ∷ column r 5 ∷ column r 6 ∷ column r 7 ∷ column r 8
    ∷ column r 9
    ∷ column r 10 ∷ column r 11 ∷ []

-- those of a movement: its days and the office where it arrived may be NULL
abbrev pub movement_cells : Keyed Movement → Row
movement_cells m =
    number_value m.holder ∷ number_value m.serial ∷ Text m.row.mrn ∷ Text m.row.lrn ∷ Text m.row.departure
    ∷ Text m.row.destination ∷ number_value m.row.accepted ∷ Text (state_name m.row.state)
    ∷ number_or_null m.row.limit
    ∷ number_or_null m.row.arrival ∷ text_or_null m.row.actual ∷ []

-- the movement that eleven columns are read as, without its lines
abbrev pub movement_from : Row → Keyed Movement
movement_from cells = record {
  holder = number_in (column cells 0);
  serial = number_in (column cells 1);
  row = record {
    mrn = text_in (column cells 2);
    lrn = text_in (column cells 3);
    departure = text_in (column cells 4);
    destination = text_in (column cells 5);
    accepted = number_in (column cells 6);
    state = state_in (text_in (column cells 7));
    limit = number_if (column cells 8);
    arrival = number_if (column cells 9);
    actual = text_if (column cells 10);
    lines = [];
  };
}

-- the table of movements in a store's file, and how its rows are typed
abbrev pub movements_table : Table
movements_table = record movements { tree = 4 }

abbrev pub movement_typing : Typing (Keyed Movement)
movement_typing = record {
  table = movements_table;
  columns = movement_columns;
  cells = movement_cells;
  from = movement_from;
}

-- the five columns of a row
abbrev pub line_columns : Row → Row
line_columns r = column r 1 ∷ column r 2 ∷ column r 3 ∷ column r 4 ∷ column r 5 ∷ []

-- those of a line
abbrev pub line_cells : Keyed LineCells → Row
line_cells l =
    number_value l.holder ∷ number_value l.serial ∷ number_value l.row.no ∷ number_value l.row.guarantee
    ∷ number_value l.row.cents ∷ []

-- the line that five columns are read as
abbrev pub line_from : Row → Keyed LineCells
line_from cells = record {
  holder = number_in (column cells 0);
  serial = number_in (column cells 1);
  row = record {
    no = number_in (column cells 2);
    guarantee = number_in (column cells 3);
    cents = number_in (column cells 4);
  };
}

-- the table of lines in a store's file of a layout, and how its rows are typed
abbrev pub lines_table : Layout → Table
lines_table l = record (lines_shape l) { tree = lines_tree l }

abbrev pub line_typing : Layout → Typing (Keyed LineCells)
line_typing l = record { table = lines_table l; columns = line_columns; cells = line_cells; from = line_from }
