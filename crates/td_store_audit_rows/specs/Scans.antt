-- What a scan of a whole table tells: whether each row is of its kinds and in range.
use Rattle.std.specs.Prelude.{◌≡◌, ◌↔◌, ℕ, Bool, List, [], IsSome, IsTrue}
use Rattle.std.specs.List.{AllByRecursion}
use Rattle.sqlite_value.specs.declared.keys.Key.{Key}
use Rattle.sqlite_value.specs.declared.value.Value.TheVariants.{Text}
use Rattle.sqlite_value.specs.Order.{Row, column}
use Rattle.sqlite_sql.specs.Term.{Term}
use Rattle.sqlite.specs.Effect.{Database}
use Rattle.td_schema.specs.declared.layout.Layout.{Layout}
use Rattle.td_movement.specs.States.{state_name}
use Rattle.td_movement.specs.declared.state.State.{State as MovementState}
use Rattle.typed_sql.specs.Meanings.{MeansSelect}
use Rattle.typed_sql.specs.Reading.{shown_by}
use Rattle.typed_sql.specs.Typed.{IsTypedRow, Typing, row_of}
use Rattle.td_schema.specs.Fields.{amount_in, code_in, cover_in, day_in, grn_in, holder_in, lrn_in, mrn_in, office_in, optional_in, serial_in}
use Rattle.sqlite_trees.specs.Tree.{Trees}
use Rattle.td_store_rows.specs.Columns.{code_typing, guarantee_typing, line_typing, movement_typing}
use Rattle.td_store_audit_rows.specs.Fields.{AreCodeFields, AreGuaranteeFields, AreLineFields, AreMovementFields}
use Rattle.td_store_audit_rows.specs.Untyped.{AllRows}
use Rattle.td_store_audit_rows.specs.declared.tables.Readable.{Readable}

-- the columns that a statement shows of a row first, after its rowid, are a holder's number and a serial
pub record AreKeyColumns (cells : Row) : Type 0 where
  pub holder : IsSome (holder_in (column cells 1))
  pub serial : IsSome (serial_in (column cells 2))

-- those of a guarantee's row are its fields
pub record AreGuaranteeColumns (cells : Row) : Type 0 where
  pub key : AreKeyColumns cells
  pub grn : IsSome (grn_in (column cells 3))
  pub reference : IsSome (amount_in (column cells 4))
  pub cover : IsSome (cover_in (column cells 5))
  pub ends : IsSome (optional_in day_in (column cells 6))

-- of a code's row
pub record AreCodeColumns (cells : Row) : Type 0 where
  pub key : AreKeyColumns cells
  pub code : IsSome (code_in (column cells 3))

-- of a movement's row: what was declared, and what its state is
pub record AreDeclaredColumns (cells : Row) : Type 0 where
  pub mrn : IsSome (mrn_in (column cells 3))
  pub lrn : IsSome (lrn_in (column cells 4))
  pub departure : IsSome (office_in (column cells 5))
  pub destination : IsSome (office_in (column cells 6))
  pub accepted : IsSome (day_in (column cells 7))

pub record AreStatusColumns (cells : Row) : Type 0 where
  pub state : (s : MovementState) × (column cells 8 ≡ Text (state_name s))
  pub limit : IsSome (optional_in day_in (column cells 9))
  pub arrival : IsSome (optional_in day_in (column cells 10))
  pub actual : IsSome (optional_in office_in (column cells 11))

pub record AreMovementColumns (cells : Row) : Type 0 where
  pub key : AreKeyColumns cells
  pub declared : AreDeclaredColumns cells
  pub status : AreStatusColumns cells

-- of a line's row
pub record AreLineColumns (cells : Row) : Type 0 where
  pub key : AreKeyColumns cells
  pub no : IsSome (serial_in (column cells 3))
  pub guarantee : IsSome (serial_in (column cells 4))
  pub cents : IsSome (amount_in (column cells 5))

-- whatever table the text shows, it is told whether the columns that are shown of each row are read
abbrev pub Scans : (Row → Type 0) → List ℕ → Database → Bool → Type 0
Scans AreRead text db all =
    (tree : ℕ) (shows : List Term) (order : List (Term × Key)) → MeansSelect db.schema text tree [] shows order
    → IsTrue all ↔ AllByRecursion (λ r. AreRead (shown_by shows [] r)) (db.trees tree)

-- the row is of its kinds, and its fields are in range
abbrev pub IsReadRow : {R : Type 0} → Typing R → (R → Type 0) → Row → Type 0
IsReadRow ty AreFields r = IsTypedRow ty r × AreFields (row_of ty r)

-- it is told whether each row of the table is so
abbrev pub TellsRead : {R : Type 0} → Typing R → (R → Type 0) → Trees → Bool → Type 0
TellsRead ty AreFields trees all = IsTrue all ↔ AllRows ty (IsReadRow ty AreFields) trees

-- so it is of each table of a layout that belongs to holders
pub record TellReadable (l : Layout) (readable : Readable) (trees : Trees) : Type 0 where
  pub guarantees : TellsRead (guarantee_typing l) AreGuaranteeFields trees readable.guarantees
  pub codes : TellsRead code_typing AreCodeFields trees readable.codes
  pub movements : TellsRead movement_typing AreMovementFields trees readable.movements
  pub lines : TellsRead (line_typing l) AreLineFields trees readable.lines
