-- The six tables of a desk's file as lists of rows, in no order, and when they are the tables of a content. The
-- content says what stands in each table, so no row can stand there that the content doesn't show.
use Rattle.std.specs.Prelude.{◌≡◌, ◌≤◌, ℕ, ◌+◌, List, [], ◌∷◌, map, unwrap_or}
use Rattle.std.specs.List.{flat_map}
use Rattle.std.specs.List.Sorted.{IsPermutation}
use Rattle.td_base.specs.References.{serial_of}
use Rattle.td_guarantee.specs.declared.guarantee.Guarantee.{Guarantee}
use Rattle.td_guarantee.specs.Usage.{used_on}
use Rattle.td_movement.specs.declared.line.Line.{Line}
use Rattle.td_movement.specs.declared.movement.Movement.{Movement}
use Rattle.td_model.specs.declared.holder_row.HolderRow.{HolderRow}
use Rattle.td_model.specs.Account.{HolderRows}
use Rattle.td_model.specs.Content.{Content}

-- a row of a table whose key begins with a holder's number and a serial of this holder's
pub record Keyed (R : Type 0) : Type 0 where
  pub holder : ℕ
  pub serial : ℕ
  pub row : R

-- the other columns of a line: its number in the movement, the serial of the guarantee, the amount
pub record LineCells : Type 0 where
  pub no : ℕ
  pub guarantee : ℕ
  pub cents : ℕ

-- a guarantee and the amount in use on it, as a row keeps them
pub record Kept : Type 0 where
  pub guarantee : Guarantee
  pub used : ℕ

-- The versions of the tables: the first, and the one from which on the row of a guarantee keeps the amount in use on it.
abbrev pub first_version : ℕ
first_version = 1

abbrev pub version_with_amounts : ℕ
version_with_amounts = 2

-- The tables, of a version. A guarantee stands in its table without its codes, a movement without its lines; `meta` is
-- the version and the country in its one row. `kept` are the rows of `guarantees` with the amounts in use, where these are
-- kept, and says nothing where they aren't.
pub record Tables : Type 0 where
  pub version : ℕ
  pub country : List ℕ
  pub holders : List HolderRow
  pub guarantees : List (Keyed Guarantee)
  pub kept : List (Keyed Kept)
  pub codes : List (Keyed (List ℕ))
  pub movements : List (Keyed Movement)
  pub lines : List (Keyed LineCells)

-- the tables keep the amounts in use: they are of that version or of a later one
abbrev pub KeepAmounts : Tables → Type 0
KeepAmounts t = version_with_amounts ≤ t.version

-- each element with its number, where n stand before
abbrev pub numbered : {X : Type 0} → ℕ → List X → List (ℕ × X)
numbered n [] = []
numbered n (x ∷ xs) = (n + 1, x) ∷ numbered (n + 1) xs

-- the row of guarantee n of a holder
abbrev pub guarantee_row : ℕ → ℕ × Guarantee → Keyed Guarantee
guarantee_row H p = record { holder = H; serial = p.0; row = record p.1 { codes = [] } }

-- a guarantee's row with an amount in use, and a row that keeps one without it
abbrev pub with_amount : ℕ → Keyed Guarantee → Keyed Kept
with_amount used g = record { holder = g.holder; serial = g.serial; row = record { guarantee = g.row; used = used } }

abbrev pub without_amount : Keyed Kept → Keyed Guarantee
without_amount k = record { holder = k.holder; serial = k.serial; row = k.row.guarantee }

-- a guarantee's row with what is in use on it by these movements
abbrev pub with_use : List Movement → Keyed Guarantee → Keyed Kept
with_use movements g = with_amount (used_on g.row.grn movements) g

-- the row of a code of guarantee n
abbrev pub code_row : ℕ → ℕ → List ℕ → Keyed (List ℕ)
code_row H n code = record { holder = H; serial = n; row = code }

-- the rows of the codes of guarantee n
abbrev pub code_rows : ℕ → ℕ × Guarantee → List (Keyed (List ℕ))
code_rows H p = map (code_row H p.0) p.1.codes

-- the row of movement n of a holder
abbrev pub movement_row : ℕ → ℕ × Movement → Keyed Movement
movement_row H p = record { holder = H; serial = p.0; row = record p.1 { lines = [] } }

-- the serial of the guarantee with a GRN of a desk of that country
abbrev pub guarantee_no : List ℕ → List ℕ → ℕ
guarantee_no country grn = unwrap_or (serial_of country grn) 0

-- the row of a line of movement n, with the line's number in it
abbrev pub line_row : List ℕ → ℕ → ℕ → ℕ × Line → Keyed LineCells
line_row country H n p = record {
  holder = H;
  serial = n;
  row = record { no = p.0; guarantee = guarantee_no country p.1.grn; cents = p.1.cents };
}

-- the rows of the lines of movement n, numbered from 1
abbrev pub line_rows : List ℕ → ℕ → ℕ × Movement → List (Keyed LineCells)
line_rows country H p = map (line_row country H p.0) (numbered 0 p.1.lines)

-- the rows of one holder in each table: serials are places, from 1 on
abbrev pub guarantees_in : HolderRows → List (Keyed Guarantee)
guarantees_in h = map (guarantee_row h.row.holder) (numbered 0 h.guarantees)

abbrev pub kept_in : HolderRows → List (Keyed Kept)
kept_in h = map (with_use h.movements) (guarantees_in h)

abbrev pub code_rows_of : HolderRows → List (Keyed (List ℕ))
code_rows_of h = flat_map (code_rows h.row.holder) (numbered 0 h.guarantees)

abbrev pub movements_in : HolderRows → List (Keyed Movement)
movements_in h = map (movement_row h.row.holder) (numbered 0 h.movements)

abbrev pub line_rows_of : List ℕ → HolderRows → List (Keyed LineCells)
line_rows_of country h = flat_map (line_rows country h.row.holder) (numbered 0 h.movements)

-- the tables have just the rows of this content, in any order, with what is in use where they keep amounts
pub record AreTablesOf (t : Tables) (c : Content) : Type 0 where
  pub country : t.country ≡ c.country
  pub holders : IsPermutation (map (λ (h : HolderRows). h.row) c.holders) t.holders
  pub guarantees : IsPermutation (flat_map guarantees_in c.holders) t.guarantees
  pub kept : KeepAmounts t → IsPermutation (flat_map kept_in c.holders) t.kept
  pub codes : IsPermutation (flat_map code_rows_of c.holders) t.codes
  pub movements : IsPermutation (flat_map movements_in c.holders) t.movements
  pub lines : IsPermutation (flat_map (line_rows_of c.country) c.holders) t.lines
