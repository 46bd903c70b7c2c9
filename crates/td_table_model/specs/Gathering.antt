-- The content that tables hold: each holder's rows brought in order of their keys and put together.
use Rattle.std.specs.Prelude.{◌≡◌, ℕ, ◌+◌, ◌*◌, ◌≤◌, ◌==◌, List, [], ◌∷◌, length, map, filter}
use Rattle.std.specs.List.{fold}
use Rattle.std.specs.Str.{bytes_eq}
use Rattle.std.specs.Option.{option_map_or}
use Rattle.keyed_rows.specs.Rows.{row_at, put_row}
use Rattle.td_guarantee.specs.declared.guarantee.Guarantee.{Guarantee}
use Rattle.td_movement.specs.declared.line.Line.{Line}
use Rattle.td_movement.specs.declared.movement.Movement.{Movement}
use Rattle.td_model.specs.declared.holder_row.HolderRow.{HolderRow}
use Rattle.td_model.specs.Account.{HolderRows}
use Rattle.td_model.specs.Content.{Content}
use Rattle.td_table_model.specs.Tables.{Keyed, LineCells, Tables}

-- rows in ascending order of their keys
abbrev pub in_order : {R : Type 0} → (R → ℕ) → List R → List R
in_order key [] = []
in_order key (r ∷ rows) = put_row key r (in_order key rows)

-- the rows with a key
abbrev pub of_key : {R : Type 0} → (R → ℕ) → ℕ → List R → List R
of_key key k rows = filter (λ r. key r == k) rows

-- the keys of rows: the holder, the serial, the number of a line
abbrev pub holder_no : HolderRow → ℕ
holder_no r = r.holder

abbrev pub owner : {R : Type 0} → Keyed R → ℕ
owner r = r.holder

abbrev pub place : {R : Type 0} → Keyed R → ℕ
place r = r.serial

abbrev pub no_of : Keyed LineCells → ℕ
no_of r = r.row.no

-- a text of single bytes as one number, which rises as texts of one length do
abbrev pub text_rank : List ℕ → ℕ
text_rank text = fold (λ n c. 256 * n + c) 0 text

abbrev pub code_rank : Keyed (List ℕ) → ℕ
code_rank r = text_rank r.row

-- a holder's part of a table
abbrev pub part : {R : Type 0} → ℕ → List (Keyed R) → List (Keyed R)
part H rows = of_key owner H rows

-- a holder's guarantees and movements by serial, the codes of guarantee n in their order, and the lines of
-- movement n by number
abbrev pub guarantees_by : ℕ → Tables → List (Keyed Guarantee)
guarantees_by H t = in_order place (part H t.guarantees)

abbrev pub codes_by : ℕ → ℕ → Tables → List (Keyed (List ℕ))
codes_by H n t = in_order code_rank (of_key place n (part H t.codes))

abbrev pub movements_by : ℕ → Tables → List (Keyed Movement)
movements_by H t = in_order place (part H t.movements)

abbrev pub lines_by : ℕ → ℕ → Tables → List (Keyed LineCells)
lines_by H n t = in_order no_of (of_key place n (part H t.lines))

-- a guarantee with its codes
abbrev pub with_codes : Tables → Keyed Guarantee → Guarantee
with_codes t r = record r.row { codes = map (λ (c : Keyed (List ℕ)). c.row) (codes_by r.holder r.serial t) }

-- the GRN of the holder's guarantee of that serial; none where it isn't there
abbrev pub grn_by : ℕ → ℕ → Tables → List ℕ
grn_by H n t = option_map_or (λ (r : Keyed Guarantee). r.row.grn) (row_at place n (guarantees_by H t)) []

-- a line on the guarantee that its row names
abbrev pub line_from : Tables → Keyed LineCells → Line
line_from t r = record { grn = grn_by r.holder r.row.guarantee t; cents = r.row.cents }

-- a movement with its lines
abbrev pub with_lines : Tables → Keyed Movement → Movement
with_lines t r = record r.row { lines = map (line_from t) (lines_by r.holder r.serial t) }

-- a holder's rows, from the holder's part of each table
abbrev pub gathered : Tables → HolderRow → HolderRows
gathered t row = record {
  row = row;
  guarantees = map (with_codes t) (guarantees_by row.holder t);
  movements = map (with_lines t) (movements_by row.holder t);
}

-- the content that the tables hold
abbrev pub content_of : Tables → Content
content_of t = record { country = t.country; holders = map (gathered t) (in_order holder_no t.holders) }

-- no two have one number
abbrev pub IsApart : {R : Type 0} → (R → ℕ) → List R → Type 0
IsApart key rows = (k : ℕ) → length (of_key key k rows) ≤ 1

-- no two have one text
abbrev pub IsTextApart : {R : Type 0} → (R → List ℕ) → List R → Type 0
IsTextApart key rows = (k : List ℕ) → length (filter (λ r. bytes_eq (key r) k) rows) ≤ 1

-- they are numbered from the one after n on, and none is left out
abbrev pub IsNumbered : {R : Type 0} → (R → ℕ) → ℕ → List R → Type 0
IsNumbered key n [] = Unit {0}
IsNumbered key n (r ∷ rows) = (key r ≡ n + 1) × IsNumbered key (n + 1) rows
