-- Lines of declarations: a guarantee and an amount, and beside them the guarantee's access code.
use Rattle.std.specs.Prelude.{◌≢◌, ℕ, ◌≤◌, Bool, true, not, ◌&&◌, nat_le, if◌then◌else◌, List, [], ◌∷◌, length, All, AllPairs, Option, Some, None}
use Rattle.std.specs.List.{list_all}
use Rattle.std.specs.Str.{bytes_eq}
use Rattle.td_movement.specs.declared.line.Line.{Line}
use Rattle.td_movement.specs.Lines.{most_lines, most_line_cents}

-- the line without its code
abbrev pub line_of : Line × List ℕ → Line
line_of l = l.0

-- an amount of a line, in cents
abbrev pub IsLineAmount : ℕ → Type 0
IsLineAmount cents = (1 ≤ cents) × (cents ≤ most_line_cents)

-- whether a number is one
abbrev pub is_line_amount : ℕ → Bool
is_line_amount cents = nat_le 1 cents && nat_le cents most_line_cents

-- the lines of a declaration
pub record IsLines (lines : List (Line × List ℕ)) : Type 0 where
  pub some : 1 ≤ length lines
  pub most : length lines ≤ most_lines
  pub amounts : All (λ l. IsLineAmount l.0.cents) lines
  pub distinct : AllPairs (λ l m. l.0.grn ≢ m.0.grn) lines

-- whether no two lines are on one guarantee
abbrev pub are_distinct : List (Line × List ℕ) → Bool
are_distinct [] = true
are_distinct (line ∷ lines) =
    list_all (λ later. not (bytes_eq line.0.grn later.0.grn)) lines && are_distinct lines

-- whether lines are those of a declaration
abbrev pub are_lines : List (Line × List ℕ) → Bool
are_lines lines =
    nat_le 1 (length lines) && nat_le (length lines) most_lines
    && list_all (λ line. is_line_amount line.0.cents) lines && are_distinct lines

-- the lines, where they are those of a declaration
abbrev pub lines_of : List (Line × List ℕ) → Option (List (Line × List ℕ))
lines_of lines = if are_lines lines then Some lines else None
