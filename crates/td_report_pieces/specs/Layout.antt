-- The text of a report: a header, a line for each of its rows, and how many lines these are.
use Rattle.std.specs.Prelude.{ℕ, List, [], ◌∷◌, ◌++◌, length, codes, decimal}
use Rattle.std.specs.List.{concat, join_with_byte}

-- fields, joined by one space, and the end of the line
abbrev pub report_line : List (List ℕ) → List ℕ
report_line fields = join_with_byte 32 fields ++ codes "\n"

-- how many lines there are
abbrev pub total_line : ℕ → List ℕ
total_line lines = report_line (codes "TOTAL" ∷ decimal lines ∷ [])

-- a report: its header, its lines, and how many these are
abbrev pub report_text : List ℕ → List (List ℕ) → List ℕ
report_text header lines = header ++ (concat lines ++ total_line (length lines))
