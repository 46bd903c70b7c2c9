-- What lines on a guarantee add up to, line after line.
use Rattle.std.proofs.Common.{◌≡◌, ◌∙◌, ℕ, ◌+◌, ◌<◌, List, [], ◌∷◌, ◌++◌, get_or, length, map, take, sym, ap, arith}
use Rattle.std.specs.Prelude.{◌==◌, if◌then◌else◌}
use Rattle.std.proofs.lemmas.List.{take_more}
use Rattle.std.proofs.lemmas.List.Sums.{sum_by-append, sum_by-cons}
use Rattle.td_table_model.proofs.Counting.{sum_by-map}
use Rattle.td_table_model.specs.Tables.{Keyed, LineCells}
use Rattle.td_store_rows.specs.LineTable.{line_row_of}
use Rattle.td_store_rows.specs.declared.movements.stored.MovementSerial.{MovementSerial}
use Rattle.td_store_rows.specs.declared.lines.stored.StoredLine.{StoredLine}
use Rattle.td_store_audit.specs.Totals.{added_to, counted, sum_on, total_on}

-- what lines add up to is what their rows do
pub total_of_rows : (n : ℕ) (serials : List MovementSerial) (lines : List StoredLine) → total_on n serials lines ≡ sum_on n serials (map line_row_of lines)
total_of_rows n serials lines = sym (sum_by-map (λ (l : Keyed LineCells). if l.row.guarantee == n then counted serials l else 0) line_row_of lines)

-- the total with one line more
pub total_more : (n : ℕ) (serials : List MovementSerial) (lines : List StoredLine) (i : ℕ) (line : StoredLine) → i < length lines → line ≡ get_or lines i line
    → total_on n serials (take (i + 1) lines) ≡ total_on n serials (take i lines) + added_to n serials line
total_more n serials lines i line within is =
    ap (total_on n serials) (take_more lines i line within ∙ ap (λ l. take i lines ++ l ∷ []) (sym is))
    ∙ sum_by-append (added_to n serials) (take i lines) (line ∷ [])
    ∙ ap (λ k. total_on n serials (take i lines) + k) (sum_by-cons (added_to n serials) line [] ∙ omega arith)
