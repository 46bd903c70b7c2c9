-- A row that was read, and the line that it was read of.
use Rattle.std.proofs.Common.{◌≡◌, true, ℕ, ℤ, pos, negsuc, ◌^◌, ◌<◌, ◌≤◌, List, Option, None, Some, option_map, Ok, sym, ap, subst, ◌∙◌, arith}
use Rattle.std.proofs.lemmas.Bool.{and_parts, leb-true}
use Rattle.std.proofs.lemmas.Option.{cond_some}
use Rattle.std.specs.Prelude.{nat_le}
use Rattle.td_base.specs.Days.{moment_of}
use Rattle.td_commands.specs.Commands.{is_changing}
use Rattle.td_commands.specs.declared.command.Command.{Command}
use Rattle.td_commands.specs.declared.command.Stamped.{Stamped}
use Rattle.td_journal_rows.specs.Requests.{request_method, request_path}
use Rattle.td_journal_rows.specs.Rows.{IsRow, RowText, change_row, row_line, row_of_line, row_shown}
use Rattle.td_journal_rows.specs.declared.rows.JournalRow.{JournalRow}
use Rattle.td_journal_rows.proofs.OneLine.{row_back, row_small}
use Rattle.td_journal_rows.proofs.RowsBack.{line_is, line_reads}
use Rattle.td_journal_lines.specs.Lines.{HasRequestOf, IsLine, Numbered}
use Rattle.td_journal_rows.specs.Rows.{IsOneLine}
use Rattle.td_journal_lines.proofs.Reading.{moment_is, reads, same_command, same_row}
use Rattle.td_routes.specs.Bodies.{command_of}

-- a line that isn't read is that of no row
pub not_line : (o : Option JournalRow) (r : Numbered) (line : List ℕ) → option_map row_shown o ≡ row_of_line line → o ≡ None → IsLine r line → ⊥
not_line o r line read none is =
    let row : row_of_line line ≡ None = sym read ∙ ap (option_map row_shown) none in
    let some = reads r line is in
    cc

-- what was read of a row's line
module _ (o : Option JournalRow) (row : JournalRow) (r : Numbered) (line : List ℕ) (read : option_map row_shown o ≡ row_of_line line) (there : o ≡ Some row) (is : IsLine r line) where
  pub shown : row_shown row ≡ change_row r.number is.seconds r.row.stamped.command r.row.shown
  shown = same_row (row_of_line line) (row_shown row) (change_row r.number is.seconds r.row.stamped.command r.row.shown) (sym read ∙ ap (option_map row_shown) there) (reads r line is)

  pub has_request : HasRequestOf r.row.stamped.command row
  has_request = record {
    method = ap (λ (t : RowText). t.method) shown;
    path = ap (λ (t : RowText). t.path) shown;
    body = ap (λ (t : RowText). t.body) shown;
  }

  pub in_range : moment_of (pos row.at) ≡ Some row.at
  in_range =
      let seconds : row.at ≡ is.seconds = ap (λ (t : RowText). t.at) shown in
      subst (λ n. moment_of (pos n) ≡ Some n) (sym seconds) (ap moment_of (sym (moment_is r.row.stamped.at is.seconds is.moment)) ∙ is.moment)

  -- its command is the row's
  pub command_is : (command : Command) → command_of row.method.items row.path.items row.body.items ≡ Ok command → command ≡ r.row.stamped.command
  command_is command found =
      let one = ap (λ (m : List ℕ). command_of m row.path.items row.body.items) has_request.method in
      let two = ap (λ (p : List ℕ). command_of (request_method r.row.stamped.command) p row.body.items) has_request.path in
      let three = ap (λ (b : List ℕ). command_of (request_method r.row.stamped.command) (request_path r.row.stamped.command) b) has_request.body in
      same_command (command_of row.method.items row.path.items row.body.items) command r.row.stamped.command found (one ∙ (two ∙ (three ∙ is.reads_back)))

  -- so it is no view, and the line is made anew
  pub no_view : (command : Command) → command_of row.method.items row.path.items row.body.items ≡ Ok command → is_changing command ≡ true
  no_view command found = ap is_changing (command_is command found) ∙ is.changing

  pub line_again : (command : Command) → command_of row.method.items row.path.items row.body.items ≡ Ok command → row_line (change_row row.number row.at command row.reply.items) ≡ line
  line_again command found =
      let same : command ≡ r.row.stamped.command = command_is command found in
      ap (λ (c : Command). row_line (change_row row.number row.at c row.reply.items)) same
      ∙ (ap row_line (changed same) ∙ sym is.line_is)
    where
      changed : command ≡ r.row.stamped.command → change_row row.number row.at r.row.stamped.command row.reply.items ≡ change_row r.number is.seconds r.row.stamped.command r.row.shown
      changed same =
          ap (λ (t : RowText). change_row t.number t.at r.row.stamped.command t.reply) shown

moment_small : (at : ℤ) (seconds : ℕ) → moment_of at ≡ Some seconds → seconds < 10 ^ 18
moment_small (pos n) seconds is =
    let told = cond_some _ n seconds is in
    let both = and_parts (nat_le 946684800 n) (nat_le n 4102444799) told.0 in
    let most : n ≤ 4102444799 = leb-true n 4102444799 both.1 in
    let same : n ≡ seconds = told.1 in
    omega (arith, most, same)
moment_small (negsuc n) seconds is = cc

-- a row that makes its line anew is the line's
pub line_of_row : (o : Option JournalRow) (row : JournalRow) (stamped : Stamped) (line : List ℕ) → IsOneLine line → option_map row_shown o ≡ row_of_line line → o ≡ Some row
    → moment_of stamped.at ≡ Some row.at → command_of row.method.items row.path.items row.body.items ≡ Ok stamped.command
    → is_changing stamped.command ≡ true → row_line (change_row row.number row.at stamped.command row.reply.items) ≡ line
    → IsLine (record { number = row.number; row = record { stamped = stamped; shown = row.reply.items } }) line
line_of_row o row stamped line one read there moment command changing line_again =
    let again = change_row row.number row.at stamped.command row.reply.items in
    let some : row_of_line line ≡ Some (row_shown row) = sym read ∙ ap (option_map row_shown) there in
    let is_row : IsRow again = row_back again one.front (line_again ∙ one.line_is) one.none (row_small line (row_shown row) some) (moment_small stamped.at row.at moment) in
    let same : row_shown row ≡ again = same_row (row_of_line line) (row_shown row) again some (ap row_of_line (sym line_again ∙ line_is again) ∙ line_reads again is_row) in
    let one = ap (λ (m : List ℕ). command_of m row.path.items row.body.items) (ap (λ (t : RowText). t.method) same) in
    let two = ap (λ (p : List ℕ). command_of (request_method stamped.command) p row.body.items) (ap (λ (t : RowText). t.path) same) in
    let three = ap (λ (b : List ℕ). command_of (request_method stamped.command) (request_path stamped.command) b) (ap (λ (t : RowText). t.body) same) in
    record {
      seconds = row.at;
      moment = moment;
      line_is = sym line_again;
      is_row = is_row;
      reads_back = sym three ∙ (sym two ∙ (sym one ∙ command));
      changing = changing;
    }
