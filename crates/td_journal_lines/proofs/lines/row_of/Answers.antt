use Rattle.std.proofs.Common.{◌≡◌, ◌∙◌, true, ℕ, List, Ok, Some, ap, rules, sym}
use Rattle.td_commands.specs.Commands.{is_changing}
use Rattle.td_base.specs.Days.{moment_of}
use Rattle.td_journal_rows.specs.Rows.{change_row, row_line}
use Rattle.td_routes.specs.Bodies.{command_of}
use Rattle.td_journal_lines.proofs.Rows.{has_request, in_range, line_again, line_of_row, no_view, not_line}
use Rattle.td_journal_lines.proofs.lines.row_of.Goals as goal

pub returns-in_default-clause-none : goal.returns-in_default-clause-none
returns-in_default-clause-none c = λ none r is. not_line c.in_ok-row.field-0 r c.args.line.now c.in_ok-row.ensures c.in_default.is is

pub returns-in_default-2-clause-none : goal.returns-in_default-2-clause-none
returns-in_default-2-clause-none c = λ none r is.
    c.in_ok-stamped.ensures.none c.in_default-2.is
    (in_range c.in_ok-row.field-0 c.in-Some.row r c.args.line.now c.in_ok-row.ensures c.in-Some.is is)
    r.row.stamped.command
    (has_request c.in_ok-row.field-0 c.in-Some.row r c.args.line.now c.in_ok-row.ensures c.in-Some.is is) is.reads_back

pub returns-then-not-changes-clause-none : goal.returns-then-not-changes-clause-none
returns-then-not-changes-clause-none c = λ none r is.
    let row = c.in-Some.row in
    let command : command_of row.method.items row.path.items row.body.items ≡ Ok c.in-Some-2.stamped.command = search rules in
    let change = no_view c.in_ok-row.field-0 row r c.args.line.now c.in_ok-row.ensures c.in-Some.is is c.in-Some-2.stamped.command command in
    search (rules, change)

pub returns-then-ne-clause-none : goal.returns-then-ne-clause-none
returns-then-ne-clause-none c = λ none r is.
    let row = c.in-Some.row in
    let command : command_of row.method.items row.path.items row.body.items ≡ Ok c.in-Some-2.stamped.command = search rules in
    let again : c.in_ok-again-2.again.items ≡ row_line (change_row row.number row.at c.in-Some-2.stamped.command row.reply.items) =
    c.in_ok-again-2.ensures ∙ ap row_line (c.in_ok-again.ensures ∙ ap (λ (t : List ℕ). change_row row.number row.at c.in-Some-2.stamped.command t) c.deref.ensures.value) in
    let same = line_again c.in_ok-row.field-0 row r c.args.line.now c.in_ok-row.ensures c.in-Some.is is c.in-Some-2.stamped.command command in
    let other : c.in_ok-again-2.again.items ≡ c.args.line.now → ⊥ = search rules in
    other (again ∙ same)

pub returns-clause-row : goal.returns-clause-row
returns-clause-row c =
    let row = c.in-Some.row in
    let command : command_of row.method.items row.path.items row.body.items ≡ Ok c.in-Some-2.stamped.command = search rules in
    let moment : moment_of c.in-Some-2.stamped.at ≡ Some row.at = search rules in
    let again : c.in_ok-again-2.again.items ≡ row_line (change_row row.number row.at c.in-Some-2.stamped.command row.reply.items) =
    c.in_ok-again-2.ensures ∙ ap row_line (c.in_ok-again.ensures ∙ ap (λ (t : List ℕ). change_row row.number row.at c.in-Some-2.stamped.command t) c.deref.ensures.value) in
    let same : c.in_ok-again-2.again.items ≡ c.args.line.now = search rules in
    let changing : is_changing c.in-Some-2.stamped.command ≡ true = search rules in
    line_of_row c.in_ok-row.field-0 row c.in-Some-2.stamped c.args.line.now c.requires c.in_ok-row.ensures c.in-Some.is moment command changing (sym again ∙ same)
