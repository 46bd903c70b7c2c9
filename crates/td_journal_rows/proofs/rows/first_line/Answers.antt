use Rattle.std.proofs.Common.{◌==◌, ◌≡◌, ◌∙◌, ◌∷◌, ℕ, List, Some, ap, sym, take}
use Rattle.std.specs.List.{position}
use Rattle.td_journal_rows.specs.Rows.{parts_of}
use Rattle.td_journal_rows.proofs.Lines.{cut_parts, cut_text, none_before, nowhere, uncut_parts}
use Rattle.td_journal_rows.proofs.rows.first_line.Goals as goal

pub returns-in_err-end-clause-none : goal.returns-in_err-end-clause-none
returns-in_err-end-clause-none c _ = uncut_parts c.args.text.now (sym c.in_err-end.ensures)

pub returns-in_err-end-clause-torn : goal.returns-in_err-end-clause-torn
returns-in_err-end-clause-torn c _ = nowhere c.args.text.now (sym c.in_err-end.ensures)

pub returns-clause-one : goal.returns-clause-one
returns-clause-one c =
    let text = c.args.text.now in
    let end = c.in_ok-end.end in
    let there : position (λ c. c == 10) text ≡ Some end = sym c.in_ok-end.ensures in
    record {
      front = take end text;
      line_is = c.split_at.ensures.front ∙ cut_text text end there;
      none = none_before text end there;
    }

pub returns-clause-line : goal.returns-clause-line
returns-clause-line c =
    let text = c.args.text.now in
    let end = c.in_ok-end.end in
    let there : position (λ c. c == 10) text ≡ Some end = sym c.in_ok-end.ensures in (
      take end text,
      c.split_at.ensures.front ∙ cut_text text end there,
      cut_parts text end there ∙ ap (λ (behind : List ℕ). take end text ∷ parts_of behind) (sym c.split_at.ensures.back),
    )
