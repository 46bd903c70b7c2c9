use Rattle.std.proofs.Common.{◌≡◌, ◌+◌, ◌∙◌, ◌++◌, ◌∷◌, [], length, map, rules, true, sym, ap}
use Rattle.std.proofs.lemmas.List.{append_assoc, length-map, map-append}
use Rattle.std.specs.Result.{is_ok}
use Rattle.td_journal_lines.specs.Lines.{IsLine}
use Rattle.td_journal_lines.specs.Rows.{numbered}
use Rattle.td_replay.specs.Reading.{HasBadLine}
use Rattle.td_replay.proofs.FirstLines.{bad_is_none, lines_more}
use Rattle.td_replay.proofs.reading.read_changes.Goals as goal

pub returns-in_default-2-clause-bad : goal.returns-in_default-2-clause-bad
returns-in_default-2-clause-bad c =
    let (text, are, bytes) = c.loop-line.invariant in
    let rows = c.loop-line.rows.items in
    let size : c.len.result ≡ length rows = search rules in
    let bad : HasBadLine c.args.bytes.now (c.len.result + 1) = record {
      rows = map numbered rows;
      text = text;
      line = c.in-Some.line.now;
      rest = c.in-Some.behind.now;
      bytes_are = bytes ∙ ap (λ t. text ++ t) c.in-Some.ensures.text;
      lines = are;
      place = ap (λ n. n + 1) (size ∙ sym (length-map rows numbered));
      one = c.in-Some.ensures.one;
      bad = c.in_ok-row.ensures.none c.in_default-2.is;
    } in
    (bad, bad_is_none c.args.bytes.now (c.len.result + 1) bad)

pub loop-line-preserved : goal.loop-line-preserved
loop-line-preserved c =
    let (text, are, bytes) = c.loop-line.invariant in
    let row = c.in-Some-2.row in
    let good : is_ok c.push.result ≡ true = search rules in
    let items : c.push.new.self.items ≡ c.loop-line.rows.items ++ row ∷ [] = rw good at c.push.ensures.items in
    let is : IsLine (numbered row) c.in-Some.line.now = search rules in (
      text ++ c.in-Some.line.now,
      rw (items, map-append numbered c.loop-line.rows.items (row ∷ [])) (lines_more (map numbered c.loop-line.rows.items) text (numbered row) c.in-Some.line.now are is),
      bytes ∙ (ap (λ t. text ++ t) c.in-Some.ensures.text ∙ sym (append_assoc text c.in-Some.line.now c.in-Some.behind.now)),
    )
