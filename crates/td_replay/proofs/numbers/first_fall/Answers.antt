use Rattle.std.proofs.Common.{◌≡◌, ◌+◌, ◌<◌, ◌∙◌, ◌∷◌, ◌++◌, [], map, take, ap, rules, sym, refl, subst, List, arith}
use Rattle.std.proofs.lemmas.List.{take_all, take_more}
use Rattle.td_journal_lines.specs.Lines.{Numbered}
use Rattle.td_journal_lines.specs.Rows.{numbered}
use Rattle.td_replay.specs.Numbers.{AreAbove}
use Rattle.td_replay.proofs.Counting.{above_last, above_more, around, first_more, last_more, last_number, not_rising}
use Rattle.td_replay.proofs.numbers.first_fall.Goals as goal

pub loop-row-init : goal.loop-row-init
loop-row-init c = record { above = tt; before = refl }

pub returns-then-row-before-clause-fall : goal.returns-then-row-before-clause-fall
returns-then-row-before-clause-fall c =
    let first = c.in_ok-first.first.now in
    let rows = c.in_ok-first.others.now in
    let i = c.loop-row.row-index in
    let row = c.row-item.result in
    let more : take (i + 1) rows ≡ take i rows ++ row ∷ [] = take_more rows i row c.loop-row-test.true ∙ ap (λ s. take i rows ++ s ∷ []) (sym c.row-item.is) in
    let before = c.loop-row.invariant.before in
    record {
      before = numbered first ∷ map numbered (take i rows);
      row = numbered row;
      after = _;
      rows_are = ap (map numbered) c.in_ok-first.ensures.cases.0 ∙ ap (λ (l : List Numbered). numbered first ∷ l) (around numbered rows i row more);
      still = c.loop-row.invariant.above;
      no_more = λ are. let above = above_last first.number (map numbered (take i rows)) (numbered row) are in omega (arith, above, before, c.if-row-before.true);
      number_is = refl;
    }

pub returns-then-row-before-clause-none : goal.returns-then-row-before-clause-none
returns-then-row-before-clause-none c =
    (λ none. cc, λ are. absurd (not_rising (map numbered c.args.rows.now) c.row-item.result.number (returns-then-row-before-clause-fall c) are))

pub loop-row-preserved : goal.loop-row-preserved
loop-row-preserved c =
    let first = c.in_ok-first.first.now in
    let rows = c.in_ok-first.others.now in
    let i = c.loop-row.row-index in
    let row = c.row-item.result in
    let more : take (i + 1) rows ≡ take i rows ++ row ∷ [] = take_more rows i row c.loop-row-test.true ∙ ap (λ s. take i rows ++ s ∷ []) (sym c.row-item.is) in
    let before = c.loop-row.invariant.before in
    let above : last_number first.number (map numbered (take i rows)) < row.number = omega (arith, before, c.if-row-before.false) in
    rw (first_more numbered rows i row more) (record {
      above = above_more first.number (map numbered (take i rows)) (numbered row) c.loop-row.invariant.above above;
      before = sym (last_more first.number (map numbered (take i rows)) (numbered row));
    })

pub returns-clause-none : goal.returns-clause-none
returns-clause-none c =
    let rows = c.in_ok-first.others.now in
    let all : take c.loop-row.row-index rows ≡ rows = take_all c.loop-row.row-index rows (search rules) in
    (λ none. rw c.in_ok-first.ensures.cases.0 (subst (λ (l : List _). AreAbove c.in_ok-first.first.now.number (map numbered l)) all c.loop-row.invariant.above), λ are. refl)
