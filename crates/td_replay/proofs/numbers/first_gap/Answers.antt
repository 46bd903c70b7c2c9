use Rattle.std.proofs.Common.{◌≡◌, ◌+◌, ◌∙◌, ◌∷◌, ◌++◌, [], length, map, take, ap, sym, refl, arith}
use Rattle.std.proofs.lemmas.List.{length-map, length-take-le, take_more}
use Rattle.td_journal_lines.specs.Rows.{numbered}
use Rattle.td_replay.proofs.Counting.{around, counted_last, counted_more, first_more, is_next, not_counted, not_next}
use Rattle.td_replay.proofs.numbers.first_gap.Goals as goal

pub returns-then-ne-clause-gap : goal.returns-then-ne-clause-gap
returns-then-ne-clause-gap c =
    let rows = c.args.rows.now in
    let i = c.loop-row.row-index in
    let row = c.row-item.result in
    let more : take (i + 1) rows ≡ take i rows ++ row ∷ [] = take_more rows i row c.loop-row-test.true ∙ ap (λ s. take i rows ++ s ∷ []) (sym c.row-item.is) in
    let size : length (map numbered (take i rows)) ≡ i = length-map (take i rows) numbered ∙ length-take-le i rows (omega (arith, c.loop-row-test.true)) in
    let other : row.number ≡ c.loop-row.before + 1 → ⊥ = not_next row.number c.loop-row.before c.checked_sub.result c.checked_sub.ensures c.if-ne.ensures in
    let inv = c.loop-row.invariant.before in
    let one : 1 + length (map numbered (take i rows)) ≡ c.loop-row.before + 1 = omega (arith, size, inv) in
    record {
      before = map numbered (take i rows);
      row = numbered row;
      after = _;
      rows_are = around numbered rows i row more;
      still = c.loop-row.invariant.counted;
      no_more = λ are. other (counted_last 1 (map numbered (take i rows)) (numbered row) are ∙ one);
      number_is = refl;
    }

pub returns-then-ne-clause-none : goal.returns-then-ne-clause-none
returns-then-ne-clause-none c =
    (λ none. cc, λ are. absurd (not_counted (map numbered c.args.rows.now) c.row-item.result.number (returns-then-ne-clause-gap c) are))

pub loop-row-preserved : goal.loop-row-preserved
loop-row-preserved c =
    let rows = c.args.rows.now in
    let i = c.loop-row.row-index in
    let row = c.row-item.result in
    let more : take (i + 1) rows ≡ take i rows ++ row ∷ [] = take_more rows i row c.loop-row-test.true ∙ ap (λ s. take i rows ++ s ∷ []) (sym c.row-item.is) in
    let size : length (map numbered (take i rows)) ≡ i = length-map (take i rows) numbered ∙ length-take-le i rows (omega (arith, c.loop-row-test.true)) in
    let next : row.number ≡ c.loop-row.before + 1 = is_next row.number c.loop-row.before c.checked_sub.result c.checked_sub.ensures c.if-ne.ensures in
    let is : row.number ≡ i + 1 = next ∙ ap (λ n. n + 1) c.loop-row.invariant.before in
    record {
      counted = rw (first_more numbered rows i row more) (counted_more 1 (map numbered (take i rows)) (numbered row) c.loop-row.invariant.counted (omega (arith, is, size)));
      before = is;
    }
