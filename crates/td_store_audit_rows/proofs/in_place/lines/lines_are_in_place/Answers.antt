use Rattle.std.proofs.Common.{◌≡◌, ◌≢◌, ◌∙◌, ◌+◌, ◌<◌, ◌≤◌, ap, refl, sym, subst, arith, length, get_or, rules}
use Rattle.std.specs.Prelude.{AllPairs}
use Rattle.std.proofs.lemmas.Bool.{false≢true}
use Rattle.std.proofs.lemmas.List.{get_or_default, length-map}
use Rattle.td_table_model.proofs.Pairs.{apart_pairs, pairs_apart}
use Rattle.td_table_model.specs.Gathering.{no_of}
use Rattle.td_table_model.specs.Rules.{named_by}
use Rattle.td_store_rows.specs.LineTable.{line_row_of}
use Rattle.td_store_rows.specs.declared.lines.stored.StoredLine.{StoredLine}
use Rattle.td_store_audit_rows.specs.InPlace.{IsLineInPlace}
use Rattle.td_store_audit_rows.proofs.Named.{apart_read, none_before, one_before, read_apart}
use Rattle.td_store_audit_rows.proofs.Placed.{each_placed, one_more, placed, up_to}
use Rattle.td_store_audit_rows.proofs.in_place.lines.lines_are_in_place.Goals as goal
use Rattle.td_store_audit_rows.proofs.in_place.lines.lines_are_in_place.Goals.{then-row-i-via-then-row-i, then-row-i-via-else-row-i+then-row-lt1, then-row-i-via-else-row-i+else-row-lt1+then-row-guarantees, then-row-i-via-else-row-i+else-row-lt1+else-row-guarantees+then-not-is_amount, then-row-i-via-else-row-i+else-row-lt1+else-row-guarantees+else-not-is_amount+then-is_named}

-- they are not, as this one isn't
pub returns-then-row-i : goal.returns-then-row-i
returns-then-row-i c =
    let i = c.loop-i.i in
    let rows = c.args.rows.now in
    let row = c.index-rows-i.result in (
      λ t. absurd (false≢true t),
      λ kept.
          let fact = subst (λ (x : StoredLine). (x.no ≡ 0 + (i + 1)) × IsLineInPlace c.args.guarantees (line_row_of x)) (sym c.index-rows-i.is)
          (each_placed line_row_of no_of (IsLineInPlace c.args.guarantees) 0 rows kept.numbers kept.each i row c.loop-i-test.true) in
          elim c.then-row-i.branch [
            | then-row-i-via-then-row-i w ↦ absurd (w.if-row-i.true (fact.0 ∙ omega arith))
            | then-row-i-via-else-row-i+then-row-lt1 w ↦ absurd (omega (arith, w.if-row-lt1.true, fact.1.first))
            | then-row-i-via-else-row-i+else-row-lt1+then-row-guarantees w ↦ absurd (omega (arith, w.if-row-guarantees.true, fact.1.last))
            | then-row-i-via-else-row-i+else-row-lt1+else-row-guarantees+then-not-is_amount w ↦ absurd (false≢true (sym w.if-not-is_amount.true ∙ w.is_amount.ensures.1 fact.1.amount))
            | then-row-i-via-else-row-i+else-row-lt1+else-row-guarantees+else-not-is_amount+then-is_named w ↦
                let pairs : AllPairs (λ (a b : StoredLine). a.guarantee ≢ b.guarantee) rows = apart_pairs (λ (s : StoredLine). s.guarantee) rows (read_apart line_row_of named_by rows kept.apart) in
                let found = one_before (λ (s : StoredLine). s.guarantee) row.guarantee rows i (sym w.is_named.ensures ∙ w.if-is_named.true) (omega (arith, c.loop-i-test.true)) in
                absurd (pairs found.0 i row found.1 c.loop-i-test.true (found.2 row ∙ ap (λ (s : StoredLine). s.guarantee) c.index-rows-i.is))
          ],
    )

-- one more is in its place, and on a guarantee of its own
pub loop-i-preserved : goal.loop-i-preserved
loop-i-preserved c =
    let i = c.loop-i.i in
    let rows = c.args.rows.now in
    let row = c.index-rows-i.result in
    let there : (d : StoredLine) → get_or rows i d ≡ row = λ d. get_or_default rows i d row c.loop-i-test.true ∙ sym c.index-rows-i.is in
    let in_place : IsLineInPlace c.args.guarantees (line_row_of row) = record {
      first = c.if-row-lt1.false;
      last = c.if-row-guarantees.false;
      amount = c.is_amount.ensures.0 c.if-not-is_amount.false;
    } in
    record {
      placed = one_more line_row_of no_of (IsLineInPlace c.args.guarantees) 0 rows i row c.loop-i.invariant.placed c.loop-i-test.true c.index-rows-i.is (c.if-row-i.false ∙ omega arith) in_place;
      apart = λ j k d before within. up_to (λ m. j < m → (get_or rows j d).guarantee ≢ (get_or rows m d).guarantee) i (λ m less h. c.loop-i.invariant.apart j m d h less)
          (λ less. rw (there d) (none_before (λ (s : StoredLine). s.guarantee) row.guarantee rows i j d (sym c.is_named.ensures ∙ c.if-is_named.false) less (omega (arith, c.loop-i-test.true)))) k within before;
    }

-- they are: each one is
pub returns : goal.returns
returns c =
    let rows = c.args.rows.now in
    let all = placed line_row_of no_of (IsLineInPlace c.args.guarantees) 0 rows (λ j d within. c.loop-i.invariant.placed j d (omega (arith, within, c.loop-i-test.false))) in
    let pairs : AllPairs (λ (a b : StoredLine). a.guarantee ≢ b.guarantee) rows = λ j k d less within. c.loop-i.invariant.apart j k d less (omega (arith, within, c.loop-i-test.false)) in
    let long = length-map rows line_row_of in
    let some : 1 ≤ length rows = search rules in (
      λ t. record {
        numbers = all.0;
        some = omega (arith, long, some);
        most = omega (arith, long, c.if-rows-gt-MOST_LINES.false);
        each = all.1;
        apart = apart_read line_row_of named_by rows (pairs_apart (λ (s : StoredLine). s.guarantee) rows pairs);
      },
      λ kept. refl,
    )
