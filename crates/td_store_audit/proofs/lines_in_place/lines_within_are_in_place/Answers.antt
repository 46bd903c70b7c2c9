use Rattle.std.proofs.Common.{◌≡◌, ◌∙◌, ℕ, ◌+◌, ◌-◌, ◌<◌, ◌≤◌, List, drop, map, nat_lt, take, Bool, true, false, refl, subst, sym, arith, ap}
use Rattle.std.proofs.lemmas.Bool.{false≢true}
use Rattle.std.proofs.lemmas.Bool.Decides.{nat_tests}
use Rattle.std.specs.Prelude.{◌==◌}
use Rattle.sqlite_trees.proofs.ListLemmas.{all-get_or, all_both, all_from_map, all_weaker, ascending_from_map, filter-map}
use Rattle.td_store_rows.specs.LineTable.{line_row_of}
use Rattle.td_store_rows.specs.declared.lines.stored.StoredLine.{StoredLine}
use Rattle.td_store_audit_rows.specs.InPlace.{AreLinesInPlace}
use Rattle.td_table_model.specs.Gathering.{in_order, no_of, of_key, place}
use Rattle.td_store_audit.specs.Found.{serial_of_line}
use Rattle.td_store_audit.specs.InPlace.{AreNumbersApart, AreSerialsWithin, IsByNumber, IsBySerial, IsEndOfRun}
use Rattle.td_store_audit.proofs.Permuted.{ordered}
use Rattle.td_store_audit.proofs.Runs.{IsSplit, next_split, run_is}
use Rattle.td_store_audit.proofs.lines_in_place.lines_within_are_in_place.Goals as goal

-- the range begins at the least of its serials that a movement has
pub loop-before-init : goal.loop-before-init
loop-before-init c =
    let rows = c.args.rows.now in
    let belong = c.lines_belong.ensures.0 c.if-not-lines_belong.false in
    let each = all_from_map (λ r. (1 ≤ place r) × (place r ≤ c.args.end)) line_row_of rows belong in (
      omega arith,
      omega (arith, c.saturating_sub-before.ensures),
      λ sorted rising apart inside.
          let ranged = all_from_map (λ r. (c.args.first ≤ place r) × (place r < c.args.end)) line_row_of rows inside in (
            record {
              before = λ i d within low. absurd (omega (arith, low));
              after = λ i d within low.
                  omega (
                    arith,
                    c.saturating_sub-before.ensures,
                    (all-get_or (λ r. (1 ≤ serial_of_line r) × (serial_of_line r ≤ c.args.end)) rows i d each within).0,
                    (all-get_or (λ r. (c.args.first ≤ serial_of_line r) × (serial_of_line r < c.args.end)) rows i d ranged within).0,
                  );
            },
            λ n some low high. absurd (omega (arith, some, low, high, c.saturating_sub-before.ensures)),
          ),
    )

-- the lines of the next movement are the run
next_lines : (rows : List StoredLine) (n start end : ℕ) → IsBySerial (map line_row_of rows) → IsByNumber (map line_row_of rows) → AreNumbersApart (map line_row_of rows)
    → IsSplit serial_of_line n start rows → IsEndOfRun serial_of_line (n + 1) start rows end
    → in_order no_of (of_key place (n + 1) (map line_row_of rows)) ≡ map line_row_of (take (end - start) (drop start rows))
next_lines rows n start end sorted rising apart split run =
    sym (ordered (n + 1) (map line_row_of rows) rising apart)
    ∙ filter-map (λ r. place r == n + 1) line_row_of rows
    ∙ ap (map line_row_of) (run_is serial_of_line n start end rows (ascending_from_map (λ a b. place a ≤ place b) line_row_of rows sorted) split run)

-- a line has the serial 0
pub returns-then-not-lines_belong : goal.returns-then-not-lines_belong
returns-then-not-lines_belong c = λ sorted rising apart inside. (
  λ t. absurd (false≢true t),
  λ kept.
      let rows = map line_row_of c.args.rows.now in
      let belong = all_both (λ r. (c.args.first ≤ place r) × (place r < c.args.end)) (λ r. c.args.first ≤ place r → place r < c.args.end → 1 ≤ place r) (λ r. (1 ≤ place r) × (place r ≤ c.args.end))
      (λ r it some. (some it.0 it.1, omega (arith, it.1))) rows inside kept.serials in
      absurd (false≢true (sym c.if-not-lines_belong.true ∙ c.lines_belong.ensures.1 belong)),
)

-- the lines of the next movement aren't in their places
pub returns-then-not-lines_are_in_place : goal.returns-then-not-lines_are_in_place
returns-then-not-lines_are_in_place c = λ sorted rising apart inside. (
  λ t. absurd (false≢true t),
  λ kept.
      let n = c.loop-before.before in
      let same = next_lines c.args.rows.now n c.loop-before.start c.end_of_run-stop.result sorted rising apart (c.loop-before.invariant.2 sorted rising apart inside).0 c.end_of_run-stop.ensures in
      let is = subst (AreLinesInPlace c.args.guarantees) same
      (kept.each (n + 1) (omega arith) (omega (arith, c.loop-before.invariant.1)) (omega (arith, c.loop-before-test.true, c.saturating_sub-before-end.ensures))) in
      absurd (false≢true (sym c.if-not-lines_are_in_place.true ∙ c.lines_are_in_place.ensures.1 is)),
)

pub loop-before-preserved : goal.loop-before-preserved
loop-before-preserved c = (c.end_of_run-stop.ensures.last, omega (arith, c.loop-before.invariant.1), next)
  where
    rows : List StoredLine
    rows = c.args.rows.now

    n : ℕ
    n = c.loop-before.before

    stop : ℕ
    stop = c.end_of_run-stop.result

    next : IsBySerial (map line_row_of rows) → IsByNumber (map line_row_of rows) → AreNumbersApart (map line_row_of rows) → AreSerialsWithin c.args.first c.args.end (map line_row_of rows)
        → IsSplit serial_of_line (n + 1) stop rows
        × ((k : ℕ) → 1 ≤ k → c.args.first ≤ k → k ≤ n + 1 → AreLinesInPlace c.args.guarantees (in_order no_of (of_key place k (map line_row_of rows))))
    next sorted rising apart inside = (
      next_split serial_of_line n c.loop-before.start stop rows (ascending_from_map (λ a b. place a ≤ place b) line_row_of rows sorted) split c.end_of_run-stop.ensures,
      λ k some low high. go k some low high (nat_lt k (n + 1)) refl,
    )
      where
        split : IsSplit serial_of_line n c.loop-before.start rows
        split = (c.loop-before.invariant.2 sorted rising apart inside).0

        here : AreLinesInPlace c.args.guarantees (in_order no_of (of_key place (n + 1) (map line_row_of rows)))
        here = subst (AreLinesInPlace c.args.guarantees) (sym (next_lines rows n c.loop-before.start stop sorted rising apart split c.end_of_run-stop.ensures))
            (c.lines_are_in_place.ensures.0 c.if-not-lines_are_in_place.false)

        go : (k : ℕ) → 1 ≤ k → c.args.first ≤ k → k ≤ n + 1 → (b : Bool) → nat_lt k (n + 1) ≡ b → AreLinesInPlace c.args.guarantees (in_order no_of (of_key place k (map line_row_of rows)))
        go k some low high true is = (c.loop-before.invariant.2 sorted rising apart inside).1 k some low (grind (arith, nat_tests, is))
        go k some low high false is =
            let same : n + 1 ≡ k = grind (arith, nat_tests, is, high) in
            subst (λ m. AreLinesInPlace c.args.guarantees (in_order no_of (of_key place m (map line_row_of rows)))) same here

pub returns : goal.returns
returns c = λ sorted rising apart inside. (
  λ t. record {
    serials = all_weaker (λ r. (1 ≤ place r) × (place r ≤ c.args.end)) (λ r. c.args.first ≤ place r → place r < c.args.end → 1 ≤ place r) (λ r is above below. is.0)
        (map line_row_of c.args.rows.now) (c.lines_belong.ensures.0 c.if-not-lines_belong.false);
    each = λ n some low high. (c.loop-before.invariant.2 sorted rising apart inside).1 n some low (omega (arith, high, c.loop-before-test.false, c.saturating_sub-before-end.ensures));
  },
  λ kept. refl,
)
