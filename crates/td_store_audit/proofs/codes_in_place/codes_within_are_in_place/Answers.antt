use Rattle.std.proofs.Common.{◌≡◌, ◌∙◌, ℕ, ◌+◌, ◌-◌, ◌<◌, ◌≤◌, List, length, map, nat_lt, Bool, true, false, refl, subst, sym, arith, ap}
use Rattle.std.proofs.lemmas.Bool.{false≢true}
use Rattle.std.proofs.lemmas.Bool.Decides.{nat_tests}
use Rattle.std.proofs.lemmas.List.{length-map}
use Rattle.std.specs.Prelude.{◌==◌}
use Rattle.sqlite_trees.proofs.ListLemmas.{all-get_or, all_both, all_from_map, all_weaker, ascending_from_map, filter-map}
use Rattle.td_store_rows.specs.CodeTable.{code_row_of}
use Rattle.td_store_rows.specs.declared.codes.stored.StoredCode.{StoredCode}
use Rattle.td_table_model.specs.Gathering.{of_key, place}
use Rattle.td_store_audit.specs.Found.{serial_of_code}
use Rattle.td_store_audit.specs.InPlace.{AreOneToTwenty, AreSerialsWithin, IsBySerial, IsEndOfRun}
use Rattle.td_store_audit.proofs.Runs.{IsSplit, next_split, run_length}
use Rattle.td_store_audit.proofs.codes_in_place.codes_within_are_in_place.Goals as goal
use Rattle.td_store_audit.proofs.codes_in_place.codes_within_are_in_place.Goals.{then-stop-start-via-then-stop-start, then-stop-start-via-else-stop-start+then-stop-start-gt-MOST_CODES}

-- the range begins at the least of its serials that a guarantee has
pub loop-before-init : goal.loop-before-init
loop-before-init c =
    let rows = c.args.rows.now in
    let belong = c.codes_belong.ensures.0 c.if-not-codes_belong.false in
    let each = all_from_map (λ r. (1 ≤ place r) × (place r ≤ c.args.end)) code_row_of rows belong in (
      omega arith,
      omega (arith, c.saturating_sub-before.ensures),
      λ sorted inside.
          let ranged = all_from_map (λ r. (c.args.first ≤ place r) × (place r < c.args.end)) code_row_of rows inside in (
            record {
              before = λ i d within low. absurd (omega (arith, low));
              after = λ i d within low.
                  omega (
                    arith,
                    c.saturating_sub-before.ensures,
                    (all-get_or (λ r. (1 ≤ serial_of_code r) × (serial_of_code r ≤ c.args.end)) rows i d each within).0,
                    (all-get_or (λ r. (c.args.first ≤ serial_of_code r) × (serial_of_code r < c.args.end)) rows i d ranged within).0,
                  );
            },
            λ n some low high. absurd (omega (arith, some, low, high, c.saturating_sub-before.ensures)),
          ),
    )

-- the codes of the next guarantee are as many as the run
next_codes : (rows : List StoredCode) (n start end : ℕ) → IsBySerial (map code_row_of rows) → IsSplit serial_of_code n start rows → IsEndOfRun serial_of_code (n + 1) start rows end
    → length (of_key place (n + 1) (map code_row_of rows)) ≡ end - start
next_codes rows n start end sorted split run =
    ap length (filter-map (λ r. place r == n + 1) code_row_of rows)
    ∙ length-map (of_key serial_of_code (n + 1) rows) code_row_of
    ∙ run_length serial_of_code n start end rows (ascending_from_map (λ a b. place a ≤ place b) code_row_of rows sorted) split run

-- a code has the serial 0
pub returns-then-not-codes_belong : goal.returns-then-not-codes_belong
returns-then-not-codes_belong c = λ sorted inside. (
  λ t. absurd (false≢true t),
  λ kept.
      let rows = map code_row_of c.args.rows.now in
      let belong = all_both (λ r. (c.args.first ≤ place r) × (place r < c.args.end)) (λ r. c.args.first ≤ place r → place r < c.args.end → 1 ≤ place r) (λ r. (1 ≤ place r) × (place r ≤ c.args.end))
      (λ r it some. (some it.0 it.1, omega (arith, it.1))) rows inside kept.serials in
      absurd (false≢true (sym c.if-not-codes_belong.true ∙ c.codes_belong.ensures.1 belong)),
)

-- the next guarantee has no code, or too many
pub returns-then-stop-start : goal.returns-then-stop-start
returns-then-stop-start c = λ sorted inside. (
  λ t. absurd (false≢true t),
  λ kept.
      let n = c.loop-before.before in
      let long = next_codes c.args.rows.now n c.loop-before.start c.end_of_run-stop.result sorted (c.loop-before.invariant.2 sorted inside).0 c.end_of_run-stop.ensures in
      let is = kept.each (n + 1) (omega arith) (omega (arith, c.loop-before.invariant.1)) (omega (arith, c.loop-before-test.true, c.saturating_sub-before-end.ensures)) in
      elim c.then-stop-start.branch [
        | then-stop-start-via-then-stop-start w ↦ absurd (omega (arith, w.if-stop-start.true, is.some, long))
        | then-stop-start-via-else-stop-start+then-stop-start-gt-MOST_CODES w ↦ absurd (omega (arith, w.if-stop-start-gt-MOST_CODES.true, is.most, long))
      ],
)

pub loop-before-preserved : goal.loop-before-preserved
loop-before-preserved c = (c.end_of_run-stop.ensures.last, omega (arith, c.loop-before.invariant.1), next)
  where
    rows : List StoredCode
    rows = c.args.rows.now

    n : ℕ
    n = c.loop-before.before

    stop : ℕ
    stop = c.end_of_run-stop.result

    next : IsBySerial (map code_row_of rows) → AreSerialsWithin c.args.first c.args.end (map code_row_of rows) → IsSplit serial_of_code (n + 1) stop rows
        × ((k : ℕ) → 1 ≤ k → c.args.first ≤ k → k ≤ n + 1 → AreOneToTwenty (of_key place k (map code_row_of rows)))
    next sorted inside = (
      next_split serial_of_code n c.loop-before.start stop rows (ascending_from_map (λ a b. place a ≤ place b) code_row_of rows sorted) split c.end_of_run-stop.ensures,
      λ k some low high. go k some low high (nat_lt k (n + 1)) refl,
    )
      where
        split : IsSplit serial_of_code n c.loop-before.start rows
        split = (c.loop-before.invariant.2 sorted inside).0

        long : length (of_key place (n + 1) (map code_row_of rows)) ≡ stop - c.loop-before.start
        long = next_codes rows n c.loop-before.start stop sorted split c.end_of_run-stop.ensures

        here : AreOneToTwenty (of_key place (n + 1) (map code_row_of rows))
        here = record {
          some = let other = c.if-stop-start.false in omega (arith, long, other, c.end_of_run-stop.ensures.first);
          most = omega (arith, long, c.if-stop-start-gt-MOST_CODES.false);
        }

        go : (k : ℕ) → 1 ≤ k → c.args.first ≤ k → k ≤ n + 1 → (b : Bool) → nat_lt k (n + 1) ≡ b → AreOneToTwenty (of_key place k (map code_row_of rows))
        go k some low high true is = (c.loop-before.invariant.2 sorted inside).1 k some low (grind (arith, nat_tests, is))
        go k some low high false is =
            let same : n + 1 ≡ k = grind (arith, nat_tests, is, high) in
            subst (λ m. AreOneToTwenty (of_key place m (map code_row_of rows))) same here

pub returns : goal.returns
returns c = λ sorted inside. (
  λ t. record {
    serials = all_weaker (λ r. (1 ≤ place r) × (place r ≤ c.args.end)) (λ r. c.args.first ≤ place r → place r < c.args.end → 1 ≤ place r) (λ r is above below. is.0)
        (map code_row_of c.args.rows.now) (c.codes_belong.ensures.0 c.if-not-codes_belong.false);
    each = λ n some low high. (c.loop-before.invariant.2 sorted inside).1 n some low (omega (arith, high, c.loop-before-test.false, c.saturating_sub-before-end.ensures));
  },
  λ kept. refl,
)
