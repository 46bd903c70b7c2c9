use Rattle.std.proofs.Common.{◌∙◌, refl, subst, sym}
use Rattle.std.proofs.lemmas.List.{take_all}
use Rattle.std.proofs.lemmas.Bool.{false≢true}
use Rattle.std.specs.List.{AllByRecursion}
use Rattle.td_store_audit.specs.Tallies.{IsKeptBy}
use Rattle.td_store_audit.proofs.Walking.{one_more, one_of_all}
use Rattle.td_store_audit.proofs.amounts.all_rows_kept.Goals as goal

pub rows-preserved : goal.rows-preserved
rows-preserved c sums are =
    one_more (IsKeptBy sums) c.args.rows.now c.rows.row-index c.row-item.result c.rows-test.true c.row-item.is
    (c.rows.invariant sums are) ((c.is_row_kept.ensures sums are).0 c.if-not-is_row_kept.false)

-- one of them isn't
pub returns-then-not-is_row_kept : goal.returns-then-not-is_row_kept
returns-then-not-is_row_kept c sums are = (
  λ t. absurd (false≢true t),
  λ all.
      let here = one_of_all (IsKeptBy sums) c.args.rows.now c.rows.row-index c.row-item.result c.rows-test.true c.row-item.is all in
      absurd (false≢true (sym c.if-not-is_row_kept.true ∙ (c.is_row_kept.ensures sums are).1 here)),
)

pub returns : goal.returns
returns c sums are = (
  λ t. subst (AllByRecursion (IsKeptBy sums)) (take_all c.rows.row-index c.args.rows.now c.rows-test.false) (c.rows.invariant sums are),
  λ all. refl,
)
