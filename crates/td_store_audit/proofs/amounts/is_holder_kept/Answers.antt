use Rattle.std.proofs.Common.{◌≡◌, ◌∙◌, ◌+◌, ℕ, ap, arith, map, refl, subst, sym}
use Rattle.std.proofs.lemmas.Bool.{false≢true}
use Rattle.std.specs.Prelude.{◌&&◌, nat_le, nat_lt}
use Rattle.std.specs.List.{AllByRecursion}
use Rattle.sqlite.specs.Held.{state}
use Rattle.sqlite.specs.State.{State, HasCleanDisk}
use Rattle.sqlite_trees.proofs.ListLemmas.{all-filter, all-permutation}
use Rattle.std.proofs.lemmas.List.Sorted.{IsPermutation-sym}
use Rattle.td_table_model.proofs.Orders.{in_order_permutes}
use Rattle.typed_sql.proofs.OnlyRead.{none_read, stays_nothing}
use Rattle.td_table_model.specs.Gathering.{in_order, part, place}
use Rattle.td_store_rows.proofs.StoreReads.{reads_on}
use Rattle.td_store_rows.specs.Columns.{kept_typing}
use Rattle.td_store_rows.specs.KeptTable.{kept_row_of}
use Rattle.td_store_rows.specs.StoreReads.{KeepsUse}
use Rattle.td_store_rows.specs.StoreTables.{tables_in}
use Rattle.td_store_audit.specs.InFile.{AreTypedApart, IsRowKept}
use Rattle.td_store_rows.specs.Ranges.{rows_below, rows_between}
use Rattle.td_store_audit.proofs.HandedOn.{AreKeptOfRange, all_kept, kept_of_range, range_kept}
use Rattle.td_store_audit.proofs.Reading.{so_before}
use Rattle.td_store_rows.proofs.RowRanges.{all_at_first, all_more, mine_rise}
use Rattle.td_store_audit.proofs.amounts.is_holder_kept.Goals as goal

pub parts-init : goal.parts-init
parts-init g c = (
  refl,
  record { still = λ clean well l own. none_read (state g.S.Store c.args.tx.now.conn.now); within = stays_nothing },
  omega arith,
  λ clean layout own has is.
      let t = tables_in layout (state g.S.Store c.args.tx.now.conn.now).now.trees in
      let H = c.args.parts.now.movements.raw.holder in
      all_at_first (IsRowKept layout (state g.S.Store c.args.tx.now.conn.now).now.trees) (in_order place (part H t.kept)) (mine_rise H t.kept ((is.kept own).apart H)),
)

-- a guarantee of the range isn't kept right
pub returns-then-not-all_rows_kept-clause-told : goal.returns-then-not-all_rows_kept-clause-told
returns-then-not-all_rows_kept-clause-told g c clean layout own has is = (
  λ t. absurd (false≢true t),
  λ all.
      let rows = (tables_in layout a.now.trees).kept in
      let mine = in_order place (part H rows) in
      let ordered = all-permutation (IsRowKept layout a.now.trees) (part H rows) mine (in_order_permutes place (part H rows) ((is.kept own).apart H)) all in
      let tells = range_kept layout a.now.trees c.args.parts.now is c.parts.first c.range_end-next.result c.in_ok-rows.rows.items (here layout own has (is.kept own))
      c.all_rows_kept.result (rw c.deref.ensures.value at c.all_rows_kept.ensures) in
      absurd (false≢true (sym c.if-not-all_rows_kept.true
      ∙ tells.1 (all-filter (IsRowKept layout a.now.trees) (λ r. nat_le c.parts.first (place r) && nat_lt (place r) c.range_end-next.result) mine ordered))),
)
  where
    a : State
    a = state g.S.Store c.args.tx.now.conn.now

    b : State
    b = state g.S.Store c.parts.tx.conn.now

    H : ℕ
    H = c.args.parts.now.movements.raw.holder

    clean_b : HasCleanDisk b
    clean_b = omega (arith, clean, c.kept_within.ensures.reads.within.survives.clean)

    here : AreKeptOfRange a H c.parts.first c.range_end-next.result (map kept_row_of c.in_ok-rows.rows.items)
    here =
        so_before KeepsUse (λ layout. AreTypedApart (kept_typing layout))
        (λ layout trees. map kept_row_of c.in_ok-rows.rows.items ≡ rows_between c.parts.first c.range_end-next.result (in_order place (part H (tables_in layout trees).kept))) a b
        (c.parts.invariant.1.still clean_b refl) (kept_of_range b H c.parts.first c.range_end-next.result c.in_ok-rows.rows.items (c.in_ok-rows.ensures.order clean))

-- one range more
pub parts-preserved : goal.parts-preserved
parts-preserved g c = (
  c.kept_within.ensures.same_reference ∙ c.parts.invariant.0,
  reads_on c.parts.invariant.1 c.in_ok-rows.ensures.reads,
  omega (arith, c.range_end-next.ensures c.parts-test.true, c.parts-test.true),
  λ clean layout own has is.
      let t = tables_in layout a.now.trees in
      let tells = range_kept layout a.now.trees c.args.parts.now is c.parts.first c.range_end-next.result c.in_ok-rows.rows.items (here clean layout own has (is.kept own))
      c.all_rows_kept.result (rw c.deref.ensures.value at c.all_rows_kept.ensures) in
      all_more (IsRowKept layout a.now.trees) (in_order place (part H t.kept)) (mine_rise H t.kept ((is.kept own).apart H)) c.parts.first c.range_end-next.result
      (omega (arith, c.range_end-next.ensures c.parts-test.true, c.parts-test.true)) (c.parts.invariant.3 (clean_b clean) layout own has is) (tells.0 c.if-not-all_rows_kept.false),
)
  where
    a : State
    a = state g.S.Store c.args.tx.now.conn.now

    b : State
    b = state g.S.Store c.parts.tx.conn.now

    d : State
    d = state g.S.Store c.kept_within.new.tx.conn.now

    H : ℕ
    H = c.args.parts.now.movements.raw.holder

    clean_b : HasCleanDisk d → HasCleanDisk b
    clean_b clean = omega (arith, clean, c.kept_within.ensures.reads.within.survives.clean)

    here : HasCleanDisk d → AreKeptOfRange a H c.parts.first c.range_end-next.result (map kept_row_of c.in_ok-rows.rows.items)
    here clean =
        so_before KeepsUse (λ layout. AreTypedApart (kept_typing layout))
        (λ layout trees. map kept_row_of c.in_ok-rows.rows.items ≡ rows_between c.parts.first c.range_end-next.result (in_order place (part H (tables_in layout trees).kept))) a b
        (c.parts.invariant.1.still (clean_b clean) refl) (kept_of_range b H c.parts.first c.range_end-next.result c.in_ok-rows.rows.items (c.in_ok-rows.ensures.order clean))

-- all ranges are read
pub returns-clause-told : goal.returns-clause-told
returns-clause-told g c clean layout own has is = (
  λ t. all-permutation (IsRowKept layout a.now.trees) (in_order place (part H (tables_in layout a.now.trees).kept)) (part H (tables_in layout a.now.trees).kept)
      (IsPermutation-sym (part H (tables_in layout a.now.trees).kept) (in_order place (part H (tables_in layout a.now.trees).kept))
      (in_order_permutes place (part H (tables_in layout a.now.trees).kept) ((is.kept own).apart H)))
      (subst (AllByRecursion (IsRowKept layout a.now.trees)) whole (c.parts.invariant.3 clean layout own has is)),
  λ all. refl,
)
  where
    H : ℕ
    H = c.args.parts.now.movements.raw.holder

    a : State
    a = state g.S.Store c.args.tx.now.conn.now

    last : c.parts.first ≡ c.in-Some.count + 1
    last = omega (arith, c.parts.invariant.2, c.parts-test.false, c.in-Some-checked_add.ensures.1)

    whole : rows_below c.parts.first (in_order place (part c.args.parts.now.movements.raw.holder (tables_in layout a.now.trees).kept)) ≡ in_order place (part c.args.parts.now.movements.raw.holder (tables_in layout a.now.trees).kept)
    whole =
        ap (λ n. rows_below n (in_order place (part c.args.parts.now.movements.raw.holder (tables_in layout a.now.trees).kept))) last
        ∙ all_kept layout a.now.trees c.args.parts.now is c.in-Some.count c.in-Some.is
