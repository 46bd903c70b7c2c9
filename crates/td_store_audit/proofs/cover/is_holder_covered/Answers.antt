use Rattle.std.proofs.Common.{◌≡◌, ◌∙◌, ◌+◌, ℕ, ap, arith, map, refl, subst, sym}
use Rattle.std.proofs.lemmas.Bool.{false≢true}
use Rattle.std.specs.Prelude.{◌&&◌, nat_le, nat_lt}
use Rattle.std.specs.List.{AllByRecursion}
use Rattle.sqlite.specs.Held.{state}
use Rattle.sqlite.specs.State.{State, HasCleanDisk}
use Rattle.sqlite_trees.proofs.ListLemmas.{all-filter}
use Rattle.typed_sql.proofs.OnlyRead.{none_read, stays_nothing}
use Rattle.td_table_model.specs.Gathering.{guarantees_by, place}
use Rattle.td_store_rows.proofs.StoreReads.{reads_on}
use Rattle.td_store_rows.specs.Columns.{guarantee_typing}
use Rattle.td_store_rows.specs.GuaranteeTable.{guarantee_row_of}
use Rattle.td_store_rows.specs.StoreReads.{IsOfVersion}
use Rattle.td_store_rows.specs.StoreTables.{tables_in}
use Rattle.td_store_audit.specs.InFile.{AreTypedApart, IsRowCovered}
use Rattle.td_store_rows.specs.Ranges.{rows_below, rows_between}
use Rattle.td_store_audit.proofs.GuaranteesKept.{AreRowsOfRange, rows_of_range}
use Rattle.td_store_audit.proofs.HandedOn.{all_of_them, range_covered}
use Rattle.td_store_audit.proofs.Reading.{so_before}
use Rattle.td_store_rows.proofs.RowRanges.{all_at_first, all_more, mine_rise}
use Rattle.td_store_audit.proofs.cover.is_holder_covered.Goals as goal

pub parts-init : goal.parts-init
parts-init g c = (
  refl,
  record { still = λ clean well l own. none_read (state g.S.Store c.args.tx.now.conn.now); within = stays_nothing },
  omega arith,
  λ clean layout own has is.
      let t = tables_in layout (state g.S.Store c.args.tx.now.conn.now).now.trees in
      let H = c.args.parts.now.movements.raw.holder in
      all_at_first (IsRowCovered layout (state g.S.Store c.args.tx.now.conn.now).now.trees) (guarantees_by H t) (mine_rise H t.guarantees (is.guarantees.apart H)),
)

-- a guarantee of the range isn't covered
pub returns-then-not-all_rows_covered-clause-told : goal.returns-then-not-all_rows_covered-clause-told
returns-then-not-all_rows_covered-clause-told g c clean layout own has is = (
  λ t. absurd (false≢true t),
  λ all.
      let mine = guarantees_by H (tables_in layout a.now.trees) in
      let tells = range_covered layout a.now.trees c.args.parts.now is c.parts.first c.range_end-next.result c.in_ok-rows.rows.items (here layout own has is.guarantees)
      c.all_rows_covered.result (rw c.deref.ensures.value at c.all_rows_covered.ensures) in
      absurd (false≢true (sym c.if-not-all_rows_covered.true
      ∙ tells.1 (all-filter (IsRowCovered layout a.now.trees) (λ r. nat_le c.parts.first (place r) && nat_lt (place r) c.range_end-next.result) mine all))),
)
  where
    a : State
    a = state g.S.Store c.args.tx.now.conn.now

    b : State
    b = state g.S.Store c.parts.tx.conn.now

    H : ℕ
    H = c.args.parts.now.movements.raw.holder

    clean_b : HasCleanDisk b
    clean_b = omega (arith, clean, c.guarantees_within.ensures.reads.within.survives.clean)

    here : AreRowsOfRange c.args.version a H c.parts.first c.range_end-next.result (map guarantee_row_of c.in_ok-rows.rows.items)
    here =
        so_before (IsOfVersion c.args.version) (λ layout. AreTypedApart (guarantee_typing layout))
        (λ layout trees. map guarantee_row_of c.in_ok-rows.rows.items ≡ rows_between c.parts.first c.range_end-next.result (guarantees_by H (tables_in layout trees))) a b
        (c.parts.invariant.1.still clean_b refl) (rows_of_range c.args.version b H c.parts.first c.range_end-next.result c.in_ok-rows.rows.items (c.in_ok-rows.ensures.order clean))

-- one range more
pub parts-preserved : goal.parts-preserved
parts-preserved g c = (
  c.guarantees_within.ensures.same_reference ∙ c.parts.invariant.0,
  reads_on c.parts.invariant.1 c.in_ok-rows.ensures.reads,
  omega (arith, c.range_end-next.ensures c.parts-test.true, c.parts-test.true),
  λ clean layout own has is.
      let t = tables_in layout a.now.trees in
      let tells = range_covered layout a.now.trees c.args.parts.now is c.parts.first c.range_end-next.result c.in_ok-rows.rows.items (here clean layout own has is.guarantees)
      c.all_rows_covered.result (rw c.deref.ensures.value at c.all_rows_covered.ensures) in
      all_more (IsRowCovered layout a.now.trees) (guarantees_by H t) (mine_rise H t.guarantees (is.guarantees.apart H)) c.parts.first c.range_end-next.result
      (omega (arith, c.range_end-next.ensures c.parts-test.true, c.parts-test.true)) (c.parts.invariant.3 (clean_b clean) layout own has is) (tells.0 c.if-not-all_rows_covered.false),
)
  where
    a : State
    a = state g.S.Store c.args.tx.now.conn.now

    b : State
    b = state g.S.Store c.parts.tx.conn.now

    d : State
    d = state g.S.Store c.guarantees_within.new.tx.conn.now

    H : ℕ
    H = c.args.parts.now.movements.raw.holder

    clean_b : HasCleanDisk d → HasCleanDisk b
    clean_b clean = omega (arith, clean, c.guarantees_within.ensures.reads.within.survives.clean)

    here : HasCleanDisk d → AreRowsOfRange c.args.version a H c.parts.first c.range_end-next.result (map guarantee_row_of c.in_ok-rows.rows.items)
    here clean =
        so_before (IsOfVersion c.args.version) (λ layout. AreTypedApart (guarantee_typing layout))
        (λ layout trees. map guarantee_row_of c.in_ok-rows.rows.items ≡ rows_between c.parts.first c.range_end-next.result (guarantees_by H (tables_in layout trees))) a b
        (c.parts.invariant.1.still (clean_b clean) refl) (rows_of_range c.args.version b H c.parts.first c.range_end-next.result c.in_ok-rows.rows.items (c.in_ok-rows.ensures.order clean))

-- all ranges are read
pub returns-clause-told : goal.returns-clause-told
returns-clause-told g c clean layout own has is = (
  λ t. subst (AllByRecursion (IsRowCovered layout a.now.trees)) whole (c.parts.invariant.3 clean layout own has is),
  λ all. refl,
)
  where
    a : State
    a = state g.S.Store c.args.tx.now.conn.now

    last : c.parts.first ≡ c.in-Some.count + 1
    last = omega (arith, c.parts.invariant.2, c.parts-test.false, c.in-Some-checked_add.ensures.1)

    whole : rows_below c.parts.first (guarantees_by c.args.parts.now.movements.raw.holder (tables_in layout a.now.trees)) ≡ guarantees_by c.args.parts.now.movements.raw.holder (tables_in layout a.now.trees)
    whole =
        ap (λ n. rows_below n (guarantees_by c.args.parts.now.movements.raw.holder (tables_in layout a.now.trees))) last
        ∙ all_of_them layout a.now.trees c.args.parts.now is c.in-Some.count c.in-Some.is
