use Rattle.std.proofs.Common.{◌≡◌, ◌∙◌, ◌-◌, ◌<◌, ◌≤◌, ◌++◌, ℕ, List, [], arith, map, refl}
use Rattle.sqlite.specs.Held.{state}
use Rattle.sqlite.specs.State.{State, HasCleanDisk}
use Rattle.typed_sql.proofs.OnlyRead.{none_read, stays_nothing}
use Rattle.td_base.specs.References.{greatest_grn_serial}
use Rattle.td_guarantee.specs.declared.guarantee.Guarantee.{Guarantee}
use Rattle.td_table_model.specs.Gathering.{guarantees_by}
use Rattle.td_table_model.specs.Tables.{Keyed}
use Rattle.td_store_rows.proofs.StoreReads.{reads_on}
use Rattle.td_store_rows.specs.Columns.{guarantee_typing}
use Rattle.td_store_rows.specs.GuaranteeTable.{guarantee_row_of}
use Rattle.td_store_rows.specs.StoreReads.{IsOfVersion}
use Rattle.td_store_rows.specs.StoreTables.{tables_in}
use Rattle.td_store_audit_rows.specs.InPlace.{IsGuaranteeInPlace}
use Rattle.td_store_audit.specs.InFile.{AreTypedApart}
use Rattle.td_store_rows.specs.Ranges.{rows_between}
use Rattle.td_store_audit.proofs.GuaranteesKept.{AreRowsOfRange, range_tells, rows_more, rows_none, rows_of_range}
use Rattle.td_store_audit.proofs.Reading.{so_before}
use Rattle.td_store_audit.proofs.RowRanges.{next_joined}
use Rattle.td_store_audit.proofs.guarantees.has_guarantees_below.Goals as goal

pub parts-init : goal.parts-init
parts-init g c = (
  refl,
  record { still = λ clean well l own. none_read (state g.S.Store c.args.tx.now.conn.now); within = stays_nothing },
  omega arith,
  (
    [],
    record { serials = tt; count = refl; most = omega arith; each = tt },
    λ clean. rows_none c.args.version (state g.S.Store c.args.tx.now.conn.now) c.args.holder,
  ),
)

-- a range isn't in its place
pub returns-then-not-guarantees_are_in_place-clause-told : goal.returns-then-not-guarantees_are_in_place-clause-told
returns-then-not-guarantees_are_in_place-clause-told g c clean =
    range_tells c.args.version c.args.country a c.args.holder c.args.end c.parts.first next less within (map guarantee_row_of c.in_ok-rows.rows.items) here
    c.guarantees_are_in_place.result c.if-not-guarantees_are_in_place.true
    (rw (c.deref.ensures.value, c.saturating_sub.ensures) at c.guarantees_are_in_place.ensures)
  where
    a : State
    a = state g.S.Store c.args.tx.now.conn.now

    b : State
    b = state g.S.Store c.parts.tx.conn.now

    next : ℕ
    next = c.range_end-next.result

    less : c.parts.first < next
    less = omega (arith, c.range_end-next.ensures c.parts-test.true, c.parts-test.true)

    within : next ≤ c.args.end
    within = omega (arith, c.range_end-next.ensures c.parts-test.true, c.parts-test.true)

    clean_b : HasCleanDisk b
    clean_b = omega (arith, clean, c.guarantees_within.ensures.reads.within.survives.clean)

    here : AreRowsOfRange c.args.version a c.args.holder c.parts.first next (map guarantee_row_of c.in_ok-rows.rows.items)
    here =
        so_before (IsOfVersion c.args.version) (λ layout. AreTypedApart (guarantee_typing layout))
        (λ layout trees. map guarantee_row_of c.in_ok-rows.rows.items ≡ rows_between c.parts.first next (guarantees_by c.args.holder (tables_in layout trees))) a b
        (c.parts.invariant.1.still clean_b refl) (rows_of_range c.args.version b c.args.holder c.parts.first next c.in_ok-rows.rows.items (c.in_ok-rows.ensures.order clean))

-- one range more
pub parts-preserved : goal.parts-preserved
parts-preserved g c = (
  c.guarantees_within.ensures.same_reference ∙ c.parts.invariant.0,
  reads_on c.parts.invariant.1 c.in_ok-rows.ensures.reads,
  omega (arith, c.range_end-next.ensures c.parts-test.true, c.parts-test.true),
  (
    before ++ found,
    next_joined (IsGuaranteeInPlace c.args.country) greatest_grn_serial (c.parts.first - 1) (next - 1) before found c.parts.invariant.3.1
        ((rw (c.deref.ensures.value, c.saturating_sub.ensures) at c.guarantees_are_in_place.ensures).0 c.if-not-guarantees_are_in_place.false),
    λ clean. rows_more c.args.version a c.args.holder c.parts.first next less before found (c.parts.invariant.3.2 (clean_b clean)) (here clean),
  ),
)
  where
    a : State
    a = state g.S.Store c.args.tx.now.conn.now

    b : State
    b = state g.S.Store c.parts.tx.conn.now

    d : State
    d = state g.S.Store c.guarantees_within.new.tx.conn.now

    next : ℕ
    next = c.range_end-next.result

    before : List (Keyed Guarantee)
    before = c.parts.invariant.3.0

    found : List (Keyed Guarantee)
    found = map guarantee_row_of c.in_ok-rows.rows.items

    less : c.parts.first ≤ next
    less = omega (arith, c.range_end-next.ensures c.parts-test.true, c.parts-test.true)

    clean_b : HasCleanDisk d → HasCleanDisk b
    clean_b clean = omega (arith, clean, c.guarantees_within.ensures.reads.within.survives.clean)

    here : HasCleanDisk d → AreRowsOfRange c.args.version a c.args.holder c.parts.first next found
    here clean =
        so_before (IsOfVersion c.args.version) (λ layout. AreTypedApart (guarantee_typing layout))
        (λ layout trees. found ≡ rows_between c.parts.first next (guarantees_by c.args.holder (tables_in layout trees))) a b
        (c.parts.invariant.1.still (clean_b clean) refl) (rows_of_range c.args.version b c.args.holder c.parts.first next c.in_ok-rows.rows.items (c.in_ok-rows.ensures.order clean))
