use Rattle.std.proofs.Common.{◌≡◌, ◌∙◌, ◌-◌, ◌<◌, ◌≤◌, ◌++◌, ℕ, List, [], ap, ap₂, arith, map, refl, sym}
use Rattle.std.specs.Prelude.{filter}
use Rattle.std.proofs.lemmas.List.{map-append}
use Rattle.std.proofs.lemmas.List.Elements.{filter-append}
use Rattle.sqlite.specs.Held.{state}
use Rattle.sqlite.specs.State.{State, HasCleanDisk}
use Rattle.typed_sql.proofs.OnlyRead.{none_read, stays_nothing}
use Rattle.td_base.specs.References.{greatest_older_mrn_serial}
use Rattle.td_movement.specs.declared.movement.Movement.{Movement}
use Rattle.td_table_model.specs.Gathering.{movements_by, place}
use Rattle.td_table_model.specs.Tables.{Keyed}
use Rattle.td_store_rows.proofs.StoreReads.{reads_on}
use Rattle.td_store_rows.specs.Columns.{movement_typing}
use Rattle.td_store_rows.specs.MovementTable.{movement_row_of, serial_of_stored}
use Rattle.td_store_rows.specs.StoreReads.{IsAny}
use Rattle.td_store_rows.specs.StoreTables.{tables_in}
use Rattle.td_store_audit_rows.specs.InPlace.{IsMovementInPlace}
use Rattle.td_store_audit.specs.InFile.{AreTypedApart}
use Rattle.td_store_rows.specs.Ranges.{rows_between}
use Rattle.td_store_audit.specs.Tallies.{is_counting_row}
use Rattle.td_store_audit.proofs.MovementsKept.{AreRowsOfRange, range_tells, rows_more, rows_none, rows_of_range}
use Rattle.td_store_audit.proofs.Reading.{so_before}
use Rattle.td_store_audit.proofs.RowRanges.{next_joined}
use Rattle.td_store_audit.proofs.Serials.{serials_rise}
use Rattle.td_store_audit.proofs.movements.counting_below.Goals as goal

pub parts-init : goal.parts-init
parts-init g c = (
  refl,
  record { still = λ clean well l own. none_read (state g.S.Store c.args.tx.now.conn.now); within = stays_nothing },
  omega arith,
  (
    [],
    record { serials = tt; count = refl; most = omega arith; each = tt },
    ap (map serial_of_stored) c.new-serials.ensures.items,
    λ clean. rows_none (state g.S.Store c.args.tx.now.conn.now) c.args.holder,
  ),
)

-- a range isn't in its place
pub returns-then-not-movements_are_in_place-clause-told : goal.returns-then-not-movements_are_in_place-clause-told
returns-then-not-movements_are_in_place-clause-told g c clean =
    range_tells c.args.country a c.args.holder c.args.end c.parts.first next less within (map movement_row_of c.in_ok-rows.rows.items) here
    c.movements_are_in_place.result c.if-not-movements_are_in_place.true
    (rw (c.deref.ensures.value, c.saturating_sub.ensures) at c.movements_are_in_place.ensures)
  where
    a : State
    a = state g.S.Store c.args.tx.now.conn.now

    b : State
    b = state g.S.Store c.parts.tx.conn.now

    next : ℕ
    next = c.range_end-next.result

    less : c.parts.first < next
    less = omega (arith, c.range_end-next.ensures c.parts-test.true, c.parts-test.true)

    within : next ≤ c.args.end
    within = omega (arith, c.range_end-next.ensures c.parts-test.true, c.parts-test.true)

    clean_b : HasCleanDisk b
    clean_b = omega (arith, clean, c.movements_within.ensures.reads.within.survives.clean)

    here : AreRowsOfRange a c.args.holder c.parts.first next (map movement_row_of c.in_ok-rows.rows.items)
    here =
        so_before IsAny (λ layout. AreTypedApart movement_typing)
        (λ layout trees. map movement_row_of c.in_ok-rows.rows.items ≡ rows_between c.parts.first next (movements_by c.args.holder (tables_in layout trees))) a b
        (c.parts.invariant.1.still clean_b refl) (rows_of_range b c.args.holder c.parts.first next c.in_ok-rows.rows.items (c.in_ok-rows.ensures.order clean))

-- one range more
pub parts-preserved : goal.parts-preserved
parts-preserved g c = (
  c.movements_within.ensures.same_reference ∙ c.parts.invariant.0,
  reads_on c.parts.invariant.1 c.in_ok-rows.ensures.reads,
  omega (arith, c.range_end-next.ensures c.parts-test.true, c.parts-test.true),
  (
    before ++ found,
    next_joined (IsMovementInPlace c.args.country) greatest_older_mrn_serial (c.parts.first - 1) (next - 1) before found c.parts.invariant.3.1
        ((rw (c.deref.ensures.value, c.saturating_sub.ensures) at c.movements_are_in_place.ensures).0 c.if-not-movements_are_in_place.false),
    c.in_ok-push_counting.ensures
        ∙ ap₂ (λ x y. x ++ y) c.parts.invariant.3.2 (ap (λ rows. map place (filter is_counting_row (map movement_row_of rows))) c.deref-in-parts.ensures.value)
        ∙ sym (map-append place (filter is_counting_row before) (filter is_counting_row found))
        ∙ ap (map place) (sym (filter-append is_counting_row before found)),
    λ clean. rows_more a c.args.holder c.parts.first next less before found (c.parts.invariant.3.3 (clean_b clean)) (here clean),
  ),
)
  where
    a : State
    a = state g.S.Store c.args.tx.now.conn.now

    b : State
    b = state g.S.Store c.parts.tx.conn.now

    d : State
    d = state g.S.Store c.movements_within.new.tx.conn.now

    next : ℕ
    next = c.range_end-next.result

    before : List (Keyed Movement)
    before = c.parts.invariant.3.0

    found : List (Keyed Movement)
    found = map movement_row_of c.in_ok-rows.rows.items

    less : c.parts.first ≤ next
    less = omega (arith, c.range_end-next.ensures c.parts-test.true, c.parts-test.true)

    clean_b : HasCleanDisk d → HasCleanDisk b
    clean_b clean = omega (arith, clean, c.movements_within.ensures.reads.within.survives.clean)

    here : HasCleanDisk d → AreRowsOfRange a c.args.holder c.parts.first next found
    here clean =
        so_before IsAny (λ layout. AreTypedApart movement_typing)
        (λ layout trees. found ≡ rows_between c.parts.first next (movements_by c.args.holder (tables_in layout trees))) a b
        (c.parts.invariant.1.still (clean_b clean) refl) (rows_of_range b c.args.holder c.parts.first next c.in_ok-rows.rows.items (c.in_ok-rows.ensures.order clean))

pub returns-clause-rise : goal.returns-clause-rise
returns-clause-rise g c = serials_rise c.parts.invariant.3.0 c.parts.serials.items c.parts.invariant.3.1.serials c.parts.invariant.3.2
