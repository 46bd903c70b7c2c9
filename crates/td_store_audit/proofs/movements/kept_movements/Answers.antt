use Rattle.std.proofs.Common.{◌∙◌, ◌-◌, ap, arith, refl, subst, sym}
use Rattle.std.specs.Prelude.{is_some, not}
use Rattle.sqlite.specs.Held.{state}
use Rattle.sqlite.specs.State.{State, HasCleanDisk}
use Rattle.td_store_rows.proofs.StoreReads.{reads_on}
use Rattle.td_store_rows.specs.Columns.{movement_typing}
use Rattle.td_store_rows.specs.MovementTable.{IsFirstMovement}
use Rattle.td_store_rows.specs.Places.{is_after}
use Rattle.td_store_rows.specs.StoreReads.{IsAny}
use Rattle.td_store_audit_rows.specs.InPlace.{AreMovementsInPlace}
use Rattle.td_store_audit.specs.InFile.{AreTypedApart, HasMovementsInPlace, TellsWhere}
use Rattle.td_store_audit.specs.Ranges.{movements_below}
use Rattle.td_store_audit.proofs.MovementsKept.{by_next, counting_all, first_before, not_below}
use Rattle.td_store_audit.proofs.movements.kept_movements.Goals as goal

-- those up to the count aren't in their places
pub returns-in_default-2-clause-told : goal.returns-in_default-2-clause-told
returns-in_default-2-clause-told g c clean =
    not_below c.args.country a c.args.raw.now c.in-Some.count c.in-Some-checked_add.end c.in-Some.is c.in-Some-checked_add.ensures.1
    (subst (TellsWhere IsAny (λ layout. AreTypedApart movement_typing)
    (λ layout trees. AreMovementsInPlace c.args.country (c.in-Some-checked_add.end - 1) (movements_below layout trees c.args.raw.now.holder c.in-Some-checked_add.end)) a)
    (ap is_some c.in_default-2.is) (c.in_ok-serials.ensures.told clean))
  where
    a : State
    a = state g.S.Store c.args.tx.now.conn.now

-- another stands behind the count
pub returns-then-is_some-clause-told : goal.returns-then-is_some-clause-told
returns-then-is_some-clause-told g c clean =
    subst (TellsWhere IsAny (λ layout. AreTypedApart movement_typing) (λ layout trees. HasMovementsInPlace layout c.args.country trees c.args.raw.now) a)
    (ap not (sym c.is_some.ensures ∙ c.if-is_some.true))
    (by_next c.args.country a c.args.raw.now c.in-Some.count c.in-Some-checked_add.end c.in-Some.is c.in-Some-checked_add.ensures.1 c.in_ok-next_movement_of.field-0
    (subst (TellsWhere IsAny (λ layout. AreTypedApart movement_typing)
    (λ layout trees. AreMovementsInPlace c.args.country (c.in-Some-checked_add.end - 1) (movements_below layout trees c.args.raw.now.holder c.in-Some-checked_add.end)) a)
    (ap is_some c.in-Some-2.is) (c.in_ok-serials.ensures.told clean_b)) first)
  where
    a : State
    a = state g.S.Store c.args.tx.now.conn.now

    b : State
    b = state g.S.Store c.counting_below.new.tx.conn.now

    clean_b : HasCleanDisk b
    clean_b = omega (arith, clean, c.next_movement_of.ensures.reads.within.survives.clean)

    first : IsFirstMovement (is_after c.args.raw.now.holder c.in-Some.count) a c.in_ok-next_movement_of.field-0
    first = first_before a b (c.in_ok-serials.ensures.reads.still clean_b refl) c.args.raw.now.holder c.in-Some.count c.in_ok-next_movement_of.field-0 (rw c.number.ensures.value at (c.in_ok-next_movement_of.ensures.found clean))

pub returns-then-is_some-clause-reads : goal.returns-then-is_some-clause-reads
returns-then-is_some-clause-reads g c = reads_on c.in_ok-serials.ensures.reads c.in_ok-next_movement_of.ensures.reads

pub returns-clause-told : goal.returns-clause-told
returns-clause-told g c clean =
    subst (TellsWhere IsAny (λ layout. AreTypedApart movement_typing) (λ layout trees. HasMovementsInPlace layout c.args.country trees c.args.raw.now) a)
    (ap not (sym c.is_some.ensures ∙ c.if-is_some.false))
    (by_next c.args.country a c.args.raw.now c.in-Some.count c.in-Some-checked_add.end c.in-Some.is c.in-Some-checked_add.ensures.1 c.in_ok-next_movement_of.field-0
    (subst (TellsWhere IsAny (λ layout. AreTypedApart movement_typing)
    (λ layout trees. AreMovementsInPlace c.args.country (c.in-Some-checked_add.end - 1) (movements_below layout trees c.args.raw.now.holder c.in-Some-checked_add.end)) a)
    (ap is_some c.in-Some-2.is) (c.in_ok-serials.ensures.told clean_b)) first)
  where
    a : State
    a = state g.S.Store c.args.tx.now.conn.now

    b : State
    b = state g.S.Store c.counting_below.new.tx.conn.now

    clean_b : HasCleanDisk b
    clean_b = omega (arith, clean, c.next_movement_of.ensures.reads.within.survives.clean)

    first : IsFirstMovement (is_after c.args.raw.now.holder c.in-Some.count) a c.in_ok-next_movement_of.field-0
    first = first_before a b (c.in_ok-serials.ensures.reads.still clean_b refl) c.args.raw.now.holder c.in-Some.count c.in_ok-next_movement_of.field-0 (rw c.number.ensures.value at (c.in_ok-next_movement_of.ensures.found clean))

pub returns-clause-handed : goal.returns-clause-handed
returns-clause-handed g c clean =
    counting_all c.args.country a c.args.raw.now c.in-Some.count c.in-Some-checked_add.end c.in-Some.is c.in-Some-checked_add.ensures.1 c.in_ok-next_movement_of.field-0
    (sym c.is_some.ensures ∙ c.if-is_some.false) first c.in-Some-2.serials.items (rw c.in-Some-2.is at (c.in_ok-serials.ensures.handed clean_b))
  where
    a : State
    a = state g.S.Store c.args.tx.now.conn.now

    b : State
    b = state g.S.Store c.counting_below.new.tx.conn.now

    clean_b : HasCleanDisk b
    clean_b = omega (arith, clean, c.next_movement_of.ensures.reads.within.survives.clean)

    first : IsFirstMovement (is_after c.args.raw.now.holder c.in-Some.count) a c.in_ok-next_movement_of.field-0
    first = first_before a b (c.in_ok-serials.ensures.reads.still clean_b refl) c.args.raw.now.holder c.in-Some.count c.in_ok-next_movement_of.field-0 (rw c.number.ensures.value at (c.in_ok-next_movement_of.ensures.found clean))

pub returns-clause-reads : goal.returns-clause-reads
returns-clause-reads g c = reads_on c.in_ok-serials.ensures.reads c.in_ok-next_movement_of.ensures.reads
