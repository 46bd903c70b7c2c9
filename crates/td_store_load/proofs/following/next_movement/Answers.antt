use Rattle.std.proofs.Common.{None, Option, arith, refl, subst}
use Rattle.sqlite.specs.Held.{state}
use Rattle.sqlite.specs.State.{HasCleanDisk, State}
use Rattle.typed_sql.proofs.Leaving.{if_both}
use Rattle.td_store_rows.proofs.StoreReads.{anywhere}
use Rattle.td_store_rows.specs.MovementTable.{IsFirstMovement}
use Rattle.td_store_rows.specs.Places.{is_after}
use Rattle.td_store_rows.specs.declared.movements.stored.StoredMovement.{StoredMovement}
use Rattle.td_store_load.proofs.Behind.{movement_above, movement_after}
use Rattle.td_store_load.proofs.following.next_movement.Goals as goal

pub returns-in-Some-clause-first : goal.returns-in-Some-clause-first
returns-in-Some-clause-first g c clean =
    movement_after (state g.S.Store c.args.tx.now.conn.now) c.args.holder c.args.serial c.in-Some.row
    (subst (λ (o : Option StoredMovement). IsFirstMovement (is_after c.args.holder c.args.serial) (state g.S.Store c.args.tx.now.conn.now) o) c.in-Some.is
    (c.in_ok-row.ensures.found clean))

pub returns-in-Some-clause-reads : goal.returns-in-Some-clause-reads
returns-in-Some-clause-reads g c = anywhere c.in_ok-row.ensures.reads

pub returns-clause-first : goal.returns-clause-first
returns-clause-first g c clean =
    if_both c.first_movement_above.result
    (λ found first same. movement_above a c.args.holder c.args.serial b found none ((anywhere c.in_ok-row.ensures.reads).still clean_b refl) first)
    (c.first_movement_above.ensures.found clean) (c.first_movement_above.ensures.found clean)
  where
    a : State
    a = state g.S.Store c.args.tx.now.conn.now

    b : State
    b = state g.S.Store c.next_movement_of.new.tx.conn.now

    clean_b : HasCleanDisk b
    clean_b = omega (arith, clean, c.first_movement_above.ensures.reads.within.survives.clean)

    none : IsFirstMovement (is_after c.args.holder c.args.serial) a None
    none = subst (λ (o : Option StoredMovement). IsFirstMovement (is_after c.args.holder c.args.serial) a o) c.in_default.is
        (c.in_ok-row.ensures.found clean_b)
