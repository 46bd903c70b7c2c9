use Rattle.std.proofs.Common.{Option, Some, arith, refl, subst}
use Rattle.std.specs.Option.{option_map}
use Rattle.sqlite.specs.Held.{state}
use Rattle.sqlite.specs.State.{HasCleanDisk, State}
use Rattle.td_store_rows.proofs.StoreReads.{reads_on}
use Rattle.td_store_rows.specs.MovementTable.{movement_row_of}
use Rattle.td_store_rows.specs.declared.movements.stored.StoredMovement.{StoredMovement}
use Rattle.td_store_load.specs.Placed.{IsFirstBehind, movement_rows}
use Rattle.td_store_load.proofs.Behind.{movement_is, no_movement}
use Rattle.td_store_load.proofs.following.following_movement.Goals as goal

pub returns-in_default-clause-found : goal.returns-in_default-clause-found
returns-in_default-clause-found g c clean =
    no_movement (state g.S.Store c.args.tx.now.conn.now) c.args.holder c.args.serial
    (subst (λ (o : Option StoredMovement). IsFirstBehind movement_rows c.args.holder c.args.serial (state g.S.Store c.args.tx.now.conn.now) (option_map movement_row_of o)) c.in_default.is
    (c.in_ok-row.ensures.first clean))

pub returns-clause-found : goal.returns-clause-found
returns-clause-found g c clean =
    movement_is a c.args.holder c.args.serial b c.in-Some.row c.in_ok-movement.movement first (c.in_ok-row.ensures.reads.still clean_b refl) (c.in_ok-movement.ensures.whole clean)
  where
    a : State
    a = state g.S.Store c.args.tx.now.conn.now

    b : State
    b = state g.S.Store c.next_movement.new.tx.conn.now

    clean_b : HasCleanDisk b
    clean_b = omega (arith, clean, c.movement_with_lines.ensures.reads.within.survives.clean)

    first : IsFirstBehind movement_rows c.args.holder c.args.serial a (Some (movement_row_of c.in-Some.row))
    first = subst (λ (o : Option StoredMovement). IsFirstBehind movement_rows c.args.holder c.args.serial a (option_map movement_row_of o)) c.in-Some.is
        (c.in_ok-row.ensures.first clean_b)

pub returns-clause-reads : goal.returns-clause-reads
returns-clause-reads g c = reads_on c.in_ok-row.ensures.reads c.in_ok-movement.ensures.reads
