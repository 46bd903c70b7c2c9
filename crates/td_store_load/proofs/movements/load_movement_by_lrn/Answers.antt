use Rattle.std.proofs.Common.{◌∙◌, None, Some, Option, ap, arith, subst, sym, refl}
use Rattle.sqlite.specs.Held.{state}
use Rattle.sqlite.specs.State.{State, HasCleanDisk}
use Rattle.td_store_rows.proofs.StoreReads.{anywhere, reads_on}
use Rattle.td_store_rows.specs.MovementTable.{IsTheMovement, has_lrn, movement_row_of}
use Rattle.td_store_rows.specs.declared.movements.stored.StoredMovement.{StoredMovement}
use Rattle.td_table_model.specs.Gathering.{with_lines}
use Rattle.td_store_load.proofs.Found.{by_lrn}
use Rattle.td_store_load.proofs.Reading.{said_before}
use Rattle.td_store_load.proofs.movements.load_movement_by_lrn.Goals as goal

pub returns-in_default-clause-found : goal.returns-in_default-clause-found
returns-in_default-clause-found g c clean content holds = sym (by_lrn a c.args.holder content holds c.args.lrn.now None found)
  where
    a : State
    a = state g.S.Store c.args.tx.now.conn.now

    found : IsTheMovement (has_lrn c.args.holder c.args.lrn.now) a None
    found = subst (λ (o : Option StoredMovement). IsTheMovement (has_lrn c.args.holder c.args.lrn.now) a o) c.in_default.is
        (c.in_ok-stored.ensures.found clean)

pub returns-clause-found : goal.returns-clause-found
returns-clause-found g c clean content holds =
    ap Some (said_before (λ t. with_lines t (movement_row_of c.in-Some.stored)) a b _ ((anywhere c.in_ok-stored.ensures.reads).still clean_b refl) (c.in_ok-movement_with_lines.ensures.whole clean) content holds)
    ∙ sym (by_lrn a c.args.holder content holds c.args.lrn.now (Some c.in-Some.stored) found)
  where
    a : State
    a = state g.S.Store c.args.tx.now.conn.now

    b : State
    b = state g.S.Store c.find_by_lrn.new.tx.conn.now

    clean_b : HasCleanDisk b
    clean_b = omega (arith, clean, c.movement_with_lines.ensures.reads.within.survives.clean)

    found : IsTheMovement (has_lrn c.args.holder c.args.lrn.now) a (Some c.in-Some.stored)
    found = subst (λ (o : Option StoredMovement). IsTheMovement (has_lrn c.args.holder c.args.lrn.now) a o) c.in-Some.is
        (c.in_ok-stored.ensures.found clean_b)

pub returns-clause-reads : goal.returns-clause-reads
returns-clause-reads g c = reads_on (anywhere c.in_ok-stored.ensures.reads) c.in_ok-movement_with_lines.ensures.reads
