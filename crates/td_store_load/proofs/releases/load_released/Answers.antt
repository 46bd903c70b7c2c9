use Rattle.std.proofs.Common.{◌∙◌, None, Some, Option, ap, arith, subst, sym, refl}
use Rattle.sqlite.specs.Held.{state}
use Rattle.sqlite.specs.State.{State, HasCleanDisk}
use Rattle.td_store_rows.proofs.StoreReads.{anywhere, reads_on}
use Rattle.td_store_rows.specs.MovementTable.{IsTheMovement, has_mrn, movement_row_of}
use Rattle.td_store_rows.specs.declared.movements.stored.StoredMovement.{StoredMovement}
use Rattle.td_table_model.specs.Gathering.{with_lines}
use Rattle.td_table_model.specs.Looking.{movement_no}
use Rattle.td_store_load.proofs.Found.{by_mrn}
use Rattle.td_store_load.proofs.Reading.{held_after, said_before}
use Rattle.td_store_load.proofs.ReadOnce.{terms_of_holder}
use Rattle.td_store_load.proofs.releases.load_released.Goals as goal

pub returns-in_default-clause-found : goal.returns-in_default-clause-found
returns-in_default-clause-found g c clean content holds at = sym (by_mrn a c.args.holder content holds c.args.country c.args.mrn.now at None found)
  where
    a : State
    a = state g.S.Store c.args.tx.now.conn.now

    found : IsTheMovement (has_mrn c.args.holder (movement_no c.args.country c.args.mrn.now) c.args.mrn.now) a None
    found = subst (λ (o : Option StoredMovement). IsTheMovement (has_mrn c.args.holder (movement_no c.args.country c.args.mrn.now) c.args.mrn.now) a o) c.in_default.is
        (rw (c.unwrap_or-serial.ensures, c.serial.ensures) at (c.in_ok-stored.ensures.found clean))

pub returns-clause-found : goal.returns-clause-found
returns-clause-found g c clean content holds at =
    ap Some (said_before (λ t. with_lines t (movement_row_of c.in-Some.stored)) a b _ ((anywhere c.in_ok-stored.ensures.reads).still clean_b refl) (c.in_ok-movement_with_terms.ensures.whole clean) content holds)
    ∙ sym (by_mrn a c.args.holder content holds c.args.country c.args.mrn.now at (Some c.in-Some.stored) found)
  where
    a : State
    a = state g.S.Store c.args.tx.now.conn.now

    b : State
    b = state g.S.Store c.find_by_mrn.new.tx.conn.now

    clean_b : HasCleanDisk b
    clean_b = omega (arith, clean, c.movement_with_terms.ensures.reads.within.survives.clean)

    found : IsTheMovement (has_mrn c.args.holder (movement_no c.args.country c.args.mrn.now) c.args.mrn.now) a (Some c.in-Some.stored)
    found = subst (λ (o : Option StoredMovement). IsTheMovement (has_mrn c.args.holder (movement_no c.args.country c.args.mrn.now) c.args.mrn.now) a o) c.in-Some.is
        (rw (c.unwrap_or-serial.ensures, c.serial.ensures) at (c.in_ok-stored.ensures.found clean_b))

pub returns-clause-terms : goal.returns-clause-terms
returns-clause-terms g c clean =
    terms_of_holder a c.args.holder _ c.args.mrn.now c.in-Some.stored found _ _
    (λ content holds. c.in_ok-movement_with_terms.ensures.terms clean content (held_after content a b ((anywhere c.in_ok-stored.ensures.reads).still clean_b refl) holds))
  where
    a : State
    a = state g.S.Store c.args.tx.now.conn.now

    b : State
    b = state g.S.Store c.find_by_mrn.new.tx.conn.now

    clean_b : HasCleanDisk b
    clean_b = omega (arith, clean, c.movement_with_terms.ensures.reads.within.survives.clean)

    found : IsTheMovement (has_mrn c.args.holder c.unwrap_or-serial.result c.args.mrn.now) a (Some c.in-Some.stored)
    found = subst (λ (o : Option StoredMovement). IsTheMovement (has_mrn c.args.holder c.unwrap_or-serial.result c.args.mrn.now) a o) c.in-Some.is (c.in_ok-stored.ensures.found clean_b)

pub returns-clause-reads : goal.returns-clause-reads
returns-clause-reads g c = reads_on (anywhere c.in_ok-stored.ensures.reads) c.in_ok-movement_with_terms.ensures.reads
