use Rattle.std.proofs.Common.{◌∙◌, None, Option, Some, ap, subst, sym}
use Rattle.std.specs.Option.{option_map}
use Rattle.sqlite.specs.Held.{state}
use Rattle.sqlite.specs.State.{State}
use Rattle.td_movement.specs.Movements.{without_lines}
use Rattle.td_store_rows.proofs.StoreReads.{anywhere}
use Rattle.td_store_rows.specs.MovementTable.{IsTheMovement, has_mrn}
use Rattle.td_store_rows.specs.declared.movements.stored.StoredMovement.{StoredMovement}
use Rattle.td_table_model.specs.Looking.{movement_no}
use Rattle.td_store_load.proofs.Found.{by_mrn}
use Rattle.td_store_load.proofs.movements.load_status_by_mrn.Goals as goal

pub returns-in_default-clause-found : goal.returns-in_default-clause-found
returns-in_default-clause-found g c clean content holds at =
    ap (option_map without_lines) (sym (by_mrn a c.args.holder content holds c.args.country c.args.mrn.now at None found))
  where
    a : State
    a = state g.S.Store c.args.tx.now.conn.now

    found : IsTheMovement (has_mrn c.args.holder (movement_no c.args.country c.args.mrn.now) c.args.mrn.now) a None
    found = subst (λ (o : Option StoredMovement). IsTheMovement (has_mrn c.args.holder (movement_no c.args.country c.args.mrn.now) c.args.mrn.now) a o) c.in_default.is
        (rw (c.unwrap_or-serial.ensures, c.serial.ensures) at (c.in_ok-row.ensures.found clean))

pub returns-clause-found : goal.returns-clause-found
returns-clause-found g c clean content holds at =
    ap Some c.without_lines.ensures
    ∙ ap (option_map without_lines) (sym (by_mrn a c.args.holder content holds c.args.country c.args.mrn.now at (Some c.in-Some.row) found))
  where
    a : State
    a = state g.S.Store c.args.tx.now.conn.now

    found : IsTheMovement (has_mrn c.args.holder (movement_no c.args.country c.args.mrn.now) c.args.mrn.now) a (Some c.in-Some.row)
    found = subst (λ (o : Option StoredMovement). IsTheMovement (has_mrn c.args.holder (movement_no c.args.country c.args.mrn.now) c.args.mrn.now) a o) c.in-Some.is
        (rw (c.unwrap_or-serial.ensures, c.serial.ensures) at (c.in_ok-row.ensures.found clean))

pub returns-clause-reads : goal.returns-clause-reads
returns-clause-reads g c = anywhere c.in_ok-row.ensures.reads
