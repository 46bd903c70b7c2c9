use Rattle.std.proofs.Common.{refl}
use Rattle.sqlite.specs.Held.{state}
use Rattle.sqlite.specs.Values.{bound}
use Rattle.td_table_model.specs.Tables.{movement_row}
use Rattle.typed_sql.proofs.Leaving.{on_ok}
use Rattle.td_store_rows.proofs.MovementStatements.{inserted}
use Rattle.td_store_rows.proofs.movements.writing.insert_movement.Goals as goal

pub returns-clause-inserted : goal.returns-clause-inserted
returns-clause-inserted g c clean =
    on_ok c.insert.result
    (inserted (movement_row c.args.holder (c.args.serial, c.args.movement.now)) refl (bound c.columns.result)
    c.columns.ensures (state g.S.Store c.args.tx.now.conn.now) (state g.S.Store c.insert.new.tx.conn.now))
    (c.insert.ensures.inserted clean)
