use Rattle.std.proofs.Common.{refl}
use Rattle.sqlite.specs.Held.{state}
use Rattle.sqlite.specs.Values.{bound}
use Rattle.typed_sql.proofs.Leaving.{on_ok}
use Rattle.td_table_model.specs.Tables.{guarantee_row, with_amount}
use Rattle.td_store_rows.proofs.KeptStatements.{inserted}
use Rattle.td_store_rows.proofs.guarantees.writing.insert_guarantee.Goals as goal

pub returns-clause-inserted : goal.returns-clause-inserted
returns-clause-inserted g c clean =
    on_ok c.insert.result
    (inserted (with_amount c.args.used (guarantee_row c.args.holder (c.args.serial, c.args.guarantee.now))) refl (bound c.columns.result)
    c.columns.ensures (state g.S.Store c.args.tx.now.conn.now) (state g.S.Store c.insert.new.tx.conn.now))
    (c.insert.ensures.inserted clean)
