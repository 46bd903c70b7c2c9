use Rattle.std.proofs.Common.{arith}
use Rattle.td_table_model.specs.Tables.{code_row, guarantee_no}
use Rattle.sqlite.specs.Held.{state}
use Rattle.sqlite.specs.State.{State, HasCleanDisk}
use Rattle.typed_sql.proofs.Leaving.{on_ok}
use Rattle.td_store_write.proofs.Changed.{code_added}
use Rattle.td_store_write.proofs.changes.add_code.Goals as goal

pub returns-clause-written : goal.returns-clause-written
returns-clause-written g c clean =
    on_ok c.insert_code.result (code_added c.args.row.now (code_row c.args.row.now.holder (guarantee_no c.args.country c.args.grn.now) c.args.code) a b d
    (c.in_ok-set_holder.ensures.set clean_b)) (rw c.code_of.ensures at (c.insert_code.ensures.inserted clean))
  where
    a : State
    a = state g.S.Store c.args.tx.now.conn.now

    b : State
    b = state g.S.Store c.set_holder.new.tx.conn.now

    d : State
    d = state g.S.Store c.insert_code.new.tx.conn.now

    clean_b : HasCleanDisk b
    clean_b = omega (arith, clean, c.insert_code.ensures.within.survives.clean)
