use Rattle.std.proofs.Common.{ℕ, List, arith, subst}
use Rattle.std.specs.Prelude.{OnOk, filter, not}
use Rattle.td_table_model.specs.Tables.{Keyed, guarantee_no}
use Rattle.td_table_model.specs.Changes.{is_code_of}
use Rattle.td_store_rows.specs.CodeTable.{TurnsCodes}
use Rattle.sqlite.specs.Held.{state}
use Rattle.sqlite.specs.State.{State, HasCleanDisk}
use Rattle.typed_sql.proofs.Leaving.{on_ok}
use Rattle.td_store_write.proofs.Changed.{code_removed}
use Rattle.td_store_write.proofs.changes.remove_code.Goals as goal

pub returns-clause-written : goal.returns-clause-written
returns-clause-written g c clean =
    on_ok c.delete_code.result (code_removed c.args.row.now (λ r. not (is_code_of c.args.row.now.holder (guarantee_no c.args.country c.args.grn.now) c.args.code r)) a b d
    (c.in_ok-set_holder.ensures.set clean_b)) (subst (λ (k : Keyed (List ℕ)). OnOk c.delete_code.result (TurnsCodes (filter (λ r. not (is_code_of k.holder k.serial k.row r))) b d))
    c.code_of.ensures (c.delete_code.ensures.deleted clean))
  where
    a : State
    a = state g.S.Store c.args.tx.now.conn.now

    b : State
    b = state g.S.Store c.set_holder.new.tx.conn.now

    d : State
    d = state g.S.Store c.delete_code.new.tx.conn.now

    clean_b : HasCleanDisk b
    clean_b = omega (arith, clean, c.delete_code.ensures.within.survives.clean)
