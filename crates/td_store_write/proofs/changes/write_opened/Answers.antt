use Rattle.std.proofs.Common.{rules, ◌≡◌, arith}
use Rattle.sqlite.specs.Held.{state}
use Rattle.sqlite.specs.State.{State, HasCleanDisk}
use Rattle.typed_sql.proofs.Leaving.{on_ok}
use Rattle.td_store_write.proofs.Changed.{opened}
use Rattle.td_store_write.proofs.changes.write_opened.Goals as goal

pub returns-clause-written : goal.returns-clause-written
returns-clause-written g c clean =
    on_ok c.insert_codes.result (opened c.args.row.now c.args.guarantee.now a b d e (c.in_ok-set_holder.ensures.set clean_b)
    (rw unused at (c.in_ok-insert_guarantee.ensures.inserted clean_d))) (rw c.as_slice.ensures.value at (c.insert_codes.ensures.inserted clean))
  where
    a : State
    a = state g.S.Store c.args.tx.now.conn.now

    b : State
    b = state g.S.Store c.set_holder.new.tx.conn.now

    d : State
    d = state g.S.Store c.insert_guarantee.new.tx.conn.now

    e : State
    e = state g.S.Store c.insert_codes.new.tx.conn.now

    clean_d : HasCleanDisk d
    clean_d = omega (arith, clean, c.insert_codes.ensures.within.survives.clean)

    clean_b : HasCleanDisk b
    clean_b = omega (arith, clean_d, c.insert_guarantee.ensures.within.survives.clean)

    unused : c.unwrap-unused.result ≡ 0
    unused = search rules
