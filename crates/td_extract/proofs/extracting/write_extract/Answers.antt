use Rattle.std.proofs.Common.{arith}
use Rattle.sqlite.specs.Held.{state}
use Rattle.sqlite.specs.State.{State, HasCleanDisk}
use Rattle.typed_sql.proofs.Leaving.{on_ok}
use Rattle.td_extract.proofs.Made.{holds_extract, made, makes_tables}
use Rattle.td_extract.proofs.extracting.write_extract.Goals as goal

pub returns-clause-schema : goal.returns-clause-schema
returns-clause-schema g c clean clean_to =
    on_ok c.copy_holders.result
    (λ copies content holds at none.
    makes_tables c.args.country c.args.first c.args.last (state g.S.Store c.args.from.now.conn.now) d e
    (made c.args.country b d (c.in_ok-make_tables.ensures.made clean_b none) (c.in_ok-insert_meta.ensures.inserted clean_d)) copies content holds)
    (rw (c.number.ensures.value, c.number-2.ensures.value) at (c.copy_holders.ensures.copied clean clean_to))
  where
    b : State
    b = state g.T.Store c.make_tables.new.tx.conn.now

    d : State
    d = state g.T.Store c.insert_meta.new.tx.conn.now

    e : State
    e = state g.T.Store c.copy_holders.new.to.conn.now

    clean_d : HasCleanDisk d
    clean_d = omega (arith, clean_to, c.copy_holders.ensures.within.survives.clean)

    clean_b : HasCleanDisk b
    clean_b = omega (arith, clean_d, c.insert_meta.ensures.within.survives.clean)

pub returns-clause-written : goal.returns-clause-written
returns-clause-written g c clean clean_to =
    on_ok c.copy_holders.result
    (λ copies content holds at none.
    holds_extract c.args.country c.args.first c.args.last (state g.S.Store c.args.from.now.conn.now) d e
    (made c.args.country b d (c.in_ok-make_tables.ensures.made clean_b none) (c.in_ok-insert_meta.ensures.inserted clean_d)) copies content holds at)
    (rw (c.number.ensures.value, c.number-2.ensures.value) at (c.copy_holders.ensures.copied clean clean_to))
  where
    b : State
    b = state g.T.Store c.make_tables.new.tx.conn.now

    d : State
    d = state g.T.Store c.insert_meta.new.tx.conn.now

    e : State
    e = state g.T.Store c.copy_holders.new.to.conn.now

    clean_d : HasCleanDisk d
    clean_d = omega (arith, clean_to, c.copy_holders.ensures.within.survives.clean)

    clean_b : HasCleanDisk b
    clean_b = omega (arith, clean_d, c.insert_meta.ensures.within.survives.clean)
