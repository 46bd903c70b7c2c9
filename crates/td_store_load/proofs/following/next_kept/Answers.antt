use Rattle.std.proofs.Common.{None, Option, arith, refl, subst}
use Rattle.sqlite.specs.Held.{state}
use Rattle.sqlite.specs.State.{HasCleanDisk, State}
use Rattle.typed_sql.proofs.Leaving.{if_both}
use Rattle.td_store_rows.proofs.StoreReads.{newest_keeps, reads_less}
use Rattle.td_store_rows.specs.KeptTable.{IsFirstKept}
use Rattle.td_store_rows.specs.Places.{is_after}
use Rattle.td_store_rows.specs.declared.guarantees.stored.KeptGuarantee.{KeptGuarantee}
use Rattle.td_store_load.proofs.Behind.{kept_above, kept_after}
use Rattle.td_store_load.proofs.following.next_kept.Goals as goal

pub returns-in-Some-clause-first : goal.returns-in-Some-clause-first
returns-in-Some-clause-first g c clean =
    kept_after (state g.S.Store c.args.tx.now.conn.now) c.args.holder c.args.serial c.in-Some.row
    (subst (λ (o : Option KeptGuarantee). IsFirstKept (is_after c.args.holder c.args.serial) (state g.S.Store c.args.tx.now.conn.now) o) c.in-Some.is
    (c.in_ok-row.ensures.found clean))

pub returns-in-Some-clause-reads : goal.returns-in-Some-clause-reads
returns-in-Some-clause-reads g c = reads_less newest_keeps c.in_ok-row.ensures.reads

pub returns-clause-first : goal.returns-clause-first
returns-clause-first g c clean =
    if_both c.first_kept_above.result
    (λ found first same. kept_above a c.args.holder c.args.serial b found none ((reads_less newest_keeps c.in_ok-row.ensures.reads).still clean_b refl) first)
    (c.first_kept_above.ensures.found clean) (c.first_kept_above.ensures.found clean)
  where
    a : State
    a = state g.S.Store c.args.tx.now.conn.now

    b : State
    b = state g.S.Store c.next_kept_of.new.tx.conn.now

    clean_b : HasCleanDisk b
    clean_b = omega (arith, clean, c.first_kept_above.ensures.reads.within.survives.clean)

    none : IsFirstKept (is_after c.args.holder c.args.serial) a None
    none = subst (λ (o : Option KeptGuarantee). IsFirstKept (is_after c.args.holder c.args.serial) a o) c.in_default.is
        (c.in_ok-row.ensures.found clean_b)
