use Rattle.std.proofs.Common.{Option, Some, arith, refl, subst}
use Rattle.std.specs.Option.{option_map}
use Rattle.sqlite.specs.Held.{state}
use Rattle.sqlite.specs.State.{HasCleanDisk, State}
use Rattle.td_store_rows.proofs.StoreReads.{reads_on}
use Rattle.td_store_rows.specs.KeptTable.{kept_row_of}
use Rattle.td_store_rows.specs.declared.guarantees.stored.KeptGuarantee.{KeptGuarantee}
use Rattle.td_store_load.specs.Placed.{IsFirstBehind, kept_rows}
use Rattle.td_store_load.proofs.Behind.{guarantee_is, no_guarantee}
use Rattle.td_store_load.proofs.following.following_guarantee.Goals as goal

pub returns-in_default-clause-found : goal.returns-in_default-clause-found
returns-in_default-clause-found g c clean =
    no_guarantee (state g.S.Store c.args.tx.now.conn.now) c.args.holder c.args.serial
    (subst (λ (o : Option KeptGuarantee). IsFirstBehind kept_rows c.args.holder c.args.serial (state g.S.Store c.args.tx.now.conn.now) (option_map kept_row_of o)) c.in_default.is
    (c.in_ok-row.ensures.first clean))

pub returns-clause-found : goal.returns-clause-found
returns-clause-found g c clean =
    guarantee_is a c.args.holder c.args.serial b c.in-Some.row c.in_ok-entry.entry first (c.in_ok-row.ensures.reads.still clean_b refl) (c.in_ok-entry.ensures.entry clean)
  where
    a : State
    a = state g.S.Store c.args.tx.now.conn.now

    b : State
    b = state g.S.Store c.next_kept.new.tx.conn.now

    clean_b : HasCleanDisk b
    clean_b = omega (arith, clean, c.entry_in_row.ensures.reads.within.survives.clean)

    first : IsFirstBehind kept_rows c.args.holder c.args.serial a (Some (kept_row_of c.in-Some.row))
    first = subst (λ (o : Option KeptGuarantee). IsFirstBehind kept_rows c.args.holder c.args.serial a (option_map kept_row_of o)) c.in-Some.is
        (c.in_ok-row.ensures.first clean_b)

pub returns-clause-reads : goal.returns-clause-reads
returns-clause-reads g c = reads_on c.in_ok-row.ensures.reads c.in_ok-entry.ensures.reads
