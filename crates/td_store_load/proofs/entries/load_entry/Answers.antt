use Rattle.std.proofs.Common.{◌∙◌, None, Option, Some, ap, arith, subst, refl}
use Rattle.sqlite.specs.Held.{state}
use Rattle.sqlite.specs.State.{State, HasCleanDisk}
use Rattle.td_table_model.specs.Tables.{guarantee_no}
use Rattle.td_store_rows.proofs.StoreReads.{reads_on}
use Rattle.td_store_rows.specs.KeptTable.{IsTheKept, has_kept_grn, kept_row_of}
use Rattle.td_store_rows.specs.declared.guarantees.stored.KeptGuarantee.{KeptGuarantee}
use Rattle.td_store_load.proofs.Reading.{said_before}
use Rattle.td_store_load.specs.Needed.{entry_from}
use Rattle.td_store_load.proofs.WithUse.{entry_is, no_entry}
use Rattle.td_store_load.proofs.entries.load_entry.Goals as goal

pub returns-in_default-clause-found : goal.returns-in_default-clause-found
returns-in_default-clause-found g c clean content holds at = no_entry a c.args.holder content holds c.args.country c.args.grn.now at found
  where
    a : State
    a = state g.S.Store c.args.tx.now.conn.now

    found : IsTheKept (has_kept_grn c.args.holder (guarantee_no c.args.country c.args.grn.now) c.args.grn.now) a None
    found = subst (λ (o : Option KeptGuarantee). IsTheKept (has_kept_grn c.args.holder (guarantee_no c.args.country c.args.grn.now) c.args.grn.now) a o) c.in_default.is
        (rw (c.unwrap_or-serial.ensures, c.serial.ensures) at (c.in_ok-row.ensures.found clean))

pub returns-clause-found : goal.returns-clause-found
returns-clause-found g c clean content holds at =
    ap Some (said_before (λ t. entry_from t (kept_row_of c.in-Some.row)) a b _ (c.in_ok-row.ensures.reads.still clean_b refl) (c.in_ok-entry_in_row.ensures.entry clean) content holds)
    ∙ entry_is a c.args.holder content holds c.args.country c.args.grn.now at c.in-Some.row found
  where
    a : State
    a = state g.S.Store c.args.tx.now.conn.now

    b : State
    b = state g.S.Store c.find_kept.new.tx.conn.now

    clean_b : HasCleanDisk b
    clean_b = omega (arith, clean, c.entry_in_row.ensures.reads.within.survives.clean)

    found : IsTheKept (has_kept_grn c.args.holder (guarantee_no c.args.country c.args.grn.now) c.args.grn.now) a (Some c.in-Some.row)
    found = subst (λ (o : Option KeptGuarantee). IsTheKept (has_kept_grn c.args.holder (guarantee_no c.args.country c.args.grn.now) c.args.grn.now) a o) c.in-Some.is
        (rw (c.unwrap_or-serial.ensures, c.serial.ensures) at (c.in_ok-row.ensures.found clean_b))

pub returns-clause-reads : goal.returns-clause-reads
returns-clause-reads g c = reads_on c.in_ok-row.ensures.reads c.in_ok-entry_in_row.ensures.reads
