use Rattle.std.proofs.Common.{◌+◌, ℕ, List, Ok, Err, Result, arith, subst}
use Rattle.std.specs.Prelude.{IfOk, unwrap_or}
use Rattle.keyed_rows.specs.Rows.{Rises}
use Rattle.sqlite.specs.Held.{state}
use Rattle.sqlite.specs.State.{State, HasCleanDisk}
use Rattle.sqlite.specs.declared.error.Error.{Error}
use Rattle.td_table_model.specs.Tables.{version_with_amounts}
use Rattle.td_store_audit.specs.declared.totals.Totals.{Totals}
use Rattle.td_store_audit.proofs.Reading.{any_read, anywhere}
use Rattle.td_store_rows.proofs.StoreReads.{reads_on}
use Rattle.td_store_rows.specs.MovementTable.{serial_of_stored}
use Rattle.td_store_rows.specs.StoreReads.{IsOfVersion}
use Rattle.td_store_rows.specs.declared.movements.stored.MovementSerial.{MovementSerial}
use Rattle.td_migrate.specs.InUse.{AreInUse, AreSumsBelow}
use Rattle.td_migrate.proofs.Summed.{in_use_told}
use Rattle.td_migrate.proofs.amounts.amounts_in_use.Goals as goal

pub returns-clause-found : goal.returns-clause-found
returns-clause-found g c clean = by_result c.sums_below.result (c.sums_below.ensures.summed clean)
  where
    a : State
    a = state g.S.Store c.args.tx.now.conn.now

    m : State
    m = state g.S.Store c.counting_serials.new.tx.conn.now

    clean_m : HasCleanDisk m
    clean_m = omega (arith, clean, c.sums_below.ensures.reads.within.survives.clean)

    H : ℕ
    H = c.args.raw.now.holder

    serials : List MovementSerial
    serials = c.in_ok-serials.serials.items

    rises : Rises serial_of_stored 0 serials
    rises = subst (Rises serial_of_stored 0) c.deref.ensures.value (c.rise.ensures.0 c.if-not-rise.false)

    told : (totals : Totals) → AreSumsBelow H c.deref-2.result.now c.in_ok-end.end m totals → AreInUse H (unwrap_or c.args.raw.now.mrn_count 0 + 1) a totals
    told totals sums =
        subst (λ n. AreInUse H n a totals) c.in_ok-end.ensures
        (in_use_told H c.in_ok-end.end serials a m (any_read (IsOfVersion version_with_amounts) clean_m c.in_ok-serials.ensures.reads) rises
        (c.in_ok-serials.ensures.found clean_m) totals (subst (λ l. AreSumsBelow H l c.in_ok-end.end m totals) c.deref-2.ensures.value sums))

    by_result : (r : Result Totals Error) → IfOk r (AreSumsBelow H c.deref-2.result.now c.in_ok-end.end m) → IfOk r (AreInUse H (unwrap_or c.args.raw.now.mrn_count 0 + 1) a)
    by_result (Ok totals) sums = told totals sums
    by_result (Err e) sums = tt

pub returns-clause-reads : goal.returns-clause-reads
returns-clause-reads g c = reads_on (anywhere c.in_ok-serials.ensures.reads) c.sums_below.ensures.reads
