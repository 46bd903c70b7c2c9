use Rattle.std.proofs.Common.{◌∙◌, ap, sym}
use Rattle.std.specs.Prelude.{◌==◌, find}
use Rattle.std.proofs.lemmas.Result.{IfOk-weaker}
use Rattle.sqlite.specs.Held.{state}
use Rattle.sqlite.specs.State.{State}
use Rattle.td_model.specs.Content.{Content}
use Rattle.typed_sql.proofs.OnlyRead.{none_read, stays_nothing}
use Rattle.td_store_rows.specs.KeptTable.{AreKeptBySerial}
use Rattle.td_store_rows.specs.Places.{is_within}
use Rattle.td_store_rows.specs.StoreTables.{HoldsContent}
use Rattle.td_store_rows.proofs.StoreReads.{newest_keeps, reads_less}
use Rattle.td_store_load.specs.Needed.{AreKeptIn, HasKeptOf}
use Rattle.td_store_load.proofs.ReadOnce.{found_is_some, range_has, range_kept}
use Rattle.td_store_load.proofs.releases.kept_near.Goals as goal

pub returns-then-is_some-clause-reads : goal.returns-then-is_some-clause-reads
returns-then-is_some-clause-reads g c = record { still = λ clean well l own. none_read (state g.S.Store c.args.tx.now.conn.now); within = stays_nothing }

-- the guarantee was found among those that were read last
pub returns-then-is_some-clause-found : goal.returns-then-is_some-clause-found
returns-then-is_some-clause-found g c clean below content holds none =
    absurd (found_is_some (λ found. found.now) c.found_in.result _ c.found_in.ensures (sym c.if-is_some.ensures) (ap (find (λ k. k.serial == c.args.serial)) c.deref.ensures.value ∙ none))

pub returns-clause-kept : goal.returns-clause-kept
returns-clause-kept g c clean =
    let a : State = state g.S.Store c.args.tx.now.conn.now in
    let H = c.args.holder in
    IfOk-weaker c.kept_within.result
    (λ found. AreKeptBySerial (is_within H c.args.serial c.end_of_run.result) a found.items)
    (λ found. (c' : Content) (holds : HoldsContent c' a) → AreKeptIn H c' holds c.args.near.items → AreKeptIn H c' holds found.items)
    (λ found order c' holds before. range_kept H c.args.serial c.end_of_run.result a found.items order c' holds)
    (c.kept_within.ensures.order clean)

pub returns-clause-found : goal.returns-clause-found
returns-clause-found g c clean below =
    let a : State = state g.S.Store c.args.tx.now.conn.now in
    let H = c.args.holder in
    IfOk-weaker c.kept_within.result
    (λ found. AreKeptBySerial (is_within H c.args.serial c.end_of_run.result) a found.items)
    (λ found. (c' : Content) (holds : HoldsContent c' a) → HasKeptOf H c.args.serial c' holds found.items)
    (λ found order c' holds. range_has H c.args.serial c.end_of_run.result a found.items order (c.end_of_run.ensures.0 below) c' holds)
    (c.kept_within.ensures.order clean)

pub returns-clause-reads : goal.returns-clause-reads
returns-clause-reads g c = reads_less newest_keeps c.kept_within.ensures.reads
