use Rattle.std.proofs.Common.{◌≡◌, Option, arith, refl, subst}
use Rattle.sqlite.specs.Held.{state}
use Rattle.sqlite.specs.State.{State, HasCleanDisk}
use Rattle.td_model.specs.declared.holder_row.HolderRow.{HolderRow}
use Rattle.td_store_audit_rows.specs.NextHolder.{IsNextHolder}
use Rattle.td_store_rows.specs.HolderTable.{IsTheHolder}
use Rattle.td_store_rows.proofs.StoreReads.{anywhere}
use Rattle.td_extract.proofs.Next.{found_next, none_left, none_next}
use Rattle.td_extract.proofs.holders.next_holder.Goals as goal

pub returns-in_default-clause-found : goal.returns-in_default-clause-found
returns-in_default-clause-found g c clean =
    let a : State = state g.S.Store c.args.tx.now.conn.now in
    none_next a c.args.number c.args.last (subst (IsNextHolder c.args.number a) c.in_default.is (c.in_ok-raw.ensures.found clean))

pub returns-then-number-last-clause-found : goal.returns-then-number-last-clause-found
returns-then-number-last-clause-found g c clean =
    let a : State = state g.S.Store c.args.tx.now.conn.now in
    none_left a c.args.number c.args.last c.in-Some.raw (subst (IsNextHolder c.args.number a) c.in-Some.is (c.in_ok-raw.ensures.found clean))
    (omega (arith, c.number.ensures.value, c.if-number-last.true))

pub returns-clause-found : goal.returns-clause-found
returns-clause-found g c clean =
    found_next a c.args.number c.args.last c.in-Some.raw (subst (IsNextHolder c.args.number a) c.in-Some.is (c.in_ok-raw.ensures.found clean_m)) m c.in-Some-2.row
    ((anywhere c.in_ok-raw.ensures.reads).still clean_m refl)
    (subst (λ (o : Option HolderRow). IsTheHolder c.in-Some.raw.holder m o) c.in-Some-2.is (c.in_ok-row.ensures.found clean)) same
  where
    a : State
    a = state g.S.Store c.args.tx.now.conn.now

    m : State
    m = state g.S.Store c.holder_above.new.tx.conn.now

    clean_m : HasCleanDisk m
    clean_m = omega (arith, clean, c.find_holder.ensures.reads.within.survives.clean)

    same : c.in-Some-2.row.holder ≡ c.in-Some.raw.holder
    same = omega (arith, c.number-2.ensures.value, c.number-3.ensures.value, c.if-number.false)
