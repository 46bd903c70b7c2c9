use Rattle.std.proofs.Common.{None, Option, Some, arith, subst, sym, refl}
use Rattle.sqlite.specs.Held.{state}
use Rattle.sqlite.specs.State.{State, HasCleanDisk}
use Rattle.td_model.specs.declared.holder_row.HolderRow.{HolderRow}
use Rattle.td_model.specs.Account.{empty_account}
use Rattle.td_acts.specs.Deciding.{IsLoaded}
use Rattle.td_commands.specs.Commands.{need_said}
use Rattle.td_acts.specs.Weighing.{kept_for}
use Rattle.td_store_rows.proofs.StoreReads.{anywhere}
use Rattle.td_store_rows.specs.HolderTable.{IsTheHolder}
use Rattle.typed_sql.proofs.Leaving.{if_both}
use Rattle.td_store_load.proofs.Owner.{loaded_for, nothing_loaded}
use Rattle.td_store_load.proofs.needs.load.Goals as goal

-- nobody owns the command
pub returns-in_default-clause-loaded : goal.returns-in_default-clause-loaded
returns-in_default-clause-loaded g c clean content holds at =
    subst (λ o. IsLoaded (kept_for o content) (need_said c.args.needs.now) c.nothing.result) (sym c.in_default.is)
    (subst (λ k. IsLoaded (empty_account k) (need_said c.args.needs.now) c.nothing.result) (sym at) (c.nothing.ensures (need_said c.args.needs.now)))

-- the owner isn't registered
pub returns-in_default-2-clause-loaded : goal.returns-in_default-2-clause-loaded
returns-in_default-2-clause-loaded g c clean content holds at =
    let a : State = state g.S.Store c.args.tx.now.conn.now in
    let none : IsTheHolder c.in-Some.holder a None = subst (λ (o : Option HolderRow). IsTheHolder c.in-Some.holder a o) c.in_default-2.is (c.in_ok-row.ensures.found clean) in
    subst (λ o. IsLoaded (kept_for o content) (need_said c.args.needs.now) c.nothing-in_default-2.result) (sym c.in-Some.is)
    (nothing_loaded a c.in-Some.holder c.args.country (need_said c.args.needs.now) c.nothing-in_default-2.result none (c.nothing-in_default-2.ensures (need_said c.args.needs.now)) content holds at)

-- the owner is registered
pub returns-clause-loaded : goal.returns-clause-loaded
returns-clause-loaded g c clean =
    if_both c.load_for.result
    (λ loaded says same content holds at. subst (λ o. IsLoaded (kept_for o content) (need_said c.args.needs.now) loaded) (sym c.in-Some.is)
    (loaded_for a b c.in-Some.holder c.args.country c.in-Some-2.row (need_said c.args.needs.now) loaded row ((anywhere c.in_ok-row.ensures.reads).still clean_b refl) says content holds at))
    (c.load_for.ensures.loaded clean) (c.load_for.ensures.loaded clean)
  where
    a : State
    a = state g.S.Store c.args.tx.now.conn.now

    b : State
    b = state g.S.Store c.find_holder.new.tx.conn.now

    clean_b : HasCleanDisk b
    clean_b = omega (arith, clean, c.load_for.ensures.reads.within.survives.clean)

    row : IsTheHolder c.in-Some.holder a (Some c.in-Some-2.row)
    row = subst (λ (o : Option HolderRow). IsTheHolder c.in-Some.holder a o) c.in-Some-2.is (c.in_ok-row.ensures.found clean_b)
