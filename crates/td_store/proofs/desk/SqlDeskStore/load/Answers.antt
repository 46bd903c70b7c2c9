use Rattle.std.proofs.Common.{◌≡◌, arith}
use Rattle.std.specs.Prelude.{IfOk, is_ok}
use Rattle.sqlite.specs.Held.{state}
use Rattle.sqlite.specs.State.{HasCleanDisk, State}
use Rattle.td_acts.specs.Deciding.{IsLoaded}
use Rattle.td_commands.specs.Commands.{need_said}
use Rattle.td_model.specs.Content.{Content}
use Rattle.td_acts.specs.Weighing.{kept_for}
use Rattle.td_store_rows.specs.StoreTables.{HoldsContent}
use Rattle.typed_sql.specs.Outside.{Looks}
use Rattle.td_store.specs.Kept.{IsDeskOf}
use Rattle.td_store.proofs.Calls.{desk_then}
use Rattle.td_store.proofs.Holding.{loaded_there, tables_there}
use Rattle.td_store.proofs.Leaving.{counts_faults}
use Rattle.td_store.proofs.Looking.{has_looked, looks_told, shown_well, told_of}
use Rattle.td_store.proofs.desk.SqlDeskStore.load.Goals as goal

pub read_needs-loaded-requires-clause-tables : goal.read_needs-loaded-requires-clause-tables
read_needs-loaded-requires-clause-tables g c = tables_there c.self.inside.country (state g.S.Store c.self.inside.conn) c.self.invariant.0

pub invariant_of-self : goal.invariant_of-self
invariant_of-self g c =
    let a : State = state g.S.Store c.args.self.now in
    let b : State = state g.S.Store c.read_needs-loaded.new.conn in
    let desk : IsDeskOf c.self.inside.country a = rw c.self.view_is at c.self.invariant.0 in
    let looks : Looks (is_ok c.read_needs-loaded.result) a b = rw c.self.view_is at c.read_needs-loaded.ensures.looks in
    let all = looks_told g.S.Store a c.read_needs-loaded.new.conn c.told.new.conn c.read_needs-loaded.result c.told.result c.told.ensures.well looks c.told.ensures.looks in
    (desk_then c.self.inside.country a (state g.S.Store c.told.new.conn) desk all, c.told.ensures.ended)

pub returns : goal.returns
returns g c =
    let a : State = state g.S.Store c.args.self.now in
    let b : State = state g.S.Store c.read_needs-loaded.new.conn in
    let desk : IsDeskOf c.self.inside.country a = rw c.self.view_is at c.self.invariant.0 in
    let looks : Looks (is_ok c.read_needs-loaded.result) a b = rw c.self.view_is at c.read_needs-loaded.ensures.looks in
    let all = looks_told g.S.Store a c.read_needs-loaded.new.conn c.told.new.conn c.read_needs-loaded.result c.told.result c.told.ensures.well looks c.told.ensures.looks in
    let looked = has_looked g.S.Store c.self.inside.country c.args.self.now c.told.new.conn desk all c.told.ensures.settled in
    record {
      kept = looked.clean;
      live = looked.live;
      shown = λ clean. shown_well c.told.result (looked.shown clean);
      memory = c.told.ensures.memory;
      same = looked.same;
      loaded = λ clean is sound.
          let clean_b : HasCleanDisk b = omega (arith, clean, c.told.ensures.looks.crash.clean) in
          let was : (x : Content) × HoldsContent x a × (x.country ≡ c.self.inside.country) = desk (omega (arith, clean_b, looks.crash.clean)) is in
          let says : IfOk c.read_needs-loaded.result (λ loaded. (x : Content) → HoldsContent x a → x.country ≡ c.self.inside.country
          → IsLoaded (kept_for c.args.owner x) (need_said c.args.needs.now) loaded) = rw c.self.view_is at (c.read_needs-loaded.ensures.loaded clean_b) in
          told_of c.read_needs-loaded.new.conn c.told.new.conn c.read_needs-loaded.result c.told.result c.told.ensures.well
          (λ loaded says. loaded_there c.args.owner (need_said c.args.needs.now) a was.0 loaded was.1 (says was.0 was.1 was.2)) says;
      crash = looked.crash;
      settled = looked.settled;
      store = λ _. tt;
      call = λ s. counts_faults a (state g.S.Store c.told.new.conn) (λ _. ⊥) all.crash;
      unweighed = shown_well c.told.result (λ _ s. counts_faults a (state g.S.Store c.told.new.conn) (λ _. ⊥) all.crash);
    }
