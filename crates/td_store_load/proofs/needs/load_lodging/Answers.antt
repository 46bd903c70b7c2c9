use Rattle.std.proofs.Common.{◌∙◌, Some, ap, arith, map, sym, refl}
use Rattle.std.specs.Prelude.{option_to_list}
use Rattle.sqlite.specs.Held.{state}
use Rattle.sqlite.specs.State.{State, HasCleanDisk}
use Rattle.td_acts.specs.declared.rows.Loaded.{Loaded}
use Rattle.td_model.specs.Content.{account_in}
use Rattle.td_holder_memory.proofs.Loading.{lodging_looked_up}
use Rattle.td_store_rows.proofs.StoreReads.{reads_on}
use Rattle.td_store_load.proofs.Reading.{held_after}
use Rattle.td_store_load.proofs.WithUse.{entries_of_lines}
use Rattle.td_store_load.proofs.needs.load_lodging.Goals as goal

pub returns-clause-loaded : goal.returns-clause-loaded
returns-clause-loaded g c clean content holds at row =
    let a : State = state g.S.Store c.args.tx.now.conn.now in
    let b : State = state g.S.Store c.load_movement_by_lrn.new.tx.conn.now in
    let clean_b : HasCleanDisk b = omega (arith, clean, c.load_declared_on.ensures.reads.within.survives.clean) in
    let loaded : Loaded = record { country = c.args.country; holder = Some c.args.row; movements = c.in_ok-movements.movements; listed = c.new.result; guarantees = c.in_ok-guarantees.guarantees } in
    record {
      country = sym at;
      holder = sym row;
      things = lodging_looked_up (account_in c.args.row.holder content) loaded c.args.lrn.now c.args.lines.now
          (c.in_ok-movements.ensures ∙ ap option_to_list (c.in_ok-found.ensures.found clean_b content holds))
          (ap (map (λ e. e.0)) (c.in_ok-guarantees.ensures.found clean content (held_after content a b (c.in_ok-found.ensures.reads.still clean_b refl) holds) at)
          ∙ entries_of_lines (account_in c.args.row.holder content) c.args.lines.now);
    }

pub returns-clause-reads : goal.returns-clause-reads
returns-clause-reads g c = reads_on c.in_ok-found.ensures.reads c.in_ok-guarantees.ensures.reads
