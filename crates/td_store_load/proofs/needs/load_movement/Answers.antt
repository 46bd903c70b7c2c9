use Rattle.std.proofs.Common.{◌∙◌, ap, sym}
use Rattle.std.specs.Prelude.{option_to_list}
use Rattle.td_acts.specs.declared.rows.Loaded.{Loaded}
use Rattle.td_model.specs.Content.{account_in}
use Rattle.td_holder_memory.proofs.Loading.{movement_looked_up}
use Rattle.td_store_load.proofs.needs.load_movement.Goals as goal

pub returns-clause-loaded : goal.returns-clause-loaded
returns-clause-loaded g c clean content holds at row =
    let loaded : Loaded = record c.row_alone-loaded.result { movements = c.in_ok-loaded.field-0 } in
    record {
      country = c.row_alone-loaded.ensures.country ∙ sym at;
      holder = c.row_alone-loaded.ensures.row ∙ sym row;
      things = movement_looked_up (account_in c.args.row.holder content) loaded c.args.mrn.now
          (c.in_ok-loaded.ensures ∙ ap option_to_list (c.in_ok-found.ensures.found clean content holds at));
    }
