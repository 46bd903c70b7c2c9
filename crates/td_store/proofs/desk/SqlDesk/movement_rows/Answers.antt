use Rattle.std.proofs.Common.{◌∙◌, ap, map}
use Rattle.sqlite.specs.Held.{state}
use Rattle.td_model.specs.Content.{Content}
use Rattle.td_store_load.proofs.Listing.{all_movements_behind, movements_are_listed}
use Rattle.td_store_load.specs.Placed.{with_holder}
use Rattle.td_store.specs.Kept.{content_in}
use Rattle.td_store.proofs.desk.SqlDesk.movement_rows.Goals as goal

pub returns-clause-left : goal.returns-clause-left
returns-clause-left g c =
    let content : Content = content_in (state g.S.Store c.args.self.now).now.trees in
    ap (map with_holder) (all_movements_behind content) ∙ movements_are_listed content
