use Rattle.std.proofs.Common.{◌∙◌, ap, arith}
use Rattle.std.specs.Prelude.{unwrap_or}
use Rattle.td_holder_memory.proofs.PlaceOfLrn.{put_once}
use Rattle.td_holder_memory.proofs.movement_rows.put_place.Goals as goal

-- the LRN has its place, and the others keep theirs
pub returns-clause-ok : goal.returns-clause-ok
returns-clause-ok c = λ k.
    let update = c.in_ok-places.ensures.update.0 c.or_insert.result.now in
    let put = put_once c.args.places.now _ c.args.lrn c.args.at c.or_insert.result.now (c.or_insert.ensures.value ∙ ap (λ o. unwrap_or o c.args.at) c.in_ok-places.ensures.value) update.1 update.2 k in
    grind (arith, put)
