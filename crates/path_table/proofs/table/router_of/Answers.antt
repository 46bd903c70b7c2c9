use Rattle.std.proofs.Common.{◌∙◌, refl, ap, sym, take}
use Rattle.std.proofs.lemmas.List.{drop_all}
use Rattle.path_table.specs.Routers.{router_behind}
use Rattle.path_table.proofs.Filling.{earlier_is, insert_reads, next_router}
use Rattle.path_table.proofs.table.router_of.Goals as goal
use Rattle.path_table.proofs.table.router_of.Goals.{then-not-is_earlier+in_ok-insert, else-not-is_earlier}

pub loop-place-preserved : goal.loop-place-preserved
loop-place-preserved g c =
    let earlier = earlier_is g.R.Row.pattern c.args.rows.now c.loop-place.place c.index-rows-place.result c.pattern-pattern.result.now c.is_earlier.result c.is_earlier.ensures c.pattern-pattern.ensures in
    c.loop-place.invariant
    ∙ next_router g.R.Row.pattern c.args.rows.now c.loop-place.place c.index-rows-place.result c.loop-place.router c.if-not-is_earlier.router c.loop-place-test.true c.index-rows-place.is
    (elim c.if-not-is_earlier.branch [
      | then-not-is_earlier+in_ok-insert w ↦
          let added = insert_reads _ _ _ _ w.in_ok-insert.ensures in
          rw (w.router-is, ← earlier, w.if-not-is_earlier.true, ← c.pattern-pattern.ensures) added
      | else-not-is_earlier w ↦ rw (w.router-is, ← earlier, w.if-not-is_earlier.false) refl
    ])

pub returns : goal.returns
unfolding router_behind
returns g c =
    sym (c.loop-place.invariant ∙ ap (λ rows. router_behind g.R.Row.pattern (take c.loop-place.place c.args.rows.now) rows c.loop-place.router) (drop_all c.loop-place.place c.args.rows.now c.loop-place-test.false))
