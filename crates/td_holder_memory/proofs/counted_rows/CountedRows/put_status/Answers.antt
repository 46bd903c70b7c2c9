use Rattle.std.proofs.Common.{◌≡◌, ◌<◌, ◌∙◌, length, get_or, ap, arith}
use Rattle.std.proofs.lemmas.List.{get_or_default, length-map}
use Rattle.td_guarantee.specs.Usage.{used_on}
use Rattle.td_model.specs.Changes.{moved}
use Rattle.td_holder_memory.proofs.InUse.{moved_kept, one_of}
use Rattle.td_holder_memory.proofs.counted_rows.CountedRows.put_status.Goals as goal

-- nothing is kept of rows that aren't in their places
pub invariant_of-self : goal.invariant_of-self
invariant_of-self c = c.forget.ensures (λ grn. used_on grn c.put_status.new.self)

-- what is kept is in use, with the movement taken off before it moves and put on then
pub invariant_of-self-2 : goal.invariant_of-self-2
invariant_of-self-2 c =
    let ms = c.self.inside.rows in
    let at = c.in-Some.at in
    let d = one_of ms at c.in-Some.ensures.within in
    let long : at < length c.put_status-2.new.self = omega (arith, c.in-Some.ensures.within, ap length c.put_status-2.ensures, length-map ms (moved c.args.status.now)) in
    let within : at < length c.as_slice.result.now = omega (arith, c.in-Some.ensures.within, ap length c.as_slice.ensures) in
    let then : at < length c.as_slice-2.result.now = omega (arith, long, ap length c.as_slice-2.ensures) in
    moved_kept c.args.status.now ms c.put_status-2.new.self c.index-as_slice-at.result c.index-as_slice-at-2.result at d c.self.inside.amounts c.take_off.new.self c.put_on.new.self c.in-Some.ensures c.put_status-2.ensures
    (c.index-as_slice-at.is ∙ get_or_default c.as_slice.result.now at c.index-as_slice-at.result d within ∙ ap (λ l. get_or l at d) c.as_slice.ensures)
    (c.index-as_slice-at-2.is ∙ get_or_default c.as_slice-2.result.now at c.index-as_slice-at-2.result d then ∙ ap (λ l. get_or l at d) c.as_slice-2.ensures)
    c.self.invariant c.take_off.ensures c.put_on.ensures
