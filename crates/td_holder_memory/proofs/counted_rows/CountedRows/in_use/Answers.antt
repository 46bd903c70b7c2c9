use Rattle.std.proofs.Common.{◌≡◌, ◌∙◌, ap, subst}
use Rattle.td_base.specs.Money.{IsCents}
use Rattle.td_guarantee.specs.Usage.{used_on}
use Rattle.td_holder_memory.proofs.counted_rows.CountedRows.in_use.Goals as goal

-- the amount that is kept is the one in use
pub returns-in-Some : goal.returns-in-Some
returns-in-Some c =
    let grn = c.args.grn.now in
    let amount : c.in-Some.amount ≡ used_on grn c.args.self.now = c.in-Some.ensures (λ grn. used_on grn c.self.inside.rows) c.self.invariant ∙ ap (used_on grn) c.self.view_is in
    (subst IsCents amount c.get-range.ensures.range, amount)
