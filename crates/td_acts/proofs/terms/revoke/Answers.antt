use Rattle.std.proofs.Common.{ℕ, Some, refl, sym, ◌∙◌, ap}
use Rattle.std.specs.Prelude.{option_map, is_some}
use Rattle.td_base.specs.Days.{day_of_moment}
use Rattle.td_guarantee.specs.declared.guarantee.Guarantee.{Guarantee}
use Rattle.td_commands.specs.declared.command.Command.TheVariants.{Revoke}
use Rattle.td_model.specs.declared.change.Change.TheVariants.{TermsSet}
use Rattle.td_commands.specs.declared.said.Answer.TheVariants as answer
use Rattle.td_commands.specs.declared.said.Refusal.TheVariants.{NoGuarantee, AlreadyEnded}
use Rattle.td_commands.specs.declared.said.Said.{Said}
use Rattle.td_commands.specs.declared.said.Said.TheVariants.{Answered}
use Rattle.td_acts.specs.Deciding.{entry_by_grn}
use Rattle.td_model.specs.Changes.{no_terms}
use Rattle.td_model.specs.Effects.{end_after}
use Rattle.td_model.specs.Table.{refuse_if}
use Rattle.td_acts.proofs.Told.{told_named, told_unnamed, same_guarantee, same_use}
use Rattle.td_acts.proofs.terms.revoke.Goals as goal

-- what is said of a guarantee that may be revoked
abbrev said_of : ℕ → Guarantee → Said
said_of day g = refuse_if AlreadyEnded (is_some g.ends) (Answered (answer.Revoked (end_after day) g.grn))

pub returns-in-Err : goal.returns-in-Err
returns-in-Err c = λ account loaded.
    let a = c.args in
    told_unnamed account a.loaded.now.holder (option_map (λ e. e.0) (entry_by_grn a.grn.now a.loaded.now.guarantees.items)) a.at (Revoke a.grn.now) NoGuarantee a.grn.now (said_of (day_of_moment a.at)) c.in-Err.why c.refused.result
    loaded.holder (same_guarantee account a.grn.now (entry_by_grn a.grn.now a.loaded.now.guarantees.items) loaded.things) (c.in-Err.ensures.said _) c.refused.ensures.said c.refused.ensures.change refl

pub returns-then-is_some : goal.returns-then-is_some
returns-then-is_some c = λ account loaded.
    let a = c.args in
    let g = c.in-Ok.named.guarantee.now in
    let amount = same_use account a.grn.now (entry_by_grn a.grn.now a.loaded.now.guarantees.items) g c.in-Ok.named.used loaded.things c.in-Ok.ensures.entry in
    told_unnamed account a.loaded.now.holder (option_map (λ e. e.0) (entry_by_grn a.grn.now a.loaded.now.guarantees.items)) a.at (Revoke a.grn.now) NoGuarantee a.grn.now (said_of (day_of_moment a.at)) AlreadyEnded c.refused-then-is_some.result
    loaded.holder (same_guarantee account a.grn.now (entry_by_grn a.grn.now a.loaded.now.guarantees.items) loaded.things) (c.in-Ok.ensures.said _ ∙ (rw (sym c.is_some.ensures ∙ c.if-is_some.true) refl)) c.refused-then-is_some.ensures.said c.refused-then-is_some.ensures.change refl

pub returns : goal.returns
returns c = λ account loaded.
    let a = c.args in
    let g = c.in-Ok.named.guarantee.now in
    let amount = same_use account a.grn.now (entry_by_grn a.grn.now a.loaded.now.guarantees.items) g c.in-Ok.named.used loaded.things c.in-Ok.ensures.entry in
    told_named account a.loaded.now.holder (option_map (λ e. e.0) (entry_by_grn a.grn.now a.loaded.now.guarantees.items)) a.at (Revoke a.grn.now) NoGuarantee a.grn.now (said_of (day_of_moment a.at)) c.in-Ok.named.row g (answer.Revoked (end_after (day_of_moment a.at)) g.grn) (λ r. TermsSet r (record (no_terms a.grn.now) { ends = Some (end_after (day_of_moment a.at)) })) _
    loaded.holder (same_guarantee account a.grn.now (entry_by_grn a.grn.now a.loaded.now.guarantees.items) loaded.things) c.in-Ok.ensures.row (c.in-Ok.ensures.said _) (rw (sym c.is_some.ensures ∙ c.if-is_some.false) refl)
    (ap (λ e. Answered (answer.Revoked e g.grn)) c.end_after-ends.ensures)
    (rw (c.of.ensures, c.end_after-ends.ensures) refl)
    refl refl refl refl
