use Rattle.std.proofs.Common.{◌≡◌, ℕ, true, false, Some, refl, ◌∙◌, arith}
use Rattle.std.specs.Prelude.{option_map, nat_lt}
use Rattle.std.proofs.lemmas.Bool.Decides.{nat_tests}
use Rattle.td_guarantee.specs.declared.guarantee.Guarantee.{Guarantee}
use Rattle.td_guarantee.specs.Usage.{used_on}
use Rattle.td_commands.specs.declared.command.Command.TheVariants.{Amend}
use Rattle.td_model.specs.declared.change.Change.TheVariants.{TermsSet}
use Rattle.td_commands.specs.declared.said.Answer.TheVariants as answer
use Rattle.td_commands.specs.declared.said.Refusal.TheVariants.{NoGuarantee, BelowUse}
use Rattle.td_commands.specs.declared.said.Said.{Said}
use Rattle.td_commands.specs.declared.said.Said.TheVariants.{Answered}
use Rattle.td_model.specs.Account.{Account}
use Rattle.td_acts.specs.Deciding.{entry_by_grn}
use Rattle.td_model.specs.Changes.{no_terms}
use Rattle.td_model.specs.Effects.{amended}
use Rattle.td_model.specs.Table.{refuse_if}
use Rattle.td_acts.proofs.Told.{told_named, told_unnamed, same_guarantee, same_use}
use Rattle.td_acts.proofs.terms.amend.Goals as goal

-- what is said of a guarantee that may be amended
abbrev said_of : Account → ℕ → ℕ → Guarantee → Said
said_of account reference cover g =
    let used = used_on g.grn account.movements in
    refuse_if (BelowUse used) (nat_lt reference used) (Answered (answer.Guarantee (amended reference cover g) used))

pub returns-in-Err : goal.returns-in-Err
returns-in-Err c = λ account loaded.
    let a = c.args in
    told_unnamed account a.loaded.now.holder (option_map (λ e. e.0) (entry_by_grn a.grn.now a.loaded.now.guarantees.items)) a.at (Amend a.grn.now a.reference a.cover) NoGuarantee a.grn.now (said_of account a.reference a.cover) c.in-Err.why c.refused.result
    loaded.holder (same_guarantee account a.grn.now (entry_by_grn a.grn.now a.loaded.now.guarantees.items) loaded.things) (c.in-Err.ensures.said _) c.refused.ensures.said c.refused.ensures.change refl

pub returns-then-lt : goal.returns-then-lt
returns-then-lt c = λ account loaded.
    let a = c.args in
    let g = c.in-Ok.named.guarantee.now in
    let amount = same_use account a.grn.now (entry_by_grn a.grn.now a.loaded.now.guarantees.items) g c.in-Ok.named.used loaded.things c.in-Ok.ensures.entry in
    told_unnamed account a.loaded.now.holder (option_map (λ e. e.0) (entry_by_grn a.grn.now a.loaded.now.guarantees.items)) a.at (Amend a.grn.now a.reference a.cover) NoGuarantee a.grn.now (said_of account a.reference a.cover) (BelowUse c.in-Ok.named.used) c.refused-then-lt.result
    loaded.holder (same_guarantee account a.grn.now (entry_by_grn a.grn.now a.loaded.now.guarantees.items) loaded.things) (c.in-Ok.ensures.said _ ∙ (let below : nat_lt a.reference c.in-Ok.named.used ≡ true = grind (arith, nat_tests, c.lt.ensures, c.if-lt.true, c.get.ensures.value) in rw (← amount, below) refl)) c.refused-then-lt.ensures.said c.refused-then-lt.ensures.change refl

pub returns : goal.returns
returns c = λ account loaded.
    let a = c.args in
    let g = c.in-Ok.named.guarantee.now in
    let amount = same_use account a.grn.now (entry_by_grn a.grn.now a.loaded.now.guarantees.items) g c.in-Ok.named.used loaded.things c.in-Ok.ensures.entry in
    told_named account a.loaded.now.holder (option_map (λ e. e.0) (entry_by_grn a.grn.now a.loaded.now.guarantees.items)) a.at (Amend a.grn.now a.reference a.cover) NoGuarantee a.grn.now (said_of account a.reference a.cover) c.in-Ok.named.row g (answer.Guarantee (amended a.reference a.cover g) (used_on g.grn account.movements)) (λ r. TermsSet r (record (no_terms a.grn.now) { reference = Some a.reference; cover = Some a.cover })) _
    loaded.holder (same_guarantee account a.grn.now (entry_by_grn a.grn.now a.loaded.now.guarantees.items) loaded.things) c.in-Ok.ensures.row (c.in-Ok.ensures.said _) (let below : nat_lt a.reference c.in-Ok.named.used ≡ false = grind (arith, nat_tests, c.lt.ensures, c.if-lt.false, c.get.ensures.value) in rw (← amount, below) refl)
    (rw (c.put_in.ensures, c.in_ok-guarantee.ensures, c.of.ensures, c.get-2.ensures.value, ← amount) refl)
    (rw (c.of.ensures, c.get-2.ensures.value) refl)
    refl refl refl refl
