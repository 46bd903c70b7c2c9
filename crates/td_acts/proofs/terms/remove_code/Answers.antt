use Rattle.std.proofs.Common.{◌≡◌, ℕ, List, length, true, false, refl, sym, ◌∙◌, arith}
use Rattle.std.specs.Prelude.{option_map, not, nat_le}
use Rattle.std.proofs.lemmas.Bool.Decides.{nat_tests}
use Rattle.td_guarantee.specs.declared.guarantee.Guarantee.{Guarantee}
use Rattle.td_guarantee.specs.Usage.{used_on}
use Rattle.td_commands.specs.declared.command.Command.TheVariants.{RemoveCode}
use Rattle.td_model.specs.declared.change.Change.TheVariants.{CodeRemoved}
use Rattle.td_commands.specs.declared.said.Answer.TheVariants as answer
use Rattle.td_commands.specs.declared.said.Refusal.TheVariants.{NoHolder, NoCode, LastCode}
use Rattle.td_commands.specs.declared.said.Said.{Said}
use Rattle.td_commands.specs.declared.said.Said.TheVariants.{Answered}
use Rattle.td_model.specs.Account.{Account, uncoded}
use Rattle.td_acts.specs.Deciding.{entry_by_grn}
use Rattle.td_model.specs.Table.{refuse_if, stands}
use Rattle.td_acts.proofs.Told.{told_named, told_unnamed, same_guarantee, same_use}
use Rattle.td_acts.proofs.terms.remove_code.Goals as goal

-- what is said of a guarantee that may lose a code
abbrev said_of : Account → List ℕ → Guarantee → Said
said_of account code g =
    refuse_if NoCode (not (stands code g.codes)) (refuse_if LastCode (nat_le (length g.codes) 1) (Answered (answer.Guarantee (uncoded code g) (used_on g.grn account.movements))))

pub returns-in-Err : goal.returns-in-Err
returns-in-Err c = λ account loaded.
    let a = c.args in
    told_unnamed account a.loaded.now.holder (option_map (λ e. e.0) (entry_by_grn a.grn.now a.loaded.now.guarantees.items)) a.at (RemoveCode a.holder a.grn.now a.code) NoHolder a.grn.now (said_of account a.code) c.in-Err.why c.refused.result
    loaded.holder (same_guarantee account a.grn.now (entry_by_grn a.grn.now a.loaded.now.guarantees.items) loaded.things) (c.in-Err.ensures.said _) c.refused.ensures.said c.refused.ensures.change refl

pub returns-then-not-has : goal.returns-then-not-has
returns-then-not-has c = λ account loaded.
    let a = c.args in
    let g = c.in-Ok.named.guarantee.now in
    let amount = same_use account a.grn.now (entry_by_grn a.grn.now a.loaded.now.guarantees.items) g c.in-Ok.named.used loaded.things c.in-Ok.ensures.entry in
    told_unnamed account a.loaded.now.holder (option_map (λ e. e.0) (entry_by_grn a.grn.now a.loaded.now.guarantees.items)) a.at (RemoveCode a.holder a.grn.now a.code) NoHolder a.grn.now (said_of account a.code) NoCode c.refused-then-not-has.result
    loaded.holder (same_guarantee account a.grn.now (entry_by_grn a.grn.now a.loaded.now.guarantees.items) loaded.things) (c.in-Ok.ensures.said _ ∙ (rw (sym c.has.ensures ∙ c.if-not-has.true) refl)) c.refused-then-not-has.ensures.said c.refused-then-not-has.ensures.change refl

pub returns-then-len-le1 : goal.returns-then-len-le1
returns-then-len-le1 c = λ account loaded.
    let a = c.args in
    let g = c.in-Ok.named.guarantee.now in
    let amount = same_use account a.grn.now (entry_by_grn a.grn.now a.loaded.now.guarantees.items) g c.in-Ok.named.used loaded.things c.in-Ok.ensures.entry in
    told_unnamed account a.loaded.now.holder (option_map (λ e. e.0) (entry_by_grn a.grn.now a.loaded.now.guarantees.items)) a.at (RemoveCode a.holder a.grn.now a.code) NoHolder a.grn.now (said_of account a.code) LastCode c.refused-then-len-le1.result
    loaded.holder (same_guarantee account a.grn.now (entry_by_grn a.grn.now a.loaded.now.guarantees.items) loaded.things) (c.in-Ok.ensures.said _ ∙ (let last : nat_le (length g.codes) 1 ≡ true = grind (arith, nat_tests, c.len.ensures, c.if-len-le1.true) in rw (sym c.has.ensures ∙ c.if-not-has.false, last) refl)) c.refused-then-len-le1.ensures.said c.refused-then-len-le1.ensures.change refl

pub returns : goal.returns
returns c = λ account loaded.
    let a = c.args in
    let g = c.in-Ok.named.guarantee.now in
    let amount = same_use account a.grn.now (entry_by_grn a.grn.now a.loaded.now.guarantees.items) g c.in-Ok.named.used loaded.things c.in-Ok.ensures.entry in
    told_named account a.loaded.now.holder (option_map (λ e. e.0) (entry_by_grn a.grn.now a.loaded.now.guarantees.items)) a.at (RemoveCode a.holder a.grn.now a.code) NoHolder a.grn.now (said_of account a.code) c.in-Ok.named.row g (answer.Guarantee (uncoded a.code g) (used_on g.grn account.movements)) (λ r. CodeRemoved r a.grn.now a.code) _
    loaded.holder (same_guarantee account a.grn.now (entry_by_grn a.grn.now a.loaded.now.guarantees.items) loaded.things) c.in-Ok.ensures.row (c.in-Ok.ensures.said _) (let last : nat_le (length g.codes) 1 ≡ false = grind (arith, nat_tests, c.len.ensures, c.if-len-le1.false) in rw (sym c.has.ensures ∙ c.if-not-has.false, last) refl)
    (rw (c.remove.ensures, c.in_ok-guarantee.ensures, ← amount) refl)
    refl
    refl refl refl refl
