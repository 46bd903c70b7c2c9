use Rattle.std.proofs.Common.{◌≡◌, ℕ, List, length, true, false, refl, sym, ◌∙◌, arith}
use Rattle.std.specs.Prelude.{option_map, nat_le}
use Rattle.std.proofs.lemmas.Bool.Decides.{nat_tests}
use Rattle.td_guarantee.specs.declared.guarantee.Guarantee.{Guarantee}
use Rattle.td_guarantee.specs.Usage.{used_on}
use Rattle.td_commands.specs.declared.command.Command.TheVariants.{AddCode}
use Rattle.td_model.specs.declared.change.Change.TheVariants.{CodeAdded}
use Rattle.td_commands.specs.declared.said.Answer.TheVariants as answer
use Rattle.td_commands.specs.declared.said.Refusal.TheVariants.{NoHolder, CodeKnown, CodesFull}
use Rattle.td_commands.specs.declared.said.Said.{Said}
use Rattle.td_commands.specs.declared.said.Said.TheVariants.{Answered}
use Rattle.td_model.specs.Account.{Account, coded}
use Rattle.td_acts.specs.Deciding.{entry_by_grn}
use Rattle.td_model.specs.Table.{refuse_if, stands}
use Rattle.td_acts.proofs.Told.{told_named, told_unnamed, same_guarantee, same_use}
use Rattle.td_acts.proofs.terms.add_code.Goals as goal
use Rattle.td_guarantee.specs.Codes.{most_codes}

-- what is said of a guarantee that may get a code
abbrev said_of : Account → List ℕ → Guarantee → Said
said_of account code g =
    refuse_if CodeKnown (stands code g.codes) (refuse_if CodesFull (nat_le most_codes (length g.codes)) (Answered (answer.Guarantee (coded code g) (used_on g.grn account.movements))))

pub returns-in-Err : goal.returns-in-Err
returns-in-Err c = λ account loaded.
    let a = c.args in
    told_unnamed account a.loaded.now.holder (option_map (λ e. e.0) (entry_by_grn a.grn.now a.loaded.now.guarantees.items)) a.at (AddCode a.holder a.grn.now a.code) NoHolder a.grn.now (said_of account a.code) c.in-Err.why c.refused.result
    loaded.holder (same_guarantee account a.grn.now (entry_by_grn a.grn.now a.loaded.now.guarantees.items) loaded.things) (c.in-Err.ensures.said _) c.refused.ensures.said c.refused.ensures.change refl

pub returns-then-has : goal.returns-then-has
returns-then-has c = λ account loaded.
    let a = c.args in
    let g = c.in-Ok.named.guarantee.now in
    let amount = same_use account a.grn.now (entry_by_grn a.grn.now a.loaded.now.guarantees.items) g c.in-Ok.named.used loaded.things c.in-Ok.ensures.entry in
    told_unnamed account a.loaded.now.holder (option_map (λ e. e.0) (entry_by_grn a.grn.now a.loaded.now.guarantees.items)) a.at (AddCode a.holder a.grn.now a.code) NoHolder a.grn.now (said_of account a.code) CodeKnown c.refused-then-has.result
    loaded.holder (same_guarantee account a.grn.now (entry_by_grn a.grn.now a.loaded.now.guarantees.items) loaded.things) (c.in-Ok.ensures.said _ ∙ (rw (sym c.has.ensures ∙ c.if-has.true) refl)) c.refused-then-has.ensures.said c.refused-then-has.ensures.change refl

pub returns-then-len-ge-MOST_CODES : goal.returns-then-len-ge-MOST_CODES
returns-then-len-ge-MOST_CODES c = λ account loaded.
    let a = c.args in
    let g = c.in-Ok.named.guarantee.now in
    let amount = same_use account a.grn.now (entry_by_grn a.grn.now a.loaded.now.guarantees.items) g c.in-Ok.named.used loaded.things c.in-Ok.ensures.entry in
    told_unnamed account a.loaded.now.holder (option_map (λ e. e.0) (entry_by_grn a.grn.now a.loaded.now.guarantees.items)) a.at (AddCode a.holder a.grn.now a.code) NoHolder a.grn.now (said_of account a.code) CodesFull c.refused-then-len-ge-MOST_CODES.result
    loaded.holder (same_guarantee account a.grn.now (entry_by_grn a.grn.now a.loaded.now.guarantees.items) loaded.things) (c.in-Ok.ensures.said _ ∙ (let full : nat_le most_codes (length g.codes) ≡ true = grind (arith, nat_tests, c.len.ensures, c.if-len-ge-MOST_CODES.true) in rw (sym c.has.ensures ∙ c.if-has.false, full) refl)) c.refused-then-len-ge-MOST_CODES.ensures.said c.refused-then-len-ge-MOST_CODES.ensures.change refl

pub returns : goal.returns
returns c = λ account loaded.
    let a = c.args in
    let g = c.in-Ok.named.guarantee.now in
    let amount = same_use account a.grn.now (entry_by_grn a.grn.now a.loaded.now.guarantees.items) g c.in-Ok.named.used loaded.things c.in-Ok.ensures.entry in
    told_named account a.loaded.now.holder (option_map (λ e. e.0) (entry_by_grn a.grn.now a.loaded.now.guarantees.items)) a.at (AddCode a.holder a.grn.now a.code) NoHolder a.grn.now (said_of account a.code) c.in-Ok.named.row g (answer.Guarantee (coded a.code g) (used_on g.grn account.movements)) (λ r. CodeAdded r a.grn.now a.code) _
    loaded.holder (same_guarantee account a.grn.now (entry_by_grn a.grn.now a.loaded.now.guarantees.items) loaded.things) c.in-Ok.ensures.row (c.in-Ok.ensures.said _) (let full : nat_le most_codes (length g.codes) ≡ false = grind (arith, nat_tests, c.len.ensures, c.if-len-ge-MOST_CODES.false) in rw (sym c.has.ensures ∙ c.if-has.false, full) refl)
    (rw (c.in_ok-add.ensures.ok, c.in_ok-guarantee.ensures, ← amount) refl)
    refl
    refl refl refl refl
