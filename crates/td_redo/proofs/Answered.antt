-- Where a command's answer shows again as it was, nothing is changed.
use Rattle.std.proofs.Common.{◌≡◌, ◌≢◌, ℕ, Bool, true, false, List, Option, Some, None, refl, sym, subst, ◌∙◌, ap, inl, inr}
use Rattle.std.specs.Prelude.{if◌then◌else◌, ℤ}
use Rattle.td_base.specs.Codes.{IsCountry}
use Rattle.td_base.specs.Days.{moment_of}
use Rattle.td_commands.specs.declared.command.Command.{Command}
use Rattle.td_commands.specs.declared.command.Command.TheVariants.{OpenGuarantee}
use Rattle.td_commands.specs.declared.said.Answer.TheVariants as answer
use Rattle.td_commands.specs.declared.said.Said.{Said}
use Rattle.td_commands.specs.declared.said.Said.TheVariants.{Answered, Refused}
use Rattle.td_commands.specs.Commands.{IsProper}
use Rattle.td_model.specs.declared.change.Change.{Change}
use Rattle.td_model.specs.declared.change.Change.TheVariants as change
use Rattle.td_model.specs.Changes.{account_after}
use Rattle.td_acts.specs.Deciding.{change_in, change_of}
use Rattle.td_model.specs.Account.{Account}
use Rattle.td_model.specs.Machine.{is_accepted_at, is_accepted_in}
use Rattle.td_model.specs.Table.{said}
use Rattle.td_redo.specs.Redo.{account_done, TellsOpenings}
use Rattle.td_redo.specs.Laws.{GrnIsEnough, RedoLaw}
use Rattle.td_redo.specs.Second.{IsAnotherOpening}
use Rattle.td_redo.proofs.Twice.{OpensOrNot, done_twice, opens_or_not}
use Rattle.td_redo.proofs.OtherGrn.{another_grn}

-- what isn't accepted leaves the account
unchanged : (m : Option ℕ) (a : Account) (command : Command) → is_accepted_in m a command ≡ false → account_after (change_in m a command) a ≡ a
unchanged None a command other = refl
unchanged (Some t) a command other = by_test (is_accepted_at a t command) (change_of a t command) other
  where
    by_test : (b : Bool) (c : Change) → b ≡ false → account_after (if b then c else change.Nothing) a ≡ a
    by_test true c other = cc
    by_test false c other = refl

-- what is said to an opening the second time isn't what was said first
never_so : (grn : List ℕ) (words : Said) → IsAnotherOpening grn words → words ≢ Answered (answer.Opened grn)
never_so grn words (inl spent) same = cc
never_so grn words (inr other) same = other.2 (let one : other.0 ≡ grn = cc in one)

-- an opening, whose second answer doesn't show as the first
opening : (X : Type 0) (shown : Said → X) → TellsOpenings shown → (a : Account) (at : ℤ) (holder reference cover : ℕ) (code : List ℕ) → IsCountry a.country
    → IsProper (OpenGuarantee holder reference cover code)
    → shown (said (account_done a at (OpenGuarantee holder reference cover code)) at (OpenGuarantee holder reference cover code)) ≡ shown (said a at (OpenGuarantee holder reference cover code))
    → account_done (account_done a at (OpenGuarantee holder reference cover code)) at (OpenGuarantee holder reference cover code)
    ≡ account_done a at (OpenGuarantee holder reference cover code)
opening X shown tells a at holder reference cover code form proper same = by_test (is_accepted_in (moment_of at) a (OpenGuarantee holder reference cover code)) refl
  where
    by_test : (b : Bool) → is_accepted_in (moment_of at) a (OpenGuarantee holder reference cover code) ≡ b
        → account_done (account_done a at (OpenGuarantee holder reference cover code)) at (OpenGuarantee holder reference cover code)
        ≡ account_done a at (OpenGuarantee holder reference cover code)
    by_test true accepted =
        let facts = another_grn a at holder reference cover code form proper accepted in
        absurd (never_so facts.0 _ facts.2 (tells facts.0 (said (account_done a at (OpenGuarantee holder reference cover code)) at (OpenGuarantee holder reference cover code)) (same ∙ ap shown facts.1)))
    by_test false other =
        ap (λ (x : Account). account_done x at (OpenGuarantee holder reference cover code)) (unchanged (moment_of at) a (OpenGuarantee holder reference cover code) other)

pub redo : (X : Type 0) → RedoLaw X
redo X shown tells a at command form proper same = by_kind (opens_or_not command)
  where
    by_kind : OpensOrNot command → account_done (account_done a at command) at command ≡ account_done a at command
    by_kind (inl none) = done_twice a at command none
    by_kind (inr o) =
        subst (λ (c : Command). IsProper c → shown (said (account_done a at c) at c) ≡ shown (said a at c) → account_done (account_done a at c) at c ≡ account_done a at c)
        (sym o.4) (opening X shown tells a at o.0 o.1 o.2 o.3 form) proper same

pub grn_is_enough : GrnIsEnough
grn_is_enough grn (Answered (answer.Opened other)) same = let one : other ≡ grn = cc in ap (λ (g : List ℕ). Answered (answer.Opened g)) one
grn_is_enough grn (Answered (answer.Holder h eori gs ms)) same = cc
grn_is_enough grn (Answered (answer.Revoked ends g)) same = cc
grn_is_enough grn (Answered (answer.Ie028 lrn mrn)) same = cc
grn_is_enough grn (Answered (answer.Ie014 mrn)) same = cc
grn_is_enough grn (Answered (answer.Ie029 limit mrn)) same = cc
grn_is_enough grn (Answered (answer.Ie006 late mrn)) same = cc
grn_is_enough grn (Answered (answer.Ie018 mrn state)) same = cc
grn_is_enough grn (Answered (answer.Ie045 mrn)) same = cc
grn_is_enough grn (Answered (answer.Ie140 mrn)) same = cc
grn_is_enough grn (Answered (answer.Movement m)) same = cc
grn_is_enough grn (Answered (answer.Movements ms)) same = cc
grn_is_enough grn (Answered (answer.Guarantee g used)) same = cc
grn_is_enough grn (Answered (answer.Guarantees gs)) same = cc
grn_is_enough grn (Refused why) same = cc
