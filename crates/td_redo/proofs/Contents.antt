-- The same of a desk's content.
use Rattle.std.proofs.Common.{◌≡◌, ◌≢◌, ◌⊎◌, ℕ, Option, Some, None, refl, sym, ◌∙◌, ap, subst, inl, inr}
use Rattle.std.proofs.lemmas.Bool.{cases_eq}
use Rattle.td_commands.specs.declared.command.Stamped.{Stamped}
use Rattle.td_commands.specs.declared.said.Said.{Said}
use Rattle.td_commands.specs.Commands.{owner_of, IsProper}
use Rattle.td_model.specs.Account.{Account, ReferencesDiffer}
use Rattle.td_model.specs.Table.{said}
use Rattle.td_acts.proofs.Growing.{account_said_after}
use Rattle.td_model.specs.Content.{Content, account_in, fresh, IsSound}
use Rattle.td_acts.specs.Weighing.{account_for, Carries}
use Rattle.td_model.proofs.Kept.{references_differ}
use Rattle.td_acts.proofs.Fresh.{account_fresh}
use Rattle.td_redo.specs.Redo.{account_done, said_over, TellsOpenings, IsRedone}
use Rattle.td_redo.specs.Laws.{TwiceAtADeskIsOnce, RedoneOverItsBeginning, RedoneOverItsEnd}
use Rattle.td_redo.proofs.Answered.{redo}
use Rattle.td_redo.proofs.SameRows.{same_content}
use Rattle.td_redo.proofs.Twice.{done_twice}

-- the owner's account after a command that was carried
pub own_done : (H : ℕ) (old new : Content) (s : Stamped) → IsSound old → owner_of old.country s.command ≡ Some H → Carries old s new
    → account_in H new ≡ account_done (account_in H old) s.at s.command
own_done H old new s sound own carried =
    carried.own H own
    ∙ account_said_after H (fresh H old) s tt (subst ReferencesDiffer (sym (account_fresh H old)) (references_differ H old sound)) own
    ∙ ap (λ (a : Account). account_done a s.at s.command) (account_fresh H old)

-- what is said over an owner's account
pub said_of_owner : (H : ℕ) (rows : Content) (s : Stamped) → owner_of rows.country s.command ≡ Some H → said_over rows s ≡ said (account_in H rows) s.at s.command
said_of_owner H rows s own =
    ap (λ (o : Option ℕ). said (account_for o rows) s.at s.command) own ∙ ap (λ (a : Account). said a s.at s.command) (account_fresh H rows)

-- two that were carried over one content are one
pub carried_alike : (old one other : Content) (s : Stamped) → Carries old s one → Carries old s other → one ≡ other
carried_alike old one other s carried again =
    same_content one other (carried.country ∙ sym again.country) carried.sound again.sound (λ H. by_owner H (owner_of old.country s.command) refl)
  where
    by_holder : (H K : ℕ) → owner_of old.country s.command ≡ Some K → (K ≡ H) ⊎ (K ≡ H → ⊥) → account_in H one ≡ account_in H other
    by_holder H K own (inl same) = let mine : owner_of old.country s.command ≡ Some H = own ∙ ap (λ n. Some n) same in carried.own H mine ∙ sym (again.own H mine)
    by_holder H K own (inr differs) = let not_mine : owner_of old.country s.command ≢ Some H = λ e. differs (let both : Some K ≡ Some H = sym own ∙ e in cc) in carried.others H not_mine ∙ sym (again.others H not_mine)

    by_owner : (H : ℕ) (o : Option ℕ) → owner_of old.country s.command ≡ o → account_in H one ≡ account_in H other
    by_owner H None none = let not_mine : owner_of old.country s.command ≢ Some H = λ e. (let both : None ≡ Some H = sym none ∙ e in cc) in carried.others H not_mine ∙ sym (again.others H not_mine)
    by_owner H (Some K) own = by_holder H K own (cases_eq K H)

-- a command that leaves its owner's account the second time leaves the content
left_alone : (begin once twice : Content) (s : Stamped) → IsSound begin → Carries begin s once → Carries once s twice
    → ((H : ℕ) → owner_of begin.country s.command ≡ Some H
    → account_done (account_done (account_in H begin) s.at s.command) s.at s.command ≡ account_done (account_in H begin) s.at s.command)
    → twice ≡ once
left_alone begin once twice s sound first second leaves =
    same_content twice once second.country second.sound first.sound (λ H. by_owner H (owner_of once.country s.command) refl)
  where
    own_left : (H : ℕ) → owner_of once.country s.command ≡ Some H → account_in H twice ≡ account_in H once
    own_left H own =
        let before : owner_of begin.country s.command ≡ Some H = ap (λ country. owner_of country s.command) (sym first.country) ∙ own in
        own_done H once twice s first.sound own second
        ∙ ap (λ (a : Account). account_done a s.at s.command) (own_done H begin once s sound before first)
        ∙ leaves H before
        ∙ sym (own_done H begin once s sound before first)

    by_holder : (H K : ℕ) → owner_of once.country s.command ≡ Some K → (K ≡ H) ⊎ (K ≡ H → ⊥) → account_in H twice ≡ account_in H once
    by_holder H K own (inl same) = own_left H (own ∙ ap (λ n. Some n) same)
    by_holder H K own (inr differs) = second.others H (λ e. differs (let both : Some K ≡ Some H = sym own ∙ e in cc))

    by_owner : (H : ℕ) (o : Option ℕ) → owner_of once.country s.command ≡ o → account_in H twice ≡ account_in H once
    by_owner H None none = second.others H (λ e. (let both : None ≡ Some H = sym none ∙ e in cc))
    by_owner H (Some K) own = by_holder H K own (cases_eq K H)

pub twice_at_a_desk : TwiceAtADeskIsOnce
twice_at_a_desk begin once twice s sound proper none first second =
    left_alone begin once twice s sound first second (λ H own. done_twice (account_in H begin) s.at s.command none)

-- the same where its answer shows as it did
shown_alike : (X : Type 0) (shown : Said → X) → TellsOpenings shown → (begin once twice : Content) (s : Stamped) → IsSound begin → IsProper s.command
    → Carries begin s once → Carries once s twice → shown (said_over once s) ≡ shown (said_over begin s) → twice ≡ once
shown_alike X shown tells begin once twice s sound proper first second same =
    left_alone begin once twice s sound first second (λ H own.
    let after : owner_of once.country s.command ≡ Some H = ap (λ country. owner_of country s.command) first.country ∙ own in
    let told : shown (said (account_done (account_in H begin) s.at s.command) s.at s.command) ≡ shown (said (account_in H begin) s.at s.command) =
    ap (λ (a : Account). shown (said a s.at s.command)) (sym (own_done H begin once s sound own first))
    ∙ ap shown (sym (said_of_owner H once s after)) ∙ same ∙ ap shown (said_of_owner H begin s own) in
    redo X shown tells (account_in H begin) s.at s.command sound.country proper told)

pub redone_over_its_beginning : (X : Type 0) → RedoneOverItsBeginning X
redone_over_its_beginning X shown begin done new s sound carried (inl again) = carried_alike begin new done s again.1 carried
redone_over_its_beginning X shown begin done new s sound carried (inr other) = absurd (other.0 refl)

pub redone_over_its_end : (X : Type 0) → RedoneOverItsEnd X
redone_over_its_end X shown tells begin done new s sound proper carried (inl again) = shown_alike X shown tells begin done new s sound proper carried again.1 again.0
redone_over_its_end X shown tells begin done new s sound proper carried (inr other) = other.1

-- a redo of what was redone does nothing
pub redone_again : (X : Type 0) (shown : Said → X) → TellsOpenings shown → (old once twice : Content) (s : Stamped) (row : X) → IsSound old → IsProper s.command
    → IsRedone shown s row old once → IsRedone shown s row once twice → twice ≡ once
redone_again X shown tells old once twice s row sound proper (inl first) (inl second) = shown_alike X shown tells old once twice s sound proper first.1 second.1 (second.0 ∙ sym first.0)
redone_again X shown tells old once twice s row sound proper (inl first) (inr second) = second.1
redone_again X shown tells old once twice s row sound proper (inr first) (inl second) =
    absurd (first.0 (ap (λ (c : Content). shown (said_over c s)) (sym first.1) ∙ second.0))
redone_again X shown tells old once twice s row sound proper (inr first) (inr second) = second.1
