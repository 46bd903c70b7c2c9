-- What is said over a desk's content in which a change stands.
use Rattle.std.proofs.Common.{◌≡◌, ◌⊎◌, ℕ, true, List, [], Option, Some, None, refl, sym, ◌∙◌, ap, subst, inl, inr}
use Rattle.std.specs.Prelude.{ℤ}
use Rattle.td_base.specs.Days.{moment_of}
use Rattle.td_commands.specs.declared.command.Command.{Command}
use Rattle.td_commands.specs.declared.command.Command.TheVariants.{Register, OpenGuarantee, Amend, Revoke, Ie015, Ie014, AddCode, RemoveCode, Ie029, Ie007, Ie018, Ie045, Ie140, SeeHolder, SeeMovement, SeeMovements, SeeGuarantee, SeeGuarantees}
use Rattle.td_commands.specs.declared.command.Stamped.{Stamped}
use Rattle.td_commands.specs.declared.said.Answer.TheVariants.{Opened}
use Rattle.td_commands.specs.declared.said.Said.{Said}
use Rattle.td_commands.specs.declared.said.Said.TheVariants.{Answered}
use Rattle.td_commands.specs.Commands.{owner_of, IsProper}
use Rattle.td_movement.specs.declared.state.Control.TheVariants.{A1, A2, B1}
use Rattle.td_acts.proofs.EachCommand.{accepted_unregistered}
use Rattle.td_model.specs.Account.{Account, empty_account}
use Rattle.td_model.specs.Effects.{openings}
use Rattle.td_model.specs.Machine.{is_accepted, is_accepted_in}
use Rattle.td_model.specs.Table.{said}
use Rattle.td_model.specs.Content.{Content, account_in, IsSound}
use Rattle.td_acts.specs.Weighing.{account_for, owner_account, Carries}
use Rattle.td_acts.proofs.Fresh.{account_fresh}
use Rattle.td_redo.specs.Endings.{IsOpenedAgain, IsSaidAgain}
use Rattle.td_redo.specs.Redo.{account_done, said_over}
use Rattle.td_redo.specs.Replies.{body_text}
use Rattle.td_redo.specs.Second.{IsAnotherOpening, said_again, StandsIsTold}
use Rattle.td_redo.proofs.BodyTells.{body_is_enough}
use Rattle.td_redo.proofs.Contents.{own_done, said_of_owner}
use Rattle.td_redo.proofs.OtherGrn.{another_grn}
use Rattle.td_redo.proofs.SecondTime.{said_the_second_time}
use Rattle.td_redo.proofs.Twice.{OpensOrNot, opens_or_not}

pub stands_is_told : StandsIsTold
stands_is_told begin done s H sound own carried none accepted =
    let after : owner_of done.country s.command ≡ Some H = ap (λ country. owner_of country s.command) carried.country ∙ own in
    let kept : owner_account begin s.command ≡ account_in H begin = ap (λ (o : Option ℕ). account_for o begin) own ∙ account_fresh H begin in
    let over : is_accepted (account_in H begin) s.at s.command ≡ true = ap (λ (a : Account). is_accepted a s.at s.command) (sym kept) ∙ accepted in
    said_of_owner H done s after
    ∙ ap (λ (a : Account). said a s.at s.command) (own_done H begin done s sound own carried)
    ∙ said_the_second_time (account_in H begin) s.at s.command none over
    ∙ ap (λ (w : Said). said_again s.command w) (sym (said_of_owner H begin s own))

-- an accepted change is somebody's
owned : (rows : Content) (at : ℤ) (command : Command) (o : Option ℕ) → owner_of rows.country command ≡ o → is_accepted (account_for o rows) at command ≡ true
    → (H : ℕ) × (owner_of rows.country command ≡ Some H)
owned rows at command (Some H) own accepted = (H, own)
owned rows at command None none accepted = absurd (by_moment (moment_of at) accepted)
  where
    by_moment : (m : Option ℕ) → is_accepted_in m (empty_account rows.country) command ≡ true → ⊥
    by_moment None never = cc
    by_moment (Some t) accepted =
        let r = accepted_unregistered rows.country [] [] t command accepted in
        let own : owner_of rows.country command ≡ Some r.0 = ap (owner_of rows.country) r.2 in
        cc

-- what is said again has the shown body
again_shown : (command : Command) (first : Said) → openings command ≡ 0 → IsSaidAgain command (body_text first) (said_again command first)
again_shown (Register h eori) first none = refl
again_shown (OpenGuarantee h reference cover code) first none = cc
again_shown (Amend grn reference cover) first none = refl
again_shown (Revoke grn) first none = refl
again_shown (Ie015 h lrn departure destination lines) first none = refl
again_shown (Ie014 h mrn) first none = refl
again_shown (AddCode h grn code) first none = refl
again_shown (RemoveCode h grn code) first none = refl
again_shown (Ie029 mrn limit) first none = refl
again_shown (Ie007 mrn office) first none = refl
again_shown (Ie018 mrn A1) first none = refl
again_shown (Ie018 mrn A2) first none = refl
again_shown (Ie018 mrn B1) first none = refl
again_shown (Ie045 mrn cause) first none = refl
again_shown (Ie140 mrn) first none = refl
again_shown (SeeHolder h) first none = refl
again_shown (SeeMovement h mrn) first none = refl
again_shown (SeeMovements h) first none = refl
again_shown (SeeGuarantee h grn) first none = refl
again_shown (SeeGuarantees h) first none = refl

-- another GRN has another body
other_body : (grn reply : List ℕ) (words : Said) → body_text (Answered (Opened grn)) ≡ reply → IsAnotherOpening grn words → IsOpenedAgain (body_text words ≡ reply) words
other_body grn reply words shown (inl spent) = inl spent
other_body grn reply words shown (inr other) =
    inr ((other.0, other.1), λ same. other.2 (let is : words ≡ Answered (Opened grn) = body_is_enough grn words (same ∙ sym shown) in let one : other.0 ≡ grn = cc in one))

-- what holds of what is said to the row of this command where its change stands
abbrev IsToldAgain : Content → Content → ℤ → List ℕ → Command → Type 0
IsToldAgain begin done at reply command =
    IsProper command → is_accepted (owner_account begin command) at command ≡ true
    → body_text (said_over begin (record { at = at; command = command })) ≡ reply → Carries begin (record { at = at; command = command }) done
    → IsSaidAgain command reply (said_over done (record { at = at; command = command }))

opening_told : (begin done : Content) (at : ℤ) (reply : List ℕ) → IsSound begin → (h reference cover : ℕ) (code : List ℕ)
    → IsToldAgain begin done at reply (OpenGuarantee h reference cover code)
opening_told begin done at reply sound h reference cover code proper accepted shown carried =
    let command : Command = OpenGuarantee h reference cover code in
    let s : Stamped = record { at = at; command = command } in
    let over : is_accepted (account_in h begin) at command ≡ true = ap (λ (a : Account). is_accepted a at command) (sym (account_fresh h begin)) ∙ accepted in
    let facts = another_grn (account_in h begin) at h reference cover code sound.country proper over in
    let first : said_over begin s ≡ Answered (Opened facts.0) = said_of_owner h begin s refl ∙ facts.1 in
    let second : said_over done s ≡ said (account_done (account_in h begin) at command) at command =
    said_of_owner h done s refl ∙ ap (λ (a : Account). said a at command) (own_done h begin done s sound refl carried) in
    other_body facts.0 reply (said_over done s) (ap body_text (sym first) ∙ shown) (subst (IsAnotherOpening facts.0) (sym second) facts.2)

plain_told : (begin done : Content) (at : ℤ) (reply : List ℕ) (command : Command) → IsSound begin → openings command ≡ 0 → IsToldAgain begin done at reply command
plain_told begin done at reply command sound none proper accepted shown carried =
    let s : Stamped = record { at = at; command = command } in
    let own = owned begin at command (owner_of begin.country command) refl accepted in
    let told : said_over done s ≡ said_again command (said_over begin s) = stands_is_told begin done s own.0 sound own.1 carried none accepted in
    subst (λ (r : List ℕ). IsSaidAgain command r (said_over done s)) shown
    (subst (λ (w : Said). IsSaidAgain command (body_text (said_over begin s)) w) (sym told) (again_shown command (said_over begin s) none))

-- where a row's change stands, what is said to the row's command is what is said the second time
pub told_again : (begin done : Content) (s : Stamped) (reply : List ℕ) → IsSound begin → IsProper s.command
    → is_accepted (owner_account begin s.command) s.at s.command ≡ true → body_text (said_over begin s) ≡ reply → Carries begin s done
    → IsSaidAgain s.command reply (said_over done s)
told_again begin done s reply sound proper accepted shown carried = by_kind (opens_or_not s.command)
  where
    by_kind : OpensOrNot s.command → IsSaidAgain s.command reply (said_over done s)
    by_kind (inl none) = plain_told begin done s.at reply s.command sound none proper accepted shown carried
    by_kind (inr opening) =
        subst (IsToldAgain begin done s.at reply) (sym opening.4) (opening_told begin done s.at reply sound opening.0 opening.1 opening.2 opening.3)
        proper accepted shown carried
