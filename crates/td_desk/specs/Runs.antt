-- A run of commands, as each holder sees it.
use Rattle.std.specs.Prelude.{◌≡◌, ◌⊎◌, ℕ, ◌==◌, Bool, true, false, List, [], ◌∷◌, Option, Some, None, length, map, filter, zip, if◌then◌else◌}
use Rattle.std.specs.List.{AllZip}
use Rattle.td_commands.specs.declared.command.Stamped.{Stamped}
use Rattle.td_commands.specs.declared.said.Said.{Said}
use Rattle.td_model.specs.Account.{empty_account}
use Rattle.td_model.specs.Book.{Book, account_of}
use Rattle.td_commands.specs.Commands.{owner_of}
use Rattle.td_model.specs.Table.{said}
use Rattle.td_model.specs.Machine.{is_accepted, machine_says, machine_book, IsGrown}
use Rattle.td_desk.specs.declared.running.Outcome.{Outcome}
use Rattle.td_desk.specs.declared.running.Outcome.TheVariants as outcome
use Rattle.td_model.specs.Content.{Content, account_in, IsSound}
use Rattle.td_desk.specs.View.{AddsAtMost, DeskView, LeavesOnly}
use Rattle.td_acts.specs.Weighing.{owner_account, Carries}

abbrev pub is_holder : ℕ → Option ℕ → Bool
is_holder H None = false
is_holder H (Some owner) = owner == H

-- H's part of a list: the commands that H owns, with their moments, in order
abbrev pub part : List ℕ → ℕ → List Stamped → List Stamped
part country H list = filter (λ s. is_holder H (owner_of country s.command)) list

-- two lists agree on H: H's parts of them are equal, whatever stands between
abbrev pub Agree : List ℕ → ℕ → List Stamped → List Stamped → Type 0
Agree country H list other_list = part country H list ≡ part country H other_list

abbrev pub is_failed : Outcome → Bool
is_failed (outcome.Said words) = false
is_failed (outcome.Failed why) = true

-- how the commands of H's part ended, one by one
abbrev pub outcomes_of : List ℕ → ℕ → List Stamped → List Outcome → List Outcome
outcomes_of country H list outcomes =
    map (λ e. e.1) (filter (λ e. is_holder H (owner_of country e.0.command)) (zip list outcomes))

-- the places in H's part at which a command failed
abbrev pub failures : List ℕ → ℕ → List Stamped → List Outcome → List Bool
failures country H list outcomes = map is_failed (outcomes_of country H list outcomes)

-- H's commands that did not fail, in order
abbrev pub heard : List ℕ → ℕ → List Stamped → List Outcome → List Stamped
heard country H [] outcomes = []
heard country H (s ∷ list) [] = []
heard country H (s ∷ list) (outcome.Said said ∷ outcomes) =
    if is_holder H (owner_of country s.command) then s ∷ heard country H list outcomes
    else heard country H list outcomes
heard country H (s ∷ list) (outcome.Failed fault ∷ outcomes) = heard country H list outcomes

-- what was said to them
abbrev pub told : List ℕ → ℕ → List Stamped → List Outcome → List Said
told country H [] outcomes = []
told country H (s ∷ list) [] = []
told country H (s ∷ list) (outcome.Said said ∷ outcomes) =
    if is_holder H (owner_of country s.command) then said ∷ told country H list outcomes
    else told country H list outcomes
told country H (s ∷ list) (outcome.Failed fault ∷ outcomes) = told country H list outcomes

-- Each holder's rows are what the holder's book says, and each book has grown: every act in it was accepted
-- over the acts before it. So a number that isn't registered has an empty book, and no rows.
pub record IsTied (rows : Content) (books : ℕ → Book) : Type 0 where
  pub each : (H : ℕ) → account_in H rows ≡ account_of H (books H)
  pub grown : (H : ℕ) → IsGrown H (books H)

-- How a command ended by the two calls that it makes of a desk: by words where neither failed, else by the fault of the one
-- that failed, which was the last.
abbrev pub IsOutcomeOf : {D : Type 0} → DeskView D → D → Stamped → Outcome → D → Type 0
IsOutcomeOf {D} view old s (outcome.Said words) new =
    (weighed : D) × view.weighed old s None weighed × view.carried weighed None new
IsOutcomeOf {D} view old s (outcome.Failed why) new =
    view.weighed old s (Some why) new ⊎ ((weighed : D) × view.weighed old s None weighed × view.carried weighed (Some why) new)

-- each outcome is that of its own calls, one command after the other
abbrev pub AreOutcomesOf : {D : Type 0} → DeskView D → D → List Stamped → List Outcome → D → Type 0
AreOutcomesOf view old [] [] new = new ≡ old
AreOutcomesOf view old [] (o ∷ outcomes) new = ⊥
AreOutcomesOf view old (s ∷ list) [] new = ⊥
AreOutcomesOf {D} view old (s ∷ list) (o ∷ outcomes) new =
    (next : D) × IsOutcomeOf view old s o next × AreOutcomesOf view next list outcomes new

-- the outcome of one command, and the content after it: what is said is the model's verdict, and a failure
-- changes nothing
abbrev pub Performs : Content → Stamped → Outcome → Content → Type 0
Performs old s (outcome.Said words) new =
    (words ≡ said (owner_account old s.command) s.at s.command) × Carries old s new
Performs old s (outcome.Failed fault) new = new ≡ old

-- The same at a desk that a fault may shut: an answer shows that the desk was live and is; a failure leaves
-- the content of a live one.
abbrev pub IsStep : Type 0 → Type 0 → Content → Stamped → Outcome → Content → Type 0
IsStep was_live is_live old s (outcome.Said words) new =
    was_live × is_live × (IsSound old → Performs old s (outcome.Said words) new)
IsStep was_live is_live old s (outcome.Failed fault) new = is_live → new ≡ old

-- What a crash leaves after a command. Where it was answered: after an accepted change the content with it alone, and after any
-- other command what it could be before. Where it failed: what it could be before, or the content with this command's change.
abbrev pub LeavesAfter : {D : Type 0} → DeskView D → D → Stamped → Bool → D → Type 0
LeavesAfter view old s false new =
    IsSound (view.content old)
    → (is_accepted (owner_account (view.content old) s.command) s.at s.command ≡ true → LeavesOnly view new (view.content new))
    × (is_accepted (owner_account (view.content old) s.command) s.at s.command ≡ false → AddsAtMost view (λ _. ⊥) old new)
LeavesAfter view old s true new =
    AddsAtMost view (λ x. view.is_live old × (IsSound (view.content old) → Carries (view.content old) s x)) old new

-- What is said to a command that nobody owns is what the table says over an account with nothing in it.
abbrev pub IsToldOfNobody : List ℕ → Stamped → Outcome → Type 0
IsToldOfNobody country s (outcome.Said words) =
    owner_of country s.command ≡ None → words ≡ said (empty_account country) s.at s.command
IsToldOfNobody country s (outcome.Failed fault) = Unit {0}

-- To each holder at once, what was said is what the holder's own machine says to the holder's commands that
-- did not fail; what was said to commands that nobody owns rests on nobody's rows; in the end the content
-- is sound, and tied to the books that the machines end with.
pub record IsRun (country : List ℕ) (books : ℕ → Book) (list : List Stamped) (outcomes : List Outcome)
    (new : Content) : Type 0 where
  pub one_each : length outcomes ≡ length list
  pub answers : (H : ℕ) → told country H list outcomes
      ≡ machine_says H (books H) (heard country H list outcomes)
  pub nobodys : AllZip (IsToldOfNobody country) list outcomes
  pub country_stays : new.country ≡ country
  pub sound : IsSound new
  pub tied : IsTied new (λ H. machine_book H (books H) (heard country H list outcomes))
