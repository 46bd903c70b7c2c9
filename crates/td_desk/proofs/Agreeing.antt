-- H's part of a list and the places of H's failures say which of H's commands did not fail.
use Rattle.std.proofs.Common.{◌≡◌, ℕ, Bool, true, false, List, [], ◌∷◌, length, refl, sym, ◌∙◌, ap, ap₂, arith}
use Rattle.std.specs.Prelude.{if◌then◌else◌, map, filter, zip}
use Rattle.td_commands.specs.declared.command.Stamped.{Stamped}
use Rattle.td_model.specs.Book.{Book}
use Rattle.td_commands.specs.Commands.{owner_of}
use Rattle.td_model.specs.Machine.{machine_says}
use Rattle.td_desk.specs.declared.running.Outcome.{Outcome}
use Rattle.td_desk.specs.declared.running.Outcome.TheVariants as outcome
use Rattle.td_model.specs.Content.{Content}
use Rattle.td_desk.specs.Runs.{is_holder, is_failed, part, Agree, failures, heard, told, IsRun}

-- the commands of a part at which there was no failure
abbrev answered : List Stamped → List Bool → List Stamped
answered [] failed = []
answered (s ∷ list) [] = []
answered (s ∷ list) (true ∷ failed) = answered list failed
answered (s ∷ list) (false ∷ failed) = s ∷ answered list failed

-- one more command, of H or of another
more_said : (b : Bool) (s : Stamped) (rest p : List Stamped) (f : List Bool) → rest ≡ answered p f
    → (if b then s ∷ rest else rest) ≡ answered (if b then s ∷ p else p) (if b then false ∷ f else f)
more_said true s rest p f same = ap (λ (l : List Stamped). s ∷ l) same
more_said false s rest p f same = same

more_failed : (b : Bool) (s : Stamped) (rest p : List Stamped) (f : List Bool) → rest ≡ answered p f
    → rest ≡ answered (if b then s ∷ p else p) (if b then true ∷ f else f)
more_failed true s rest p f same = same
more_failed false s rest p f same = same

-- whether the outcomes of H's commands failed
failures_by : (b : Bool) (e : Stamped × Outcome) (rest : List (Stamped × Outcome))
    → map is_failed (map (λ x. x.1) (if b then e ∷ rest else rest)) ≡ (if b then is_failed e.1 ∷ map is_failed (map (λ x. x.1) rest) else map is_failed (map (λ x. x.1) rest))
failures_by true e rest = refl
failures_by false e rest = refl

heard_one : (c : List ℕ) (H : ℕ) (s : Stamped) (list : List Stamped) (o : Outcome) (outcomes : List Outcome) → heard c H list outcomes ≡ answered (part c H list) (failures c H list outcomes)
    → heard c H (s ∷ list) (o ∷ outcomes) ≡ answered (part c H (s ∷ list)) (failures c H (s ∷ list) (o ∷ outcomes))
heard_one c H s list (outcome.Said words) outcomes rest =
    more_said (is_holder H (owner_of c s.command)) s (heard c H list outcomes) (part c H list) (failures c H list outcomes) rest
    ∙ ap (answered (part c H (s ∷ list))) (sym (failures_by (is_holder H (owner_of c s.command)) (s, outcome.Said words) (filter (λ e. is_holder H (owner_of c e.0.command)) (zip list outcomes))))
heard_one c H s list (outcome.Failed why) outcomes rest =
    more_failed (is_holder H (owner_of c s.command)) s (heard c H list outcomes) (part c H list) (failures c H list outcomes) rest
    ∙ ap (answered (part c H (s ∷ list))) (sym (failures_by (is_holder H (owner_of c s.command)) (s, outcome.Failed why) (filter (λ e. is_holder H (owner_of c e.0.command)) (zip list outcomes))))

heard_by_part : (c : List ℕ) (H : ℕ) (list : List Stamped) (outcomes : List Outcome) → length outcomes ≡ length list
    → heard c H list outcomes ≡ answered (part c H list) (failures c H list outcomes)
heard_by_part c H [] outcomes same = refl
heard_by_part c H (s ∷ list) [] same = absurd (omega arith)
heard_by_part c H (s ∷ list) (o ∷ outcomes) same = heard_one c H s list o outcomes (heard_by_part c H list outcomes (omega arith))

-- lists that agree on H, and failed at the same places, are heard alike
pub heard_alike : (c : List ℕ) (H : ℕ) (list other_list : List Stamped) (outcomes other_outcomes : List Outcome) → length outcomes ≡ length list → length other_outcomes ≡ length other_list
    → Agree c H list other_list → failures c H list outcomes ≡ failures c H other_list other_outcomes → heard c H list outcomes ≡ heard c H other_list other_outcomes
heard_alike c H list other_list outcomes other_outcomes one_each other_each agree failed =
    heard_by_part c H list outcomes one_each ∙ ap₂ answered agree failed ∙ sym (heard_by_part c H other_list other_outcomes other_each)

-- what is heard alike is told the same
pub told_alike : (country : List ℕ) (H : ℕ) (books others : ℕ → Book) (list other_list : List Stamped) (outcomes other_outcomes : List Outcome) (end other_end : Content)
    → IsRun country books list outcomes end → IsRun country others other_list other_outcomes other_end
    → books H ≡ others H → heard country H list outcomes ≡ heard country H other_list other_outcomes
    → told country H list outcomes ≡ told country H other_list other_outcomes
told_alike country H books others list other_list outcomes other_outcomes end other_end run other_run same_book same_part =
    run.answers H ∙ ap (λ (book : Book). machine_says H book (heard country H list outcomes)) same_book ∙ ap (machine_says H (others H)) same_part ∙ sym (other_run.answers H)
