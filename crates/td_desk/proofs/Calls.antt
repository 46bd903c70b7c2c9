-- The calls of a run, one more at its end.
use Rattle.std.proofs.Common.{List, [], ◌∷◌, ◌++◌, refl, subst}
use Rattle.std.specs.Prelude.{All}
use Rattle.std.proofs.lemmas.List.Elements.{All-nil, All-cons, All-head, All-tail}
use Rattle.td_commands.specs.declared.command.Stamped.{Stamped}
use Rattle.td_desk.specs.declared.running.Outcome.{Outcome}
use Rattle.td_desk.specs.Runs.{IsOutcomeOf, AreOutcomesOf}
use Rattle.td_desk.specs.View.{DeskView}

pub one_outcome_more : {D : Type 0} (view : DeskView D) (old mid new : D) (list : List Stamped) (outcomes : List Outcome) (s : Stamped) (o : Outcome)
    → AreOutcomesOf view old list outcomes mid → IsOutcomeOf view mid s o new → AreOutcomesOf view old (list ++ s ∷ []) (outcomes ++ o ∷ []) new
one_outcome_more {D} view old mid new [] [] s o none calls = (new, subst (λ (d : D). IsOutcomeOf view d s o new) none calls, refl)
one_outcome_more view old mid new [] (p ∷ outcomes) s o none calls = elim none [ ]
one_outcome_more view old mid new (t ∷ list) [] s o none calls = elim none [ ]
one_outcome_more view old mid new (t ∷ list) (p ∷ outcomes) s o before calls =
    (before.0, before.1, one_outcome_more view before.0 mid new list outcomes s o before.2 calls)

-- what holds of all holds of those before the last, and of the last
pub before_and_last : {X : Type 0} (P : X → Type 0) (xs : List X) (x : X) → All P (xs ++ x ∷ []) → All P xs × P x
before_and_last P [] x all = (All-nil P, All-head P x [] all)
before_and_last P (y ∷ xs) x all =
    let rest = before_and_last P xs x (All-tail P y (xs ++ x ∷ []) all) in
    (All-cons P y xs (All-head P y (xs ++ x ∷ []) all) rest.0, rest.1)
