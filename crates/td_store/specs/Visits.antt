-- What rows of a desk were shown one after another, as far as they were, and to whom.
use Rattle.std.specs.Prelude.{◌≡◌, ℕ, Bool, true, List, [], ◌++◌, map, Result, Ok}
use Rattle.std.specs.List.{FoldsTo}
use Rattle.typed_sql.specs.Visited.{step_of}
use Rattle.td_desk.specs.declared.fault.Fault.{Fault}
use Rattle.td_guarantee.specs.declared.guarantee.Guarantee.{Guarantee}
use Rattle.td_movement.specs.declared.movement.Movement.{Movement}
use Rattle.td_store_rows.specs.declared.guarantees.stored.KeptGuarantee.{KeptGuarantee}
use Rattle.td_store_rows.specs.MovementTable.{deadlines_of}
use Rattle.td_store_rows.specs.declared.movements.stored.MovementDeadlines.{MovementDeadlines}

-- what is shown of a movement with its holder's number; and what the row of a guarantee says with the amount in use on it and the
-- holder's number
abbrev pub shown_of_movement : ℕ × Movement → MovementDeadlines
shown_of_movement m = deadlines_of m.0 m.1

abbrev pub said_of_guarantee : KeptGuarantee → ℕ × (Guarantee × ℕ)
said_of_guarantee r = (r.holder, (r.guarantee, r.used))

-- A visitor and what stands beside it were shown rows that say the first of these things, one after another; and all of them, where
-- the visit went on to its end.
pub record IsVisit {V O T X : Type 0} (sees : V → O → T → V → O → Type 0) (says : T → X) (all : List X)
    (old : V × O) (result : Result Bool Fault) (new : V × O) : Type 0 where
  pub shown : List T
  pub rest : List X
  pub told : FoldsTo (step_of sees) old shown new
  pub are : map says shown ++ rest ≡ all
  pub whole : result ≡ Ok true → rest ≡ []
