-- What a query leaves that fails, outside a transaction; and that a SELECT commits nothing.
use Rattle.std.proofs.Common.{arith, List, None, Option, Some, inl, inr, sym, ℕ, ◌⊎◌, ◌∙◌, ◌≡◌}
use Rattle.std.specs.Prelude.{IsTrue}
use Rattle.sqlite_schema.specs.declared.command.Returning.{Returning}
use Rattle.sqlite_value.specs.Order.{Row}
use Rattle.sqlite.specs.declared.error.Error.{Error}
use Rattle.sqlite.specs.Clock.{timed}
use Rattle.sqlite.specs.Given.{IsPlain}
use Rattle.sqlite.specs.Listing.{understood}
use Rattle.sqlite.specs.State.{CommitsShowing, Fails, FailsToQuery, FailsToShow, HasCleanDisk, IsNotRun, IsUnchanged, State, Survives}
use Rattle.sqlite.proofs.Callers.{never_commits}
use Rattle.sqlite.proofs.StateLemmas.{survives_weaker}
use Rattle.typed_sql.specs.Walked.{IsLeftAlone}

-- outside a transaction an open connection shows what was committed
abbrev pub IsSettled : State → Type 0
IsSettled s = IsTrue s.is_open → s.now ≡ s.committed

pub left_then : (a b d : State) → IsLeftAlone a b → IsLeftAlone b d → IsLeftAlone a d
left_then a b d one two = record { live = λ live. one.live (two.live live); same = λ live. two.same live ∙ one.same (two.live live) }

pub unchanged_left : (old new : State) → IsUnchanged old new → IsLeftAlone old new
unchanged_left old new same = record { live = λ _. same.0.was_open; same = λ _. same.0.now_is }

pub failed_left : (old new : State) (big : Type 0) (e : Error) → IsSettled old → Fails old new big e → IsLeftAlone old new
failed_left old new big e settled failed =
    record {
      live = failed.3.was_open;
      same = λ live. (failed.3.undone live).0 ∙ sym (settled (failed.3.was_open live));
    }

pub either_left : (old new : State) (e : Error) → IsSettled old → Fails old new ⊥ e ⊎ IsUnchanged old new → IsLeftAlone old new
either_left old new e settled (inl failed) = failed_left old new ⊥ e settled failed
either_left old new e settled (inr same) = unchanged_left old new same

not_run_left : (text : List ℕ) (params : Row) (old new : State) (e : Error) → IsSettled old → IsNotRun old new text params e
    → IsLeftAlone old new
unfolding IsNotRun
not_run_left text params old new e settled (inl refused) = unchanged_left old new refused.1
not_run_left text params old new e settled (inr failed) = failed_left old new _ e settled failed

pub query_left : (text : List ℕ) (params : Row) (old new : State) (e : Error) → IsSettled old
    → FailsToQuery text params old new e → IsLeftAlone old new
unfolding FailsToQuery
query_left text params old new e settled (inl not_run) = not_run_left text params old new e settled not_run
query_left text params old new e settled (inr h) = by_returning h.0.returning h.2
  where
    full : Row
    full = timed params h.0.formats h.1.now

    by_returning : (o : Option Returning) → FailsToShow old new text h.0 full e o → IsLeftAlone old new
    by_returning None shown = unchanged_left old new shown.3
    by_returning (Some what) (inl refused) = unchanged_left old new refused.1
    by_returning (Some what) (inr failed) = failed_left old new _ e settled failed

pub commits_nothing : (text : List ℕ) (params : Row) (old new : State)
    → (HasCleanDisk old → IsPlain (understood old.now.schema text)) → Survives old new (CommitsShowing text params old)
    → Survives old new (λ _. ⊥)
commits_nothing text params old new plain survives =
    survives_weaker old new _ _ (λ clean db. never_commits text params old db (plain (omega (arith, clean, survives.clean)))) survives
