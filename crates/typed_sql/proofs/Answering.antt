-- What a SELECT answered, and that it only read.
use Rattle.sqlite.specs.declared.error.Error.{Error}
use Rattle.sqlite.specs.State.{ExecutesInside, FailsToShow, HasCleanDisk, Survives, FailsToQuery, IsNotRun, IsRolledBack, IsTooLate, IsUnchanged, KeepsCommit, Shown, ShowsRows, State}
use Rattle.std.proofs.Common.{ap, cond, Bool, Err, false, List, None, Ok, Option, refl, Result, Some, true, inl, inr, subst, sym, ℕ, ◌∙◌, ◌≡◌}
use Rattle.std.proofs.lemmas.Bool.{false≢true}
use Rattle.sqlite.proofs.InsideLemmas.{inside_keeps}
use Rattle.sqlite_schema.specs.declared.command.Returning.{Returning}
use Rattle.sqlite_value.specs.declared.value.Value.TheVariants.{Null}
use Rattle.sqlite.proofs.Callers.{reads_as}
use Rattle.sqlite.specs.Clock.{timed}
use Rattle.sqlite.specs.Given.{IsPlain}
use Rattle.sqlite.specs.Listing.{understood}
use Rattle.sqlite_resolve.specs.declared.compiled.Compiled.{Compiled}
use Rattle.sqlite_resolve.specs.declared.error.CompileError.{CompileError}
use Rattle.sqlite_value.specs.Order.{Row}
use Rattle.std.specs.Prelude.{IsTrue, is_ok}
use Rattle.typed_sql.proofs.Queries.{plain_answer}
use Rattle.typed_sql.proofs.Steps.{command_is}
use Rattle.typed_sql.specs.Reading.{OnlyReads, Selects, StaysInside}

pub bare : (r : Result Compiled CompileError) → IsPlain r → (c : Compiled) → r ≡ Ok c → c.returning ≡ None
bare r plain c is = (subst IsPlain is plain).0

-- a shown answer was given by an open connection
pub was_open : (text : List ℕ) (params : Row) (old new : State) (rows : List Row) → Shown text params old new rows
    → IsTrue old.is_open
unfolding Shown
was_open text params old new rows h = by_returning h.0.returning h.2
  where
    by_returning : (o : _) → ShowsRows old new text h.0 (timed params h.0.formats h.1.now) rows o
        → IsTrue old.is_open
    by_returning None shown = shown.3.0.was_open
    by_returning (Some what) wrote = wrote.1.shown.was_open

pub reads_only : (text : List ℕ) (params : Row) (old new : State) (rows : List Row)
    → Shown text params old new rows → OnlyReads text old new
unfolding Shown
reads_only text params old new rows h s has plain =
    let live = was_open text params old new rows h in
    let none = bare (understood old.now.schema text)
    (subst (λ s. IsPlain (understood s text)) (sym (has live)) plain) h.0 h.1.is in
    (subst (ShowsRows old new text h.0 (timed params h.0.formats h.1.now) rows) none h.2).3

pub selected_as : (text : List ℕ) (params : Row) (old new : State) (rows : List Row)
    → Shown text params old new rows → Selects text params old rows
selected_as text params old new rows h s tree tests shows order has means =
    let same = has (was_open text params old new rows h) in
    let command = command_is (understood s text) ∙ means.command in
    let read = reads_as text params old new s same _ command means.plain means.unlisted rows h in
    plain_answer tree tests shows order old.now.trees params rows (read.answer Null)

pub unchanged_keeps : (old new : State) → IsUnchanged old new → KeepsCommit old new
unchanged_keeps old new same = record { was_open = λ _. same.0.was_open; committed = λ _. same.0.committed_is }

rolled_keeps : (old new : State) → IsRolledBack old new → KeepsCommit old new
rolled_keeps old new back = record { was_open = back.was_open; committed = λ live. (back.undone live).1 }

-- inside a transaction nothing is committed: by an answer
pub shown_keeps : (text : List ℕ) (params : Row) (old new : State) (rows : List Row) → IsTrue old.in_transaction
    → Shown text params old new rows → KeepsCommit old new
unfolding Shown
shown_keeps text params old new rows inside h = by_returning h.0.returning h.2
  where
    by_returning : (o : Option Returning) → ShowsRows old new text h.0 (timed params h.0.formats h.1.now) rows o
        → KeepsCommit old new
    by_returning None shown = unchanged_keeps old new shown.3
    by_returning (Some what) wrote =
        record {
          was_open = λ _. wrote.1.shown.was_open;
          committed = λ _. wrote.1.shown.committed_is
              ∙ ap (λ b. cond b old.committed new.now) inside;
        }

not_run_keeps : (text : List ℕ) (params : Row) (old new : State) (e : Error) → IsNotRun old new text params e
    → KeepsCommit old new
unfolding IsNotRun
not_run_keeps text params old new e (inl refused) = unchanged_keeps old new refused.1
not_run_keeps text params old new e (inr failed) = rolled_keeps old new failed.3

-- nor by a query that fails
pub failed_keeps : (text : List ℕ) (params : Row) (old new : State) (e : Error)
    → FailsToQuery text params old new e → KeepsCommit old new
unfolding FailsToQuery
failed_keeps text params old new e (inl not_run) = not_run_keeps text params old new e not_run
failed_keeps text params old new e (inr h) = by_returning h.0.returning h.2
  where
    full : Row
    full = timed params h.0.formats h.1.now

    by_returning : (o : Option Returning) → FailsToShow old new text h.0 full e o → KeepsCommit old new
    by_returning None shown = unchanged_keeps old new shown.3
    by_returning (Some what) (inl refused) = unchanged_keeps old new refused.1
    by_returning (Some what) (inr failed) = rolled_keeps old new failed.3

pub late_keeps : (text : List ℕ) (params : Row) (old new : State) (e : Error) → IsTooLate text params old new e
    → KeepsCommit old new
late_keeps text params old new e late = unchanged_keeps old new late.5

-- and the transaction goes on
pub shown_inside : (text : List ℕ) (params : Row) (old new : State) (rows : List Row) → IsTrue old.in_transaction
    → Shown text params old new rows → IsTrue new.in_transaction
unfolding Shown
shown_inside text params old new rows inside h = by_returning h.0.returning h.2
  where
    by_returning : (o : Option Returning) → ShowsRows old new text h.0 (timed params h.0.formats h.1.now) rows o
        → IsTrue new.in_transaction
    by_returning None shown = shown.3.0.mode ∙ inside
    by_returning (Some what) wrote = wrote.1.shown.mode ∙ inside

-- a statement that ended well ran inside a transaction, where one that runs outside is refused
pub was_inside : {A E X : Type 0} (b : Bool) (x : A) (e : E) → (b ≡ false → ◌≡◌ {A = Result A E} (Ok x) (Err e) × X) → IsTrue b
was_inside true x e h = refl
was_inside false x e h = absurd (let y = (h refl).0 in cc)

-- however it ended, nothing is committed
pub executed_stays : (text : List ℕ) (params : Row) (old new : State) (r : Result ℕ Error) (e : Error) {X : Type 0}
    → (old.in_transaction ≡ false → (r ≡ Err e) × X)
    → (HasCleanDisk new → IsTrue old.in_transaction → ExecutesInside 0 text params old new r)
    → Survives old new (λ _. ⊥) → StaysInside (is_ok r) old new
executed_stays text params old new r e ended ran s = record {
  inside = λ clean well was. goes_on r (ran clean was) well;
  kept = λ clean was. inside_keeps old new 0 false text params r (ran clean was);
  survives = s;
}
  where
    goes_on : (r : Result ℕ Error) → ExecutesInside 0 text params old new r → IsTrue (is_ok r) → IsTrue new.in_transaction
    goes_on (Ok count) h well = h.1.mode
    goes_on (Err e) h well = absurd (false≢true well)
