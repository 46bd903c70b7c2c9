-- What a call outside a transaction leaves that only looks: calls one after another, and a transaction that only read and was
-- committed.
use Rattle.std.proofs.Common.{◌≡◌, ◌∙◌, [], Err, Ok, Result, true, false, ap, arith, inl, inr, sym, refl}
use Rattle.std.proofs.lemmas.Bool.{false≢true}
use Rattle.std.specs.Prelude.{Bool, IsErr, IsTrue, is_ok}
use Rattle.sqlite_trees.specs.declared.store.Store.{Ghosts}
use Rattle.sqlite.specs.Effect.{Database}
use Rattle.sqlite.specs.Held.{Held, state}
use Rattle.sqlite.specs.State.{State, HasCleanDisk, IsRolledBack, KeepsCounts, Shows, Survives}
use Rattle.sqlite.specs.Steps.{FailsToCommit}
use Rattle.sqlite.specs.declared.error.Error.{Error}
use Rattle.sqlite.proofs.Callers.{survives_begin}
use Rattle.sqlite.proofs.StateLemmas.{survives_then}
use Rattle.typed_sql.specs.Outside.{CrashLeavesShown, Looks}
use Rattle.typed_sql.specs.Reading.{StaysInside}

-- what was there already is no outcome more
survives_as_before : (old new : State) → Survives old new old.may_leave → Survives old new (λ _. ⊥)
survives_as_before old new s = record {
  clean = s.clean;
  shield = s.shield;
  counts = s.counts;
  limit = s.limit;
  closes = s.closes;
  crash = λ clean trees may. elim (s.crash clean trees may) [ inl was ↦ inl was | inr was ↦ inl was ];
}

-- calls after others
pub looks_on : {v w : Bool} {a b d : State} → Looks v a b → Looks w b d → Looks w a d
looks_on {v} {w} {a} {b} {d} first second =
    let before : HasCleanDisk d → HasCleanDisk b = λ clean. omega (arith, clean, second.crash.clean) in
    record {
      live = λ clean is. first.live (before clean) (second.live clean is);
      shown = λ clean well.
          let two = second.shown clean well in
          (first.live (before clean) two.0, two.1);
      same = λ clean is. second.same clean is ∙ first.same (before clean) (second.live clean is);
      crash = survives_then a b d (λ _. ⊥) (λ _. ⊥) (λ _. ⊥) (λ _ db none. none) (λ _ db none. none) first.crash second.crash;
    }

-- where an error is answered
pub looks_failed : {T E : Type 0} {a b : State} (r : Result T E) → IsErr r → Looks false a b → Looks (is_ok r) a b
looks_failed (Ok x) failed looks = absurd (false≢true failed)
looks_failed (Err e) failed looks = looks

-- A transaction on a connection that was settled, in which calls have only read, is committed: where it got so far, the connection
-- was open, and shows what it did.
module _ {S : Type 0} (g : Ghosts S) (old : Held S) (read new : State) (settled : CrashLeavesShown (state g old))
    (committed : IsTrue (state g old).is_open → (state g old).now ≡ (state g old).committed)
    (within : StaysInside true (state g (record old { in_transaction = true })) read)
    (still : HasCleanDisk read → IsTrue (state g old).is_open × (read.now ≡ (state g old).now))
    (committing : Survives read new (λ trees. trees ≡ read.now.trees)) where
  abbrev o : State
  o = state g old

  abbrev begun : State
  begun = state g (record old { in_transaction = true })

  before : HasCleanDisk new → HasCleanDisk read
  before clean = omega (arith, clean, committing.clean)

  survives : Survives o new (λ _. ⊥)
  survives =
      survives_as_before o new
      (survives_begin g old new o.may_leave
      (survives_then begun read new (λ _. ⊥) (λ trees. trees ≡ read.now.trees) o.may_leave (λ _ trees none. absurd none)
      (λ clean trees is.
      let there = still (before clean) in
      (settled there.0 trees).1 (is ∙ ap (λ (d : Database). d.trees) there.1)) within.survives committing))

  pub looks_committed : {w : Bool}
      → (HasCleanDisk new → IsTrue read.in_transaction × Shows read new read.now read.now false × KeepsCounts read new × (new.marks ≡ []))
      → Looks w o new
  looks_committed done = record {
    live = λ clean is. (still (before clean)).0;
    shown = λ clean well. ((still (before clean)).0, (done clean).1.is_open);
    same = λ clean is. (done clean).1.now_is ∙ (still (before clean)).1;
    crash = survives;
  }

  pub looks_uncommitted : {e : Error} → (HasCleanDisk new → FailsToCommit read new e) → Looks false o new
  looks_uncommitted failed = record {
    live = λ clean is. (still (before clean)).0;
    shown = λ clean well. absurd (false≢true well);
    same = λ clean is. elim (failed clean) [
      | inl undone ↦
          let was : IsRolledBack read new = undone.3 in
          (was.undone is).0 ∙ (within.kept (before clean) refl).committed (was.was_open is) ∙ sym (committed (still (before clean)).0)
      | inr left ↦ left.2.0.now_is ∙ (still (before clean)).1
    ];
    crash = survives;
  }
