-- Connections whose transactions are begun, and what is told of them before that.
use Rattle.std.proofs.Common.{Err, Ok, Result, ◌≡◌, ◌∙◌, true, false, ap, refl, sym, subst, arith}
use Rattle.std.proofs.lemmas.Bool.{false≢true}
use Rattle.std.specs.Prelude.{Bool, IfErr, IsErrAnd, IsTrue}
use Rattle.sqlite_trees.specs.declared.store.Store.{Ghosts}
use Rattle.sqlite.specs.Effect.{Database}
use Rattle.sqlite.specs.Held.{Held, state}
use Rattle.sqlite.specs.State.{State, HasCleanDisk, IsRolledBack, IsUnchanged, Survives}
use Rattle.sqlite.proofs.Callers.{survives_begin}
use Rattle.sqlite.proofs.StateLemmas.{survives_then}
use Rattle.typed_sql.specs.Outside.{Looks}
use Rattle.typed_sql.specs.Reading.{StaysInside}
use Rattle.typed_sql.proofs.OnlyRead.{stays_on}
use Rattle.td_model.specs.Content.{Content}
use Rattle.td_store_rows.specs.StoreTables.{AreTreesOf, HoldsContent}
use Rattle.td_join.specs.declared.fault.JoinFault.{JoinFault}
use Rattle.td_join.specs.declared.fault.JoinFault.TheVariants.{NoMemory, Stands, Store}
use Rattle.td_join.specs.Joined.{joined}
use Rattle.td_join.specs.Joining.{Joins, MayLeaveJoined, TellsWhoStood}

-- the fault that a call answered is answered
pub answered : {T : Type 0} (P : JoinFault → Type 0) (r : Result T JoinFault) (fault : JoinFault) → IsErrAnd r (λ told. told ≡ fault) → P fault → IfErr r P
answered P (Ok x) fault is holds = tt
answered P (Err e) fault is holds = subst P (sym is) holds

module _ {S : Type 0} (g : Ghosts S) (old : Held S) where
  abbrev begun : State
  begun = state g (record old { in_transaction = true })

  -- what the file holds it holds in a transaction
  pub held_begun : (c : Content) → HoldsContent c (state g old) → HoldsContent c begun
  held_begun c holds = record { trees = holds.trees; schema = holds.schema }

  -- who stood in both files, in a transaction of the first, and in one of the second
  pub told_of_first : (to : State) (fault : JoinFault) → TellsWhoStood begun to fault → TellsWhoStood (state g old) to fault
  told_of_first to (Stands H) told = λ c d holds others. told c d (held_begun c holds) others
  told_of_first to Store told = tt
  told_of_first to NoMemory told = tt

  pub told_of_second : (from : State) (fault : JoinFault) → TellsWhoStood from begun fault → TellsWhoStood from (state g old) fault
  told_of_second from (Stands H) told = λ c d holds others. told c d holds (held_begun d others)
  told_of_second from Store told = tt
  told_of_second from NoMemory told = tt

  -- a transaction on a connection that was settled, which is dropped after calls that only read
  pub looks_dropped : (read new : State) {w : Bool} → (IsTrue (state g old).is_open → (state g old).now ≡ (state g old).committed)
      → StaysInside w begun read → (HasCleanDisk new → IsRolledBack read new) → Survives read new (λ _. ⊥) → Looks false (state g old) new
  looks_dropped read new committed within undone dropped =
      let before : HasCleanDisk new → HasCleanDisk read = λ clean. omega (arith, clean, dropped.clean) in
      record {
        live = λ clean is. (within.kept (before clean) refl).was_open ((undone clean).was_open is);
        shown = λ clean well. absurd (false≢true well);
        same = λ clean is.
            let was : IsRolledBack read new = undone clean in
            (was.undone is).0 ∙ (within.kept (before clean) refl).committed (was.was_open is) ∙ sym (committed ((within.kept (before clean) refl).was_open (was.was_open is)));
        crash = survives_begin g old new (λ _. ⊥)
            (survives_then begun read new (λ _. ⊥) (λ _. ⊥) (λ _. ⊥) (λ _ db none. none) (λ _ db none. none) within.survives dropped);
      }

  -- What a crash leaves of the second file, whether the commit of what was written ended well or not.
  module _ (from seen written shown new : State) (wrote : StaysInside true begun written) (within : StaysInside true written shown) (still : HasCleanDisk shown → IsUnchanged written shown)
      (joins : HasCleanDisk seen → HasCleanDisk written → Joins from begun written) (ended : Survives shown new (λ db. db ≡ shown.now.trees)) where
    pub may_leave : Survives (state g old) new (MayLeaveJoined from seen (state g old))
    may_leave =
        let inside : StaysInside true begun shown = stays_on wrote within in
        survives_begin g old new (MayLeaveJoined from seen (state g old))
        (survives_then begun shown new (λ _. ⊥) (λ db. db ≡ shown.now.trees) (MayLeaveJoined from seen (state g old))
        (λ clean db none. absurd none)
        (λ clean db is.
        let clean_shown : HasCleanDisk shown = omega (arith, clean, ended.clean) in
        let clean_written : HasCleanDisk written = omega (arith, clean_shown, within.survives.clean) in
        let same : IsUnchanged written shown = still clean_shown in (
          (inside.kept clean_shown refl).was_open same.0.is_open,
          λ clean_seen c d holds others country.
              subst (AreTreesOf (joined c d)) (sym (is ∙ ap (λ (x : Database). x.trees) same.0.now_is))
              (joins clean_seen clean_written c d holds (held_begun d others) country).trees,
        ))
        inside.survives ended)
