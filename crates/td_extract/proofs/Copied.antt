-- Rows that calls one after another have read of one file and put into another.
use Rattle.std.proofs.Common.{Err, Ok, Result, ◌≡◌, ◌∙◌, false, true, refl, sym, subst, arith}
use Rattle.std.proofs.lemmas.Bool.{false≢true}
use Rattle.std.specs.Prelude.{Bool, IsErr, IsTrue, is_ok}
use Rattle.sqlite_trees.specs.declared.store.Store.{Ghosts}
use Rattle.sqlite.specs.Held.{Held, state}
use Rattle.sqlite.proofs.Callers.{survives_begin}
use Rattle.sqlite.proofs.StateLemmas.{survives_then}
use Rattle.typed_sql.specs.Outside.{Looks}
use Rattle.sqlite.specs.Effect.{Database}
use Rattle.sqlite.specs.State.{State, HasCleanDisk, IsRolledBack, Survives}
use Rattle.td_model.specs.Content.{Content}
use Rattle.td_table_model.specs.Tables.{Tables}
use Rattle.typed_sql.specs.Reading.{HasOnlyRead, StaysInside}
use Rattle.typed_sql.proofs.OnlyRead.{none_read, stays_nothing, stays_on}
use Rattle.td_store_rows.specs.StoreReads.{OnlyReadNewest, ReadsNewest}
use Rattle.td_store_rows.specs.StoreTables.{HoldsContent, TurnsTables, tables_in}
use Rattle.td_store_rows.proofs.Holding.{holds_still}
use Rattle.td_store_rows.proofs.StoreReads.{reads_on}
use Rattle.td_extract.specs.Copied.{Copies, Rows, no_rows, with_rows}
use Rattle.td_extract.proofs.Rows.{AreSame, both, turned_both, turned_none, turned_same}

-- a content that the file holds it still holds
pub held_after : (c : Content) (a b : State) → OnlyReadNewest a b → HoldsContent c a → HoldsContent c b
held_after c a b read holds =
    let one : HasOnlyRead a b = read holds.trees.layout holds.trees.newest holds.schema in
    holds_still c a b one.now_is one.was_open holds

-- what was copied of the file as it is after calls that read was copied of it as it was
pub copied_before : (picked : Tables → Rows) (a b old new : State) → OnlyReadNewest a b → Copies picked b old new → Copies picked a old new
copied_before picked a b old new read copies c holds =
    let one : HasOnlyRead a b = read holds.trees.layout holds.trees.newest holds.schema in
    subst (λ (db : Database). TurnsTables (with_rows (picked (tables_in holds.trees.layout db.trees))) old new) one.now_is
    (copies c (holds_still c a b one.now_is one.was_open holds))

-- Of the tables of whatever content the file holds the same rows are picked.
abbrev pub PickSame : State → (Tables → Rows) → (Tables → Rows) → Type 0
PickSame a f g = (c : Content) (holds : HoldsContent c a) → AreSame (f (tables_in holds.trees.layout a.now.trees)) (g (tables_in holds.trees.layout a.now.trees))

pub copied_both : (f g h : Tables → Rows) (from : State) → PickSame from (λ t. both (f t) (g t)) h → (old mid new : State)
    → Copies f from old mid → Copies g from mid new → Copies h from old new
copied_both f g h from same old mid new first second c holds =
    let t : Tables = tables_in holds.trees.layout from.now.trees in
    turned_both (f t) (g t) (h t) (same c holds) old mid new (first c holds) (second c holds)

pub copied_as : (f g : Tables → Rows) (from : State) → PickSame from g f → (old new : State) → Copies f from old new → Copies g from old new
copied_as f g from same old new copies c holds =
    let t : Tables = tables_in holds.trees.layout from.now.trees in
    turned_same (f t) (g t) (same c holds) old new (copies c holds)

-- calls one after another, each well
pub record HasCopied (picked : Tables → Rows) (a b old new : State) : Type 0 where
  pub reads : ReadsNewest true a b
  pub within : StaysInside true old new
  pub copies : HasCleanDisk b → HasCleanDisk new → Copies picked a old new

pub nothing_copied : (picked : Tables → Rows) (a : State) → PickSame a (λ t. no_rows) picked → (old : State) → HasCopied picked a a old old
nothing_copied picked a none old = record {
  reads = record { still = λ clean well l own. none_read a; within = stays_nothing };
  within = stays_nothing;
  copies = λ clean clean_old c holds.
      turned_none (picked (tables_in holds.trees.layout a.now.trees)) (none c holds) old;
}

pub copied_then : (f g h : Tables → Rows) (a : State) → PickSame a (λ t. both (f t) (g t)) h → (b d old mid new : State)
    → HasCopied f a b old mid → HasCopied g b d mid new → HasCopied h a d old new
copied_then f g h a same b d old mid new first second = record {
  reads = reads_on first.reads second.reads;
  within = stays_on first.within second.within;
  copies = λ clean clean_new.
      let clean_b : HasCleanDisk b = omega (arith, clean, second.reads.within.survives.clean) in
      let clean_mid : HasCleanDisk mid = omega (arith, clean_new, second.within.survives.clean) in
      copied_both f g h a same old mid new (first.copies clean_b clean_mid)
      (copied_before g a b mid new (first.reads.still clean_b refl) (second.copies clean clean_new));
}

-- where an error is answered
pub reads_failed : {T E : Type 0} {a b : State} (r : Result T E) → IsErr r → ReadsNewest false a b → ReadsNewest (is_ok r) a b
reads_failed (Ok x) failed reads = absurd (false≢true failed)
reads_failed (Err e) failed reads = reads

-- a transaction on a connection that was settled, which is dropped
pub looks_dropped : {S : Type 0} (g : Ghosts S) (old : Held S) (read new : State) {w : Bool} → (IsTrue (state g old).is_open → (state g old).now ≡ (state g old).committed)
    → StaysInside w (state g (record old { in_transaction = true })) read → (HasCleanDisk new → IsRolledBack read new) → Survives read new (λ _. ⊥) → Looks false (state g old) new
looks_dropped g old read new committed within undone dropped =
    let before : HasCleanDisk new → HasCleanDisk read = λ clean. omega (arith, clean, dropped.clean) in
    record {
      live = λ clean is. (within.kept (before clean) refl).was_open ((undone clean).was_open is);
      shown = λ clean well. absurd (false≢true well);
      same = λ clean is.
          let was : IsRolledBack read new = undone clean in
          (was.undone is).0 ∙ (within.kept (before clean) refl).committed (was.was_open is) ∙ sym (committed ((within.kept (before clean) refl).was_open (was.was_open is)));
      crash = survives_begin g old new (λ _. ⊥)
          (survives_then (state g (record old { in_transaction = true })) read new (λ _. ⊥) (λ _. ⊥) (λ _. ⊥) (λ _ db none. none) (λ _ db none. none) within.survives dropped);
    }
