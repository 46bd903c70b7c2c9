-- What the clauses of an extract and of a join say of the two files.
use Rattle.std.proofs.Common.{◌≡◌, ◌⊎◌, ◌∙◌, ℕ, List, Err, Ok, Some, ap, inl, inr, refl, subst, sym}
use Rattle.std.specs.Prelude.{Bool, IsTrue}
use Rattle.sqlite_disk.specs.declared.Disk as disk
use Rattle.sqlite_store.specs.declared.store.FileStore.{FileStore}
use Rattle.sqlite_trees.specs.Tree.{Trees}
use Rattle.sqlite_wal.specs.Recovery.{Image}
use Rattle.sqlite.specs.Effect.{Database}
use Rattle.sqlite.specs.Files.{file_state}
use Rattle.sqlite.specs.Held.{Held}
use Rattle.sqlite.specs.State.{State, HasCleanDisk, Survives}
use Rattle.td_model.specs.Content.{Content}
use Rattle.td_desk.specs.View.{LeavesOnly}
use Rattle.td_schema.specs.Layouts.{desk_schema}
use Rattle.td_schema.specs.Tables.{IsEmptyOf, no_schema}
use Rattle.td_store_rows.specs.StoreReads.{HasNewestTables}
use Rattle.td_store_rows.specs.StoreTables.{AreTreesOf, HoldsContent}
use Rattle.td_store_rows.proofs.Holding.{holds_still}
use Rattle.td_store.proofs.Holding.{content_held}
use Rattle.td_store.specs.Kept.{content_in}
use Rattle.td_store.specs.Looked.{HasLooked}
use Rattle.typed_sql.specs.Outside.{CrashLeavesShown, Looks}
use Rattle.typed_sql.specs.Writing.{HasSchema}
use Rattle.td_join.specs.Joined.{joined}
use Rattle.td_join.specs.Joining.{Joins, MayLeaveJoined, TellsWhoStood, WereApart}
use Rattle.td_join.specs.declared.fault.JoinFault.{JoinFault}
use Rattle.td_join.specs.declared.fault.JoinFault.TheVariants as join
use Rattle.td_files.specs.Extracted.{IsReadFrom, ShowsMade}
use Rattle.td_files.specs.Found.{FileHeld, IsClean, IsFoundIn, IsKeptDesk, IsOpenedDesk, over_file}
use Rattle.td_files.specs.Joined.{HasJoined, TellsJoin, refused_for}
use Rattle.td_files.proofs.Opening.{clean_before}

module _ {D : Type 0} {g : disk.Ghosts D} where
  -- a file without tables that holds a content now
  pub shows_made : (image : Image) (found : State) (c : Held (FileStore D g)) (made : Content) → IsFoundIn image found.now → IsEmptyOf no_schema found.now
      → IsTrue (file_state c).is_open → HasSchema (file_state c) desk_schema → HoldsContent made (file_state c) → CrashLeavesShown (file_state c)
      → ShowsMade image made c
  shows_made image found c made is blank live schema holds settled = record {
    live = live;
    before = found.now;
    found = is;
    blank = blank;
    schema = schema live;
    content = content_held made (file_state c) holds;
    holds = holds;
    settled = settled;
  }

  -- A connection over which a desk was opened.
  module _ (image : Image) (country : List ℕ) (a : Held (FileStore D g)) (begins : IsClean a → IsOpenedDesk image country a) where
    -- it has the tables of the newest version
    pub tables_of : HasCleanDisk (file_state a) → HasNewestTables (file_state a)
    tables_of clean = let holds = (begins clean).holds in (holds.trees.layout, holds.trees.newest, holds.schema)

    -- where it was only looked at, it is a desk's still
    module _ (b : Held (FileStore D g)) {w : Bool} (looks : Looks w (file_state a) (file_state b)) (before : CrashLeavesShown (file_state a))
        (settled : CrashLeavesShown (file_state b)) where
      first : IsClean b → IsOpenedDesk image country a
      first clean = begins (clean_before (file_state a) (file_state b) _ looks.crash clean)

      leaves_again : IsClean b → IsTrue (file_state b).is_open → LeavesOnly over_file b (content_in (file_state a).now.trees)
      leaves_again clean live = record {
        only = λ x left. is.leaves.only x (left.0, back left.0 left.1, left.2);
        recovers = λ trees left. is.leaves.recovers trees (back trees left);
      }
        where
          is : IsOpenedDesk image country a
          is = first clean

          back : (trees : Trees) → (file_state b).may_leave trees → (file_state a).may_leave trees
          back trees left =
              (before is.live trees).1 ((settled live trees).0 left ∙ ap (λ (db : Database). db.trees) (looks.same clean live))

      kept_after : IsKeptDesk b
      kept_after clean live =
          let is = first clean in
          let now : (file_state b).now ≡ (file_state a).now = looks.same clean live in
          let own : content_in (file_state a).now.trees ≡ content_in (file_state b).now.trees = ap (λ (db : Database). content_in db.trees) (sym now) in (
            subst (λ x. HoldsContent x (file_state b)) own (holds_still (content_in (file_state a).now.trees) (file_state a) (file_state b) now (λ _. is.live) is.holds),
            subst (LeavesOnly over_file b) own (leaves_again clean live),
          )

      looked_at : HasLooked over_file w a b
      looked_at = record {
        clean = clean_before (file_state a) (file_state b) _ looks.crash;
        live = looks.live;
        shown = looks.shown;
        same = λ clean live. ap (λ (db : Database). content_in db.trees) (looks.same clean live);
        crash = λ clean. record {
          outcomes = λ x left. elim (looks.crash.crash clean left.0 left.1) [ inl was ↦ inl (left.0, was, left.2) | inr none ↦ absurd none ];
          recovers = λ found trees left. elim (looks.crash.crash clean trees left) [ inl was ↦ found trees was | inr none ↦ absurd none ];
        };
        settled = λ clean live. (kept_after clean live).1;
      }

      pub read_from : {S : Type 0} (file : FileHeld S g) → file.connection ≡ Some b → IsReadFrom image country w file a b
      read_from file handed = record { handed = handed; kept = kept_after; begins = begins; looked = looked_at }

-- ---- a join

-- what it may commit, where the files held contents of one country
commits : (c d : Content) (from seen old : State) → HasCleanDisk seen → HoldsContent c from → HoldsContent d old → c.country ≡ d.country
    → (trees : Trees) → MayLeaveJoined from seen old trees → AreTreesOf (joined c d) trees
commits c d from seen old clean holds held same trees may = may.1 clean c d holds held same

-- The content of a file, which held it from its opening on, and the file that it was put into.
module _ (country : List ℕ) (c : Content) (from seen old left : State) (clean : HasCleanDisk seen) (holds : HoldsContent c from) (at : c.country ≡ country)
    (crash : Survives old left (MayLeaveJoined from seen old)) where
  leaves : HasCleanDisk left → (d : Content) → HoldsContent d old → d.country ≡ country → (trees : Trees) → left.may_leave trees
      → old.may_leave trees ⊎ AreTreesOf (joined c d) trees
  leaves clean_left d held is trees may = elim (crash.crash clean_left trees may) [
    | inl was ↦ inl was
    | inr left ↦ inr (commits c d from seen old clean holds held (at ∙ sym is) trees left)
  ]

  pub has_joined : (HasCleanDisk left → IsTrue old.is_open × IsTrue left.is_open) → (HasCleanDisk seen → HasCleanDisk left → Joins from old left)
      → (HasCleanDisk seen → HasCleanDisk left → WereApart from old) → HasJoined country c old left (Ok tt)
  has_joined shown joins apart = record {
    told = λ clean_left d held is.
        let both = joins clean clean_left c d holds held (at ∙ sym is) in
        (apart clean clean_left c d holds held, (shown clean_left).1, both, content_held (joined c d) left both);
    same = λ clean_left live. tt;
    leaves = leaves;
  }

  -- what is told of a fault
  tells : (why : JoinFault) → (HasCleanDisk seen → HasCleanDisk left → TellsWhoStood from old why) → HasCleanDisk left → (d : Content) → HoldsContent d old
      → d.country ≡ country → TellsJoin c d left (Err (refused_for why))
  tells (join.Stands holder) told clean_left d held is = told clean clean_left c d holds held
  tells join.Store told clean_left d held is = inl refl
  tells join.NoMemory told clean_left d held is = inr refl

  pub has_not_joined : (why : JoinFault) → (HasCleanDisk seen → HasCleanDisk left → TellsWhoStood from old why)
      → (HasCleanDisk left → IsTrue left.is_open → left.now ≡ old.now) → HasJoined country c old left (Err (refused_for why))
  has_not_joined why stands err = record { told = tells why stands; same = err; leaves = leaves }
