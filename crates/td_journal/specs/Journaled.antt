-- A desk that keeps a journal, and what its calls do to the journal.
use Rattle.std.specs.Prelude.{◌≡◌, ◌≢◌, ◌⊎◌, ℕ, ◌+◌, false, List, [], ◌++◌, Option, None, Some, IsTrue, IsSome, length, option_map}
use Rattle.sqlite_disk.specs.declared.Disk.{Ghosts}
use Rattle.td_model.specs.declared.change.Change.TheVariants.{Nothing}
use Rattle.td_acts.specs.declared.rows.Verdict.{Verdict}
use Rattle.td_base.specs.Days.{moment_of}
use Rattle.td_commands.specs.declared.command.Stamped.{Stamped}
use Rattle.td_model.specs.Content.{Content, IsSound}
use Rattle.td_desk.specs.declared.fault.Fault.{Fault}
use Rattle.td_desk.specs.declared.fault.Fault.TheVariants.{Store}
use Rattle.td_desk.specs.View.{DeskView, LeavesOnly}
use Rattle.td_journal.specs.Journal.{HasBehind, IsDurable, IsFull, IsSafe, IsTight, JournalFailed, is_open, next_number, text_of}
use Rattle.td_journal.specs.Texts.{IsNoted}
use Rattle.td_journal.specs.declared.desk.JournaledDesk.{JournaledDesk}

-- the row that waits to be written
abbrev pub waiting : {D F : Type 0} {g : Ghosts F} → JournaledDesk D F g → Option (List ℕ)
waiting j = option_map (λ row. row.items) j.row

-- what is written with it, and by how much the numbers rise
abbrev pub written : Option (List ℕ) → List ℕ
written None = []
written (Some line) = line

abbrev pub rows_in : Option (List ℕ) → ℕ
rows_in None = 0
rows_in (Some line) = 1

-- A decision that it may carry: the desk behind it may, and the row of a change waits for it. A crash leaves the content alone.
pub record MayCarry {D F : Type 0} {g : Ghosts F} (view : DeskView D) (decided : D → Verdict → Type 0) (j : JournaledDesk D F g) (v : Verdict) : Type 0 where
  pub inner : decided j.desk v
  pub noted : v.change ≢ Nothing → IsSome j.row
  pub writes : v.change ≢ Nothing → IsTrue (is_open j.journal)
  pub none : v.change ≡ Nothing → waiting j ≡ None
  pub settled : view.is_clean j.desk → view.is_live j.desk → LeavesOnly view j.desk (view.content j.desk)

-- A command was weighed: nothing is written, and the row of an accepted change waits.
pub record IsWaiting {D F : Type 0} {g : Ghosts F} (view : DeskView D) (old : JournaledDesk D F g) (s : Stamped) (new : JournaledDesk D F g) : Type 0 where
  pub journal : new.journal ≡ old.journal
  pub row : view.is_clean new.desk → IsSound (view.content old.desk)
      → IsNoted (next_number old.journal) (view.content old.desk) s (waiting new)

-- It couldn't be weighed: the journal is as it was. A fault of the store is one of the desk behind it, or the journal is shut. It is
-- told of a moment out of range only where the desk isn't clean or its content isn't sound: a sound one accepts nothing then.
pub record IsUnweighed {D F : Type 0} {g : Ghosts F} (view : DeskView D) (old : JournaledDesk D F g) (s : Stamped) (why : Fault) (new : JournaledDesk D F g) : Type 0 where
  pub journal : new.journal ≡ old.journal
  pub store : why ≡ Store → (is_open old.journal ≡ false) ⊎ (view.weighed old.desk s (Some Store) new.desk
      ⊎ ((moment_of s.at ≡ None) × (view.is_clean new.desk → ¬ IsSound (view.content old.desk))))

abbrev pub weighed_at : {D F : Type 0} {g : Ghosts F} → DeskView D → JournaledDesk D F g → Stamped → Option Fault → JournaledDesk D F g → Type 0
weighed_at view old s None new = IsWaiting view old s new
weighed_at view old s (Some why) new = IsUnweighed view old s why new

-- A decision was carried: the row that waited stands behind the others, if there was one.
pub record IsWritten {D F : Type 0} {g : Ghosts F} (view : DeskView D) (old new : JournaledDesk D F g) : Type 0 where
  pub clean : view.is_clean new.desk → view.is_clean old.desk
  pub text : text_of new.journal ≡ text_of old.journal ++ written (waiting old)
  pub next : next_number new.journal ≡ next_number old.journal + rows_in (waiting old)
  pub tight : IsTight old.journal → IsTight new.journal
  pub durable : IsDurable old.journal → IsDurable new.journal

-- It wasn't: the text is as it was, and as long as the journal is open nothing stands behind it, and a crash leaves that. The row was
-- written ahead of the change: a crash leaves the content as it was, or a journal that has the row.
pub record IsTakenBack {D F : Type 0} {g : Ghosts F} (view : DeskView D) (old : JournaledDesk D F g) (why : Fault) (new : JournaledDesk D F g) : Type 0 where
  pub text : text_of new.journal ≡ text_of old.journal
  pub next : next_number new.journal ≡ next_number old.journal
  pub tight : IsTrue (is_open new.journal) → IsTight new.journal
  pub durable : IsTrue (is_open new.journal) → IsDurable new.journal
  pub safe : IsSafe old.journal → IsSafe new.journal
  pub ahead : view.is_clean new.desk → view.is_live old.desk → (bytes : List ℕ) (x : Content) → g.may_leave new.journal.file bytes → view.may_leave new.desk x
      → (x ≡ view.content old.desk) ⊎ HasBehind (written (waiting old)) old.journal bytes
  -- a fault of the store is one of the desk behind it, or of the journal's file, or the journal is full
  pub store : why ≡ Store → view.carried old.desk (Some Store) new.desk
      ⊎ (JournalFailed old.journal new.journal ⊎ IsFull (length (written (waiting old))) old.journal)

abbrev pub carried_at : {D F : Type 0} {g : Ghosts F} → DeskView D → JournaledDesk D F g → Option Fault → JournaledDesk D F g → Type 0
carried_at view old None new = IsWritten view old new
carried_at view old (Some why) new = IsTakenBack view old why new

-- What is seen of it is what is seen of the desk behind it, which is live as long as rows can be written.
abbrev pub journaled : {D F : Type 0} {g : Ghosts F} → DeskView D → DeskView (JournaledDesk D F g)
journaled view = record {
  content = λ j. view.content j.desk;
  is_clean = λ j. view.is_clean j.desk;
  is_live = λ j. view.is_live j.desk × IsTrue (is_open j.journal);
  has_store = Unit {0};
  may_leave = λ j. view.may_leave j.desk;
  recovers = λ j. view.recovers j.desk;
  weighed = weighed_at view;
  carried = carried_at view;
}
