-- What jobs leave whose desk may keep a journal.
use Rattle.std.proofs.Common.{◌≡◌, ℕ, List, Option, None, Some, Result, Ok, Err, inl, inr, subst}
use Rattle.sqlite_disk.specs.declared.Disk.{Ghosts}
use Rattle.td_desk.specs.View.{DeskView}
use Rattle.td_files.specs.declared.desks.DeskFault.{DeskFault}
use Rattle.td_journal_jobs.specs.Journaling.{HasJournaledTo, DeskAndFile}
use Rattle.td_journal_start.specs.declared.refused.StartFault.{StartFault}
use Rattle.td_words.specs.declared.words.Office.{Office}
use Rattle.td_words.specs.declared.words.Records.{Records}
use Rattle.td_cli.specs.Journaled.{NamedDesk, WithJournal, WithJournalAt, named_desk}
use Rattle.td_cli.specs.World.{Lent, World}
use Rattle.td_cli.proofs.LeftAtDesks.{left_parted}

module _ {End : Type 0} (did said : (D : Type 0) → DeskView D → D → D → End → Type 0) (beside untouched other_untouched : Type 0)
    (says : (D : Type 0) (view : DeskView D) (opened left : D) (end : End) → did D view opened left end → beside × said D view opened left end)
    (also : untouched → beside × other_untouched) where
  journaled_parted : {D F : Type 0} (g : Ghosts F) (view : DeskView D) (old new : DeskAndFile D F) (end : Result End StartFault)
      → HasJournaledTo g view did untouched old new end → beside × HasJournaledTo g view said other_untouched old new end
  journaled_parted g view old new (Ok end) (begun, stopped, begins, done, desk, is) =
      let parted = says _ _ begun stopped end done in (parted.0, (begun, stopped, begins, parted.1, desk, is))
  journaled_parted g view old new (Err why) is = let parted = also is.0 in (parted.0, (parted.1, is.1))

  module _ (lent : Lent) (desk : NamedDesk) (old new : World lent) where
    parted_at : (journal : Option (List ℕ)) (end : Result End DeskFault)
        → WithJournalAt lent desk journal did untouched old new end
        → beside × WithJournalAt lent desk journal said other_untouched old new end
    parted_at None end is =
        let parted = left_parted lent.drive desk.office.country old.file new.file did said beside untouched other_untouched desk.records end says also is.1 in
        (parted.0, (is.0, parted.1))
    parted_at (Some path) end (inl (why, is, none, left, same)) =
        let parted = also left in (parted.0, inl (why, is, none, parted.1, same))
    parted_at (Some path) end (inr at) =
        let parted = left_parted lent.drive desk.office.country old.file new.file _ _ beside untouched other_untouched desk.records at.ended
        (λ D view opened left ended done. journaled_parted lent.other_disk view (record { desk = opened; file = at.journal })
        (record { desk = left; file = ended.file }) ended.end done) also at.done in (
          parted.0,
          inr (record {
            journal = at.journal;
            opened = at.opened;
            at = at.at;
            ended = at.ended;
            done = parted.1;
            file_is = at.file_is;
            drive_is = at.drive_is;
            connection = at.connection;
            unopened = at.unopened;
            end_is = at.end_is;
          }),
        )

    -- what is done says this beside something else, which holds without a desk, too
    pub with_parted : (end : Result End DeskFault) → WithJournal lent desk did untouched old new end
        → beside × WithJournal lent desk said other_untouched old new end
    with_parted end is = parted_at desk.journal end is

-- what is done says more by itself
pub with_more : {End : Type 0} (lent : Lent) (desk : NamedDesk) (old new : World lent) (did said : (D : Type 0) → DeskView D → D → D → End → Type 0) (untouched : Type 0)
    → ((D : Type 0) (view : DeskView D) (opened left : D) (end : End) → did D view opened left end → said D view opened left end)
    → (end : Result End DeskFault) → WithJournal lent desk did untouched old new end → WithJournal lent desk said untouched old new end
with_more lent desk old new did said untouched says end is =
    (with_parted did said (Unit {0}) untouched untouched (λ D view opened left end done. (tt, says D view opened left end done)) (λ left. (tt, left))
    lent desk old new end is).1

module _ {End : Type 0} (lent : Lent) (desk : NamedDesk) (old new later : World lent)
    (file_is : later.file ≡ new.file) (other_is : later.other ≡ new.other) where
  later_at : (did : (D : Type 0) → DeskView D → D → D → End → Type 0) (untouched : Type 0) (journal : Option (List ℕ)) (end : Result End DeskFault)
      → WithJournalAt lent desk journal did untouched old new end → WithJournalAt lent desk journal did untouched old later end
  later_at did untouched None end is = rw (other_is, file_is) is
  later_at did untouched (Some path) end (inl (why, is, none, left, same)) = inl (why, is, rw other_is none, left, rw file_is same)
  later_at did untouched (Some path) end (inr at) = inr (record {
    journal = at.journal;
    opened = at.opened;
    at = at.at;
    ended = at.ended;
    done = rw file_is at.done;
    file_is = rw other_is at.file_is;
    drive_is = rw other_is at.drive_is;
    connection = rw other_is at.connection;
    unopened = rw other_is at.unopened;
    end_is = at.end_is;
  })

  -- what was left of the files is left there still
  pub left_later : (did : (D : Type 0) → DeskView D → D → D → End → Type 0) (untouched : Type 0) (end : Result End DeskFault)
      → WithJournal lent desk did untouched old new end → WithJournal lent desk did untouched old later end
  left_later did untouched end is = later_at did untouched desk.journal end is

-- so it is by whatever the journal's path is told to be
pub same_journal : {End : Type 0} (lent : Lent) (office : Office) (records : Records) (one other : Option (List ℕ)) → one ≡ other
    → (did : (D : Type 0) → DeskView D → D → D → End → Type 0) (untouched : Type 0) (old new : World lent) (end : Result End DeskFault)
    → WithJournal lent (named_desk office records one) did untouched old new end → WithJournal lent (named_desk office records other) did untouched old new end
same_journal lent office records one other same did untouched old new end is =
    subst (λ j. WithJournal lent (named_desk office records j) did untouched old new end) same is
