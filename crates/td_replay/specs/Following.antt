-- A journal's rows that come by an input, done at a desk as they come.
use Rattle.std.specs.Prelude.{◌≡◌, ◌≢◌, ◌⊎◌, ℕ, ◌+◌, Bool, true, false, List, [], ◌++◌, length, map, zip, Option, Some, None, Result, Ok, Err}
use Rattle.std.specs.List.{FoldsTo, concat}
use Rattle.std.specs.Io.KnownBytes.{IsAtEnd}
use Rattle.counted_io.specs.Chains.{Brings, Brought, IsRead}
use Rattle.counted_io.specs.Counted.{known_bytes}
use Rattle.counted_io.specs.declared.counted.Counted.{Counted}
use Rattle.td_answers.specs.Answers.{said_body}
use Rattle.td_commands.specs.declared.said.Said.{Said}
use Rattle.td_desk.specs.Runs.{AreOutcomesOf}
use Rattle.td_desk.specs.View.{DeskView}
use Rattle.td_desk.specs.declared.fault.Fault.TheVariants as fault
use Rattle.td_desk.specs.declared.running.Outcome.{Outcome}
use Rattle.td_desk.specs.declared.running.Outcome.TheVariants as outcome
use Rattle.td_journal_lines.specs.Lines.{AreLinesOf, IsLine, Numbered}
use Rattle.td_journal_rows.specs.Rows.{HasNoLineFeed, IsOneLine}
use Rattle.td_replay.specs.Numbers.{AreCounted}
use Rattle.td_replay.specs.Replays.{IsDoneAt, IsEachDone, AreRowsPrivate, IsSame, IsStopped, stamped_of}
use Rattle.td_replay.specs.declared.following.FollowFault.{FollowFault}
use Rattle.td_replay.specs.declared.following.FollowFault.TheVariants.{BadRow, Misplaced, Differs, Unread, Failed}

-- ---- what is read

-- the input gave these bytes, in reads one after another that each brought some
pub record HasGiven {R : Type 0} (remaining : R → Option (List ℕ)) (old : Counted R) (bytes : List ℕ) (new : Counted R) : Type 0 where
  pub pieces : List (List ℕ)
  pub brought : Brought remaining old pieces new
  pub bytes_are : concat pieces ≡ bytes

-- a read found the input's end
abbrev pub FindsEnd : {R : Type 0} → (R → Option (List ℕ)) → Counted R → Counted R → Type 0
FindsEnd remaining old new = IsRead remaining false old [] new × IsAtEnd (known_bytes remaining new)

-- a read failed
abbrev pub FailsToRead : {R : Type 0} → (R → Option (List ℕ)) → Counted R → Counted R → Type 0
FailsToRead remaining old new = IsRead remaining true old [] new

-- one read brought a piece, which stands behind the bytes; or it found the input's end, and they are as they were
abbrev pub IsFilled : {R : Type 0} → (R → Option (List ℕ)) → Counted R → Counted R → List ℕ → List ℕ → Bool → Type 0
IsFilled remaining old new bytes more true = (piece : List ℕ) × Brings remaining old piece new × (more ≡ bytes ++ piece)
IsFilled remaining old new bytes more false = FindsEnd remaining old new × (more ≡ bytes)

-- why no piece stands behind the bytes: the read failed, or there was no memory for what it brought
abbrev pub IsUnfilled : {R : Type 0} → (R → Option (List ℕ)) → Counted R → Counted R → FollowFault → Type 0
IsUnfilled remaining old new Unread = FailsToRead remaining old new
IsUnfilled remaining old new (Failed why) = (why ≡ fault.NoMemory) × ((piece : List ℕ) × Brings remaining old piece new)
IsUnfilled remaining old new (BadRow n) = ⊥
IsUnfilled remaining old new (Misplaced n) = ⊥
IsUnfilled remaining old new (Differs n) = ⊥

module _ {R : Type 0} (remaining : R → Option (List ℕ)) (old new : Counted R) (bytes more : List ℕ) where
  -- the first whole line of the bytes and of what was read behind them, and what stands behind it
  pub record IsNextLine (line : List ℕ) : Type 0 where
    pub given : List ℕ
    pub read : HasGiven remaining old given new
    pub bytes_are : bytes ++ given ≡ line ++ more
    pub one : IsOneLine line

  -- the input ended, and no line ends in what is left
  pub record HasNoMore : Type 0 where
    pub given : List ℕ
    pub read : Counted R
    pub gave : HasGiven remaining old given read
    pub ended : FindsEnd remaining read new
    pub bytes_are : more ≡ bytes ++ given
    pub torn : HasNoLineFeed more

  abbrev pub NextLine : Option (List ℕ) → Type 0
  NextLine (Some line) = IsNextLine line
  NextLine None = HasNoMore

-- why there is no next line: a read failed, or there was no memory
abbrev pub NoNextLine : {R : Type 0} → (R → Option (List ℕ)) → Counted R → Counted R → FollowFault → Type 0
NoNextLine {R} remaining old new Unread = (given : List ℕ) × (read : Counted R) × HasGiven remaining old given read × FailsToRead remaining read new
NoNextLine remaining old new (Failed why) = (why ≡ fault.NoMemory) × ((given : List ℕ) × HasGiven remaining old given new)
NoNextLine remaining old new (BadRow n) = ⊥
NoNextLine remaining old new (Misplaced n) = ⊥
NoNextLine remaining old new (Differs n) = ⊥

-- ---- what is done

-- the row that a line is, behind so many others
pub record IsNextRow (line : List ℕ) (before : ℕ) (r : Numbered) : Type 0 where
  pub is : IsLine r line
  pub number : r.number ≡ before + 1

-- why a line is no such row: it is the row of no change, or another number is its; or there was no memory
abbrev pub IsNoNextRow : List ℕ → ℕ → FollowFault → Type 0
IsNoNextRow line before (BadRow n) = (n ≡ before + 1) × ((r : Numbered) → IsLine r line → ⊥)
IsNoNextRow line before (Misplaced n) = (r : Numbered) × IsLine r line × (n ≡ r.number) × (n ≢ before + 1)
IsNoNextRow line before (Failed why) = why ≡ fault.NoMemory
IsNoNextRow line before (Differs n) = ⊥
IsNoNextRow line before Unread = ⊥

-- the row was done, at its own moment, and told what it has
pub record IsToldAgain {D : Type 0} (view : DeskView D) (r : Numbered) (old new : D) : Type 0 where
  pub words : Said
  pub done : IsDoneAt view r.row.stamped (outcome.Said words) old new
  pub same : IsSame r words

-- the row was done, and told something else
pub record IsToldOtherwise {D : Type 0} (view : DeskView D) (r : Numbered) (old new : D) : Type 0 where
  pub words : Said
  pub done : IsDoneAt view r.row.stamped (outcome.Said words) old new
  pub other : IsSame r words → ⊥

-- why the row wasn't told what it has: it was told something else; or it failed, or there was no memory for what was said
abbrev pub RowFails : {D : Type 0} → DeskView D → Numbered → D → D → FollowFault → Type 0
RowFails view r old new (Differs n) = (n ≡ r.number) × IsToldOtherwise view r old new
RowFails view r old new (Failed why) = IsStopped view r why old new
RowFails view r old new (BadRow n) = ⊥
RowFails view r old new (Misplaced n) = ⊥
RowFails view r old new Unread = ⊥

-- Rows were tried, one after the other, each from what the one before left, and each ended so.
pub record AreTried {D : Type 0} (view : DeskView D) (rows : List Numbered) (outcomes : List Outcome) (old new : D) : Type 0 where
  pub steps : FoldsTo (IsEachDone view) old (zip (map stamped_of rows) outcomes) new
  pub calls : AreOutcomesOf view old (map stamped_of rows) outcomes new
  pub private : AreRowsPrivate view (map stamped_of rows) outcomes old new

-- Rows were done in their order, and each was told what it has. A desk that is clean after them is live, if it was before.
pub record AreToldAgain {D : Type 0} (view : DeskView D) (rows : List Numbered) (old new : D) : Type 0 where
  pub said : List Said
  pub same : map said_body said ≡ map (λ r. r.row.shown) rows
  pub tried : AreTried view rows (map (λ words. outcome.Said words) said) old new
  pub clean : view.is_clean new → view.is_clean old
  pub live : view.is_clean new → view.is_live old → view.is_live new

module _ {D R : Type 0} (view : DeskView D) (remaining : R → Option (List ℕ)) (opened : D) (reader : Counted R) where
  -- The input gave the lines of these rows, numbered from 1 on, and behind them this rest; and the rows were done at the desk, each of
  -- which was told what it has.
  pub record HasFollowed (rows : List Numbered) (rest : List ℕ) (desk : D) (read : Counted R) : Type 0 where
    pub text : List ℕ
    pub lines : AreLinesOf rows text
    pub numbers : AreCounted 1 rows
    pub given : HasGiven remaining reader (text ++ rest) read
    pub done : AreToldAgain view rows opened desk

  -- the input ended behind them: what it gave is so many rows, and perhaps a torn one
  pub record FollowsAll (count : ℕ) (left : D) (reader_left : Counted R) : Type 0 where
    pub rows : List Numbered
    pub rest : List ℕ
    pub read : Counted R
    pub followed : HasFollowed rows rest left read
    pub torn : HasNoLineFeed rest
    pub ended : FindsEnd remaining read reader_left
    pub count_is : count ≡ length rows

  -- the line behind them isn't the next row, for this fault
  pub record StopsAtLine (why : FollowFault) (left : D) (reader_left : Counted R) : Type 0 where
    pub rows : List Numbered
    pub line : List ℕ
    pub rest : List ℕ
    pub followed : HasFollowed rows (line ++ rest) left reader_left
    pub one : IsOneLine line
    pub bad : IsNoNextRow line (length rows) why

  -- the row behind them wasn't told what it has, for this fault
  pub record StopsAtRow (why : FollowFault) (left : D) (reader_left : Counted R) : Type 0 where
    pub rows : List Numbered
    pub line : List ℕ
    pub rest : List ℕ
    pub row : Numbered
    pub desk : D
    pub followed : HasFollowed rows (line ++ rest) desk reader_left
    pub next : IsNextRow line (length rows) row
    pub fails : RowFails view row desk left why

  -- nothing more could be read behind them, or there was no memory for it
  pub record StopsReading (why : FollowFault) (left : D) (reader_left : Counted R) : Type 0 where
    pub rows : List Numbered
    pub rest : List ℕ
    pub read : Counted R
    pub followed : HasFollowed rows rest left read
    pub none : NoNextLine remaining read reader_left why

  -- how rows that came by an input were followed: to its end, or up to one of these
  abbrev pub Follows : D → Counted R → Result ℕ FollowFault → Type 0
  Follows left reader_left (Ok count) = FollowsAll count left reader_left
  Follows left reader_left (Err why) = StopsAtLine why left reader_left ⊎ StopsAtRow why left reader_left ⊎ StopsReading why left reader_left
