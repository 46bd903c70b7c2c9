-- The last bytes of a file.
use Rattle.std.specs.Prelude.{◌≡◌, ℕ, ◌+◌, ◌^◌, ◌<◌, ◌≤◌, List, ◌++◌, length, take}
use Rattle.td_journal_start.specs.Lines.{IsJournal, next_after, tail}
use Rattle.td_journal_start.specs.Rows.{last_seen}
use Rattle.td_journal_start.specs.declared.tail.Found.{Found}
use Rattle.td_journal_start.specs.declared.tail.Tail.{Tail}

-- so many as are read, or all of them
pub record IsFull (t : Tail) : Type 0 where
  pub most : length t.bytes.items ≤ tail
  pub full : 0 < t.before → length t.bytes.items ≡ tail

-- their places in the file are numbers of the machine
abbrev pub Fits : Tail → Type 0
Fits t = t.before + length t.bytes.items < 2 ^ 64

-- bytes end with these
pub record IsEndOf (t : Tail) (bytes : List ℕ) : Type 0 where
  pub front : List ℕ
  pub size : length front ≡ t.before
  pub bytes_are : bytes ≡ front ++ t.bytes.items

-- the number of its next row
abbrev pub HasNext : Found → Type 0
HasNext found = found.next ≡ next_after (last_seen found.last)

-- bytes are a journal with this end of its text, and this last row
pub record IsFound (bytes : List ℕ) (found : Found) : Type 0 where
  pub within : found.end ≤ length bytes
  pub journal : IsJournal bytes (take found.end bytes) (last_seen found.last)
