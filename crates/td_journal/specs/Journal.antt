-- The file in which a journal stands.
use Rattle.std.specs.Prelude.{◌≡◌, ◌⊎◌, ◌+◌, ◌^◌, ◌++◌, ◌≤◌, ℕ, Bool, false, List, length, take}
use Rattle.sqlite_disk.specs.Disk.{MoreFaults}
use Rattle.sqlite_disk.specs.declared.Disk.{Ghosts}
use Rattle.td_journal.specs.declared.journal.Journal.{Journal}

-- the bytes of its file
abbrev pub file_of : {F : Type 0} {g : Ghosts F} → Journal F g → List ℕ
file_of {g = g} j = g.seen j.file

-- the rows that stand
abbrev pub text_of : {F : Type 0} {g : Ghosts F} → Journal F g → List ℕ
text_of j = take j.end (file_of j)

-- nothing stands behind them in the file
abbrev pub IsTight : {F : Type 0} {g : Ghosts F} → Journal F g → Type 0
IsTight j = length (file_of j) ≡ j.end

-- a crash leaves the file as it is
abbrev pub IsDurable : {F : Type 0} {g : Ghosts F} → Journal F g → Type 0
IsDurable {g = g} j = (bytes : List ℕ) → g.may_leave j.file bytes → bytes ≡ file_of j

-- a crash leaves the rows that stand, whatever it leaves behind them
abbrev pub IsSafe : {F : Type 0} {g : Ghosts F} → Journal F g → Type 0
IsSafe {g = g} j = (bytes : List ℕ) → g.may_leave j.file bytes → take j.end bytes ≡ text_of j

-- a call of a file failed since, or a sync of it before
abbrev pub FileFailed : {F : Type 0} → Ghosts F → F → F → Type 0
FileFailed g old new = (g.is_usable old ≡ false) ⊎ MoreFaults (g.faults old) (g.faults new)

-- so it was with a journal's file
abbrev pub JournalFailed : {F : Type 0} {g : Ghosts F} → Journal F g → Journal F g → Type 0
JournalFailed {g = g} old new = FileFailed g old.file new.file

-- so many bytes more, or one number more, have no place
abbrev pub IsFull : {F : Type 0} {g : Ghosts F} → ℕ → Journal F g → Type 0
IsFull size j = (2 ^ 64 ≤ j.end + size) ⊎ (2 ^ 64 ≤ j.next + 1)

-- its count of calls that failed
abbrev pub faults_of : {F : Type 0} {g : Ghosts F} → Journal F g → ℕ
faults_of {g = g} j = g.faults j.file

-- no sync of it has failed
abbrev pub is_usable : {F : Type 0} {g : Ghosts F} → Journal F g → Bool
is_usable {g = g} j = g.is_usable j.file

-- the number of the next row
abbrev pub next_number : {F : Type 0} {g : Ghosts F} → Journal F g → ℕ
next_number j = j.next

-- rows can be written
abbrev pub is_open : {F : Type 0} {g : Ghosts F} → Journal F g → Bool
is_open j = j.is_open

-- these bytes have the rows that stand, and this row behind them
abbrev pub HasBehind : {F : Type 0} {g : Ghosts F} → List ℕ → Journal F g → List ℕ → Type 0
HasBehind row j bytes = take (j.end + length row) bytes ≡ text_of j ++ row

-- the file has this row behind the text
pub record IsBehind {F : Type 0} {g : Ghosts F} (row : List ℕ) (j : Journal F g) : Type 0 where
  pub within : j.end + length row ≤ length (file_of j)
  pub row_is : HasBehind row j (file_of j)
