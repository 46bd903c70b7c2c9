-- The work that a job does at a desk: what is asked in it and told, in one order. The headline is said of it.
use Rattle.std.specs.Prelude.{◌≡◌, ℕ, List}
use Rattle.std.specs.List.{AllByRecursion}
use Rattle.td_model.specs.Account.{Account}
use Rattle.td_model.specs.Book.{Book, account_of}
use Rattle.td_model.specs.Sound.{IsCovered}
use Rattle.td_model.specs.Content.{Content}
use Rattle.td_desk.specs.Runs.{IsTied}
use Rattle.td_desk.specs.View.{DeskView}
use Rattle.td_cli.specs.Parts.{Part, book_of, heard_of, machine_tells, told_of}

-- What the desk had at first, and the parts of the work: streams and rows, each request with its reply and each row with what was said
-- to it.
pub record Work : Type 0 where
  pub begun : Content
  pub parts : List Part

-- on each guarantee the amount in use, which is the sum of what its released movements have taken up until they are written off, is at
-- most the reference amount
abbrev pub AreCovered : Account → Type 0
AreCovered account = AllByRecursion (IsCovered account.movements) account.guarantees

-- The headline of a job's work, from any books that say what the desk had at first. `private`: to each holder is told what the holder's
-- own machine tells to the holder's own requests, acts and rows, those left out that a fault ended. `covered`: in each holder's book, before
-- the work and behind it, each guarantee is covered.
pub record KeepsHeadline (work : Work) : Type 0 where
  pub private : (books : ℕ → Book) → IsTied work.begun books → (H : ℕ)
      → told_of work.begun.country H work.parts ≡ machine_tells H (books H) (heard_of work.begun.country H work.parts)
  pub covered : (books : ℕ → Book) → IsTied work.begun books → (H : ℕ)
      → AreCovered (account_of H (books H)) × AreCovered (account_of H (book_of H (books H) (heard_of work.begun.country H work.parts)))

-- nothing is said of the work
abbrev pub AnyWork : Work → Type 0
AnyWork work = Unit {0}

-- this is said of the work that was done at a desk, if the desk is clean in the end
abbrev pub IfClean : {D : Type 0} → (Work → Type 0) → DeskView D → D → D → List Part → Type 0
IfClean Says view opened left parts = view.is_clean left → Says (record { begun = view.content opened; parts = parts })
