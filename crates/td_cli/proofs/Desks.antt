-- What is known of a desk as a job begins.
use Rattle.std.proofs.Common.{ℕ, List, sym}
use Rattle.sqlite_wal.specs.Recovery.{Image}
use Rattle.td_model.specs.Content.{Content}
use Rattle.sqlite_disk.specs.declared.Disk.{Ghosts}
use Rattle.td_files.specs.Found.{FileSeen, over_file}
use Rattle.td_desk.specs.Runs.{IsTied}
use Rattle.td_acts.proofs.Fresh.{account_fresh}
use Rattle.td_jobs.specs.Desks.{IsReady, fresh_books}
use Rattle.td_cli.specs.Desks.{BeginsKept, BeginsMade}

-- a content is tied to fresh books
pub fresh_tied : (c : Content) → IsTied c (fresh_books c)
fresh_tied c = record { each = λ H. sym (account_fresh H c); grown = λ H. tt }

-- a desk over what a file held can serve, and so can one that was made in it
pub made_ready : {D : Type 0} {disk : Ghosts D} (image : Image) (country : List ℕ) (s : FileSeen disk) → BeginsMade image country s → IsReady over_file s
made_ready image country s made = λ clean. let is = made clean in (is.live, is.holds.trees.sound)

pub kept_ready : {D : Type 0} {disk : Ghosts D} (image : Image) (country : List ℕ) (s : FileSeen disk) → BeginsKept image country s → IsReady over_file s
kept_ready image country s kept = λ clean. let is = kept clean in (is.live, is.holds.trees.sound)
