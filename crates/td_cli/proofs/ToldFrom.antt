-- Texts told from a world on that has printed and told as much as another one.
use Rattle.std.proofs.Common.{◌≡◌, ℕ, List, Option, None, Some, Result, Ok, Err}
use Rattle.td_batch.specs.declared.running.BatchRun.{BatchRun}
use Rattle.td_desk.specs.declared.fault.Fault.{Fault}
use Rattle.td_files.specs.declared.desks.DeskFault.{DeskFault}
use Rattle.td_cli.specs.Batched.{IsBatchTold}
use Rattle.td_cli.specs.Told.{IsResultTold}
use Rattle.td_cli.specs.World.{Lent, World}
use Rattle.td_cli.specs.declared.exits.Cause.{Cause}

module _ (lent : Lent) (old begun new : World lent)
    (output : begun.output ≡ old.output) (errors : begun.errors ≡ old.errors) (status : ℕ) where
  -- a result file
  pub result_from : (text : List ℕ) (stopped : Option Fault) (cause : Option Cause)
      → IsResultTold lent text stopped cause begun new status → IsResultTold lent text stopped cause old new status
  result_from text None cause is = rw (output, errors) at is
  result_from text (Some why) cause is = rw (output, errors) at is

  -- what a batch left
  pub batch_from : (end : Result BatchRun DeskFault) → IsBatchTold lent end begun new status → IsBatchTold lent end old new status
  batch_from (Ok run) is = result_from _ _ _ is
  batch_from (Err why) is = rw (output, errors) at is
