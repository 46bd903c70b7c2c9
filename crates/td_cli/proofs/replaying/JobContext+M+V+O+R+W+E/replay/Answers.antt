use Rattle.std.proofs.Common.{inl, inr, refl}
use Rattle.std.specs.Prelude.{map}
use Rattle.td_journal_lines.specs.Rows.{numbered}
use Rattle.td_cli.proofs.Batches.{not_read}
use Rattle.td_cli.proofs.replaying.JobContext+M+V+O+R+W+E.replay.Goals as goal

pub returns-in-Err-clause-done : goal.returns-in-Err-clause-done
returns-in-Err-clause-done g c =
    let old = c.args.self.now in
    inl (
      c.in-Err.why,
      not_read g.M.Machine.known c.args.csv.now old.machine.now c.read_file.new.self c.in-Err.why c.in-Err.ensures.unread c.read_file.ensures.stays,
      refl,
      refl,
      refl,
      (refl, rw c.of_read_error.ensures at c.fault.ensures),
    )

pub returns-in-Ok-rows_of-clause-done : goal.returns-in-Ok-rows_of-clause-done
returns-in-Ok-rows_of-clause-done g c = inr (
  c.in-Ok.bytes.items,
  c.read_file.new.self,
  record { held = c.in-Ok.ensures.bytes; reads = c.read_file.ensures.stays },
  (
    c.replay_rows.ensures.kept,
    inr (
      map numbered c.in-Ok-rows_of.rows.items,
      rw c.deref.ensures.value at c.in-Ok-rows_of.ensures.rows,
      c.replay_rows.ensures.done,
    ),
  ),
)

pub returns-clause-done : goal.returns-clause-done
returns-clause-done g c = inr (
  c.in-Ok.bytes.items,
  c.read_file.new.self,
  record { held = c.in-Ok.ensures.bytes; reads = c.read_file.ensures.stays },
  (
    (refl, refl, refl),
    inl (c.in-Err-rows_of.cause, rw c.deref.ensures.value at c.in-Err-rows_of.ensures.unread, refl, (refl, c.fault-in-Err-rows_of.ensures)),
  ),
)
