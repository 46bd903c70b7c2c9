use Rattle.std.proofs.Common.{ap, sym}
use Rattle.std.specs.Prelude.{option_map, string_bytes}
use Rattle.td_cli.proofs.LeftWithJournal.{same_journal}
use Rattle.td_cli.proofs.journaling.JobContext+M+V+O+R+W+E.with_journal.Goals as goal

pub returns-in-Some-clause-done : goal.returns-in-Some-clause-done
returns-in-Some-clause-done g c =
    same_journal _ c.args.office c.args.records.now _ _ (ap (option_map string_bytes) (sym c.in-Some.is)) _ _ _ _ _
    (rw c.deref.ensures at c.journaled.ensures.done)
