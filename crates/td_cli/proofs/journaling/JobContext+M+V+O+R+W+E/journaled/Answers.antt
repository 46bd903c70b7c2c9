use Rattle.std.proofs.Common.{Ok, Err, inr, refl}
use Rattle.td_cli.proofs.journaling.JobContext+M+V+O+R+W+E.journaled.Goals as goal

pub returns-in-Ok-at_desk-clause-done : goal.returns-in-Ok-at_desk-clause-done
returns-in-Ok-at_desk-clause-done g c =
    let other = c.at_desk.ensures.other in
    let kept = c.keep_journal.ensures in
    inr (record {
      journal = c.in-Ok.journal;
      opened = c.open_journal.new.self;
      at = c.in-Ok.ensures.opened;
      ended = Ok c.in-Ok-at_desk.field-0;
      done = c.in-Ok-at_desk.ensures.done;
      file_is = kept.journal;
      drive_is = rw other at kept.drive;
      connection = rw other at kept.connection;
      unopened = rw other at kept.unopened;
      end_is = c.of_begun.ensures;
    })

pub returns-in-Err-at_desk-clause-done : goal.returns-in-Err-at_desk-clause-done
returns-in-Err-at_desk-clause-done g c =
    let other = c.at_desk.ensures.other in
    let kept = c.keep_journal-in-Err-at_desk.ensures in
    inr (record {
      journal = c.in-Ok.journal;
      opened = c.open_journal.new.self;
      at = c.in-Ok.ensures.opened;
      ended = Err c.in-Err-at_desk.field-0.why;
      done = c.in-Err-at_desk.ensures.done;
      file_is = rw c.in-Err-at_desk.ensures.job at kept.journal;
      drive_is = rw other at kept.drive;
      connection = rw other at kept.connection;
      unopened = rw other at kept.unopened;
      end_is = refl;
    })
