use Rattle.td_journal_jobs.specs.Journaling.{BeginsJournal}
use Rattle.td_journal_jobs.proofs.Ready.{begun_ready}
use Rattle.td_journal_jobs.proofs.journaling.JournalingDeskJob.on.Goals as goal

pub returns-in-Ok : goal.returns-in-Ok
returns-in-Ok g c = λ ready.
    let started = c.in-Ok.ensures in
    let begins : BeginsJournal g.D.Desk.seen c.args.desk c.args.self.file c.in-Ok.desk = record {
      started = started.started;
      open_is = started.«open»;
      tight = started.tight;
      durable = started.durable;
      none = started.waiting;
    } in (
      c.in-Ok.desk,
      c.on-end.result.1,
      begins,
      c.on-end.ensures (begun_ready g.D.Desk.seen c.args.desk c.args.self.file c.in-Ok.desk begins ready),
      c.into_parts-desk.ensures.desk,
      rw c.into_parts-desk.ensures.journal at c.into_file.ensures,
    )
