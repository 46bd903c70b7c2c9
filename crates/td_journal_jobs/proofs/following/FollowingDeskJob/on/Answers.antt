use Rattle.td_journal_jobs.proofs.Followed.{followed_ready}
use Rattle.td_journal_jobs.proofs.following.FollowingDeskJob.on.Goals as goal

pub returns-in-Ok : goal.returns-in-Ok
returns-in-Ok g c = λ ready.
    let all = c.in-Ok.ensures in
    let begun = c.follow.new.desk in
    let count = c.in-Ok.field-0 in (
      begun,
      c.follow.new.input,
      count,
      all,
      c.on-end.ensures (followed_ready g.D.Desk.seen g.R.Read.remaining c.args.desk begun c.args.input.now c.follow.new.input count all ready),
    )
