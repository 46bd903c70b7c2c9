use Rattle.td_jobs.proofs.piping.PipingDeskJob.on.Goals as goal

pub returns : goal.returns
returns g c = λ ready. rw (c.new-service.ensures, ← c.into_desk.ensures) at c.pipe-end.ensures ready
