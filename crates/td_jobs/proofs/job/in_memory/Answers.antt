use Rattle.td_jobs.proofs.job.in_memory.Goals as goal

pub returns : goal.returns
returns g c =
    let made = c.in-Ok.ensures in (
      c.in-Ok.desk,
      c.on-end.result.1,
      made.empty,
      c.on-end.ensures (λ clean. (tt, made.sound)),
    )
