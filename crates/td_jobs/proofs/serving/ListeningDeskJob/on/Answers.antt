use Rattle.std.proofs.Common.{refl}
use Rattle.td_jobs.proofs.serving.ListeningDeskJob.on.Goals as goal

pub returns : goal.returns
returns g c = λ ready. (refl, rw (c.new-service.ensures, ← c.into_desk.ensures) at c.serve_printing-end.ensures ready)
