use Rattle.std.proofs.Common.{inl, inr}
use Rattle.td_cli.proofs.WorkSaid.{performed}
use Rattle.td_cli.proofs.jobs.JobContext+M+V+O+R+W+E.perform.Goals as goal

pub returns-in-Ok-clause-performed : goal.returns-in-Ok-clause-performed
returns-in-Ok-clause-performed g c = performed _ _ _ _ _ (inl (c.in-Ok.job, c.in-Ok.ensures.job, c.do_job.ensures.done))

pub returns-in-Err-clause-performed : goal.returns-in-Err-clause-performed
returns-in-Err-clause-performed g c =
    performed _ _ _ _ _ (inr (c.in-Err.no_job, c.in-Err.ensures.no_job, c.answer.ensures.kept, c.answer.ensures.answered))
