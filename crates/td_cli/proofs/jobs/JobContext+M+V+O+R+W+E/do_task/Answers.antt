use Rattle.td_cli.proofs.jobs.JobContext+M+V+O+R+W+E.do_task.Goals as goal

pub returns-in-Batch-clause-done : goal.returns-in-Batch-clause-done
returns-in-Batch-clause-done g c = rw c.in-Batch.is (rw c.deref.ensures at c.batch.ensures.done)

pub returns-in-Replay-clause-done : goal.returns-in-Replay-clause-done
returns-in-Replay-clause-done g c = rw c.in-Replay.is (rw c.deref-in-Replay.ensures at c.replay.ensures.done)
