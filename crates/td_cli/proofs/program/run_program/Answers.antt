use Rattle.td_cli.proofs.program.run_program.Goals as goal

pub returns-in-Ok : goal.returns-in-Ok
returns-in-Ok g c = rw c.in-Ok.is (rw c.deref.ensures.value at c.perform.ensures)
