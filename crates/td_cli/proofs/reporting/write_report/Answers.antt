use Rattle.td_cli.proofs.reporting.write_report.Goals as goal

pub returns-in-Overdue-clause-written : goal.returns-in-Overdue-clause-written
returns-in-Overdue-clause-written g c = rw c.in-Overdue.is c.overdue.ensures.written

pub returns-in-Guarantees-clause-written : goal.returns-in-Guarantees-clause-written
returns-in-Guarantees-clause-written g c = rw c.in-Guarantees.is c.guarantees.ensures.written
