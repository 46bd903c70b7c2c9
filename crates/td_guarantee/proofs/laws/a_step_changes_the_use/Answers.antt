use Rattle.td_guarantee.proofs.Stepping.{gives_back, keeps, one_more, step_changes, takes_up}
use Rattle.td_guarantee.proofs.laws.a_step_changes_the_use.Goals as goal

pub returns-clause-lines : goal.returns-clause-lines
returns-clause-lines c = step_changes

pub returns-clause-up : goal.returns-clause-up
returns-clause-up c = takes_up

pub returns-clause-back : goal.returns-clause-back
returns-clause-back c = gives_back

pub returns-clause-keeps : goal.returns-clause-keeps
returns-clause-keeps c = keeps

pub returns-clause-new : goal.returns-clause-new
returns-clause-new c = one_more
