use Rattle.td_desk.proofs.Agreeing.{heard_alike, told_alike}
use Rattle.td_desk.proofs.laws.agreeing_runs_tell_the_same.Goals as goal

pub returns-clause-agreeing : goal.returns-clause-agreeing
returns-clause-agreeing c = λ country H books others list other_list outcomes other_outcomes end other_end run other_run same_book agree failed.
    told_alike country H books others list other_list outcomes other_outcomes end other_end run other_run same_book
    (heard_alike country H list other_list outcomes other_outcomes run.one_each other_run.one_each agree failed)

pub returns-clause-heard : goal.returns-clause-heard
returns-clause-heard c = told_alike
