use Rattle.td_desk.specs.Plain.{plain_content}
use Rattle.td_jobs.specs.Desks.{fresh_books}
use Rattle.td_cli.proofs.Desks.{fresh_tied}
use Rattle.td_cli.proofs.Agreeing.{empty_alike, streams_alike}
use Rattle.td_cli.proofs.laws.agreeing_jobs_tell_the_same.Goals as goal

pub returns : goal.returns
returns g c = λ country H old new end other_old other_new other_end begins other_begins one other.
    let rows = plain_content old.desk in
    let other_rows = plain_content other_old.desk in
    let served = one.private tt (fresh_books rows) (fresh_tied rows) in
    let other_served = other.private tt (fresh_books other_rows) (fresh_tied other_rows) in
    streams_alike country H rows other_rows one.served.run.exchanges other.served.run.exchanges served.0 other_served.0
    (empty_alike country H rows other_rows begins other_begins) served.1 other_served.1
