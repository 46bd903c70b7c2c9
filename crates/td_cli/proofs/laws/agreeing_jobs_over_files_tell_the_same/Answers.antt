use Rattle.td_files.specs.Found.{over_file}
use Rattle.td_jobs.specs.Desks.{fresh_books}
use Rattle.td_cli.proofs.Desks.{fresh_tied}
use Rattle.td_cli.proofs.Agreeing.{streams_alike}
use Rattle.td_cli.proofs.laws.agreeing_jobs_over_files_tell_the_same.Goals as goal

pub returns : goal.returns
returns g c = λ country H image other_image is_new is_other_new old new end other_old other_new other_end begins other_begins one other clean other_clean alike.
    let rows = over_file.content old.desk in
    let other_rows = over_file.content other_old.desk in
    let served = one.private clean (fresh_books rows) (fresh_tied rows) in
    let other_served = other.private other_clean (fresh_books other_rows) (fresh_tied other_rows) in
    streams_alike country H rows other_rows one.served.run.exchanges other.served.run.exchanges served.0 other_served.0 alike served.1 other_served.1
