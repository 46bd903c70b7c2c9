use Rattle.std.proofs.Common.{map}
use Rattle.td_files.specs.Found.{over_file}
use Rattle.td_jobs.specs.Desks.{fresh_books}
use Rattle.td_cli.proofs.Desks.{fresh_tied}
use Rattle.td_cli.proofs.Agreeing.{lists_alike}
use Rattle.td_cli.proofs.laws.agreeing_servings_over_files_tell_the_same.Goals as goal

pub returns : goal.returns
returns g c = λ country H image other_image is_new is_other_new connections other_connections answer other_answer old new other_old other_new begins other_begins one other clean other_clean alike.
    let rows = over_file.content old.desk in
    let other_rows = over_file.content other_old.desk in
    let served = one.private clean (fresh_books rows) (fresh_tied rows) in
    let other_served = other.private other_clean (fresh_books other_rows) (fresh_tied other_rows) in
    lists_alike country H rows other_rows (map (λ connection. connection.exchanges) one.served.all_served) (map (λ connection. connection.exchanges) other.served.all_served)
    served.0 other_served.0 alike served.1 other_served.1
