use Rattle.std.proofs.Common.{ap}
use Rattle.td_model.specs.Book.{fresh_book}
use Rattle.td_desk.proofs.Agreeing.{heard_alike, told_alike}
use Rattle.td_files.specs.Found.{over_file}
use Rattle.td_jobs.specs.Batched.{header_of, result_line}
use Rattle.td_cli.specs.BatchLaws.{commands_tried, outcomes_tried}
use Rattle.td_jobs.specs.Desks.{fresh_books}
use Rattle.td_cli.proofs.BatchesAlike.{from_opened}
use Rattle.td_cli.proofs.batch_laws.agreeing_batches_over_files_tell_the_same.Goals as goal

pub returns : goal.returns
returns g c = λ country H which other_which at other_at image other_image rows other_rows r other_r old new other_old other_new begins other_begins one other clean other_clean alike agree failed.
    let run = from_opened (result_line which) (header_of which) image country one.moment rows r old.desk new.desk begins clean one.ran in
    let other_run = from_opened (result_line other_which) (header_of other_which) other_image country other.moment other_rows other_r other_old.desk other_new.desk other_begins
    other_clean other.ran in
    let list = commands_tried one.moment rows r one.ran in
    let outcomes = outcomes_tried one.moment rows r one.ran in
    let other_list = commands_tried other.moment other_rows other_r other.ran in
    let other_outcomes = outcomes_tried other.moment other_rows other_r other.ran in
    told_alike country H (fresh_books (over_file.content old.desk)) (fresh_books (over_file.content other_old.desk)) list other_list outcomes other_outcomes
    run.0 other_run.0 run.1 other_run.1 (ap fresh_book alike.2)
    (heard_alike country H list other_list outcomes other_outcomes run.1.one_each other_run.1.one_each agree failed)
