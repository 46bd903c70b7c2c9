use Rattle.std.proofs.Common.{false}
use Rattle.td_files.specs.Found.{over_file}
use Rattle.td_batch.proofs.AgainAtDesk.{clean_back}
use Rattle.td_jobs.specs.Desks.{fresh_books}
use Rattle.td_cli.proofs.Desks.{fresh_tied}
use Rattle.td_cli.proofs.KeptRows.{kept_between_rows}
use Rattle.td_cli.proofs.Runs.{begun_keeps}
use Rattle.td_cli.proofs.batch_laws.acknowledged_rows_are_kept_in_the_file.Goals as goal

pub returns : goal.returns
returns g c = λ country image which at rows r opened left first others begins clean one are.
    let content = over_file.content opened in
    let was = clean_back over_file at _ opened left one.steps clean in
    kept_between_rows over_file country at (fresh_books content) _ first others opened left
    (begun_keeps false image country (fresh_books content) opened begins was (fresh_tied content)) one.steps clean are
