use Rattle.std.proofs.Common.{false}
use Rattle.td_files.specs.Found.{over_file}
use Rattle.td_batch.proofs.AgainAtDesk.{clean_back}
use Rattle.td_jobs.specs.Desks.{fresh_books}
use Rattle.td_cli.proofs.Desks.{fresh_tied}
use Rattle.td_cli.proofs.Runs.{begun_country, begun_sound}
use Rattle.td_cli.proofs.SentAgain.{answered_after_crash}
use Rattle.td_cli.proofs.batch_laws.a_batch_cut_short_is_sent_again.Goals as goal

pub returns : goal.returns
returns g c = λ country image at opened left first others begins clean kept.
    let content = over_file.content opened in
    let then_clean = clean_back over_file at others kept.between left kept.leads clean in
    let was = clean_back over_file at first opened kept.between kept.led then_clean in
    answered_after_crash country (fresh_books content) at first over_file over_file opened kept.between
    (begun_country false image country opened begins was) (begun_sound false image country opened begins was) (fresh_tied content)
    kept.led then_clean kept.kept
