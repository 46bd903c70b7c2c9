use Rattle.std.proofs.Common.{false, subst}
use Rattle.td_files.specs.Found.{over_file}
use Rattle.td_batch.specs.Laws.{IsLater}
use Rattle.td_batch.proofs.AgainAtDesk.{clean_back}
use Rattle.td_jobs.specs.Batched.{header_of, result_line}
use Rattle.td_cli.proofs.Later.{as_late, batch_clean, later_by_batch, later_by_crash, later_by_streams, later_still, opened_after_crash}
use Rattle.td_cli.proofs.Runs.{begun_country, begun_keeps, begun_live, begun_sound, found_left}
use Rattle.td_cli.proofs.batch_laws.runs_over_one_file_lead_on.Goals as goal

pub returns-clause-streams : goal.returns-clause-streams
returns-clause-streams g c = λ country opened left streams run. later_by_streams country opened left streams run

pub returns-clause-batch : goal.returns-clause-batch
returns-clause-batch g c = λ country image which at rows r opened left begins clean live run.
    let was = batch_clean (result_line which) (header_of which) at rows r opened left run clean in
    later_by_batch (result_line which) (header_of which) at rows r opened left (begun_live false image country opened begins was)
    (begun_sound false image country opened begins was) clean live run

pub returns-clause-crash : goal.returns-clause-crash
returns-clause-crash g c = λ country image at opened left first others x begins clean kept may.
    let then_clean = clean_back over_file at others kept.between left kept.leads clean in
    let was = clean_back over_file at first opened kept.between kept.led then_clean in
    later_by_crash country at first opened kept.between x (begun_country false image country opened begins was)
    (λ books tied. begun_keeps false image country books opened begins was tied) kept.led then_clean may

pub returns-clause-nothing : goal.returns-clause-nothing
returns-clause-nothing g c = λ country image opened begins clean. as_late (over_file.content opened) (begun_sound false image country opened begins clean)

pub returns-clause-joined : goal.returns-clause-joined
returns-clause-joined g c = λ country before after between next first goes second.
    later_still before (over_file.content between) after first
    (subst (λ content. IsLater content after) (found_left country between next goes) second)

pub returns-clause-found : goal.returns-clause-found
returns-clause-found g c = λ country crashed next opens. opened_after_crash country crashed next opens
