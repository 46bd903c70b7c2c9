use Rattle.std.proofs.Common.{false}
use Rattle.td_files.specs.Found.{over_file}
use Rattle.td_jobs.specs.Batched.{header_of, result_line}
use Rattle.td_cli.proofs.Parts.{batch_work, none_told, streams_work, work_alike, work_joined}
use Rattle.td_cli.proofs.Runs.{begun_country, begun_live, begun_sound}
use Rattle.td_cli.proofs.work_laws.work_over_one_file_is_one_machines.Goals as goal

pub returns-clause-streams : goal.returns-clause-streams
returns-clause-streams g c = λ country opened left streams run. streams_work country opened left streams run

pub returns-clause-batch : goal.returns-clause-batch
returns-clause-batch g c = λ country image which at commands r opened left begins clean live ran.
    batch_work (result_line which) (header_of which) image country at commands r opened left begins clean live ran

pub returns-clause-nothing : goal.returns-clause-nothing
returns-clause-nothing g c = λ country image opened begins clean.
    record {
      live = begun_live false image country opened begins clean;
      country_is = begun_country false image country opened begins clean;
      sound = begun_sound false image country opened begins clean;
      private = λ books tied. none_told country books (over_file.content opened) (begun_country false image country opened begins clean)
          (begun_sound false image country opened begins clean) tied;
    }

pub returns-clause-joined : goal.returns-clause-joined
returns-clause-joined g c = λ country opened between next left parts others first goes second.
    work_joined country opened between next left parts others first goes second

pub returns-clause-alike : goal.returns-clause-alike
returns-clause-alike g c = λ country H opened left other other_left parts others one two alike same.
    work_alike country H opened left other other_left parts others one two alike same
