use Rattle.std.proofs.Common.{subst, sym}
use Rattle.td_files.specs.Found.{over_file}
use Rattle.td_http.specs.Private.{IsServedOver}
use Rattle.td_jobs.specs.Desks.{fresh_books}
use Rattle.td_cli.proofs.Agreeing.{lists_alike}
use Rattle.td_cli.proofs.Desks.{fresh_tied}
use Rattle.td_cli.proofs.Runs.{one_stream, run_of, runs_joined}
use Rattle.td_cli.proofs.run_laws.runs_over_one_file_are_one_run.Goals as goal

pub returns-clause-piped : goal.returns-clause-piped
returns-clause-piped g c = λ country is_new image old new end begins one clean live.
    run_of is_new image country old.desk new.desk _ begins (one.clean clean)
    (λ books tied.
    let served = one.private clean books tied in (
      served.0,
      one_stream _ books one.served.run.exchanges served.0 served.1,
      served.2 live,
    ))

pub returns-clause-served : goal.returns-clause-served
returns-clause-served g c = λ country is_new image connections old new answer begins one clean live.
    run_of is_new image country old.desk new.desk _ begins (one.clean clean)
    (λ books tied. let served = one.private clean books tied in (served.0, served.1, served.2 live))

pub returns-clause-joined : goal.returns-clause-joined
returns-clause-joined g c = λ country opened between next left streams others first goes second.
    runs_joined country opened between next left streams others first goes second

pub returns-clause-alike : goal.returns-clause-alike
returns-clause-alike g c = λ country H opened left other other_left streams others one two alike.
    let served = one.private (fresh_books (over_file.content opened)) (fresh_tied (over_file.content opened)) in
    let other_served = two.private (fresh_books (over_file.content other)) (fresh_tied (over_file.content other)) in
    lists_alike country H (over_file.content opened) (over_file.content other) streams others (over_file.content left) (over_file.content other_left) alike
    (subst (λ c. IsServedOver c (fresh_books (over_file.content opened)) streams (over_file.content left)) (sym one.country_is) served)
    (subst (λ c. IsServedOver c (fresh_books (over_file.content other)) others (over_file.content other_left)) (sym two.country_is) other_served)
