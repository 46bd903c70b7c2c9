use Rattle.std.proofs.Common.{ap, length, subst, sym}
use Rattle.td_files.specs.Found.{IsClean, over_file}
use Rattle.td_http.specs.Serving.{desk_of}
use Rattle.td_http.proofs.Kept.{Keeps}
use Rattle.td_http.proofs.KeptOver.{kept_within, last_is}
use Rattle.td_jobs.specs.Desks.{fresh_books}
use Rattle.td_cli.proofs.Desks.{fresh_tied}
use Rattle.td_cli.proofs.Runs.{begun_keeps}
use Rattle.td_cli.proofs.run_laws.acknowledged_connections_are_kept_in_the_file.Goals as goal

pub returns : goal.returns
returns g c = λ country is_new image connections old new answer cut begins one clean list_is exchanges_are.
    let content = over_file.content old.desk in
    let served = one.served in
    let keeps = begun_keeps is_new image country (fresh_books content) old.desk begins (one.clean clean) (fresh_tied content) in
    let service_clean = subst IsClean (sym one.left_is) clean in
    kept_within _ g.C.Clock.ticks over_file country (fresh_books content) served.all_served cut
    (record { source = old.source; clock = old.clock; handler = one.service }) served.last
    (subst (Keeps over_file country (λ s. ⊥) (fresh_books content)) (sym one.opened_is) keeps) served.were_served
    (subst IsClean (ap desk_of (last_is _ served.last (record { source = new.source; clock = new.clock; handler = one.service_left })
    (length served.all_served) connections answer served.ended)) service_clean) list_is exchanges_are
