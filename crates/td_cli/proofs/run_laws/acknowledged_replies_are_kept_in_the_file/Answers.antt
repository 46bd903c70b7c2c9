use Rattle.std.proofs.Common.{◌∙◌, subst, sym}
use Rattle.td_files.specs.Found.{IsClean, over_file}
use Rattle.td_http.proofs.Kept.{Keeps, kept_between}
use Rattle.td_http.proofs.Streamed.{ending_stays}
use Rattle.td_jobs.specs.Desks.{fresh_books}
use Rattle.td_cli.proofs.Desks.{fresh_tied}
use Rattle.td_cli.proofs.Runs.{begun_keeps}
use Rattle.td_cli.proofs.run_laws.acknowledged_replies_are_kept_in_the_file.Goals as goal

pub returns : goal.returns
returns g c = λ country is_new image old new end first others begins one clean are.
    let run = one.served.run in
    let content = over_file.content old.desk in
    let keeps = begun_keeps is_new image country (fresh_books content) old.desk begins (one.clean clean) (fresh_tied content) in
    kept_between g.C.Clock.ticks over_file country (fresh_books content) run.exchanges first others (old.machine, one.service) (new.machine, run.handler)
    (subst (Keeps over_file country (λ s. ⊥) (fresh_books content)) (sym one.opened_is) keeps) one.served.chain
    (subst IsClean (sym one.left_is ∙ ending_stays run.handler one.service_left run.rest run.ending one.served.ending) clean) are
