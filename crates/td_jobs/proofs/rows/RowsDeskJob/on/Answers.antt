use Rattle.std.proofs.Common.{refl, rules, subst, SFits, w64}
use Rattle.std.proofs.lemmas.Int.{to_z-of_z}
use Rattle.td_batch.specs.Runs.{IsRunOf}
use Rattle.td_jobs.specs.Batched.{commands_of, header_of, kind_of, result_line}
use Rattle.td_jobs.proofs.rows.RowsDeskJob.on.Goals as goal

pub returns : goal.returns
returns g c = λ ready.
    let rows = c.args.self in
    let moment = c.moment_by-moment.result in
    let fits : SFits w64 moment = search rules in (
      refl,
      refl,
      record {
        moment = moment;
        asked = c.moment_by-moment.ensures;
        ran = subst (λ at. IsRunOf g.D.Desk.seen (result_line (kind_of rows)) (header_of (kind_of rows)) at (commands_of rows)
            c.run-run.result c.args.desk c.run-run.new.desk) (to_z-of_z w64 moment fits)
            c.run-run.ensures;
      },
    )
