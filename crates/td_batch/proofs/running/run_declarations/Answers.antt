use Rattle.std.proofs.Common.{subst, w64}
use Rattle.std.proofs.lemmas.Int.{to_z-of_z}
use Rattle.std.proofs.lemmas.List.{map-id}
use Rattle.td_batch.specs.Results.{declaration_result, declarations_header}
use Rattle.td_batch.specs.Runs.{IsRunOf}
use Rattle.td_batch.proofs.running.run_declarations.Goals as goal

pub returns : goal.returns
returns g c = subst (λ rows. IsRunOf g.D.Desk.seen declaration_result declarations_header c.args.at rows c.run_rows.result c.args.desk.now c.run_rows.new.desk)
    (map-id c.args.rows.now) (rw (to_z-of_z w64 c.args.at c.ranges.at) at c.run_rows.ensures)
