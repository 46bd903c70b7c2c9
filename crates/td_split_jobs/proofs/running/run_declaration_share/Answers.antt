use Rattle.std.proofs.Common.{w64}
use Rattle.std.proofs.lemmas.Int.{to_z-of_z}
use Rattle.td_batch.specs.Results.{declaration_result, declarations_header}
use Rattle.td_split_jobs.proofs.Batches.{batch_at}
use Rattle.td_split_jobs.proofs.running.run_declaration_share.Goals as goal

pub returns-clause-share : goal.returns-clause-share
returns-clause-share g c =
    batch_at g.D.Desk.seen declaration_result declarations_header c.args.at c.args.rows.now c.run_declarations.result c.args.desk.now c.run_declarations.new.desk (rw (to_z-of_z w64 c.args.at c.ranges.at) at c.run_declarations.ensures)

pub returns-clause-run : goal.returns-clause-run
returns-clause-run g c = rw (to_z-of_z w64 c.args.at c.ranges.at) at c.run_declarations.ensures
