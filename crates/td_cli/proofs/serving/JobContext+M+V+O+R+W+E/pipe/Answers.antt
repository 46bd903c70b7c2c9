use Rattle.std.proofs.Common.{refl}
use Rattle.std.specs.Prelude.{option_map, string_bytes}
use Rattle.td_cli.specs.Journaled.{NamedDesk}
use Rattle.td_cli.specs.World.{world_of}
use Rattle.td_cli.proofs.LeftWithJournal.{left_later, with_more}
use Rattle.td_cli.proofs.serving.JobContext+M+V+O+R+W+E.pipe.Goals as goal

pub returns-clause-done : goal.returns-clause-done
returns-clause-done g c =
    let end = c.with_journal-end in
    let desk : NamedDesk = record { office = c.args.office; records = c.args.records.now; journal = option_map string_bytes c.args.journal.now } in (
      end.result,
      with_more _ desk (world_of _ c.args.self.now) _ _ _ _ (λ D view opened left end piped. (piped, λ clean. tt)) end.result
          (left_later _ desk (world_of _ c.args.self.now) (world_of _ end.new.self) _ refl refl _ _ end.result end.ensures.done),
      rw (end.ensures.untold, c.stream_cause.ensures) at c.exit.ensures,
    )
