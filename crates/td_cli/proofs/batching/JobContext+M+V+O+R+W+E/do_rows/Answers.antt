use Rattle.std.proofs.Common.{◌≡◌}
use Rattle.std.specs.Prelude.{option_map, string_bytes}
use Rattle.td_jobs.specs.Batched.{HasDoneRows, commands_of, kind_of}
use Rattle.td_jobs.specs.Jobs.{IsUntouched, with_machine}
use Rattle.td_cli.specs.World.{world_of}
use Rattle.td_cli.proofs.LeftWithJournal.{left_later, with_parted}
use Rattle.td_cli.proofs.ToldFrom.{batch_from}
use Rattle.td_cli.proofs.batching.JobContext+M+V+O+R+W+E.do_rows.Goals as goal

pub returns-clause-unread : goal.returns-clause-unread
returns-clause-unread g c =
    let rows = c.args.rows in
    let old = c.args.self.now in
    let end = c.with_journal-end in
    let begun = end.new.self in
    let at = with_parted
    (λ D view opened left r. (begun.input.now ≡ old.input.now) × (begun.out.now ≡ old.out.now)
    × HasDoneRows view g.M.Clock.ticks c.args.office.at (kind_of rows) (commands_of rows) (with_machine opened old.machine.now) (with_machine left begun.machine.now) r)
    (λ D view opened left r. HasDoneRows view g.M.Clock.ticks c.args.office.at (kind_of rows) (commands_of rows) (with_machine opened old.machine.now) (with_machine left begun.machine.now) r)
    ((begun.input.now ≡ old.input.now) × (begun.out.now ≡ old.out.now))
    (IsUntouched old.input.now begun.input.now old.out.now begun.out.now old.machine.now begun.machine.now) (begun.machine.now ≡ old.machine.now)
    (λ D view opened left r is. ((is.0, is.1), is.2)) (λ is. ((is.0, is.1), is.2))
    _ (record { office = c.args.office; records = c.args.records.now; journal = option_map string_bytes c.args.journal.now })
    (world_of _ old) (world_of _ begun) end.result end.ensures.done in
    let kept = c.tell_batch.ensures.kept in
    rw kept.0.0 at.0.0

pub returns-clause-done : goal.returns-clause-done
returns-clause-done g c =
    let rows = c.args.rows in
    let old = c.args.self.now in
    let end = c.with_journal-end in
    let begun = end.new.self in
    let at = with_parted
    (λ D view opened left r. (begun.input.now ≡ old.input.now) × (begun.out.now ≡ old.out.now)
    × HasDoneRows view g.M.Clock.ticks c.args.office.at (kind_of rows) (commands_of rows) (with_machine opened old.machine.now) (with_machine left begun.machine.now) r)
    (λ D view opened left r. HasDoneRows view g.M.Clock.ticks c.args.office.at (kind_of rows) (commands_of rows) (with_machine opened old.machine.now) (with_machine left begun.machine.now) r
    × (view.is_clean left → Unit {0}))
    ((begun.input.now ≡ old.input.now) × (begun.out.now ≡ old.out.now))
    (IsUntouched old.input.now begun.input.now old.out.now begun.out.now old.machine.now begun.machine.now) (begun.machine.now ≡ old.machine.now)
    (λ D view opened left r is. ((is.0, is.1), (is.2, λ clean. tt))) (λ is. ((is.0, is.1), is.2))
    _ (record { office = c.args.office; records = c.args.records.now; journal = option_map string_bytes c.args.journal.now })
    (world_of _ old) (world_of _ begun) end.result end.ensures.done in
    let kept = c.tell_batch.ensures.kept in
    let new = c.tell_batch.new.self in (
      end.result,
      rw kept.0.1 (left_later _ (record { office = c.args.office; records = c.args.records.now; journal = option_map string_bytes c.args.journal.now })
          (world_of _ old) (world_of _ begun) _ kept.1 kept.0.2 _ _ end.result at.1),
      batch_from _ (world_of _ old) (world_of _ begun) (world_of _ new) at.0.1 end.ensures.untold _ end.result c.tell_batch.ensures.told,
    )
