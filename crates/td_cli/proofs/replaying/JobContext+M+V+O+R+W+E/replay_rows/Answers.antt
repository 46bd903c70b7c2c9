use Rattle.std.proofs.Common.{Result, Ok, Err}
use Rattle.std.specs.Prelude.{map}
use Rattle.td_files.specs.declared.desks.DeskFault.{DeskFault}
use Rattle.td_jobs.specs.Jobs.{IsUntouched}
use Rattle.td_journal_lines.specs.Rows.{numbered}
use Rattle.td_replay.specs.Replays.{IsReplayOf}
use Rattle.td_replay.specs.declared.replaying.ReplayRun.{ReplayRun}
use Rattle.td_cli.specs.World.{world_of}
use Rattle.td_cli.proofs.LeftAtDesks.{left_parted}
use Rattle.td_cli.proofs.ToldFrom.{result_from}
use Rattle.td_cli.proofs.replaying.JobContext+M+V+O+R+W+E.replay_rows.Goals as goal

pub returns-in-Ok-clause-kept : goal.returns-in-Ok-clause-kept
returns-in-Ok-clause-kept g c =
    let old = c.args.self.now in
    let begun = c.at_desk.new.self in
    let untouched = IsUntouched old.input.now begun.input.now old.out.now begun.out.now old.machine.now begun.machine.now in
    let rows = map numbered c.args.rows.items in
    let end : Result ReplayRun DeskFault = Ok c.in-Ok.run' in
    let at = left_parted g.V.Drive.known c.args.office.country old.file.now begun.file.now
    (λ D view opened left run. untouched × IsReplayOf view rows run opened left) (λ D view opened left run. IsReplayOf view rows run opened left)
    untouched untouched (Unit {0}) c.args.records.now end (λ D view opened left run is. is) (λ is. (is, tt)) c.in-Ok.ensures.done in
    let kept = c.tell_result.ensures.kept in (rw kept.0.0 at.0.0, rw kept.0.1 at.0.2, rw kept.0.2 c.at_desk.ensures.other)

pub returns-in-Ok-clause-done : goal.returns-in-Ok-clause-done
returns-in-Ok-clause-done g c =
    let old = c.args.self.now in
    let begun = c.at_desk.new.self in
    let untouched = IsUntouched old.input.now begun.input.now old.out.now begun.out.now old.machine.now begun.machine.now in
    let rows = map numbered c.args.rows.items in
    let end : Result ReplayRun DeskFault = Ok c.in-Ok.run' in
    let at = left_parted g.V.Drive.known c.args.office.country old.file.now begun.file.now
    (λ D view opened left run. untouched × IsReplayOf view rows run opened left) (λ D view opened left run. IsReplayOf view rows run opened left × (view.is_clean left → Unit {0}))
    untouched untouched (Unit {0}) c.args.records.now end (λ D view opened left run is. (is.0, (is.1, λ clean. tt))) (λ is. (is, tt)) c.in-Ok.ensures.done in
    let kept = c.tell_result.ensures.kept in (
      end,
      rw kept.1 at.1,
      result_from _ (world_of _ old) (world_of _ begun) (world_of _ c.tell_result.new.self) at.0.1 c.at_desk.ensures.untold _ _ _ _
          (rw (c.deref.ensures.value, c.differs_cause.ensures) at c.tell_result.ensures.told),
    )

pub returns-in-Err-clause-kept : goal.returns-in-Err-clause-kept
returns-in-Err-clause-kept g c =
    let old = c.args.self.now in
    let begun = c.at_desk.new.self in
    let untouched = IsUntouched old.input.now begun.input.now old.out.now begun.out.now old.machine.now begun.machine.now in
    let rows = map numbered c.args.rows.items in
    let end : Result ReplayRun DeskFault = Err c.in-Err.undone.why in
    let at = left_parted g.V.Drive.known c.args.office.country old.file.now begun.file.now
    (λ D view opened left run. untouched × IsReplayOf view rows run opened left) (λ D view opened left run. IsReplayOf view rows run opened left)
    untouched untouched (Unit {0}) c.args.records.now end (λ D view opened left run is. is) (λ is. (is, tt)) c.in-Err.ensures.done in
    (at.0.0, at.0.2, c.at_desk.ensures.other)

pub returns-in-Err-clause-done : goal.returns-in-Err-clause-done
returns-in-Err-clause-done g c =
    let old = c.args.self.now in
    let begun = c.at_desk.new.self in
    let untouched = IsUntouched old.input.now begun.input.now old.out.now begun.out.now old.machine.now begun.machine.now in
    let rows = map numbered c.args.rows.items in
    let end : Result ReplayRun DeskFault = Err c.in-Err.undone.why in
    let at = left_parted g.V.Drive.known c.args.office.country old.file.now begun.file.now
    (λ D view opened left run. untouched × IsReplayOf view rows run opened left) (λ D view opened left run. IsReplayOf view rows run opened left × (view.is_clean left → Unit {0}))
    untouched untouched (Unit {0}) c.args.records.now end (λ D view opened left run is. (is.0, (is.1, λ clean. tt))) (λ is. (is, tt)) c.in-Err.ensures.done in
    (end, at.1, (at.0.1, rw (c.at_desk.ensures.untold, c.of_file.ensures) at c.fault.ensures))
