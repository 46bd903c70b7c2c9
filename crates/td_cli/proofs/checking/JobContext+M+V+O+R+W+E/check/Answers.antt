use Rattle.std.proofs.Common.{◌≡◌, Result, Ok, Err}
use Rattle.td_files.specs.declared.desks.DeskFault.{DeskFault}
use Rattle.td_jobs.specs.Jobs.{IsUntouched}
use Rattle.td_cli.proofs.LeftAtDesks.{left_parted}
use Rattle.td_cli.proofs.checking.JobContext+M+V+O+R+W+E.check.Goals as goal

pub returns-in-Ok-clause-checked : goal.returns-in-Ok-clause-checked
returns-in-Ok-clause-checked g c =
    let old = c.args.self.now in
    let mid = c.at_desk.new.self in
    let untouched = IsUntouched old.input.now mid.input.now old.out.now mid.out.now old.machine.now mid.machine.now in
    let end : Result (Unit {0}) DeskFault = Ok tt in
    let at = left_parted g.V.Drive.known c.args.office.country old.file.now mid.file.now _ (λ D view opened left end. left ≡ opened)
    untouched untouched (Unit {0}) c.args.records.now end (λ D view opened left end is. is) (λ is. (is, tt)) c.in-Ok.ensures.done in
    let kept = c.print.ensures.kept in (
      (rw kept.0.0 at.0.0, rw kept.0.1 at.0.2, rw kept.0.2 c.at_desk.ensures.other),
      (end, rw kept.1 at.1, rw (at.0.1, c.at_desk.ensures.untold) at c.print.ensures.printed),
    )

pub returns-in-Err-clause-checked : goal.returns-in-Err-clause-checked
returns-in-Err-clause-checked g c =
    let old = c.args.self.now in
    let mid = c.at_desk.new.self in
    let untouched = IsUntouched old.input.now mid.input.now old.out.now mid.out.now old.machine.now mid.machine.now in
    let end : Result (Unit {0}) DeskFault = Err c.in-Err.undone.why in
    let at = left_parted g.V.Drive.known c.args.office.country old.file.now mid.file.now _ (λ D view opened left end. left ≡ opened)
    untouched untouched (Unit {0}) c.args.records.now end (λ D view opened left end is. is) (λ is. (is, tt)) c.in-Err.ensures.done in (
      (at.0.0, at.0.2, c.at_desk.ensures.other),
      (end, at.1, (at.0.1, rw (c.at_desk.ensures.untold, c.of_file.ensures) at c.fault.ensures)),
    )
