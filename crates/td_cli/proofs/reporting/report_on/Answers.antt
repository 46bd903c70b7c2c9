use Rattle.std.proofs.Common.{refl}
use Rattle.td_cli.proofs.LeftAtDesks.{err_is}
use Rattle.td_cli.proofs.reporting.report_on.Goals as goal

pub returns : goal.returns
returns g c =
    let report = c.write_report-end in
    let (files, opens, kept) = c.in_ok-desk.ensures.kept in (
      c.in_ok-desk.desk,
      report.new.desk,
      c.keep.ensures.there,
      c.keep.ensures.kept,
      (files, rw c.keep.ensures.drive (rw c.deref.ensures at opens), kept),
      record { looked = report.ensures.looked; written = report.ensures.written; cause = report.ensures.cause; chain = report.ensures.chain },
    )

pub returns-in_err-desk : goal.returns-in_err-desk
returns-in_err-desk g c = rw (err_is c.from_residual.result c.in_err-desk.field-0.0 c.from_residual.ensures.1) (refl, rw c.deref.ensures at c.in_err-desk.ensures.refused)
