-- A report on the records in a file, and what was told of it.
use Rattle.std.specs.Prelude.{◌≡◌, ℕ, List, is_ok, true, Option, None, Some, Result, Ok, Err}
use Rattle.counted_io.specs.declared.counted.Counted.{Counted}
use Rattle.counted_io.specs.Counted.{calls_of, has_failed, HasCalled}
use Rattle.td_model.specs.Content.{Content}
use Rattle.td_desk.specs.View.{DeskView}
use Rattle.td_files.specs.declared.desks.DeskFault.{DeskFault}
use Rattle.td_report_pieces.specs.Written.{HasWritten, IsReported}
use Rattle.td_reports.specs.Texts.{guarantees_text, overdue_text}
use Rattle.td_report_pieces.specs.declared.fault.ReportFault.{ReportFault}
use Rattle.td_report_pieces.specs.declared.fault.ReportFault.TheVariants as report
use Rattle.td_store.specs.Looked.{HasLooked}
use Rattle.td_table_model.specs.Listed.{guarantees_listed, movements_listed}
use Rattle.td_words.specs.declared.words.Records.{Records}
use Rattle.td_words.specs.declared.words.ReportKind.{ReportKind}
use Rattle.td_words.specs.declared.words.ReportKind.TheVariants.{Overdue, Guarantees}
use Rattle.td_cli.specs.AtDesk.{AtDesk}
use Rattle.td_cli.specs.Exits.{IsEnded, of_job, of_report}
use Rattle.td_cli.specs.World.{OpensDeskFileAlone, Lent, World}
use Rattle.td_cli.specs.declared.exits.Cause.{Cause}

-- the text of a report on a content
abbrev pub text_of_report : ReportKind → Content → List ℕ
text_of_report (Overdue day) c = overdue_text day (movements_listed c)
text_of_report Guarantees c = guarantees_text (guarantees_listed c)

-- A desk that is seen so was reported on, and left as it was. What was written is the text of its content, or where a fault ended the
-- report the beginning of that. `Write` comes only of a write of this report, which failed or took nothing and is the last one: whatever
-- was written is a chain of writes.
pub record HasReported {D W : Type 0} (view : DeskView D) (opened left : D) (contents : W → Option (List ℕ))
    (kind : ReportKind) (out out_left : Counted W) (end : Result (Unit {0}) ReportFault) : Type 0 where
  pub looked : HasLooked view (is_ok end) opened left
  pub written : view.is_clean left → view.is_live opened
      → IsReported contents out out_left (text_of_report kind (view.content opened)) end
  pub cause : end ≡ Err report.Write → (has_failed out_left ≡ true) × HasCalled (calls_of out) (calls_of out_left)
  pub chain : HasWritten contents out out_left end

-- the fault that ended a report, if one did
abbrev pub report_cause : Result (Unit {0}) ReportFault → Option Cause
report_cause (Ok done) = None
report_cause (Err why) = Some (of_report why)

module _ (lent : Lent) where
  -- The records that stand there were reported on, of a desk of this country, or nothing was written, since there was no desk; and what
  -- came of it was told.
  abbrev pub IsReportDone : List ℕ → ReportKind → Records → World lent → World lent → ℕ → Type 0
  IsReportDone country kind records old new status =
      OpensDeskFileAlone lent old new
      × ((end : Result (Result (Unit {0}) ReportFault) DeskFault)
      × AtDesk lent.drive country records (λ D view opened left end. HasReported view opened left lent.output kind old.output new.output end)
      (new.output ≡ old.output) old.file new.file end
      × IsEnded lent.errors (of_job report_cause end) old.errors new.errors status)
