-- How the program ends: the table of its causes, each with its line on standard error, and the status.
use Rattle.std.specs.Prelude.{◌≡◌, ◌⊎◌, ℕ, List, ◌++◌, codes, Option, Some, None, Result, Ok, Err}
use Rattle.std.specs.Fmt.{decimal}
use Rattle.std.specs.Io.KnownBytes.{Appends}
use Rattle.counted_io.specs.declared.counted.Counted.{Counted}
use Rattle.counted_io.specs.Counted.{known_bytes}
use Rattle.counted_io.specs.Chains.{IsCutShort}
use Rattle.http_wire.specs.declared.stream.StreamEnd.{StreamEnd}
use Rattle.http_wire.specs.declared.stream.StreamEnd.TheVariants as stream
use Rattle.td_desk.specs.declared.fault.Fault.{Fault}
use Rattle.td_desk.specs.declared.fault.Fault.TheVariants as stop
use Rattle.td_base.specs.Codes.{holder_text}
use Rattle.td_batch_rows.specs.declared.fault.BatchFault.TheVariants as rows
use Rattle.td_report_pieces.specs.declared.fault.ReportFault.{ReportFault}
use Rattle.td_report_pieces.specs.declared.fault.ReportFault.TheVariants as report
use Rattle.td_files.specs.Faults as refused
use Rattle.td_files.specs.declared.desks.DeskFault.{DeskFault}
use Rattle.td_files.specs.declared.desks.DeskFault.TheVariants as desk
use Rattle.td_files.specs.declared.joins.JoinRefusal.{JoinRefusal}
use Rattle.td_files.specs.declared.joins.JoinRefusal.TheVariants as join
use Rattle.td_journal_rows.specs.declared.rows.JournalFault.{JournalFault}
use Rattle.td_journal_rows.specs.declared.rows.JournalFault.TheVariants as journal
use Rattle.td_journal_start.specs.declared.refused.StartFault.{StartFault}
use Rattle.td_journal_start.specs.declared.refused.StartFault.TheVariants as start
use Rattle.td_replay.specs.declared.following.FollowFault.{FollowFault}
use Rattle.td_replay.specs.declared.following.FollowFault.TheVariants as follow
use Rattle.td_machine.specs.declared.machine.ReadError.{ReadError}
use Rattle.td_machine.specs.declared.machine.ReadError.TheVariants as read_error
use Rattle.td_jobs.specs.declared.rows.RowsFault.{RowsFault}
use Rattle.td_jobs.specs.declared.rows.RowsFault.TheVariants as no_rows
use Rattle.td_jobs.specs.declared.serving.ServingEnd.{ServingEnd}
use Rattle.td_jobs.specs.declared.serving.ServingEnd.TheVariants as serving
use Rattle.td_cli.specs.declared.exits.Cause.{Cause}
use Rattle.td_cli.specs.declared.exits.Cause.TheVariants.{BadCsv, BadRow, Differs, ForeignRow, HolderExists, NeedsMigration, Of, RowsRefused}
use Rattle.td_cli.specs.declared.exits.Word.{Word}
use Rattle.td_cli.specs.declared.exits.Word.TheVariants.{File, UnknownVersion, OtherCountry, Damaged, Journal, Store, NoMemory, Write, Socket, StreamRefused, StreamCut, ReadsSpent, ReadFault, WriteFault, StreamFailed}

-- the words of the causes whose lines are fixed
abbrev pub word_text : Word → List ℕ
word_text File = codes "file"
word_text UnknownVersion = codes "unknown-version"
word_text OtherCountry = codes "other-country"
word_text (Damaged rule) = codes "damaged " ++ refused.rule_name rule
word_text Journal = codes "journal"
word_text Store = codes "store"
word_text NoMemory = codes "no-memory"
word_text Write = codes "write"
word_text Socket = codes "socket"
word_text StreamRefused = codes "stream refused"
word_text StreamCut = codes "stream cut"
word_text ReadsSpent = codes "stream reads-spent"
word_text ReadFault = codes "stream read-fault"
word_text WriteFault = codes "stream write-fault"
word_text StreamFailed = codes "stream failed"

abbrev pub word_line : Word → List ℕ
word_line word = codes "transit-desk: " ++ (word_text word ++ codes "\n")

-- the line of a cause; a refused row has none, since the result file tells of it
abbrev pub cause_line : Cause → List ℕ
cause_line (BadCsv row column) = codes "transit-desk: bad csv row " ++ (decimal row ++ (codes " column " ++ (decimal column ++ codes "\n")))
cause_line (NeedsMigration version) = codes "transit-desk: needs-migration " ++ (decimal version ++ codes "\n")
cause_line (HolderExists holder) = codes "transit-desk: holder-exists " ++ (holder_text holder ++ codes "\n")
cause_line (ForeignRow row) = codes "transit-desk: journal " ++ (decimal row ++ codes "\n")
cause_line (BadRow row) = codes "transit-desk: bad journal row " ++ (decimal row ++ codes "\n")
cause_line (Differs row) = codes "transit-desk: differs " ++ (decimal row ++ codes "\n")
cause_line RowsRefused = codes ""
cause_line (Of word) = word_line word

-- the text was written, or as much of it as the writer took
abbrev pub IsWrittenOut : {W : Type 0} → (W → Option (List ℕ)) → Counted W → Counted W → List ℕ → Type 0
IsWrittenOut contents old new text =
    Appends (known_bytes contents old) (known_bytes contents new) text ⊎ IsCutShort contents old new text

-- The line of a cause was told, if it has one. In the place of one that has numbers it may be told that there was no memory for it.
abbrev pub IsCauseTold : {E : Type 0} → (E → Option (List ℕ)) → Counted E → Counted E → Cause → Type 0
IsCauseTold said errors errors_left RowsRefused = errors_left ≡ errors
IsCauseTold said errors errors_left (Of word) = IsWrittenOut said errors errors_left (word_line word)
IsCauseTold said errors errors_left cause =
    IsWrittenOut said errors errors_left (cause_line cause) ⊎ IsWrittenOut said errors errors_left (word_line NoMemory)

-- A job ended well, with status 0 and no line; or by a cause, with status 1 and the cause's line.
abbrev pub IsEnded : {E : Type 0} → (E → Option (List ℕ)) → Option Cause → Counted E → Counted E → ℕ → Type 0
IsEnded said None errors errors_left status = (status ≡ 0) × (errors_left ≡ errors)
IsEnded said (Some cause) errors errors_left status = (status ≡ 1) × IsCauseTold said errors errors_left cause

-- the cause of each fault: why there was no desk over a file
abbrev pub of_file : DeskFault → Cause
of_file desk.File = Of File
of_file (desk.Refused refused.UnknownVersion) = Of UnknownVersion
of_file (desk.Refused (refused.NeedsMigration version)) = NeedsMigration version
of_file (desk.Refused refused.OtherCountry) = Of OtherCountry
of_file (desk.Refused (refused.Damaged rule)) = Of (Damaged rule)
of_file (desk.Refused refused.Store) = Of Store
of_file (desk.Refused refused.NoMemory) = Of NoMemory
of_file desk.BadJournal = Of Journal
of_file (desk.ForeignRow row) = ForeignRow row

-- why the lines of a journal weren't read as rows
abbrev pub of_journal : JournalFault → Cause
of_journal (journal.BadRow row) = BadRow row
of_journal journal.NoMemory = Of NoMemory

-- why a journal wasn't begun
abbrev pub of_start : StartFault → DeskFault
of_start start.BadJournal = desk.BadJournal
of_start (start.ForeignRow row) = desk.ForeignRow row
of_start start.NoMemory = desk.Refused refused.NoMemory
of_start start.Store = desk.Refused refused.Store

-- why a stream ended otherwise than at the end of the input, by a request to close, or after its last request
abbrev pub of_stream : StreamEnd → Option Cause
of_stream stream.Closed = None
of_stream stream.Asked = None
of_stream stream.Served = None
of_stream stream.Refused = Some (Of StreamRefused)
of_stream stream.Cut = Some (Of StreamCut)
of_stream stream.ReadsSpent = Some (Of ReadsSpent)
of_stream stream.ReadFault = Some (Of ReadFault)
of_stream stream.WriteFault = Some (Of WriteFault)
of_stream stream.Failed = Some (Of StreamFailed)

-- why not all connections were served, or that couldn't be printed
abbrev pub of_serving : ServingEnd → Option Cause
of_serving serving.Done = None
of_serving serving.NoMemory = Some (Of NoMemory)
of_serving serving.Socket = Some (Of Socket)
of_serving serving.Write = Some (Of Write)

-- why a journal that came by the input wasn't followed to its end, and how a standby desk ended otherwise than well
abbrev pub of_follow : FollowFault → Cause
of_follow (follow.BadRow row) = BadRow row
of_follow (follow.Misplaced row) = ForeignRow row
of_follow (follow.Differs row) = Differs row
of_follow follow.Unread = Of ReadFault
of_follow (follow.Failed stop.NoMemory) = Of NoMemory
of_follow (follow.Failed stop.Store) = Of Store

abbrev pub of_standby : Result ServingEnd FollowFault → Option Cause
of_standby (Ok end) = of_serving end
of_standby (Err why) = Some (of_follow why)

-- why a file of the machine wasn't read, why there are no rows of one, and why a batch stopped at a row
abbrev pub of_read_error : ReadError → Cause
of_read_error read_error.File = Of File
of_read_error read_error.NoMemory = Of NoMemory

abbrev pub of_rows : RowsFault → Cause
of_rows (no_rows.File why) = of_read_error why
of_rows (no_rows.Bytes (rows.BadCsv row column)) = BadCsv row column
of_rows (no_rows.Bytes rows.NoMemory) = Of NoMemory

abbrev pub of_stop : Fault → Cause
of_stop stop.NoMemory = Of NoMemory
of_stop stop.Store = Of Store

-- why a report isn't whole
abbrev pub of_report : ReportFault → Cause
of_report report.Write = Of Write
of_report report.Store = Of Store
of_report report.NoMemory = Of NoMemory

-- an extract that was made has no cause
abbrev pub of_extract : Unit {0} → Option Cause
of_extract done = None

-- why no rows were put into a file
abbrev pub of_join : JoinRefusal → Cause
of_join (join.File why) = of_file why
of_join (join.HolderExists holder) = HolderExists holder

abbrev pub of_joined : Result (Unit {0}) JoinRefusal → Option Cause
of_joined (Ok done) = None
of_joined (Err why) = Some (of_join why)

-- the cause by which a job at a desk ended, or for which there was no desk
abbrev pub of_job : {End : Type 0} → (End → Option Cause) → Result End DeskFault → Option Cause
of_job of (Ok end) = of end
of_job of (Err why) = Some (of_file why)
