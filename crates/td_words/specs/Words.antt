-- What the words of the command line ask for.
use Rattle.std.specs.Prelude.{◌≡◌, ◌≢◌, ◌⊎◌, ◌↔◌, ℕ, Bool, ◌≤◌, ℤ, pos, List, [], ◌∷◌, ◌++◌, length, All, codes, drop, fold, slice_get, take, true, string_bytes, String, Option, None, Some, option_map, ⊤}
use Rattle.std.specs.Char.{IsAsciiDigit}
use Rattle.ascii_text.specs.Digits.{digits_value}
use Rattle.clap.specs.Simple.{new_shape}
use Rattle.clap.specs.Words.{App, IsAmong, Row, Rule, Shape, Text, fault_of, first_of, new_app, new_rule, subcommand_of, with_subcommand}
use Rattle.clap.specs.declared.builder.ArgAction.TheVariants.{Set, SetTrue}
use Rattle.clap.specs.declared.error.kind.ErrorKind.{ErrorKind}
use Rattle.clap.specs.declared.error.kind.ErrorKind.TheVariants.{DisplayHelp, DisplayVersion, OutOfMemory}
use Rattle.td_base.specs.Codes.{IsCountry, holder_read}
use Rattle.td_base.specs.Days.{day_read}
use Rattle.td_words.specs.declared.words.BatchKind.{BatchKind}
use Rattle.td_words.specs.declared.words.BatchKind.TheVariants.{Declarations, Acts}
use Rattle.td_words.specs.declared.words.HolderRange.{HolderRange}
use Rattle.td_words.specs.declared.words.Job.{Job}
use Rattle.td_words.specs.declared.words.Job.TheVariants.{AtDesk, Migrate, Transfer}
use Rattle.td_words.specs.declared.words.Listening.{Listening}
use Rattle.td_words.specs.declared.words.NoJob.{NoJob}
use Rattle.td_words.specs.declared.words.NoJob.TheVariants.{Help, Wrong, NoMemory}
use Rattle.td_words.specs.declared.words.Office.{Office}
use Rattle.td_words.specs.declared.words.Records.{Records}
use Rattle.td_words.specs.declared.words.Records.TheVariants.{Memory, File, NewFile}
use Rattle.td_words.specs.declared.words.ReportKind.{ReportKind}
use Rattle.td_words.specs.declared.words.ReportKind.TheVariants.{Overdue, Guarantees}
use Rattle.td_words.specs.declared.words.Task.{Task}
use Rattle.td_words.specs.declared.words.Task.TheVariants.{Serve, Pipe, Batch, Replay, Report, Check}
use Rattle.td_words.specs.declared.words.Transfer as transfer
use Rattle.td_words.specs.declared.words.Transfer.TheVariants.{Extract, Join}

-- how clap takes an option: one with a value behind its name, which may be left out or is needed; a value alone, which is
-- needed; and a flag, which has no value
abbrev pub named : Text → Rule
named name = record (new_rule name) { long = Some name; action = Some Set; value_names = 1 }

abbrev pub needed : Text → Rule
needed name = record (named name) { required = true }

abbrev pub word : Text → Rule
word name = record (new_rule name) { action = Some Set; value_names = 1; required = true }

abbrev pub flag : Text → Rule
flag name = record (new_rule name) { long = Some name; action = Some SetTrue }

-- a command of this name with these options
abbrev pub command : Text → List Rule → Shape
command name options = record (new_shape name) { rules = options }

-- the options that the jobs with requests begin with, and those of the jobs with the rows of a file
abbrev pub serving : List Rule
serving = needed (codes "country") ∷ named (codes "db") ∷ flag (codes "new") ∷ named (codes "at") ∷ named (codes "journal") ∷ []

abbrev pub in_rows : List Rule
in_rows = needed (codes "country") ∷ needed (codes "db") ∷ needed (codes "file") ∷ named (codes "at") ∷ named (codes "journal") ∷ []

-- the commands of the program, each with its options
abbrev pub commands : List Shape
commands =
    command (codes "serve")
    (serving ++ needed (codes "port") ∷ needed (codes "connections") ∷ named (codes "idle") ∷ flag (codes "first") ∷ [])
    ∷ command (codes "pipe") serving
    ∷ command (codes "batch") in_rows
    ∷ command (codes "acts") in_rows
    ∷ command (codes "replay")
    (needed (codes "country") ∷ named (codes "db") ∷ flag (codes "new") ∷ needed (codes "file") ∷ flag (codes "part") ∷ [])
    ∷ command (codes "report") (needed (codes "country") ∷ word (codes "kind") ∷ needed (codes "db") ∷ named (codes "day") ∷ [])
    ∷ command (codes "check") (needed (codes "country") ∷ needed (codes "db") ∷ [])
    ∷ command (codes "migrate") (needed (codes "db") ∷ [])
    ∷ command (codes "extract")
    (needed (codes "country") ∷ needed (codes "db") ∷ needed (codes "holders") ∷ needed (codes "into") ∷ [])
    ∷ command (codes "join") (needed (codes "country") ∷ needed (codes "db") ∷ needed (codes "with") ∷ [])
    ∷ []

-- the program, which has a version and wants one of its commands: before they are added, and with them
abbrev pub bare_app : App
bare_app =
    record (new_app (codes "transit-desk")) {
      top = record (new_shape (codes "transit-desk")) { subcommand_required = true; has_version = true };
    }

abbrev pub program_app : App
program_app = fold with_subcommand bare_app commands

-- A text of decimal digits, one or more and nothing else, that shows this number, and it is from the least to the greatest
-- that there may be. So a sign, a blank, and no digit at all are no number.
pub record IsDecimal (least greatest : ℕ) (text : Text) (n : ℕ) : Type 0 where
  pub some : 1 ≤ length text
  pub digits : All IsAsciiDigit text
  pub value : digits_value text ≡ n
  pub low : least ≤ n
  pub high : n ≤ greatest

-- What the value of an option means, by what the text of one means: an option that isn't there means nothing, or means
-- that there is none, or means this in its place.
abbrev pub Means : {X : Type 0} → (Text → X → Type 0) → Option Text → X → Type 0
Means Is None x = ⊥
Means Is (Some text) x = Is text x

abbrev pub MayMean : {X : Type 0} → (Text → X → Type 0) → Option Text → Option X → Type 0
MayMean Is None x = x ≡ None
MayMean {X} Is (Some text) x = (there : X) × Is text there × (x ≡ Some there)

abbrev pub MeansOr : {X : Type 0} → X → (Text → X → Type 0) → Option Text → X → Type 0
MeansOr usual Is None x = x ≡ usual
MeansOr usual Is (Some text) x = Is text x

-- the option of this name has this path for its value
abbrev pub IsPath : {A : Type 0} → Text → List Row → String A → Type 0
IsPath name rows path = first_of name rows ≡ Some (string_bytes path)

-- the path of the journal, if one is kept
abbrev pub IsJournalPath : {A : Type 0} → List Row → Option (String A) → Type 0
IsJournalPath rows journal = option_map string_bytes journal ≡ first_of (codes "journal") rows

-- The flag of this name is there or not, by its first value: clap gives it "true" where it is there, and "false" where it isn't.
abbrev pub IsFlag : Text → List Row → Bool → Type 0
IsFlag name rows there = (there ≡ true) ↔ (first_of name rows ≡ Some (codes "true"))

-- where the records stand, by `--db` and by the flag `--new`; so `--new` with no `--db` says nothing
abbrev pub AreRecordsBy : Records → Option Text → Option Text → Type 0
AreRecordsBy Memory db new = (db ≡ None) × (new ≡ Some (codes "false"))
AreRecordsBy (File path) db new = (db ≡ Some (string_bytes path)) × (new ≡ Some (codes "false"))
AreRecordsBy (NewFile path) db new = (db ≡ Some (string_bytes path)) × (new ≡ Some (codes "true"))

abbrev pub AreRecords : List Row → Records → Type 0
AreRecords rows records = AreRecordsBy records (first_of (codes "db") rows) (first_of (codes "new") rows)

-- the port that is listened on, how many connections are served, and the most seconds that a read of one waits: 2 if none are given
pub record IsListening (rows : List Row) (listening : Listening) : Type 0 where
  pub port : Means (IsDecimal 1 65535) (first_of (codes "port") rows) listening.port
  pub connections : Means (IsDecimal 1 1000000) (first_of (codes "connections") rows) listening.connections
  pub idle : MeansOr 2 (IsDecimal 1 3600) (first_of (codes "idle") rows) listening.idle

-- a text that shows a day, as 2025-03-01
abbrev pub ShowsDay : Text → ℕ → Type 0
ShowsDay text day = day_read text ≡ Some day

-- Which report: of what is overdue on a day, or of guarantees. There a day may be given and has no meaning, but it is a day.
abbrev pub IsReportBy : Option Text → Option Text → ReportKind → Type 0
IsReportBy kind day (Overdue on) = (kind ≡ Some (codes "overdue")) × MayMean ShowsDay day (Some on)
IsReportBy kind day Guarantees = (kind ≡ Some (codes "guarantees")) × ((any : Option ℕ) × MayMean ShowsDay day any)

abbrev pub IsReport : List Row → ReportKind → Type 0
IsReport rows report = IsReportBy (first_of (codes "kind") rows) (first_of (codes "day") rows) report

-- A text that shows a range of holders: two numbers, each in six digits, with a hyphen between them. The first isn't above the last.
pub record IsRange (text : Text) (range : HolderRange) : Type 0 where
  pub size : length text ≡ 13
  pub first : holder_read (take 6 text) ≡ Some range.first
  pub hyphen : slice_get text 6 ≡ Some 45
  pub last : holder_read (drop 7 text) ≡ Some range.last
  pub order : range.first ≤ range.last

-- What is done between two files, by this name: the holders whose rows are copied, the file with them and the new one; or the file that
-- rows are put into, and the one that has them.
abbrev pub IsTransfer : Text → List Row → transfer.Transfer → Type 0
IsTransfer name rows (Extract holders from into) =
    (name ≡ codes "extract") × Means IsRange (first_of (codes "holders") rows) holders
    × IsPath (codes "db") rows from × IsPath (codes "into") rows into
IsTransfer name rows (Join into from) =
    (name ≡ codes "join") × IsPath (codes "db") rows into × IsPath (codes "with") rows from

abbrev pub batch_name : BatchKind → Text
batch_name Declarations = codes "batch"
batch_name Acts = codes "acts"

-- the task of this name, with the values of its own options
abbrev pub IsTask : Text → List Row → Task → Type 0
IsTask name rows (Serve listening records journal first) =
    (name ≡ codes "serve") × IsListening rows listening × AreRecords rows records × IsJournalPath rows journal
    × IsFlag (codes "first") rows first
IsTask name rows (Pipe records journal) = (name ≡ codes "pipe") × AreRecords rows records × IsJournalPath rows journal
IsTask name rows (Batch kind file db journal) =
    (name ≡ batch_name kind) × IsPath (codes "file") rows file × IsPath (codes "db") rows db × IsJournalPath rows journal
IsTask name rows (Replay file part records) =
    (name ≡ codes "replay") × IsPath (codes "file") rows file × IsFlag (codes "part") rows part × AreRecords rows records
IsTask name rows (Report report path) = (name ≡ codes "report") × IsReport rows report × IsPath (codes "db") rows path
IsTask name rows (Check path) = (name ≡ codes "check") × IsPath (codes "db") rows path

-- the country of the office, two capital letters
pub record IsCountryIn (rows : List Row) (country : List ℕ) : Type 0 where
  pub named : first_of (codes "country") rows ≡ Some country
  pub form : IsCountry country

-- a text that shows a moment, from 0 to the greatest number of an `i64`
abbrev pub ShowsMoment : Text → ℤ → Type 0
ShowsMoment text at = (n : ℕ) × IsDecimal 0 9223372036854775807 text n × (at ≡ pos n)

-- the office of a desk: a country, and perhaps a moment
pub record IsOffice (rows : List Row) (office : Office) : Type 0 where
  pub country : IsCountryIn rows office.country
  pub at : MayMean ShowsMoment (first_of (codes "at") rows) office.at

-- A command of this name with these options is this job: a task at a desk of an office, `migrate` of a file, or what is done between two
-- files of a country's office.
abbrev pub IsJob : Text → List Row → Job → Type 0
IsJob name rows (AtDesk office task) = IsTask name rows task × IsOffice rows office
IsJob name rows (Migrate path) = (name ≡ codes "migrate") × IsPath (codes "db") rows path
IsJob name rows (Transfer country what) = IsTransfer name rows what × IsCountryIn rows country

-- Words that clap takes: its own definitions find no fault in them. So each option is one of the command's, is there at
-- most once and has its value, and what is required is there. The first word is the program's name.
abbrev pub AreTaken : List Text → Type 0
AreTaken words = fault_of program_app words ≡ []

-- The words ask for the job: clap takes them, and what they name, by its own definitions, is this job.
pub record AsksFor (words : List Text) (job : Job) : Type 0 where
  pub taken : AreTaken words
  pub name : Text
  pub rows : List Row
  pub named : subcommand_of program_app words ≡ Some (name, rows)
  pub is : IsJob name rows job

-- the words ask for no job at all
abbrev pub AskForNone : List Text → Type 0
AskForNone words = (job : Job) → AsksFor words job → ⊥

-- the first that clap finds in the words is a call for help or for the version; and it can be nothing else
abbrev pub AskForHelp : List Text → Type 0
AskForHelp words =
    IsAmong DisplayHelp (fault_of program_app words) ⊎ IsAmong DisplayVersion (fault_of program_app words)

abbrev pub AskForHelpAlone : List Text → Type 0
AskForHelpAlone words =
    (fault_of program_app words ≡ DisplayHelp ∷ []) ⊎ (fault_of program_app words ≡ DisplayVersion ∷ [])

-- Why words were given no job. Help and the version are told where they are asked for, and clap takes no such words.
-- Words that are told to be wrong ask for no job, and not for help alone.
abbrev pub IsNoJob : List Text → NoJob → Type 0
IsNoJob words (Help text) = AskForHelp words
IsNoJob words (Wrong text) = AskForNone words × ¬ (AskForHelpAlone words)
IsNoJob words NoMemory = ⊤

-- Why the options gave no such value: there was no memory, or it is told what was wrong, and then they have none.
abbrev pub IsNoneSuch : {X : Type 0} → (X → Type 0) → NoJob → Type 0
IsNoneSuch {X} Is (Help text) = ⊥
IsNoneSuch {X} Is (Wrong text) = (x : X) → Is x → ⊥
IsNoneSuch {X} Is NoMemory = ⊤

-- The words behind the program's name begin with `help --help` or `help -h`, whose option is no command to clap.
abbrev pub AskForHelpOfHelp : List Text → Type 0
AskForHelpOfHelp words =
    (slice_get words 1 ≡ Some (codes "help"))
    × ((slice_get words 2 ≡ Some (codes "--help")) ⊎ (slice_get words 2 ≡ Some (codes "-h")))

-- What is told where clap found no job: help or the version for an error of that kind, or help of the command `help`.
abbrev pub IsTold : ErrorKind → List Text → NoJob → Type 0
IsTold kind words (Help text) = (kind ≡ DisplayHelp) ⊎ (kind ≡ DisplayVersion) ⊎ AskForHelpOfHelp words
IsTold kind words (Wrong text) = (kind ≢ DisplayHelp) × (kind ≢ DisplayVersion) × (kind ≢ OutOfMemory)
IsTold kind words NoMemory = ⊤
