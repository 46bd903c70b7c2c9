-- What words ask for is one job.
use Rattle.std.specs.Prelude.{◌≡◌, List, Option, option_map, string_bytes, String, ⊤}
use Rattle.clap.specs.Words.{Text}
use Rattle.td_words.specs.Words.{AsksFor}
use Rattle.td_words.specs.declared.words.Job.{Job}
use Rattle.td_words.specs.declared.words.Job.TheVariants.{AtDesk, Migrate, Transfer}
use Rattle.td_words.specs.declared.words.Records.{Records}
use Rattle.td_words.specs.declared.words.Records.TheVariants.{Memory, File, NewFile}
use Rattle.td_words.specs.declared.words.Task.{Task}
use Rattle.td_words.specs.declared.words.Task.TheVariants.{Serve, Pipe, Batch, Replay, Report, Check}
use Rattle.td_words.specs.declared.words.Transfer as transfer
use Rattle.td_words.specs.declared.words.Transfer.TheVariants.{Extract, Join}

-- the records stand at the same place
abbrev pub AreSameRecords : Records → Records → Type 0
AreSameRecords Memory Memory = ⊤
AreSameRecords (File path) (File other) = string_bytes path ≡ string_bytes other
AreSameRecords (NewFile path) (NewFile other) = string_bytes path ≡ string_bytes other
AreSameRecords _ _ = ⊥

-- the journal is kept in the same file, or none is
abbrev pub IsSameJournal : {A : Type 0} → Option (String A) → Option (String A) → Type 0
IsSameJournal journal other = option_map string_bytes journal ≡ option_map string_bytes other

-- two tasks are the same: the paths of files are compared as texts
abbrev pub IsSameTask : Task → Task → Type 0
IsSameTask (Serve listening records journal first) (Serve other others other_journal other_first) =
    (listening.port ≡ other.port) × (listening.connections ≡ other.connections) × (listening.idle ≡ other.idle)
    × AreSameRecords records others × IsSameJournal journal other_journal × (first ≡ other_first)
IsSameTask (Pipe records journal) (Pipe others other_journal) = AreSameRecords records others × IsSameJournal journal other_journal
IsSameTask (Batch kind file db journal) (Batch other there records other_journal) =
    (kind ≡ other) × (string_bytes file ≡ string_bytes there) × (string_bytes db ≡ string_bytes records) × IsSameJournal journal other_journal
IsSameTask (Replay file part records) (Replay there other others) =
    (string_bytes file ≡ string_bytes there) × (part ≡ other) × AreSameRecords records others
IsSameTask (Report report path) (Report other there) = (report ≡ other) × (string_bytes path ≡ string_bytes there)
IsSameTask (Check path) (Check other) = string_bytes path ≡ string_bytes other
IsSameTask _ _ = ⊥

-- the same is done between two files
abbrev pub IsSameTransfer : transfer.Transfer → transfer.Transfer → Type 0
IsSameTransfer (Extract holders from into) (Extract other there new) =
    (holders.first ≡ other.first) × (holders.last ≡ other.last) × (string_bytes from ≡ string_bytes there) × (string_bytes into ≡ string_bytes new)
IsSameTransfer (Join into from) (Join there others) = (string_bytes into ≡ string_bytes there) × (string_bytes from ≡ string_bytes others)
IsSameTransfer _ _ = ⊥

-- two jobs are the same: the same task, in the same country, at the same moment; or of the same file; or between the same files
abbrev pub IsSameJob : Job → Job → Type 0
IsSameJob (AtDesk office task) (AtDesk other other_task) =
    IsSameTask task other_task × (office.country ≡ other.country) × (office.at ≡ other.at)
IsSameJob (Migrate path) (Migrate other) = string_bytes path ≡ string_bytes other
IsSameJob (Transfer country what) (Transfer other others) = IsSameTransfer what others × (country ≡ other)
IsSameJob _ _ = ⊥

-- words that ask for two jobs ask for one
abbrev pub WordsAskForOneJob : Type 0
WordsAskForOneJob = (words : List Text) (job other : Job) → AsksFor words job → AsksFor words other → IsSameJob job other
