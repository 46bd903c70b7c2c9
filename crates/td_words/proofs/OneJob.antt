-- Words ask for at most one job.
use Rattle.std.proofs.Common.{◌≡◌, ◌∙◌, ◌↔◌, ◌+◌, Bool, true, false, ap, refl, sym, subst, ℕ, ℤ, pos, List, Option, None, Some, slice_index, arith}
use Rattle.clap.specs.Words.{Row, Text}
use Rattle.td_words.specs.Laws.{AreSameRecords, IsSameJob, WordsAskForOneJob}
use Rattle.td_words.specs.Words.{AreRecordsBy, ShowsDay, IsDecimal, IsJob, IsListening, ShowsMoment, IsOffice, IsRange, IsReportBy, MayMean, Means, MeansOr}
use Rattle.td_words.specs.declared.words.BatchKind.TheVariants.{Declarations, Acts}
use Rattle.td_words.specs.declared.words.HolderRange.{HolderRange}
use Rattle.td_words.specs.declared.words.Job.{Job}
use Rattle.td_words.specs.declared.words.Job.TheVariants.{AtDesk, Migrate, Transfer}
use Rattle.td_words.specs.declared.words.Listening.{Listening}
use Rattle.td_words.specs.declared.words.Office.{Office}
use Rattle.td_words.specs.declared.words.Records.{Records}
use Rattle.td_words.specs.declared.words.Records.TheVariants.{Memory, File, NewFile}
use Rattle.td_words.specs.declared.words.ReportKind.{ReportKind}
use Rattle.td_words.specs.declared.words.ReportKind.TheVariants.{Overdue, Guarantees}
use Rattle.td_words.specs.declared.words.Task.TheVariants.{Serve, Pipe, Batch, Replay, Report, Check}
use Rattle.td_words.specs.declared.words.Transfer.TheVariants.{Extract, Join}
use Rattle.td_words.proofs.Asked.{same_met}

-- ---- what the value of an option means is one thing, where what a text means is one

module _ {X : Type 0} (Is : Text → X → Type 0) (Same : X → X → Type 0) (once : (text : Text) (x y : X) → Is text x → Is text y → Same x y) where
  means_once : (value : Option Text) (x y : X) → Means Is value x → Means Is value y → Same x y
  means_once None x y is other = absurd is
  means_once (Some text) x y is other = once text x y is other

module _ {X : Type 0} (Is : Text → X → Type 0) (once : (text : Text) (x y : X) → Is text x → Is text y → x ≡ y) where
  may_mean_once : (value : Option Text) (x y : Option X) → MayMean Is value x → MayMean Is value y → x ≡ y
  may_mean_once None x y is other = is ∙ sym other
  may_mean_once (Some text) x y is other = is.2 ∙ ap Some (once text is.0 other.0 is.1 other.1) ∙ sym other.2

  means_or_once : (usual : X) (value : Option Text) (x y : X) → MeansOr usual Is value x → MeansOr usual Is value y → x ≡ y
  means_or_once usual None x y is other = is ∙ sym other
  means_or_once usual (Some text) x y is other = once text x y is other

decimal_once : (least greatest : ℕ) (text : Text) (m n : ℕ) → IsDecimal least greatest text m → IsDecimal least greatest text n → m ≡ n
decimal_once least greatest text m n is other = sym is.value ∙ other.value

moment_once : (text : Text) (a b : ℤ) → ShowsMoment text a → ShowsMoment text b → a ≡ b
moment_once text a b is other = is.2 ∙ ap pos (decimal_once _ _ text is.0 other.0 is.1 other.1) ∙ sym other.2

day_once : (text : Text) (a b : ℕ) → ShowsDay text a → ShowsDay text b → a ≡ b
day_once text a b is other = let same : ◌≡◌ {A = Option ℕ} (Some a) (Some b) = sym is ∙ other in cc

range_once : (text : Text) (a b : HolderRange) → IsRange text a → IsRange text b → (a.first ≡ b.first) × (a.last ≡ b.last)
range_once text a b is other = (day_once_of _ _ _ is.first other.first, day_once_of _ _ _ is.last other.last)
  where
    day_once_of : (read : Option ℕ) (a b : ℕ) → read ≡ Some a → read ≡ Some b → a ≡ b
    day_once_of read a b one two = cc

same_value : (value : Option Text) (a b : Text) → value ≡ Some a → value ≡ Some b → a ≡ b
same_value value a b is other = cc

same_flag : (A : Type 0) (a b : Bool) → (a ≡ true) ↔ A → (b ≡ true) ↔ A → a ≡ b
same_flag A true true is other = refl
same_flag A true false is other = sym (other.1 (is.0 refl))
same_flag A false true is other = is.1 (other.0 refl)
same_flag A false false is other = refl

report_once : (kind day : Option Text) (a b : ReportKind) → IsReportBy kind day a → IsReportBy kind day b → a ≡ b
report_once kind day (Overdue on) (Overdue at) is other =
    let same : ◌≡◌ {A = Option ℕ} (Some on) (Some at) = may_mean_once ShowsDay day_once day (Some on) (Some at) is.1 other.1 in
    let day_is : on ≡ at = cc in
    ap Overdue day_is
report_once kind day Guarantees Guarantees is other = refl
report_once kind day a b is other = absurd cc

records_once : (r s : Records) (db new : Option Text) → AreRecordsBy r db new → AreRecordsBy s db new → AreSameRecords r s
records_once Memory Memory db new is other = tt
records_once (File path) (File there) db new is other = same_value db _ _ is.0 other.0
records_once (NewFile path) (NewFile there) db new is other = same_value db _ _ is.0 other.0
records_once r s db new is other = cc

module _ (rows : List Row) where
  listening_once : (l m : Listening) → IsListening rows l → IsListening rows m
      → (l.port ≡ m.port) × (l.connections ≡ m.connections) × (l.idle ≡ m.idle)
  listening_once l m is other = (
    means_once (IsDecimal 1 65535) (λ m n. m ≡ n) (decimal_once 1 65535) _ l.port m.port is.port other.port,
    means_once (IsDecimal 1 1000000) (λ m n. m ≡ n) (decimal_once 1 1000000) _ l.connections m.connections is.connections other.connections,
    means_or_once (IsDecimal 1 3600) (decimal_once 1 3600) 2 _ l.idle m.idle is.idle other.idle,
  )

  office_once : (o p : Office) → IsOffice rows o → IsOffice rows p → (o.country ≡ p.country) × (o.at ≡ p.at)
  office_once o p is other =
      (same_value _ _ _ is.country.named other.country.named, may_mean_once ShowsMoment moment_once _ o.at p.at is.at other.at)

-- ---- the name tells which job it is, and the options its parts

-- two letters of a text, added up: no two commands have the same
abbrev letters : Text → ℕ
letters text = slice_index text 0 + slice_index text 3

module _ (name : Text) (rows : List Row) where
  abbrev name_of : (job : Job) → IsJob name rows job → (text : Text) × (name ≡ text)
  name_of (AtDesk o (Batch Declarations file db j)) is = (_, is.0.0)
  name_of (AtDesk o (Batch Acts file db j)) is = (_, is.0.0)
  name_of (AtDesk o task) is = (_, is.0.0)
  name_of (Migrate path) is = (_, is.0)
  name_of (Transfer country (Extract holders from into)) is = (_, is.0.0)
  name_of (Transfer country what) is = (_, is.0.0)

  clash : (job other : Job) (is : IsJob name rows job) (same : IsJob name rows other) → letters (name_of job is).0 ≡ letters (name_of other same).0
  clash job other is same = ap letters (sym (name_of job is).1 ∙ (name_of other same).1)

  job_once : (job other : Job) → IsJob name rows job → IsJob name rows other → IsSameJob job other
  job_once (AtDesk o (Serve l r j f)) (AtDesk p (Serve m s k g)) is same =
      let at = listening_once rows l m is.0.1 same.0.1 in
      let office = office_once rows o p is.1 same.1 in
      ((at.0, at.1, at.2, records_once r s _ _ is.0.2 same.0.2, is.0.3 ∙ sym same.0.3, same_flag _ f g is.0.4 same.0.4), office.0, office.1)
  job_once (AtDesk o (Pipe r j)) (AtDesk p (Pipe s k)) is same =
      let office = office_once rows o p is.1 same.1 in
      ((records_once r s _ _ is.0.1 same.0.1, is.0.2 ∙ sym same.0.2), office.0, office.1)
  job_once (AtDesk o (Batch Declarations file db j)) (AtDesk p (Batch Declarations there records k)) is same =
      let office = office_once rows o p is.1 same.1 in
      ((refl, same_value _ _ _ is.0.1 same.0.1, same_value _ _ _ is.0.2 same.0.2, is.0.3 ∙ sym same.0.3), office.0, office.1)
  job_once (AtDesk o (Batch Acts file db j)) (AtDesk p (Batch Acts there records k)) is same =
      let office = office_once rows o p is.1 same.1 in
      ((refl, same_value _ _ _ is.0.1 same.0.1, same_value _ _ _ is.0.2 same.0.2, is.0.3 ∙ sym same.0.3), office.0, office.1)
  job_once (AtDesk o (Replay file part r)) (AtDesk p (Replay there other s)) is same =
      let office = office_once rows o p is.1 same.1 in
      ((same_value _ _ _ is.0.1 same.0.1, same_flag _ _ _ is.0.2 same.0.2, records_once r s _ _ is.0.3 same.0.3), office.0, office.1)
  job_once (AtDesk o (Report report path)) (AtDesk p (Report kind there)) is same =
      let office = office_once rows o p is.1 same.1 in
      ((report_once _ _ report kind is.0.1 same.0.1, same_value _ _ _ is.0.2 same.0.2), office.0, office.1)
  job_once (AtDesk o (Check path)) (AtDesk p (Check there)) is same =
      let office = office_once rows o p is.1 same.1 in
      (same_value _ _ _ is.0.1 same.0.1, office.0, office.1)
  job_once (Migrate path) (Migrate there) is same = same_value _ _ _ is.1 same.1
  job_once (Transfer country (Extract holders from into)) (Transfer other (Extract others there new)) is same =
      let range = means_once IsRange (λ a b. (a.first ≡ b.first) × (a.last ≡ b.last)) range_once _ holders others is.0.1 same.0.1 in
      ((range.0, range.1, same_value _ _ _ is.0.2 same.0.2, same_value _ _ _ is.0.3 same.0.3), same_value _ _ _ is.1.named same.1.named)
  job_once (Transfer country (Join into from)) (Transfer other (Join there others)) is same =
      ((same_value _ _ _ is.0.1 same.0.1, same_value _ _ _ is.0.2 same.0.2), same_value _ _ _ is.1.named same.1.named)
  job_once job (AtDesk p (Batch Declarations file db j)) is same = absurd (omega (arith, clash job (AtDesk p (Batch Declarations file db j)) is same))
  job_once job (AtDesk p (Batch Acts file db j)) is same = absurd (omega (arith, clash job (AtDesk p (Batch Acts file db j)) is same))
  job_once job (Transfer country (Extract holders from into)) is same =
      absurd (omega (arith, clash job (Transfer country (Extract holders from into)) is same))
  job_once job other is same = absurd (omega (arith, clash job other is same))

pub one_job : WordsAskForOneJob
one_job words job other asked same =
    let met = same_met same.name asked.name same.rows asked.rows (sym same.named ∙ asked.named) in
    job_once asked.name asked.rows job other asked.is
    (subst (λ n. IsJob n asked.rows other) met.0 (subst (λ r. IsJob same.name r other) met.1 same.is))
