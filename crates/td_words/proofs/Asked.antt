-- What clap met in the words, and what the words don't ask for.
use Rattle.std.proofs.Common.{◌≡◌, ◌≢◌, ◌∙◌, ◌⊎◌, ap, sym, subst, refl, ℕ, inl, inr, ⊎_elim, List, [], ◌∷◌, Option, None, Some, option_map, codes, slice_get, slice_index, arith, true, Result, Ok, Err, IfErr, IfOk, IsErrAnd}
use Rattle.clap.specs.Faults.{is_simple_and_free, walk_fault}
use Rattle.clap.specs.Kinds.{HasKind, Kinds}
use Rattle.clap.specs.Words.{App, IsAmong, Row, Text, fault_of, first_of, subcommand_name_of, subcommand_of, subcommand_rows_of}
use Rattle.clap.specs.declared.ArgMatches.{ArgMatches}
use Rattle.clap.specs.declared.error.Error.{Error}
use Rattle.clap.specs.declared.error.kind.ErrorKind.{ErrorKind}
use Rattle.clap.specs.declared.error.kind.ErrorKind.TheVariants.{DisplayHelp, DisplayVersion, OutOfMemory}
use Rattle.td_words.specs.declared.words.HolderRange.{HolderRange}
use Rattle.td_words.specs.declared.words.Job.{Job}
use Rattle.td_words.specs.declared.words.NoJob.{NoJob}
use Rattle.td_words.specs.declared.words.NoJob.TheVariants.{Help, Wrong, NoMemory}
use Rattle.td_words.specs.declared.words.ReportKind.{ReportKind}
use Rattle.td_words.specs.declared.words.ReportKind.TheVariants.{Overdue, Guarantees}
use Rattle.td_words.specs.declared.words.Transfer as transfer
use Rattle.td_words.specs.declared.words.Transfer.TheVariants.{Extract, Join}
use Rattle.td_words.specs.Words.{AreTaken, AskForNone, AsksFor, ShowsDay, IsJob, IsNoJob, IsNoneSuch, IsRange, IsReportBy, IsTold, IsTransfer, MayMean, Means, program_app}

pub is_simple_program : is_simple_and_free program_app ≡ true
is_simple_program = refl

-- what clap says of a command that is this program is said of the program
module _ (a : App) (words : List Text) (is : a ≡ program_app) where
  pub taken_by : (is_simple_and_free a ≡ true → fault_of a words ≡ []) → AreTaken words
  taken_by takes = subst (λ x. fault_of x words ≡ []) is (takes (ap is_simple_and_free is ∙ is_simple_program))

  pub fails_by : (e : Error) → (is_simple_and_free a ≡ true → HasKind (fault_of a words) e) → HasKind (fault_of program_app words) e
  fails_by e fails = subst (λ x. HasKind (fault_of x words) e) is (fails (ap is_simple_and_free is ∙ is_simple_program))

-- ---- what no option has

module _ {X Y : Type 0} (P : X → Type 0) (Q : Y → Type 0) (part : (y : Y) → Q y → (x : X) × P x) where
  -- where there is no such part, there is no such whole
  none_of : (e : NoJob) → IsNoneSuch P e → IsNoneSuch Q e
  none_of (Help text) none = none
  none_of (Wrong text) none = λ y q. none (part y q).0 (part y q).1
  none_of NoMemory none = tt

  -- and what `?` hands up for the part is said of the whole
  pub none_up : {T : Type 0} (r : Result T NoJob) (e : NoJob) → IsErrAnd r (λ y. y ≡ e) → IsNoneSuch P e → IfErr r (IsNoneSuch Q)
  none_up (Ok x) e is none = absurd is
  none_up (Err y) e is none = subst (IsNoneSuch Q) (sym is) (none_of e none)

-- a report has a day, or may have
pub day_of_report : (kind day : Option Text) (report : ReportKind) → IsReportBy kind day report → (on : Option ℕ) × MayMean ShowsDay day on
day_of_report kind day (Overdue on) is = (Some on, is.1)
day_of_report kind day Guarantees is = is.1

-- an extract has a range of holders
pub range_of_extract : (name : Text) (rows : List Row) → name ≡ codes "extract" → (what : transfer.Transfer)
    → IsTransfer name rows what
    → (holders : HolderRange) × Means IsRange (first_of (codes "holders") rows) holders
range_of_extract name rows named (Extract holders from into) is = (holders, is.1)
range_of_extract name rows named (Join into from) is =
    absurd (let same : slice_index (codes "extract") 0 ≡ slice_index (codes "join") 0 = ap (λ t. slice_index t 0) (sym named ∙ is.0) in omega (arith, same))

-- ---- words that clap takes

pair_of : {B : Type 0} (f : B → Text × List Row) (o : Option B) (name : Text) (rows : List Row) → Some name ≡ option_map (λ b. (f b).0) o
    → Some rows ≡ option_map (λ p. p.1) (option_map f o) → option_map f o ≡ Some (name, rows)
pair_of f None name rows named met = cc
pair_of f (Some b) name rows named met =
    let name_is : name ≡ (f b).0 = cc in
    let rows_are : rows ≡ (f b).1 = cc in
    rw (name_is, rows_are) refl

-- the subcommand that was met, by its name and its rows
pub met_as : (m : ArgMatches) (name : Text) (rows : List Row) → Some name ≡ subcommand_name_of m → Some rows ≡ option_map (λ p. p.1) (subcommand_rows_of m)
    → subcommand_rows_of m ≡ Some (name, rows)
met_as m name rows named met = pair_of _ _ name rows named met

pub same_met : (a b : Text) (x y : List Row) → ◌≡◌ {A = Option (Text × List Row)} (Some (a, x)) (Some (b, y)) → (a ≡ b) × (x ≡ y)
same_met a b x y is =
    let met : ◌≡◌ {A = Text × List Row} (a, x) (b, y) = cc in
    (ap (λ p. p.0) met, ap (λ p. p.1) met)

no_fault : (faults : Kinds) (k : ErrorKind) → faults ≡ [] → faults ≡ k ∷ [] → ⊥
no_fault faults k none one = cc

module _ (words : List Text) (name : Text) (rows : List Row) (taken : AreTaken words) (named : subcommand_of program_app words ≡ Some (name, rows)) where
  -- the job of the subcommand is what the words ask for
  pub asks_if : {E : Type 0} (r : Result Job E) → IfOk r (IsJob name rows) → IfOk r (AsksFor words)
  asks_if (Ok job) is = record { taken = taken; name = name; rows = rows; named = named; is = is }
  asks_if (Err e) is = tt

  -- and where it is no job, they ask for none
  pub asks_none : {T : Type 0} (r : Result T NoJob) → IfErr r (IsNoneSuch (IsJob name rows)) → IfErr r (IsNoJob words)
  asks_none (Ok x) none = tt
  asks_none (Err (Help text)) none = absurd none
  asks_none (Err NoMemory) none = tt
  asks_none (Err (Wrong text)) none = (
    λ job asked.
        let same = same_met asked.name name asked.rows rows (sym asked.named ∙ named) in
        none job (subst (λ n. IsJob n rows job) same.0 (subst (λ r. IsJob asked.name r job) same.1 asked.is)),
    ⊎_elim (no_fault _ DisplayHelp taken) (no_fault _ DisplayVersion taken),
  )

-- ---- words that clap doesn't take

-- behind `help` clap tells help, or that there is no such command
help_asked : (words : List Text) → slice_get words 1 ≡ Some (codes "help") → IsAmong DisplayHelp (fault_of program_app words)
unfolding walk_fault
help_asked [] is = absurd (no_second is)
  where
    no_second : slice_get [] 1 ≡ Some (codes "help") → ⊥
    no_second bad = cc
help_asked (name ∷ []) is = absurd (no_second is)
  where
    no_second : slice_get (name ∷ []) 1 ≡ Some (codes "help") → ⊥
    no_second bad = cc
help_asked (name ∷ word ∷ rest) is =
    subst (λ w. IsAmong DisplayHelp (fault_of program_app (name ∷ w ∷ rest))) (sym (second is)) (inl refl)
  where
    second : slice_get (name ∷ word ∷ rest) 1 ≡ Some (codes "help") → word ≡ codes "help"
    second same = cc

module _ (words : List Text) (kind : ErrorKind) (fails : (kind ≡ OutOfMemory) ⊎ IsAmong kind (fault_of program_app words)) where
  among : kind ≢ OutOfMemory → IsAmong kind (fault_of program_app words)
  among other = ⊎_elim (λ is. absurd (other is)) (λ is. is) fails

  -- a kind that is found in the words is no want of memory
  found : (k : ErrorKind) → kind ≡ k → k ≢ OutOfMemory → IsAmong k (fault_of program_app words)
  found k is other = subst (λ x. IsAmong x (fault_of program_app words)) is (among (λ e. other (sym is ∙ e)))

  not_taken : kind ≢ OutOfMemory → AskForNone words
  not_taken other job asked = subst (IsAmong kind) asked.taken (among other)

  not_alone : kind ≢ OutOfMemory → (k : ErrorKind) → kind ≢ k → fault_of program_app words ≡ k ∷ [] → ⊥
  not_alone other k differ alone = ⊎_elim differ (λ none. none) (subst (IsAmong kind) alone (among other))

  -- what is told for the kind that clap gave
  pub told : (e : NoJob) → IsTold kind words e → IsNoJob words e
  told (Help text) is = ⊎_elim (λ help. inl (found DisplayHelp help (λ same. cc)))
      (λ other. ⊎_elim (λ version. inr (found DisplayVersion version (λ same. cc))) (λ help. inl (help_asked words help.0)) other) is
  told (Wrong text) is =
      (not_taken is.2, λ alone. ⊎_elim (not_alone is.2 DisplayHelp is.0) (not_alone is.2 DisplayVersion is.1) alone)
  told NoMemory is = tt
