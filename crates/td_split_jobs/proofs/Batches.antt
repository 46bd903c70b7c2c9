-- A batch at a desk as a run of the commands of its rows, and so is each beginning of it.
use Rattle.std.proofs.Common.{◌≡◌, ◌≢◌, inl, inr, ℕ, zero, suc, ◌≤◌, ℤ, Bool, true, false, List, [], ◌∷◌, ◌++◌, length, take, Option, Some, None, refl, sym, ◌∙◌, ap, subst, arith}
use Rattle.std.specs.Prelude.{if◌then◌else◌, map, zip}
use Rattle.std.specs.List.{FoldsTo}
use Rattle.std.proofs.lemmas.List.{append-nil, length-map, length-take}
use Rattle.td_commands.specs.declared.command.Command.{Command}
use Rattle.td_commands.specs.declared.command.Stamped.{Stamped}
use Rattle.td_commands.specs.declared.said.Said.{Said}
use Rattle.td_commands.specs.Commands.{owner_of}
use Rattle.td_desk.specs.declared.fault.Fault.{Fault}
use Rattle.td_desk.specs.declared.running.Outcome.{Outcome}
use Rattle.td_desk.specs.declared.running.Outcome.TheVariants as outcome
use Rattle.td_model.specs.Content.{Content, fresh, IsSound}
use Rattle.td_desk.specs.Runs.{is_holder, part, heard, told, failures, IsRun}
use Rattle.td_desk.specs.View.{DeskView}
use Rattle.td_batch.specs.declared.running.BatchRun.{BatchRun}
use Rattle.td_batch.specs.Laws.{stamped_rows}
use Rattle.td_batch.specs.Runs.{at_moment, outcomes_of, tried, Ends, IsRowDone, IsRunOf}
use Rattle.td_batch.proofs.AgainAtDesk.{clean_back}
use Rattle.td_batch.proofs.RowsRun.{rows_run}
use Rattle.td_split.specs.Split.{Shards}
use Rattle.td_split_jobs.specs.Rows.{BatchAt, BatchForm, IsBatchAt}
use Rattle.td_split_jobs.proofs.Contents.{fresh_tied}

-- this was said to all of them
abbrev pub all_said : List Said → List Outcome
all_said said = map (λ s. outcome.Said s) said

-- what stands behind what was said
abbrev pub end_of : Option Fault → List Outcome
end_of None = []
end_of (Some why) = outcome.Failed why ∷ []

pub outcomes_are : (said : List Said) (stopped : Option Fault) → outcomes_of said stopped ≡ all_said said ++ end_of stopped
outcomes_are said None = sym (append-nil (all_said said))
outcomes_are said (Some why) = refl

-- ---- lists

firsts : {A B : Type 0} (xs : List A) (ys : List B) → length xs ≡ length ys → map (λ e. e.0) (zip xs ys) ≡ xs
firsts [] ys same = refl
firsts (x ∷ xs) [] same = absurd (omega (arith, same))
firsts {A} (x ∷ xs) (y ∷ ys) same = ap (λ (l : List A). x ∷ l) (firsts xs ys (omega (arith, same)))

seconds : {A B : Type 0} (xs : List A) (ys : List B) → length xs ≡ length ys → map (λ e. e.1) (zip xs ys) ≡ ys
seconds [] [] same = refl
seconds [] (y ∷ ys) same = absurd (omega (arith, same))
seconds (x ∷ xs) [] same = absurd (omega (arith, same))
seconds {A} {B} (x ∷ xs) (y ∷ ys) same = ap (λ (l : List B). y ∷ l) (seconds xs ys (omega (arith, same)))

-- the first rows of those that were done, and what came after
first_steps : {D : Type 0} (R : D → Command × Outcome → D → Type 0) (m : ℕ) (rows : List Command) (said : List Said) (others : List Outcome) (old new : D) → m ≤ length said
    → FoldsTo R old (zip (take (length (all_said said ++ others)) rows) (all_said said ++ others)) new
    → (mid : D) × (rest : List (Command × Outcome)) × FoldsTo R old (zip (take m rows) (all_said (take m said))) mid × FoldsTo R mid rest new
first_steps R zero rows said others old new within steps = (old, zip (take (length (all_said said ++ others)) rows) (all_said said ++ others), refl, steps)
first_steps R (suc m) rows [] others old new within steps = absurd (omega (arith, within))
first_steps R (suc m) [] (s ∷ said) others old new within steps = (old, [], refl, steps)
first_steps R (suc m) (row ∷ rows) (s ∷ said) others old new within steps =
    let more = first_steps R m rows said others steps.0 new (omega (arith, within)) steps.2 in
    (more.0, more.1, (steps.0, steps.1, more.2), more.3)

-- ---- a batch at a desk

abbrev pub form_of : (Command → Said → List ℕ) → List ℕ → ℤ → BatchForm
form_of line header at = record { line = line; header = header; at = at }

abbrev pub batch_of : {D : Type 0} → BatchRun → List Said → D → D → BatchAt D
batch_of r said old new = record { run = r; said = said; old = old; new = new }

abbrev pub shards_of : List ℕ → (ℕ → ℕ) → ℕ → Shards
shards_of country f desks = record { country = country; home = f; count = desks }

-- as many rows as were done are there
pub rows_there : (rows : List Command) (said : List Said) (stopped : Option Fault) → Ends rows said stopped → length said ≤ length rows
rows_there rows said None ends = omega (arith, ends)
rows_there rows said (Some why) ends = let all = ends.1 in omega (arith, all)

module _ {D : Type 0} (view : DeskView D) (line : Command → Said → List ℕ) (header : List ℕ) (at : ℤ) (country : List ℕ)
    (rows : List Command) (r : BatchRun) (said : List Said) (old new : D) (batch : IsBatchAt view (form_of line header at) country rows (batch_of r said old new)) where
  pub said_within : length said ≤ length rows
  said_within = rows_there rows said r.stopped (subst (λ s. Ends rows s r.stopped) batch.said_is batch.done.ends)

  pub done_is : r.done ≡ length said
  done_is = batch.done.done ∙ ap length batch.said_is

  -- the first so many of the rows that were done are a run
  pub beginning_is_run : (m : ℕ) → m ≤ length said
      → (c : Content) × IsRun country (λ H. fresh H (view.content old)) (map (at_moment at) (take m rows)) (all_said (take m said)) c
  beginning_is_run m within =
      let all = subst (λ s. FoldsTo (IsRowDone view at) old (zip (tried rows s r.stopped) (outcomes_of s r.stopped)) new) batch.said_is batch.done.steps in
      let steps = subst (λ o. FoldsTo (IsRowDone view at) old (zip (take (length o) rows) o) new) (outcomes_are said r.stopped) all in
      let first = first_steps (IsRowDone view at) m rows said (end_of r.stopped) old new within steps in
      let done = zip (take m rows) (all_said (take m said)) in
      let run = rows_run view at country (λ H. fresh H (view.content old)) done old first.0 batch.country_is batch.sound (fresh_tied (view.content old)) first.2
      (clean_back view at first.1 first.0 new first.3 batch.clean) in
      let there : length said ≤ length rows = said_within in
      let taken : length (take m rows) ≡ length (take m said) = rw (length-take, length-take) (omega (arith, within, there)) in
      let one_each : length (take m rows) ≡ length (all_said (take m said)) = taken ∙ sym (length-map (take m said) (λ s. outcome.Said s)) in (
        run.0,
        subst (λ o. IsRun country (λ H. fresh H (view.content old)) (map (at_moment at) (take m rows)) o run.0) (seconds (take m rows) (all_said (take m said)) one_each)
            (subst (λ l. IsRun country (λ H. fresh H (view.content old)) (map (at_moment at) l) (map (λ e. e.1) done) run.0) (firsts (take m rows) (all_said (take m said)) one_each) run.1),
      )

  -- and so are all that were tried, to what the desk has in the end unless a fault has shut it
  pub batch_is_run : (c : Content)
      × IsRun country (λ H. fresh H (view.content old)) (stamped_rows at rows r said) (outcomes_of said r.stopped) c
      × (view.is_live new → view.content new ≡ c)
  batch_is_run =
      let run = batch.done.private batch.clean batch.live batch.sound (λ H. fresh H (view.content old)) (fresh_tied (view.content old)) in (
        run.0,
        subst (λ s. IsRun country (λ H. fresh H (view.content old)) (stamped_rows at rows r s) (outcomes_of s r.stopped) run.0) batch.said_is
            (subst (λ k. IsRun k (λ H. fresh H (view.content old)) (stamped_rows at rows r batch.done.said) (outcomes_of batch.done.said r.stopped) run.0) batch.country_is run.1),
        run.2,
      )

-- what the calls of a batch promise is such a batch, where there was memory for the header of the result file
pub batch_at : {D : Type 0} (view : DeskView D) (line : Command → Said → List ℕ) (header : List ℕ) (at : ℤ) (rows : List Command)
    (r : BatchRun) (old new : D) → IsRunOf view line header at rows r old new → view.is_clean new → view.is_live old → IsSound (view.content old) → r.text.items ≢ []
    → (said : List Said) × IsBatchAt view (form_of line header at) (view.content old).country rows (batch_of r said old new)
batch_at view line header at rows r old new (inl nothing) clean live sound there = absurd (there nothing.1)
batch_at view line header at rows r old new (inr done) clean live sound there = (
  done.said,
  record { country_is = refl; live = live; sound = sound; clean = clean; done = done; said_is = refl },
)

-- ---- what was told of a run in which nothing failed

module _ (country : List ℕ) (H : ℕ) where
  heard_more : (s : Stamped) (w : Said) (list : List Stamped) (outcomes : List Outcome) (b : Bool) → is_holder H (owner_of country s.command) ≡ b
      → heard country H (s ∷ list) (outcome.Said w ∷ outcomes) ≡ (if b then s ∷ heard country H list outcomes else heard country H list outcomes)
  heard_more s w list outcomes true is = rw is refl
  heard_more s w list outcomes false is = rw is refl

  told_more : (s : Stamped) (w : Said) (list : List Stamped) (outcomes : List Outcome) (b : Bool) → is_holder H (owner_of country s.command) ≡ b
      → told country H (s ∷ list) (outcome.Said w ∷ outcomes) ≡ (if b then w ∷ told country H list outcomes else told country H list outcomes)
  told_more s w list outcomes true is = rw is refl
  told_more s w list outcomes false is = rw is refl

  part_more : (s : Stamped) (list : List Stamped) (b : Bool) → is_holder H (owner_of country s.command) ≡ b
      → part country H (s ∷ list) ≡ (if b then s ∷ part country H list else part country H list)
  part_more s list true is = rw is refl
  part_more s list false is = rw is refl

  -- all of H's part was heard
  pub all_heard : (list : List Stamped) (said : List Said) → length said ≡ length list → heard country H list (all_said said) ≡ part country H list
  all_heard [] said same = refl
  all_heard (s ∷ list) [] same = absurd (omega (arith, same))
  all_heard (s ∷ list) (w ∷ said) same =
      let mine = is_holder H (owner_of country s.command) in
      heard_more s w list (all_said said) mine refl
      ∙ ap (λ (l : List Stamped). if mine then s ∷ l else l) (all_heard list said (omega (arith, same)))
      ∙ sym (part_more s list mine refl)

  -- how many outcomes H's part has
  outcomes_more : (s : Stamped) (o : Outcome) (list : List Stamped) (outcomes : List Outcome) (b : Bool) → is_holder H (owner_of country s.command) ≡ b
      → length (failures country H (s ∷ list) (o ∷ outcomes)) ≡ (if b then suc (length (failures country H list outcomes)) else length (failures country H list outcomes))
  outcomes_more s o list outcomes true is = rw is refl
  outcomes_more s o list outcomes false is = rw is refl

  length_more : (b : Bool) (s : Stamped) (list : List Stamped) → (if b then suc (length list) else length list) ≡ length (if b then s ∷ list else list)
  length_more true s list = refl
  length_more false s list = refl

  pub outcome_each : (list : List Stamped) (outcomes : List Outcome) → length outcomes ≡ length list → length (failures country H list outcomes) ≡ length (part country H list)
  outcome_each [] outcomes same = refl
  outcome_each (s ∷ list) [] same = absurd (omega (arith, same))
  outcome_each (s ∷ list) (o ∷ outcomes) same =
      let mine = is_holder H (owner_of country s.command) in
      outcomes_more s o list outcomes mine refl
      ∙ ap (λ (n : ℕ). if mine then suc n else n) (outcome_each list outcomes (omega (arith, same)))
      ∙ length_more mine s (part country H list)
      ∙ ap length (sym (part_more s list mine refl))

  -- of what was said nothing failed
  none_more : (s : Stamped) (w : Said) (list : List Stamped) (outcomes : List Outcome) (b : Bool) → is_holder H (owner_of country s.command) ≡ b
      → failures country H list outcomes ≡ map (λ _. false) (part country H list)
      → failures country H (s ∷ list) (outcome.Said w ∷ outcomes) ≡ map (λ _. false) (part country H (s ∷ list))
  none_more s w list outcomes true is same = rw is (ap (λ (l : List Bool). false ∷ l) same)
  none_more s w list outcomes false is same = rw is same

  pub none_failed : (list : List Stamped) (said : List Said) → length said ≡ length list → failures country H list (all_said said) ≡ map (λ _. false) (part country H list)
  none_failed [] said same = refl
  none_failed (s ∷ list) [] same = absurd (omega (arith, same))
  none_failed (s ∷ list) (w ∷ said) same = none_more s w list (all_said said) (is_holder H (owner_of country s.command)) refl (none_failed list said (omega (arith, same)))
