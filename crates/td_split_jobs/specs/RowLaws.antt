-- Laws of rows that are split among desks by holder.
use Rattle.std.specs.Prelude.{◌≡◌, ℕ, ◌<◌, ◌≤◌, List, ◌++◌, length, take, None}
use Rattle.std.specs.List.{concat}
use Rattle.td_model.specs.Content.{rows_of}
use Rattle.td_desk.specs.View.{DeskView}
use Rattle.td_split.specs.Split.{Shards}
use Rattle.td_split.specs.Union.{union}
use Rattle.td_split_jobs.specs.Gathered.{gathered}
use Rattle.td_split_jobs.specs.Rows.{BatchAt, BatchForm, SentRow, all_rows, desks_of, failures_in, own_lines, result_lines, rows_for, IsSplitBatch}

-- as many of H's rows were tried at the one desk and at H's own, and the same of them failed
abbrev pub FailedAlikeIn : {D E : Type 0} → BatchForm → Shards → List SentRow → BatchAt D → (ℕ → BatchAt E) → ℕ → Type 0
FailedAlikeIn form shards sent batch batches H =
    failures_in shards.country H form.at (all_rows sent) batch.run batch.said
    ≡ failures_in shards.country H form.at (rows_for (shards.home H) sent) (batches (shards.home H)).run (batches (shards.home H)).said

-- Many desks are one desk to each holder: where as many of H's rows were tried and the same of them failed, the result file of H's
-- own desk has the one desk's result rows of H; and while no fault has shut the two, they have the same rows of H in the end.
abbrev pub BatchesTellAsOne : {D E : Type 0} → DeskView D → DeskView E → Type 0
BatchesTellAsOne {D} {E} view other =
    (form : BatchForm) (shards : Shards) (sent : List SentRow) (batch : BatchAt D) (batches : ℕ → BatchAt E)
    → IsSplitBatch view other form shards sent batch batches
    → (H : ℕ) → FailedAlikeIn form shards sent batch batches H
    → (own_lines shards.country H form.line (all_rows sent) batch.said
    ≡ own_lines shards.country H form.line (rows_for (shards.home H) sent) (batches (shards.home H)).said)
    × (view.is_live batch.new → other.is_live (batches (shards.home H)).new
    → rows_of H (other.content (batches (shards.home H)).new) ≡ rows_of H (view.content batch.new))

-- Row by row, whatever stopped the desks later: where the one desk did the first so many rows, and each of the others did those of
-- them that were sent to it, the one desk's result rows for them are those of the desks that they were sent to, in the order of the
-- file.
abbrev pub RowsAreGathered : {D E : Type 0} → DeskView D → DeskView E → Type 0
RowsAreGathered {D} {E} view other =
    (form : BatchForm) (shards : Shards) (sent : List SentRow) (batch : BatchAt D) (batches : ℕ → BatchAt E)
    → IsSplitBatch view other form shards sent batch batches
    → (n : ℕ) → n ≤ batch.run.done → ((i : ℕ) → i < shards.count → length (rows_for i (take n sent)) ≤ (batches i).run.done)
    → take n (result_lines form.line (all_rows sent) batch.said)
    ≡ gathered (desks_of (take n sent)) (λ i. result_lines form.line (rows_for i sent) (batches i).said)

-- The result file of the whole: where no fault stopped any of them, each desk's result file is the header and its result rows, and
-- the one desk's is the header and these rows in the order of the file. Then the same of each holder's rows failed, none, as the laws
-- above and below ask for.
abbrev pub ResultIsGathered : {D E : Type 0} → DeskView D → DeskView E → Type 0
ResultIsGathered {D} {E} view other =
    (form : BatchForm) (shards : Shards) (sent : List SentRow) (batch : BatchAt D) (batches : ℕ → BatchAt E)
    → IsSplitBatch view other form shards sent batch batches
    → batch.run.stopped ≡ None → ((i : ℕ) → i < shards.count → (batches i).run.stopped ≡ None)
    → ((i : ℕ) → i < shards.count
    → (batches i).run.text.items ≡ form.header ++ concat (result_lines form.line (rows_for i sent) (batches i).said))
    × (batch.run.text.items
    ≡ form.header ++ concat (gathered (desks_of sent) (λ i. result_lines form.line (rows_for i sent) (batches i).said)))
    × ((H : ℕ) → FailedAlikeIn form shards sent batch batches H)

-- In the end the parts are the whole: where the same of each holder's rows failed, as above, and no fault has shut a desk, the one desk's
-- content is the union of the rows that the desks have of their own holders.
abbrev pub BatchesHoldAsOne : {D E : Type 0} → DeskView D → DeskView E → Type 0
BatchesHoldAsOne {D} {E} view other =
    (form : BatchForm) (shards : Shards) (sent : List SentRow) (batch : BatchAt D) (batches : ℕ → BatchAt E)
    → IsSplitBatch view other form shards sent batch batches
    → ((H : ℕ) → FailedAlikeIn form shards sent batch batches H)
    → view.is_live batch.new → ((i : ℕ) → i < shards.count → other.is_live (batches i).new)
    → view.content batch.new
    ≡ record { country = shards.country; holders = union shards.home shards.count (λ i. other.content (batches i).new) }
