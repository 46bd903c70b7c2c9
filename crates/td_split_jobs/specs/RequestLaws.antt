-- Laws of requests that are split among desks by holder.
use Rattle.std.specs.Prelude.{◌≡◌, ℕ, ◌<◌, List, map}
use Rattle.http_wire.specs.ReplyText.{bytes_of}
use Rattle.td_model.specs.Content.{rows_of}
use Rattle.td_desk.specs.View.{DeskView}
use Rattle.td_http.specs.ConnectionLaws.{FailAlikeOver, FailTogetherOver, ReplyAlikeOver, ToldAlikeOver}
use Rattle.td_http.specs.Laws.{fault_told}
use Rattle.td_http.specs.Serving.{desk_of}
use Rattle.td_split.specs.Split.{Shards}
use Rattle.td_split.specs.Union.{union}
use Rattle.td_split_jobs.specs.Gathered.{gathered}
use Rattle.td_split_jobs.specs.Requests.{SentRequest, ServingAt, all_replies, IsSplitServing}

-- Many desks are one desk to each holder: where the same of H's commands failed by the same faults, all replies of H's own desk to
-- them are the one desk's, byte for byte; where the same failed by whatever faults, those to the commands that did not fail are, and
-- while no fault has shut the two, they have the same rows of H in the end.
abbrev pub ServingsTellAsOne : {D E : Type 0} → DeskView D → DeskView E → Type 0
ServingsTellAsOne {D} {E} view other =
    (shards : Shards) (sent : List SentRequest) (serving : ServingAt D) (servings : ℕ → ServingAt E)
    → IsSplitServing view other shards sent serving servings
    → (H : ℕ)
    → (FailAlikeOver shards.country H serving.streams (servings (shards.home H)).streams
    → ReplyAlikeOver shards.country H serving.streams (servings (shards.home H)).streams)
    × (FailTogetherOver shards.country H serving.streams (servings (shards.home H)).streams
    → ToldAlikeOver shards.country H serving.streams (servings (shards.home H)).streams
    × (view.is_live (desk_of serving.new) → other.is_live (desk_of (servings (shards.home H)).new)
    → rows_of H (other.content (desk_of (servings (shards.home H)).new)) ≡ rows_of H (view.content (desk_of serving.new))))

-- Request by request: where the same of all requests were answered by the fixed replies of the same faults, the bytes of the one
-- desk's replies are those of the desks that the requests were sent to, in the order of all. Requests that nobody owns, and those
-- that can't be read, are among them. Then the same of each holder's commands failed, as the laws above and below ask for.
abbrev pub RepliesAreGathered : {D E : Type 0} → DeskView D → DeskView E → Type 0
RepliesAreGathered {D} {E} view other =
    (shards : Shards) (sent : List SentRequest) (serving : ServingAt D) (servings : ℕ → ServingAt E)
    → IsSplitServing view other shards sent serving servings
    → map fault_told (all_replies serving.streams)
    ≡ gathered (map (λ s. s.desk) sent) (λ i. map fault_told (all_replies (servings i).streams))
    → (map bytes_of (all_replies serving.streams)
    ≡ gathered (map (λ s. s.desk) sent) (λ i. map bytes_of (all_replies (servings i).streams)))
    × ((H : ℕ) → FailAlikeOver shards.country H serving.streams (servings (shards.home H)).streams
    × FailTogetherOver shards.country H serving.streams (servings (shards.home H)).streams)

-- In the end the parts are the whole: where the same of each holder's commands failed, and no fault has shut a desk, the one desk's
-- content is the union of the rows that the desks have of their own holders.
abbrev pub ServingsHoldAsOne : {D E : Type 0} → DeskView D → DeskView E → Type 0
ServingsHoldAsOne {D} {E} view other =
    (shards : Shards) (sent : List SentRequest) (serving : ServingAt D) (servings : ℕ → ServingAt E)
    → IsSplitServing view other shards sent serving servings
    → ((H : ℕ) → FailTogetherOver shards.country H serving.streams (servings (shards.home H)).streams)
    → view.is_live (desk_of serving.new) → ((i : ℕ) → i < shards.count → other.is_live (desk_of (servings i).new))
    → view.content (desk_of serving.new)
    ≡ record { country = shards.country; holders = union shards.home shards.count (λ i. other.content (desk_of (servings i).new)) }
