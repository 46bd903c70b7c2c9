-- The replies that wait, what a further one does, and what the next request asks of them.
use Rattle.std.specs.Prelude.{◌≡◌, ◌⊎◌, ℕ, ◌<◌, ◌≤◌, true, List, [], ◌++◌, length, Option, vec_capacity}
use Rattle.counted_io.specs.declared.counted.Counted.{Counted}
use Rattle.counted_io.specs.Chains.{Wrote, IsCutShort}
use Rattle.http_wire.specs.declared.reading.StopCause.{StopCause}
use Rattle.http_wire.specs.declared.reading.StopCause.TheVariants.{Closed, Cut, ReadsSpent, ReadFault, NoMemory, Refused, Head, WriteFault}
use Rattle.http_wire.specs.declared.replies.Replies.{Replies}

-- their bytes, one reply after another
abbrev pub waiting : Replies → List ℕ
waiting replies = replies.bytes.items

-- the room that there is for them
abbrev pub room_of : Replies → ℕ
room_of replies = vec_capacity replies.bytes

-- Where there is room for one more, it waits behind the others and nothing is written; where there is none, they
-- and it are written, and none waits.
abbrev pub Adds : {W : Type 0} → (W → Option (List ℕ)) → ℕ → Counted W → Counted W → List ℕ → List ℕ → List ℕ → Type 0
Adds contents room old new waits reply left =
    ((length (waits ++ reply) ≤ room) × (new ≡ old) × (left ≡ waits ++ reply))
    ⊎ ((room < length (waits ++ reply)) × Wrote contents old new (waits ++ reply) true × (left ≡ []))

-- No read was made, and they wait still; or all of them were written.
abbrev pub HoldsOrSends : {W : Type 0} → (W → Option (List ℕ)) → Counted W → Counted W → List ℕ → List ℕ → ℕ → ℕ → Type 0
HoldsOrSends contents old new waits left before after =
    ((new ≡ old) × (left ≡ waits) × (after ≡ before)) ⊎ (Wrote contents old new waits true × (left ≡ []))

-- What became of them where no request was taken. Where a write failed no read was made, and none waits.
abbrev pub SendsBefore : {W : Type 0} → (W → Option (List ℕ)) → Counted W → Counted W → List ℕ → List ℕ → ℕ → ℕ → StopCause → Type 0
SendsBefore contents old new waits left before after Closed = HoldsOrSends contents old new waits left before after
SendsBefore contents old new waits left before after Cut = HoldsOrSends contents old new waits left before after
SendsBefore contents old new waits left before after ReadsSpent = HoldsOrSends contents old new waits left before after
SendsBefore contents old new waits left before after ReadFault = HoldsOrSends contents old new waits left before after
SendsBefore contents old new waits left before after NoMemory = HoldsOrSends contents old new waits left before after
SendsBefore contents old new waits left before after (Refused e) = HoldsOrSends contents old new waits left before after
SendsBefore contents old new waits left before after (Head target) = HoldsOrSends contents old new waits left before after
SendsBefore contents old new waits left before after WriteFault =
    IsCutShort contents old new waits × (left ≡ []) × (after ≡ before)
