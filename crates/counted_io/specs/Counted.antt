-- What a counted reader or writer has seen.
use Rattle.std.specs.Prelude.{◌≡◌, ◌<◌, ◌≤◌, ◌⊎◌, ℕ, ◌+◌, ◌-◌, ◌^◌, min, List, Option, Bool}
use Rattle.counted_io.specs.declared.counted.Counted.{Counted}

-- the count after one more call, which stays at the greatest u64
abbrev pub one_more : ℕ → ℕ
one_more calls = min (calls + 1) (2 ^ 64 - 1)

-- the calls made so far
abbrev pub calls_of : {T : Type 0} → Counted T → ℕ
calls_of c = c.calls

-- the last call failed, or was a write that took nothing of a piece that isn't empty
abbrev pub has_failed : {T : Type 0} → Counted T → Bool
has_failed c = c.failed

-- the bytes that are known of the inner reader or writer
abbrev pub known_bytes : {T : Type 0} → (T → Option (List ℕ)) → Counted T → Option (List ℕ)
known_bytes known c = known c.inner

-- the reader or writer itself
abbrev pub inner_of : {T : Type 0} → Counted T → T
inner_of c = c.inner

-- a call was made between two counts: the count has risen, or stays at the top
abbrev pub HasCalled : ℕ → ℕ → Type 0
HasCalled old new = (old < new) ⊎ (new ≡ 2 ^ 64 - 1)

-- so many calls were made between two counts, unless the count has reached the top, where it stays
abbrev pub HasMade : ℕ → ℕ → ℕ → Type 0
HasMade calls old new = (new ≡ old + calls) ⊎ (2 ^ 64 - 1 ≤ new)

-- no call was taken back
abbrev pub HasNotFallen : ℕ → ℕ → Type 0
HasNotFallen old new = (old ≤ new) ⊎ (new ≡ 2 ^ 64 - 1)
