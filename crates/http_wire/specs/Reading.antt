-- Taking one request off a stream.
use Rattle.std.specs.Prelude.{◌≡◌, ℕ, ◌+◌, ◌-◌, ◌<◌, ◌≤◌, ◌⊎◌, true, false, List, [], ◌∷◌, ◌++◌, length, Option, Result, Ok, Err}
use Rattle.std.specs.List.{concat}
use Rattle.std.specs.Io.KnownBytes.{Consumes, IsAtEnd}
use Rattle.counted_io.specs.declared.counted.Counted.{Counted}
use Rattle.counted_io.specs.Counted.{calls_of, has_failed, known_bytes, HasMade}
use Rattle.counted_io.specs.Chains.{IsRead, Brought}
use Rattle.http_wire.specs.declared.input.TheConstants.{MOST}
use Rattle.http_wire.specs.declared.request.Request.{Request}
use Rattle.http_wire.specs.declared.reading.StopCause.{StopCause}
use Rattle.http_wire.specs.declared.reading.StopCause.TheVariants.{Closed, Cut, ReadsSpent, ReadFault, NoMemory, Refused, Head, WriteFault}
use Rattle.http_wire.specs.Wire.{WireRequest, IsWireRequest, IsRequestOn, wire_bytes, IsOpen, IsRefusedFor, IsHeadRequest, BeginsServed}

-- How reads came to an end: each of them brought bytes; or the last one found the end of the input; or the
-- last one failed.
pub data Finish : Type 0 where
  brought : Finish
  ended : Finish
  failed : Finish

-- the last read, where it brought nothing
abbrev pub LastRead : {R : Type 0} → (R → Option (List ℕ)) → Counted R → Counted R → Finish → Type 0
LastRead remaining mid new brought = new ≡ mid
LastRead remaining mid new ended = IsRead remaining false mid [] new × IsAtEnd (known_bytes remaining new)
LastRead remaining mid new failed = IsRead remaining true mid [] new

-- Reads one after another: each brought at least one byte and did not fail, but the last one where they
-- finished otherwise, and none came after that one.
pub record Reads {R : Type 0} (remaining : R → Option (List ℕ)) (old new : Counted R) (pieces : List (List ℕ))
    (finish : Finish) : Type 0 where
  pub mid : Counted R
  pub brought : Brought remaining old pieces mid
  pub last : LastRead remaining mid new finish

-- the number of these reads
abbrev pub count_of : List (List ℕ) → Finish → ℕ
count_of pieces brought = length pieces
count_of pieces ended = length pieces + 1
count_of pieces failed = length pieces + 1

-- The last read that brought bytes was needed: without what it brought, there was no whole request yet behind
-- what stood there.
abbrev pub IsNeeded : List ℕ → List (List ℕ) → Type 0
IsNeeded stood pieces =
    (pieces ≡ []) ⊎ ((before : List (List ℕ)) × (last : List ℕ) × (pieces ≡ before ++ last ∷ [])
    × IsOpen (stood ++ concat before))

-- reads gave these bytes, and left fewer reads to be made by as many as were made
pub record HasRead {R : Type 0} (remaining : R → Option (List ℕ)) (old new : Counted R) (given : List ℕ)
    (before after : ℕ) (finish : Finish) : Type 0 where
  pub consumed : Consumes (known_bytes remaining old) (known_bytes remaining new) given
  pub spent : after ≤ before
  pub counted : HasMade (before - after) (calls_of old) (calls_of new)
  pub pieces : List (List ℕ)
  pub given_is : concat pieces ≡ given
  pub reads : Reads remaining old new pieces finish
  pub count : before - after ≡ count_of pieces finish

-- so it was, behind what stood there, and the last read that brought bytes was needed
pub record ReadsOn {R : Type 0} (remaining : R → Option (List ℕ)) (old new : Counted R) (stood given : List ℕ)
    (before after : ℕ) (finish : Finish) : Type 0 where
  pub read : HasRead remaining old new given before after finish
  pub needed : IsNeeded stood read.pieces

-- a read found the end of the input
pub record HasEnded {R : Type 0} (remaining : R → Option (List ℕ)) (new : Counted R) (before after : ℕ) : Type 0 where
  pub end : IsAtEnd (known_bytes remaining new)
  pub read : after < before

-- how the reads finish where the reading stops so
abbrev pub finish_of : StopCause → Finish
finish_of Closed = ended
finish_of Cut = ended
finish_of ReadsSpent = brought
finish_of ReadFault = failed
finish_of NoMemory = brought
finish_of (Refused e) = brought
finish_of (Head target) = brought
finish_of WriteFault = brought

-- and where it goes on
abbrev pub finish_by : {X : Type 0} → Result X StopCause → Finish
finish_by (Ok x) = brought
finish_by (Err stop) = finish_of stop

-- Why no request was taken, where rest is what is left of the stream, the reads left fell, and the buffer had
-- this room at first. Memory is missing for the buffer before the first read of a stream, or for a request
-- that is served.
abbrev pub StopsAs : {R : Type 0} → (R → Option (List ℕ)) → Counted R → ℕ → ℕ → ℕ → List ℕ → StopCause → Type 0
StopsAs remaining new before after room rest Closed = (rest ≡ []) × HasEnded remaining new before after
StopsAs remaining new before after room rest Cut = (0 < length rest) × IsOpen rest × HasEnded remaining new before after
StopsAs remaining new before after room rest ReadsSpent = IsOpen rest × (after ≡ 0)
StopsAs remaining new before after room rest ReadFault = IsOpen rest × (has_failed new ≡ true) × (after < before)
StopsAs remaining new before after room rest NoMemory =
    ((rest ≡ []) × (after ≡ before) × (room < MOST)) ⊎ BeginsServed rest
StopsAs remaining new before after room rest (Refused e) = IsRefusedFor e rest
StopsAs remaining new before after room rest (Head target) = IsHeadRequest target.items rest
StopsAs remaining new before after room rest WriteFault = IsOpen rest

-- a buffer that was read into has its whole room, and none is given back
pub record KeepsRoom (old new : ℕ) (before after : ℕ) : Type 0 where
  pub kept : old ≤ new
  pub whole : after < before → MOST ≤ new

-- the bytes are this request and then rest
pub record Takes (bytes rest : List ℕ) (r : Request) : Type 0 where
  pub wire : WireRequest
  pub is_wire : IsWireRequest wire
  pub request : IsRequestOn wire r
  pub whole : bytes ≡ wire_bytes wire ++ rest
