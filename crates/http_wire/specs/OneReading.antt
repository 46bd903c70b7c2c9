-- What stands where no whole request does, and the two cases in which it may be two things at once.
use Rattle.std.specs.Prelude.{◌≡◌, ◌⊎◌, ℕ, List, ◌++◌, take}
use Rattle.httparse.specs.Grammar.{EndsInTarget}
use Rattle.httparse.specs.Spans.{RequestExceeds}
use Rattle.http_wire.specs.declared.framing.FramingError.{FramingError}
use Rattle.http_wire.specs.Wire.{WireRequest, IsWireRequest, wire_bytes, IsOpen, IsRefusedFor, IsHeadRequest}

-- no request stands in front
abbrev pub HasNoWireRequest : List ℕ → Type 0
HasNoWireRequest rest = (w : WireRequest) (more : List ℕ) → IsWireRequest w → ¬ (rest ≡ wire_bytes w ++ more)

-- a request that isn't whole yet, nothing that is served, or the head of a HEAD request for a target
pub data Standing : Type 0 where
  unfinished : Standing
  refused : FramingError → Standing
  head_for : List ℕ → Standing

-- the bytes are that
abbrev pub StandsIn : List ℕ → Standing → Type 0
StandsIn bytes unfinished = IsOpen bytes
StandsIn bytes (refused e) = IsRefusedFor e bytes
StandsIn bytes (head_for target) = IsHeadRequest target bytes

-- The parser leaves it open whether a head goes on or is refused: it has more than 64 fields already, or it
-- ends inside a target, whose test for UTF-8 waits for its end.
abbrev pub IsUnsettled : List ℕ → Type 0
IsUnsettled bytes = RequestExceeds 64 (take 8192 bytes) ⊎ EndsInTarget (take 8192 bytes)
