-- The bytes that were read and not yet taken, and what one read does to them.
use Rattle.std.specs.Prelude.{◌≡◌, ℕ, true, false, List, [], ◌++◌, drop, Option, vec_capacity}
use Rattle.std.specs.Io.KnownBytes.{Consumes, IsAtEnd}
use Rattle.counted_io.specs.declared.counted.Counted.{Counted}
use Rattle.counted_io.specs.Chains.{IsRead, Brings}
use Rattle.counted_io.specs.Counted.{calls_of, known_bytes, one_more}
use Rattle.http_wire.specs.declared.input.Input.{Input}
use Rattle.http_wire.specs.declared.input.Piece.{Piece}
use Rattle.http_wire.specs.declared.input.Piece.TheVariants.{Bytes, End, Fault}

-- the bytes that were not taken
abbrev pub unread : Input → List ℕ
unread input = drop input.start input.buffer.items

-- the room that the buffer has
abbrev pub room_of : Input → ℕ
room_of input = vec_capacity input.buffer

-- what a piece says of the read: it brought bytes; it found the end of the input; it failed
abbrev pub Gives : {R : Type 0} → (R → Option (List ℕ)) → Counted R → List ℕ → Counted R → Piece → Type 0
Gives remaining old given new Bytes = Brings remaining old given new
Gives remaining old given new End =
    (given ≡ []) × IsRead remaining false old [] new × IsAtEnd (known_bytes remaining new)
Gives remaining old given new Fault = (given ≡ []) × IsRead remaining true old [] new

-- one read gave some bytes, which follow those before
pub record Fills {R : Type 0} (remaining : R → Option (List ℕ)) (old new : Counted R) (before after : List ℕ)
    (piece : Piece) : Type 0 where
  pub given : List ℕ
  pub consumed : Consumes (known_bytes remaining old) (known_bytes remaining new) given
  pub appended : after ≡ before ++ given
  pub called : calls_of new ≡ one_more (calls_of old)
  pub gives : Gives remaining old given new piece
