-- Reads of a counted reader, and writes to a counted writer, one after another.
-- What is written of a message.
use Rattle.std.specs.Prelude.{◌≡◌, ℕ, ◌<◌, Bool, true, false, List, [], length, Option, take}
use Rattle.std.specs.List.{FoldsTo, concat}
use Rattle.std.specs.Io.KnownBytes.{Appends, Consumes}
use Rattle.counted_io.specs.declared.counted.Counted.{Counted}
use Rattle.counted_io.specs.Counted.{calls_of, has_failed, known_bytes, one_more, HasMade}

-- one read, which gave this piece, and failed or not
pub record IsRead {R : Type 0} (remaining : R → Option (List ℕ)) (failed : Bool) (old : Counted R)
    (piece : List ℕ) (new : Counted R) : Type 0 where
  pub consumed : Consumes (known_bytes remaining old) (known_bytes remaining new) piece
  pub called : calls_of new ≡ one_more (calls_of old)
  pub how : has_failed new ≡ failed

-- a read that brought at least one byte and did not fail
abbrev pub Brings : {R : Type 0} → (R → Option (List ℕ)) → Counted R → List ℕ → Counted R → Type 0
Brings remaining old piece new = IsRead remaining false old piece new × (0 < length piece)

-- reads one after another, each of which brought its piece
abbrev pub Brought : {R : Type 0} → (R → Option (List ℕ)) → Counted R → List (List ℕ) → Counted R → Type 0
Brought remaining old pieces new = FoldsTo (Brings remaining) old pieces new

-- one write, which took this piece, and failed (or took nothing of what it was given) or not
pub record IsWrite {W : Type 0} (contents : W → Option (List ℕ)) (failed : Bool) (old : Counted W)
    (piece : List ℕ) (new : Counted W) : Type 0 where
  pub appended : Appends (known_bytes contents old) (known_bytes contents new) piece
  pub called : calls_of new ≡ one_more (calls_of old)
  pub how : has_failed new ≡ failed

-- a write that took at least one byte and did not fail
abbrev pub TakesSome : {W : Type 0} → (W → Option (List ℕ)) → Counted W → List ℕ → Counted W → Type 0
TakesSome contents old piece new = IsWrite contents false old piece new × (0 < length piece)

-- no write more; or one more, which failed or took nothing
abbrev pub EndsWriting : {W : Type 0} → (W → Option (List ℕ)) → Counted W → Counted W → Bool → Type 0
EndsWriting contents mid new true = new ≡ mid
EndsWriting contents mid new false = IsWrite contents true mid [] new

-- The text was written piece by piece: each write took at least one byte of it and did not fail. Where it
-- isn't the whole that was to be written, one more write failed or took nothing, and none came after that
-- one.
pub record Wrote {W : Type 0} (contents : W → Option (List ℕ)) (old new : Counted W) (text : List ℕ)
    (whole : Bool) : Type 0 where
  pub pieces : List (List ℕ)
  pub mid : Counted W
  pub took : FoldsTo (TakesSome contents) old pieces mid
  pub text_is : concat pieces ≡ text
  pub last : EndsWriting contents mid new whole

-- only the first n bytes of the message were taken, since the last write, one of these, failed or took nothing
pub record IsCutShort {W : Type 0} (contents : W → Option (List ℕ)) (old new : Counted W)
    (message : List ℕ) : Type 0 where
  pub taken : ℕ
  pub short : taken < length message
  pub appended : Appends (known_bytes contents old) (known_bytes contents new) (take taken message)
  pub failed : has_failed new ≡ true
  pub wrote : Wrote contents old new (take taken message) false

-- so many writes were made, and one at least where the message was cut short
pub record MadeWrites {W : Type 0} (old new : Counted W) (whole : Bool) : Type 0 where
  pub writes : ℕ
  pub made : HasMade writes (calls_of old) (calls_of new)
  pub some : whole ≡ false → 0 < writes
