-- What is read of a member of an object.
use Rattle.std.proofs.Common.{◌≡◌, Option, Some}
use Rattle.std.specs.Prelude.{option_and_then}

-- what is read of a member that is there
pub read_of : {A B : Type 0} (read : A → Option B) (member : Option A) (value : A) (r : Option B) → Some value ≡ member → r ≡ read value → r ≡ option_and_then read member
read_of read member value r there same = rw (← there) same
