-- Texts that were written or not, and a file that was read or not.
use Rattle.std.proofs.Common.{◌≡◌, ◌⊎◌, inl, inr, ℕ, Bool, true, false, List, Option, None, Result, Ok, Err, refl, subst}
use Rattle.std.specs.Prelude.{IfOk, MatchResult}
use Rattle.std.specs.Io.KnownBytes.{Appends}
use Rattle.counted_io.specs.declared.counted.Counted.{Counted}
use Rattle.counted_io.specs.Counted.{known_bytes}
use Rattle.counted_io.specs.Chains.{IsCutShort}
use Rattle.td_machine.specs.Machine.{IsNotRead, Known}
use Rattle.td_machine.specs.declared.machine.ReadError.{ReadError}
use Rattle.td_machine.specs.declared.machine.ReadError.TheVariants.{File, NoMemory}
use Rattle.td_cli.specs.Exits.{IsWrittenOut}

-- a text was written whole, or as much of it as was taken
pub told_by : {W : Type 0} (contents : W → Option (List ℕ)) (old new : Counted W) (text : List ℕ) (b : Bool)
    → (b ≡ true → Appends (known_bytes contents old) (known_bytes contents new) text) → (b ≡ false → IsCutShort contents old new text)
    → IsWrittenOut contents old new text
told_by contents old new text true whole cut = inl (whole refl)
told_by contents old new text false whole cut = inr (cut refl)

-- why a file wasn't read
pub not_read : {M L : Type 0} (known : Known M L) (path : List ℕ) (old new : M) (why : ReadError)
    → (why ≡ File → known.holds old path ≡ None) → known.reads old new → IsNotRead known path old new why
not_read known path old new File none reads = (none refl, reads)
not_read known path old new NoMemory none reads = reads

-- a line that was made was told, or that there was no memory for it
pub told_made : {W T A : Type 0} (contents : W → Option (List ℕ)) (old new : Counted W) (text none : List ℕ) (bytes : T → List ℕ) (line : Result T A)
    → IfOk line (λ line. bytes line ≡ text)
    → MatchResult line (λ line. IsWrittenOut contents old new (bytes line)) (λ why. IsWrittenOut contents old new none)
    → IsWrittenOut contents old new text ⊎ IsWrittenOut contents old new none
told_made contents old new text none bytes (Ok line) is told = inl (subst (IsWrittenOut contents old new) is told)
told_made contents old new text none bytes (Err why) is told = inr told
