-- Texts of no fixed length, kept in an array with zeros behind.
use Rattle.std.specs.Prelude.{◌≡◌, ℕ, ◌-◌, ◌≤◌, List, length, take, drop, replicate, ◌++◌}
use Rattle.std.proofs.Common.{arith, refl, sym}
use Rattle.std.proofs.lemmas.List.{take-append-drop, length-take}

-- the first len of the bytes are such a text, and zeros fill the array
pub record IsKept (IsText : List ℕ → Type 0) (room : ℕ) (bytes : List ℕ) (len : ℕ) : Type 0 where
  pub text : IsText (take len bytes)
  pub within : len ≤ length bytes
  pub zeros : drop len bytes ≡ replicate (room - len) 0

-- what is made of the bytes and the length is known from the text
pub kept_back : {A : Type 0} (IsText : List ℕ → Type 0) (room : ℕ) (make : List ℕ → ℕ → A) (bytes : List ℕ)
    (len : ℕ) → IsKept IsText room bytes len
    → make (take len bytes ++ replicate (room - length (take len bytes)) 0) (length (take len bytes))
    ≡ make bytes len
kept_back IsText room make bytes len h =
    let same : length (take len bytes) ≡ len = omega (arith, length-take len bytes, h.within) in
    rw (same, sym h.zeros, take-append-drop) refl
