-- What the calls of a disk leave of the bytes before the place where they write.
use Rattle.std.proofs.Common.{◌≡◌, ℕ, ◌<◌, ◌≤◌, List, length, take, sym, ◌∙◌, ap, arith}
use Rattle.std.specs.Prelude.{slice_index}
use Rattle.std.proofs.lemmas.List.{ext_get_or, get_or-take}
use Rattle.std.proofs.lemmas.Grind.{common_steps}
use Rattle.sqlite_disk.specs.Disk.{Cut, Follows, Torn}

-- two texts that agree below a place have the same beginning up to it
same_prefix : (n : ℕ) (a b : List ℕ) → n ≤ length a → n ≤ length b → ((i : ℕ) → i < n → slice_index b i ≡ slice_index a i) → take n b ≡ take n a
same_prefix n a b long other same =
    let one : length (take n b) ≡ n = grind (arith, common_steps) in
    let two : length (take n a) ≡ n = grind (arith, common_steps) in
    ext_get_or 0 (take n b) (take n a) (one ∙ sym two)
    (λ i below.
    let within : i < n = omega (arith, below, one) in
    get_or-take n b i 0 within ∙ same i within ∙ sym (get_or-take n a i 0 within))

-- a write leaves what stands before it
pub torn_prefix : (at n : ℕ) (old new : List ℕ) → at ≤ length old → Torn at n old new → take at new ≡ take at old
torn_prefix at n old new inside torn =
    same_prefix at old new inside (omega (arith, inside, torn.no_shorter)) (λ i below. torn.below i (omega (arith, below, inside)) below)

-- and so does a change of the length
pub cut_prefix : (at : ℕ) (old new : List ℕ) → at ≤ length old → Cut at old new → take at new ≡ take at old
cut_prefix at old new inside cut =
    same_prefix at old new inside (grind (arith, common_steps)) (λ i below. cut.below i (omega (arith, below, inside)) below)

-- a text with so long a beginning is so long
as_long : (n : ℕ) (a b : List ℕ) → n ≤ length a → take n b ≡ take n a → n ≤ length b
as_long n a b inside same =
    let one : length (take n a) ≡ n = grind (arith, common_steps) in
    let two : length (take n b) ≡ n = ap length same ∙ one in
    grind (arith, common_steps)

module _ (P Q : List ℕ → Type 0) (at : ℕ) (file : List ℕ) (inside : at ≤ length file) (safe : (b : List ℕ) → P b → take at b ≡ take at file) where
  -- what a crash leaves after a write begins as what it could leave before
  pub safe_torn : (n : ℕ) → Follows (Torn at n) P Q → (b : List ℕ) → Q b → take at b ≡ take at file
  safe_torn n follows b left =
      let from = follows b left in
      let was = safe from.0 from.1 in
      torn_prefix at n from.0 b (as_long at file from.0 inside was) from.2 ∙ was

  pub safe_cut : Follows (Cut at) P Q → (b : List ℕ) → Q b → take at b ≡ take at file
  safe_cut follows b left =
      let from = follows b left in
      let was = safe from.0 from.1 in
      cut_prefix at from.0 b (as_long at file from.0 inside was) from.2 ∙ was
