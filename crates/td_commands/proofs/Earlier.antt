-- Lines that name the guarantee of an earlier one.
use Rattle.std.proofs.Common.{◌≡◌, ◌≢◌, ℕ, zero, suc, ◌+◌, ◌<◌, ◌≤◌, Bool, true, false, List, [], ◌∷◌, length, take, get_or, refl, subst, arith}
use Rattle.std.proofs.lemmas.Slice.Eq.{bytes_eq-Decides}
use Rattle.std.specs.Prelude.{◌||◌, nat_lt}
use Rattle.std.proofs.lemmas.Bool.Decides.{nat_tests}
use Rattle.std.specs.List.{list_any}
use Rattle.std.specs.Str.{bytes_eq}
use Rattle.td_movement.specs.declared.line.Line.{Line}

-- a line that names this guarantee
abbrev pub names : List ℕ → Line × List ℕ → Bool
names grn l = bytes_eq l.0.grn grn

-- neither of two tests passed
neither : (a b : Bool) → (a || b) ≡ false → (a ≡ false) × (b ≡ false)
neither true b h = cc
neither false b h = (refl, h)

differs : (a b : List ℕ) → bytes_eq a b ≡ false → a ≢ b
differs a b other = λ same. let yes = (bytes_eq-Decides a b).1 same in cc

-- where none of the first i lines names a guarantee, each of them names another
pub named_by_none : (grn : List ℕ) (items : List (Line × List ℕ)) (i j : ℕ) (d : Line × List ℕ) → list_any (names grn) (take i items) ≡ false → j < i → i ≤ length items → (get_or items j d).0.grn ≢ grn
named_by_none grn [] i j d none before within = absurd (omega arith)
named_by_none grn (l ∷ items) zero j d none before within = absurd (omega arith)
named_by_none grn (l ∷ items) (suc i) zero d none before within = differs l.0.grn grn (neither (names grn l) (list_any (names grn) (take i items)) none).0
named_by_none grn (l ∷ items) (suc i) (suc j) d none before within = named_by_none grn items i j d (neither (names grn l) (list_any (names grn) (take i items)) none).1 (omega arith) (omega arith)

-- where one of the first i names it, there is its place
pub named_by_one : (grn : List ℕ) (items : List (Line × List ℕ)) (i : ℕ) → list_any (names grn) (take i items) ≡ true → i ≤ length items → (j : ℕ) × (j < i) × ((d : Line × List ℕ) → (get_or items j d).0.grn ≡ grn)
named_by_one grn [] zero some within = cc
named_by_one grn [] (suc i) some within = cc
named_by_one grn (l ∷ items) zero some within = cc
named_by_one grn (l ∷ items) (suc i) some within = by_first (names grn l) refl some (λ later. named_by_one grn items i later (omega arith))
  where
    by_first : (b : Bool) → names grn l ≡ b → (b || list_any (names grn) (take i items)) ≡ true → (list_any (names grn) (take i items) ≡ true → (j : ℕ) × (j < i) × ((d : Line × List ℕ) → (get_or items j d).0.grn ≡ grn)) → (j : ℕ) × (j < suc i) × ((d : Line × List ℕ) → (get_or (l ∷ items) j d).0.grn ≡ grn)
    by_first true named some later = (zero, omega arith, λ d. (bytes_eq-Decides l.0.grn grn).0 named)
    by_first false other some later = let found = later some in (suc found.0, omega (arith, found.1), found.2)

-- what holds of all places below one, and there, holds of all up to it
pub up_to : (Q : ℕ → Type 0) (i : ℕ) → ((j : ℕ) → j < i → Q j) → Q i → (j : ℕ) → j < i + 1 → Q j
up_to Q i below there j less = by_test (nat_lt j i) refl
  where
    by_test : (b : Bool) → nat_lt j i ≡ b → Q j
    by_test true h = below j (grind (arith, nat_tests))
    by_test false h = let same : i ≡ j = grind (arith, nat_tests) in subst Q same there
