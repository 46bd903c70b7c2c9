-- Tests that tell their facts.
use Rattle.std.proofs.Common.{◌≡◌, ℕ, ◌≤◌, List, Option, Some, None, Bool, true, false, if◌then◌else◌, nat_eq, refl, ap, arith, rules, inl, inr}
use Rattle.std.proofs.lemmas.Bool.{false≢true}
use Rattle.std.proofs.lemmas.Bool.Decides.{nat_tests, Decides-and, Decides-or, Decides-eqb, Decides-like, Decides-by_and}
use Rattle.std.specs.Prelude.{All, SomeIff, nat_le, not, ◌||◌, ◌⊎◌}
use Rattle.std.specs.Option.{option_eq}
use Rattle.std.specs.Bool.{Decides}
use Rattle.std.specs.Int.{is_in_range, IsInRange}
use Rattle.std.specs.List.{list_all}
use Rattle.std.specs.Char.{is_ascii_digit, is_ascii_uppercase, IsAsciiDigit, IsAsciiUppercase}
use Rattle.ascii_text.specs.Digits.{IsMark, is_mark}

-- a value where a fact holds, the fact told by a test
pub some_where : {T : Type 0} {P : Type 0} (b : Bool) (r : Option T) (v : T) → Decides b P → SomeIff r P v → r ≡ (if b then Some v else None)
some_where true None v d h = absurd (h (d.0 refl))
some_where true (Some x) v d h = ap Some h.1
some_where false None v d h = refl
some_where false (Some x) v d h = absurd (false≢true (d.1 h.0))

-- an order of two numbers
pub le_decided : (a b : ℕ) → Decides (nat_le a b) (a ≤ b)
le_decided a b = (λ h. grind (arith, nat_tests), λ h. grind (arith, nat_tests))

-- a range
pub range_decided : (low high c : ℕ) → Decides (is_in_range low high c) (IsInRange low high c)
range_decided low high c = Decides-and _ _ (le_decided low c) (le_decided c high)

-- a fact of each element
pub all_decided : {X : Type 0} (p : X → Bool) (P : X → Type 0) → ((x : X) → Decides (p x) (P x)) → (xs : List X) → Decides (list_all p xs) (All P xs)
all_decided p P each xs = Decides-by_and p P (list_all p) each refl (λ _ _. refl) xs

-- the comparison with a number that is there
pub some_decided : (o : Option ℕ) (n : ℕ) → Decides (option_eq nat_eq o (Some n)) (o ≡ Some n)
some_decided None n = (λ h. cc, λ h. cc)
some_decided (Some x) n = Decides-like (nat_eq x n) (λ h. ap Some h) (λ h. search rules) (Decides-eqb x n)

-- a fact that follows from another
pub implies_decided : {A B : Type 0} (a b : Bool) → Decides a A → Decides b B → Decides (not a || b) (A → B)
implies_decided true b of_a of_b = (λ h _. of_b.0 h, λ follows. of_b.1 (follows (of_a.0 refl)))
implies_decided false b of_a of_b = (λ _ x. absurd (false≢true (of_a.1 x)), λ _. refl)

-- one of four facts
pub one_of_four : {A B C D : Type 0} (a b c d : Bool) → Decides a A → Decides b B → Decides c C → Decides d D → Decides (a || b || c || d) (A ⊎ B ⊎ C ⊎ D)
one_of_four a b c d of_a of_b of_c of_d =
    Decides-like (a || b || c || d)
    (λ h. elim h [ inl (inl (inl x)) ↦ inl x | inl (inl (inr x)) ↦ inr (inl x) | inl (inr x) ↦ inr (inr (inl x)) | inr x ↦ inr (inr (inr x)) ])
    (λ h. elim h [ inl x ↦ inl (inl (inl x)) | inr (inl x) ↦ inl (inl (inr x)) | inr (inr (inl x)) ↦ inl (inr x) | inr (inr (inr x)) ↦ inr x ])
    (Decides-or _ _ (Decides-or _ _ (Decides-or _ _ of_a of_b) of_c) of_d)

pub digits_decided : (text : List ℕ) → Decides (list_all is_ascii_digit text) (All IsAsciiDigit text)
digits_decided text = all_decided is_ascii_digit IsAsciiDigit (range_decided 48 57) text

pub capitals_decided : (text : List ℕ) → Decides (list_all is_ascii_uppercase text) (All IsAsciiUppercase text)
capitals_decided text = all_decided is_ascii_uppercase IsAsciiUppercase (range_decided 65 90) text

mark_decided : (c : ℕ) → Decides (is_mark c) (IsMark c)
mark_decided c = Decides-or _ _ (range_decided 48 57 c) (range_decided 65 90 c)

pub marks_decided : (text : List ℕ) → Decides (list_all is_mark text) (All IsMark text)
marks_decided text = all_decided is_mark IsMark mark_decided text
