-- A list of which the front is mapped already, and one element more.
use Rattle.std.proofs.Common.{◌≡◌, ℕ, zero, suc, ◌<◌, ◌≤◌, true, false, List, [], ◌∷◌, ◌++◌, length, map, take, drop, get_or, set, refl, ap, arith}
use Rattle.std.specs.Str.{bytes_eq}
use Rattle.td_guarantee.specs.declared.guarantee.Guarantee.{Guarantee}
use Rattle.td_movement.specs.declared.movement.Movement.{Movement}
use Rattle.td_model.specs.declared.change.NewStatus.{NewStatus}
use Rattle.td_model.specs.Account.{at_grn}
use Rattle.td_model.specs.Changes.{with_status, moved}

module _ {X : Type 0} (f : X → X) where
  -- the first i of them are mapped
  abbrev pub mapped_to : ℕ → List X → List X
  mapped_to i xs = map f (take i xs) ++ drop i xs

  -- the next one is as it was
  pub next_unmapped : (xs : List X) (i : ℕ) (d : X) → get_or (mapped_to i xs) i d ≡ get_or xs i d
  next_unmapped [] zero d = refl
  next_unmapped [] (suc i) d = refl
  next_unmapped (x ∷ xs) zero d = refl
  next_unmapped (x ∷ xs) (suc i) d = next_unmapped xs i d

  -- mapped in its place
  pub one_more : (xs : List X) (i : ℕ) (d : X) → i < length xs → set (mapped_to i xs) i (f (get_or xs i d)) ≡ mapped_to (suc i) xs
  one_more [] i d within = absurd (omega (arith, within))
  one_more (x ∷ xs) zero d within = refl
  one_more (x ∷ xs) (suc i) d within = ap (λ l. f x ∷ l) (one_more xs i d (omega (arith, within)))

  -- all of them
  pub all_mapped : (xs : List X) (i : ℕ) → length xs ≤ i → mapped_to i xs ≡ map f xs
  all_mapped [] zero within = refl
  all_mapped [] (suc i) within = refl
  all_mapped (x ∷ xs) zero within = absurd (omega (arith, within))
  all_mapped (x ∷ xs) (suc i) within = ap (λ l. f x ∷ l) (all_mapped xs i (omega (arith, within)))

-- the one that has moved, and any other
pub moved_is : (status : NewStatus) (m : Movement) → bytes_eq m.mrn status.mrn ≡ true → moved status m ≡ with_status status m
moved_is status m same = rw same refl

pub moved_not : (status : NewStatus) (m : Movement) → bytes_eq m.mrn status.mrn ≡ false → moved status m ≡ m
moved_not status m other = rw other refl

-- the guarantee that is named, and any other
pub named_is : (grn : List ℕ) (made : Guarantee → Guarantee) (g : Guarantee) → bytes_eq g.grn grn ≡ true → at_grn grn made g ≡ made g
named_is grn made g same = rw same refl

pub named_not : (grn : List ℕ) (made : Guarantee → Guarantee) (g : Guarantee) → bytes_eq g.grn grn ≡ false → at_grn grn made g ≡ g
named_not grn made g other = rw other refl
