-- Elements one after another.
use Rattle.std.proofs.Common.{◌≡◌, ◌+◌, ◌<◌, ℕ, List, [], ◌∷◌, ◌++◌, ◌∙◌, length, take, get_or, ap, sym, subst}
use Rattle.std.specs.List.{AllByRecursion}
use Rattle.std.proofs.lemmas.List.{take_more}
use Rattle.sqlite_trees.proofs.ListLemmas.{all-append, all-get_or}

module _ {X : Type 0} (P : X → Type 0) (xs : List X) (i : ℕ) (x : X) (within : i < length xs) (is : x ≡ get_or xs i x) where
  -- what holds of those before and of one more
  pub one_more : AllByRecursion P (take i xs) → P x → AllByRecursion P (take (i + 1) xs)
  one_more before here =
      subst (AllByRecursion P) (ap (λ y. take i xs ++ y ∷ []) is ∙ sym (take_more xs i x within))
      (all-append P (take i xs) (x ∷ []) before (here, tt))

  -- what holds of all holds of it
  pub one_of_all : AllByRecursion P xs → P x
  one_of_all all = subst P (sym is) (all-get_or P xs i x all within)
