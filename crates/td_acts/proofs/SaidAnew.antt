-- A guarantee of which something is said anew, among a holder's guarantees: the rules that stay.
use Rattle.std.proofs.Common.{◌≡◌, ℕ, ◌+◌, Bool, true, false, List, [], ◌∷◌, map, Option, Some, refl, sym, ap, subst}
use Rattle.std.specs.Prelude.{IsSome, if◌then◌else◌}
use Rattle.std.specs.List.{AllByRecursion}
use Rattle.std.specs.Str.{bytes_eq}
use Rattle.std.proofs.lemmas.Slice.Eq.{bytes_eq-Decides}
use Rattle.td_guarantee.specs.declared.guarantee.Guarantee.{Guarantee}
use Rattle.td_model.specs.Account.{at_grn, guarantee_by_grn}
use Rattle.td_model.specs.Sound.{AllNumbered}

module _ (grn : List ℕ) (made : Guarantee → Guarantee) (same : (g : Guarantee) → (made g).grn ≡ g.grn) where
  -- a guarantee keeps its GRN
  pub grn_kept : (g : Guarantee) → (at_grn grn made g).grn ≡ g.grn
  grn_kept g = by_test (bytes_eq g.grn grn)
    where
      by_test : (b : Bool) → (if b then made g else g).grn ≡ g.grn
      by_test true = same g
      by_test false = refl

  -- and is found still
  pub found_anew : (x : List ℕ) (gs : List Guarantee) → IsSome (guarantee_by_grn x gs) → IsSome (guarantee_by_grn x (map (at_grn grn made) gs))
  found_anew x [] some = cc
  found_anew x (g ∷ gs) some = by_test (bytes_eq (at_grn grn made g).grn x) (ap (λ k. bytes_eq k x) (grn_kept g)) some (found_anew x gs)
    where
      by_test : (b : Bool) → b ≡ bytes_eq g.grn x → IsSome (if◌then◌else◌ {A = Option Guarantee} (bytes_eq g.grn x) (Some g) (guarantee_by_grn x gs))
          → (IsSome (guarantee_by_grn x gs) → IsSome (guarantee_by_grn x (map (at_grn grn made) gs))) → IsSome (if◌then◌else◌ {A = Option Guarantee} b (Some (at_grn grn made g)) (guarantee_by_grn x (map (at_grn grn made) gs)))
      by_test true is some later = refl
      by_test false is some later = later (subst (λ c. IsSome (if◌then◌else◌ {A = Option Guarantee} c (Some g) (guarantee_by_grn x gs))) (sym is) some)

  -- what the one keeps, each keeps
  pub each_anew : (P : Guarantee → Type 0) (found : Guarantee) → (P found → P (made found)) → (gs : List Guarantee) → AllByRecursion (λ g. g.grn ≡ grn → g ≡ found) gs → AllByRecursion P gs → AllByRecursion P (map (at_grn grn made) gs)
  each_anew P found keeps [] one all = tt
  each_anew P found keeps (g ∷ gs) one all = (one_anew P found keeps g one.0 all.0, each_anew P found keeps gs one.1 all.1)
    where
      one_anew : (P : Guarantee → Type 0) (found : Guarantee) → (P found → P (made found)) → (g : Guarantee) → (g.grn ≡ grn → g ≡ found) → P g → P (at_grn grn made g)
      one_anew P found keeps g one is = by_test (bytes_eq g.grn grn) refl
        where
          by_test : (b : Bool) → bytes_eq g.grn grn ≡ b → P (if b then made g else g)
          by_test true named =
              let here : g ≡ found = one ((bytes_eq-Decides g.grn grn).0 named) in
              subst (λ (f : Guarantee). P (made f)) (sym here) (keeps (subst P here is))
          by_test false other = is

  -- and so by their numbers
  pub numbered_anew : (P : ℕ → Guarantee → Type 0) (found : Guarantee) → ((n : ℕ) → P n found → P n (made found)) → (n : ℕ) (gs : List Guarantee) → AllByRecursion (λ g. g.grn ≡ grn → g ≡ found) gs → AllNumbered P n gs → AllNumbered P n (map (at_grn grn made) gs)
  numbered_anew P found keeps n [] one all = tt
  numbered_anew P found keeps n (g ∷ gs) one all = (by_test (bytes_eq g.grn grn) refl, numbered_anew P found keeps (n + 1) gs one.1 all.1)
    where
      by_test : (b : Bool) → bytes_eq g.grn grn ≡ b → P (n + 1) (if b then made g else g)
      by_test true named =
          let here : g ≡ found = one.0 ((bytes_eq-Decides g.grn grn).0 named) in
          subst (λ (f : Guarantee). P (n + 1) (made f)) (sym here) (keeps (n + 1) (subst (P (n + 1)) here all.0))
      by_test false other = all.0
