-- The codes of a guarantee with one more, and without one, in any order.
use Rattle.std.proofs.Common.{◌≡◌, ℕ, true, false, List, [], ◌∷◌, ◌++◌, filter, refl, sym, ◌∙◌, ap, subst, IsPermutation}
use Rattle.std.specs.Prelude.{not}
use Rattle.std.specs.List.{AllByRecursion}
use Rattle.std.specs.Str.{bytes_eq}
use Rattle.std.proofs.lemmas.List.Sorted.{IsPermutation-sym, IsPermutation-cons, IsPermutation-middle, IsPermutation-trans, IsPermutation-filter_both}
use Rattle.sqlite_trees.proofs.ListLemmas.{filter_same}
use Rattle.std.specs.Ordering.{nat_cmp}
use Rattle.std.specs.declared.cmp.Ordering.{Ordering}
use Rattle.std.specs.declared.cmp.Ordering.TheVariants.{Less, Equal, Greater}
use Rattle.std.specs.Cmp.Lexicographic.{slice_cmp}
use Rattle.std.specs.Ordering.{is_eq, ordering_reverse}
use Rattle.std.proofs.lemmas.Cmp.{nat_list_cmp_total}
use Rattle.std.proofs.lemmas.Map.Text.{is_eq-slice_cmp}
use Rattle.std.proofs.lemmas.Bool.{or_parts}
use Rattle.td_guarantee.specs.Codes.{is_before, with_code}
use Rattle.td_model.specs.Table.{stands}

abbrev cmp : List ℕ → List ℕ → Ordering
cmp = slice_cmp nat_cmp

-- of two different codes one stands before the other
either_side : (code c : List ℕ) (o : Ordering) → cmp c code ≡ o → bytes_eq c code ≡ false → is_before code c ≡ not (is_before c code)
either_side code c o is other = by_order o is (nat_list_cmp_total.antisymm code c ∙ ap ordering_reverse is)
  where
    by_order : (o : Ordering) → cmp c code ≡ o → cmp code c ≡ ordering_reverse o → is_before code c ≡ not (is_before c code)
    by_order Less is back = rw (is, back) refl
    by_order Equal is back = let one : bytes_eq c code ≡ true = sym (is_eq-slice_cmp c code) ∙ ap is_eq is in cc
    by_order Greater is back = rw (is, back) refl

-- those behind a code that isn't there are those that aren't before it
behind_it : (code : List ℕ) (codes : List (List ℕ)) → stands code codes ≡ false → AllByRecursion (λ c. is_before code c ≡ not (is_before c code)) codes
behind_it code [] new = tt
behind_it code (c ∷ codes) new =
    let parts = or_parts (bytes_eq c code) (stands code codes) new in
    (either_side code c (cmp c code) refl parts.0, behind_it code codes parts.1)

-- a code that isn't there, and those that are, are the codes with it
pub permuted_with : (code : List ℕ) (codes : List (List ℕ)) → stands code codes ≡ false → IsPermutation (code ∷ codes) (with_code code codes)
permuted_with code codes new =
    let before = filter (λ c. is_before c code) codes in
    let behind = filter (λ c. is_before code c) codes in
    let same : behind ≡ filter (λ c. not (is_before c code)) codes = filter_same (λ c. is_before code c) (λ c. not (is_before c code)) codes (behind_it code codes new) in
    let both : IsPermutation codes (before ++ behind) = subst (λ l. IsPermutation codes (before ++ l)) (sym same) (IsPermutation-filter_both (λ c. is_before c code) (λ c. not (is_before c code)) (λ c. refl) codes) in
    IsPermutation-trans _ _ _ (IsPermutation-cons code _ _ both) (IsPermutation-sym _ _ (IsPermutation-middle before code behind))
