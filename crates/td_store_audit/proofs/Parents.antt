-- A FOREIGN KEY read backward: the row that is named is there.
use Rattle.std.proofs.Common.{◌≡◌, ◌∙◌, ℕ, Bool, true, false, true≢false, List, [], ◌∷◌, Some, Equal, cond, map, refl, sym, subst, ap}
use Rattle.std.specs.Prelude.{IsSome, find, pos, ◌&&◌, ◌||◌}
use Rattle.std.specs.List.{AllByRecursion, list_any}
use Rattle.sqlite_value.specs.declared.keys.Collation.TheVariants.{Binary}
use Rattle.sqlite_value.specs.declared.value.Value.TheVariants.{Int}
use Rattle.sqlite_value.specs.Keys.{first_key, plain}
use Rattle.sqlite_value.specs.Order.{Row, column, value_cmp}
use Rattle.sqlite_trees.specs.Tree.{Trees, rowid}
use Rattle.sqlite_trees.proofs.ListLemmas.{all_both, all_weaker}
use Rattle.sqlite_rules.specs.Edit.{id_in}
use Rattle.sqlite_sql.specs.Ops.{is_null}
use Rattle.sqlite_schema.specs.Rules.{agree, equal}
use Rattle.typed_sql.specs.Writing.{HaveIds}
use Rattle.typed_sql.specs.Values.{number_value}
use Rattle.td_store_audit.proofs.Equal.{Ties, equal_ties, ints_tie, ties_on}
use Rattle.td_store_audit.proofs.Ruled.{HasParent, both}

-- what follows from each element that passes follows where one does
pub of_any : {X : Type 0} (p : X → Bool) (Q : Type 0) (xs : List X) → AllByRecursion (λ x. p x ≡ true → Q) xs → list_any p xs ≡ true → Q
of_any p Q [] each some = absurd (true≢false (sym some))
of_any {X} p Q (x ∷ xs) each some = by_test (p x) each.0 (of_any p Q xs each.1) some
  where
    by_test : (b : Bool) → (b ≡ true → Q) → (list_any p xs ≡ true → Q) → (b || list_any p xs) ≡ true → Q
    by_test true so more some = so refl
    by_test false so more some = more some

-- an element that passes is found
pub each_found : {X Y : Type 0} (q : Y → Bool) (of : X → Y) (xs : List X)
    → AllByRecursion (λ x. q (of x) ≡ true → IsSome (find q (map of xs))) xs
each_found q of [] = tt
each_found {X} q of (x ∷ xs) = (
  λ is. first (q (of x)) is,
  all_weaker (λ y. q (of y) ≡ true → IsSome (find q (map of xs))) (λ y. q (of y) ≡ true → IsSome (find q (map of (x ∷ xs))))
      (λ y so is. later (q (of x)) (so is)) xs (each_found q of xs),
)
  where
    first : (b : Bool) → b ≡ true → IsSome (cond b (Some (of x)) (find q (map of xs)))
    first true is = refl
    first false is = absurd (true≢false (sym is))

    later : (b : Bool) → IsSome (find q (map of xs)) → IsSome (cond b (Some (of x)) (find q (map of xs)))
    later true some = refl
    later false some = some

-- what follows from each holder with this number follows of a row that names it
pub named_holder : (trees : Trees) (Q : Type 0) (H : ℕ) → HaveIds (trees 1) → AllByRecursion (λ p. rowid p ≡ number_value H → Q) (trees 1)
    → (row : Row) → Ties (column row 1) (number_value H) → HasParent trees (1 ∷ []) 1 (0 ∷ []) row → Q
unfolding first_key
named_holder trees Q H ids each row ties has =
    of_any (λ parent. agree plain (0 ∷ []) parent (1 ∷ []) row) Q (trees 1)
    (all_both (λ p. rowid p ≡ Int (id_in (rowid p))) (λ p. rowid p ≡ number_value H → Q) (λ p. agree plain (0 ∷ []) p (1 ∷ []) row ≡ true → Q)
    (λ p int so agrees.
    let own : Ties (rowid p) (column row 1) = equal_ties (rowid p) (column row 1) (both (equal Binary (rowid p) (column row 1)) true agrees).0 in
    let tie : value_cmp (Int (id_in (rowid p))) (Int (pos H)) ≡ Equal = ap (λ v. value_cmp v (Int (pos H))) (sym int) ∙ ties_on (rowid p) (column row 1) (number_value H) own ties in
    so (int ∙ ap Int (ints_tie (id_in (rowid p)) (pos H) tie))) (trees 1) ids.ints each)
    (there (is_null (column row 1)) ties.some has)
  where
    there : (null : Bool) → null ≡ false → ((null || false) || list_any (λ parent. agree plain (0 ∷ []) parent (1 ∷ []) row) (trees 1)) ≡ true
        → list_any (λ parent. agree plain (0 ∷ []) parent (1 ∷ []) row) (trees 1) ≡ true
    there true is has = absurd (true≢false is)
    there false is has = has

-- and of a row that names a movement of that holder
pub named_movement : (trees : Trees) (Q : Type 0) (H n : ℕ) → HaveIds (trees 1) → AllByRecursion (λ p. rowid p ≡ number_value H → Q) (trees 1)
    → AllByRecursion (HasParent trees (1 ∷ []) 1 (0 ∷ [])) (trees 4) → (row : Row) → column row 1 ≡ number_value H → column row 2 ≡ number_value n
    → HasParent trees (1 ∷ 2 ∷ []) 4 (1 ∷ 2 ∷ []) row → Q
unfolding first_key
named_movement trees Q H n ids each named row holder serial has =
    of_any (λ parent. agree plain (1 ∷ 2 ∷ []) parent (1 ∷ 2 ∷ []) row) Q (trees 4)
    (all_weaker (HasParent trees (1 ∷ []) 1 (0 ∷ [])) (λ p. agree plain (1 ∷ 2 ∷ []) p (1 ∷ 2 ∷ []) row ≡ true → Q)
    (λ p has agrees.
    let first = (both (equal Binary (column p 1) (column row 1)) (equal Binary (column p 2) (column row 2) && true) agrees).0 in
    named_holder trees Q H ids each p (subst (Ties (column p 1)) holder (equal_ties (column p 1) (column row 1) first)) has) (trees 4) named)
    (there (is_null (column row 1)) (is_null (column row 2)) (ap is_null holder) (ap is_null serial) has)
  where
    there : (null other : Bool) → null ≡ false → other ≡ false
        → ((null || (other || false)) || list_any (λ parent. agree plain (1 ∷ 2 ∷ []) parent (1 ∷ 2 ∷ []) row) (trees 4)) ≡ true
        → list_any (λ parent. agree plain (1 ∷ 2 ∷ []) parent (1 ∷ 2 ∷ []) row) (trees 4) ≡ true
    there true other is that has = absurd (true≢false is)
    there false true is that has = absurd (true≢false that)
    there false false is that has = has
