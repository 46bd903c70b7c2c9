-- Rows in another order are in their places, too.
use Rattle.std.proofs.Common.{◌≡◌, ◌∙◌, ℕ, ◌+◌, ◌<◌, ◌≤◌, List, get_or, length, nat_cmp, sym, arith, IsPermutation}
use Rattle.std.specs.Prelude.{◌==◌}
use Rattle.std.specs.List.Sorted.{IsSortedByKey}
use Rattle.std.proofs.lemmas.Bool.Decides.{nat_tests}
use Rattle.std.proofs.lemmas.List.Sorted.{IsPermutation-refl}
use Rattle.sqlite_trees.specs.Tree.{IsAscending}
use Rattle.sqlite_trees.proofs.ListLemmas.{IsPermutation-filter, all-get_or, ascending-filter, ascending-get_or}
use Rattle.td_table_model.specs.Gathering.{in_order, no_of, of_key, place}
use Rattle.td_table_model.specs.Tables.{Keyed, LineCells}
use Rattle.td_table_model.proofs.Grouped.{of_key_has}
use Rattle.td_table_model.proofs.Orders.{apart_permuted, sorted_is_order}
use Rattle.td_store_audit.specs.InPlace.{AreNumbersApart, IsByNumber}

-- lines of which no two of one serial have one number
pub apart_still : (xs ys : List (Keyed LineCells)) → IsPermutation xs ys → AreNumbersApart xs → AreNumbersApart ys
apart_still xs ys same apart n =
    apart_permuted no_of (of_key place n xs) (of_key place n ys) (IsPermutation-filter (λ l. place l == n) xs ys same) (apart n)

-- lines by their numbers are in order already
pub ordered : (n : ℕ) (rows : List (Keyed LineCells)) → IsByNumber rows → AreNumbersApart rows → of_key place n rows ≡ in_order no_of (of_key place n rows)
ordered n rows rising apart = sorted_is_order no_of mine mine (IsPermutation-refl mine) sorted (apart n)
  where
    mine : List (Keyed LineCells)
    mine = of_key place n rows

    ascending : IsAscending (λ a b. place a ≡ place b → no_of a ≤ no_of b) mine
    ascending = ascending-filter (λ a b. place a ≡ place b → no_of a ≤ no_of b) (λ l. place l == n) rows rising

    own : (i : ℕ) (d : Keyed LineCells) → i < length mine → place (get_or mine i d) ≡ n
    own i d within = all-get_or (λ l. place l ≡ n) mine i d (of_key_has place n rows) within

    sorted : IsSortedByKey no_of nat_cmp mine
    sorted k d low high =
        let first = own k d (omega (arith, high)) in
        let second = own (k + 1) d high in
        let less : no_of (get_or mine k d) ≤ no_of (get_or mine (k + 1) d) =
        ascending-get_or (λ a b. place a ≡ place b → no_of a ≤ no_of b) mine k (k + 1) d ascending (omega arith) high (first ∙ sym second) in
        grind (arith, nat_tests, less)
