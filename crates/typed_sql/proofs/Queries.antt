-- The answer of a plain query.
use Rattle.std.proofs.lemmas.List.{length-map}
use Rattle.std.proofs.Common.{zero, suc, ◌+◌, Bool, List, None, [], ap, cond, false, flat_map, get_or, is_lt, map, refl, subst, subst₂, true, ℕ, ◌++◌, ◌-◌, ◌^◌, ◌∙◌, ◌∷◌, ◌≡◌}
use Rattle.sqlite_sql.specs.Program.{overlay}
use Rattle.sqlite_sql.specs.Query.{IsAnswer, Output, Query, end, inner, matches_as, output, output_cmp}
use Rattle.sqlite_sql.specs.Term.{Env, Term}
use Rattle.sqlite_trees.proofs.ListLemmas.{map-map, pull_back}
use Rattle.sqlite_trees.specs.Tree.{Trees}
use Rattle.sqlite_value.specs.Order.{Row}
use Rattle.sqlite_value.specs.declared.keys.Key.{Key}
use Rattle.sqlite_value.specs.declared.value.Value.TheVariants.{Null}
use Rattle.std.specs.List.Sorted.{IsSorted}
use Rattle.std.specs.Prelude.{filter, if◌then◌else◌, nat_le, slice_get, unwrap_or}
use Rattle.std.specs.declared.cmp.Ordering.{Ordering}
use Rattle.typed_sql.specs.Meanings.{plain_query}
use Rattle.typed_sql.specs.Reading.{IsAnswerOf, row_order, shown_by}
use Rattle.typed_sql.specs.Writing.{passes}

pub ones : {X Y : Type 0} (p : X → Bool) (f : X → Y) (xs : List X)
    → flat_map (λ x. cond (p x) (f x ∷ []) []) xs ≡ map f (filter p xs)
ones p f [] = refl
ones p f (x ∷ xs) =
    elim (p x) as (λ b. cond b (f x ∷ []) [] ++ flat_map (λ x. cond (p x) (f x ∷ []) []) xs
    ≡ map f (cond b (x ∷ filter p xs) (filter p xs)))
    [ true ↦ ap (λ l. f x ∷ l) (ones p f xs) | false ↦ ones p f xs ]

-- no tree is hidden
pub overlaid : (db : Trees) (t : ℕ) → overlay db [] t ≡ db t
overlaid db t =
    elim (nat_le (2 ^ 31) t) as (λ b. unwrap_or (if b then slice_get [] (t - 2 ^ 31) else None) (db t)
    ≡ db t) [ true ↦ refl | false ↦ refl ]

get_or-map : {X Y : Type 0} (f : X → Y) (xs : List X) (k : ℕ) (d : X)
    → get_or (map f xs) k (f d) ≡ f (get_or xs k d)
get_or-map f [] k d = refl
get_or-map f (x ∷ xs) zero d = refl
get_or-map f (x ∷ xs) (suc k) d = get_or-map f xs k d

-- in a sorted list of keys with what is shown, the elements that they are of are sorted
sorted_from : {X Y : Type 0} (cmp : Y → Y → Ordering) (f : X → Y) (xs : List X) → IsSorted cmp (map f xs)
    → IsSorted (λ a b. cmp (f a) (f b)) xs
sorted_from cmp f xs sorted k d low high =
    subst₂ (λ a b. is_lt (cmp a b) ≡ false) (get_or-map f xs (k + 1) d) (get_or-map f xs k d)
    (sorted k (f d) low (rw (length-map xs f) high))

-- the answer of a program that is one query
module _ (t : ℕ) (tests shows : List Term) (order : List (Term × Key)) (db : Trees) (params : Row) where
  abbrev q : Query
  q = plain_query t tests shows order

  abbrev env : Row → Env
  env r = params ∷ r ∷ []

  matched : matches_as Null (overlay db []) tests (inner t end) (params ∷ [])
      ≡ map env (filter (passes params tests) (db t))
  matched = ones (passes params tests) env (overlay db [] t)
      ∙ ap (λ rows. map env (filter (passes params tests) rows)) (overlaid db t)

  pub plain_answer : (rows : List Row) → IsAnswer q (overlay db []) params rows
      → IsAnswerOf (db t) (passes params tests) (shown_by shows params) (row_order order params) rows
  plain_answer rows a =
      let kept : a.kept ≡ map (λ r. output q (env r)) (filter (passes params tests) (db t)) =
      a.distinct ∙ ap (map (output q)) (a.grouped ∙ matched)
      ∙ map-map (output q) env (filter (passes params tests) (db t)) in
      let from = pull_back (λ r. output q (env r)) a.kept a.ordered a.same
      (filter (passes params tests) (db t)) kept in
      record {
        found = from.0;
        all = from.1;
        sorted = sorted_from (output_cmp q) (λ r. output q (env r)) from.0
            (subst (IsSorted (output_cmp q)) from.2 a.sorted);
        shown = a.shown ∙ ap (map (λ (o : Output). o.1)) from.2
            ∙ map-map (λ (o : Output). o.1) (λ r. output q (env r)) from.0;
      }
