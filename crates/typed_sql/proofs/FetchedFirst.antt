-- What was fetched first from a table whose rows are typed.
use Rattle.std.proofs.Common.{Bool, Err, IsPermutation, List, None, Ok, Option, Result, Some, [], arith, length, map, refl, subst, ℕ, ◌∷◌, ◌≡◌}
use Rattle.std.specs.Option.{option_map}
use Rattle.std.specs.Prelude.{IfOk, filter}
use Rattle.std.specs.List.Sorted.{IsSorted}
use Rattle.std.specs.declared.cmp.Ordering.{Ordering}
use Rattle.std.proofs.lemmas.List.Sorted.{length_permutation}
use Rattle.sqlite.specs.declared.error.Error.{Error}
use Rattle.sqlite.specs.State.{State}
use Rattle.sqlite_schema.specs.declared.schema.Schema.{Schema}
use Rattle.sqlite_sql.specs.Term.{Term}
use Rattle.sqlite_value.specs.declared.keys.Key.{Key}
use Rattle.sqlite_value.specs.Order.{Row}
use Rattle.typed_sql.proofs.Ordered.{Passes, selected_sorted}
use Rattle.typed_sql.proofs.TypedRows.{selected_typed}
use Rattle.typed_sql.specs.Meanings.{MeansSelect}
use Rattle.typed_sql.specs.Reading.{IsAnswerOf, Selects, row_order, shown_by}
use Rattle.typed_sql.specs.Typed.{IsFirst, IsTypedRow, Typing, row_of, typed_rows}
use Rattle.typed_sql.specs.Visited.{FetchesFirst, SelectsFirst}
use Rattle.typed_sql.specs.Writing.{passes}

-- nothing else is a permutation of no rows
none_permuted : {X : Type 0} (xs : List X) → IsPermutation xs [] → xs ≡ []
none_permuted xs same = empty xs (omega (arith, length_permutation xs [] same))
  where
    empty : {X : Type 0} (xs : List X) → length xs ≡ 0 → xs ≡ []
    empty [] none = refl
    empty (x ∷ xs) none = absurd (omega (arith, none))

-- The text shows the columns of the rows that pass, in an order, where the values are those that it was given.
module _ {T R : Type 0} (ty : Typing R) (s : Schema) (typed : T → R) (text : List ℕ) (tests shows : List Term)
    (order : List (Term × Key)) (p : R → Bool) (values given : Row) (same : given ≡ values)
    (means : MeansSelect s text ty.table.tree tests shows order)
    (passing : (r : Row) → IsTypedRow ty r → passes values tests r ≡ p (row_of ty r))
    (showing : (r : Row) → shown_by shows values r ≡ ty.columns r) (old : State) (cmp : R → R → Ordering)
    (compares : (a b : Row) → Passes ty p a → Passes ty p b
    → row_order order values a b ≡ cmp (row_of ty a) (row_of ty b)) where
  abbrev Answers : List Row → Type 0
  Answers rows = IsAnswerOf (old.now.trees ty.table.tree) (passes values tests) (shown_by shows values) (row_order order values) rows

  -- so what was fetched is the first of those that pass
  first_is : (found : Option T) → FetchesFirst typed ty.from text given old found → IsFirst ty s p cmp old (option_map typed found)
  first_is None h has typed_h =
      let did : Selects text values old [] = subst (λ v. Selects text v old []) same h in
      let answer : Answers [] = did s ty.table.tree tests shows order has means in
      none_permuted (filter p (typed_rows ty old.now.trees))
      (selected_typed ty s (passes values tests) (shown_by shows values) p (row_order order values) old.now.trees [] passing showing answer typed_h)
  first_is (Some x) h has typed_h =
      let did : SelectsFirst text values old (h.0 ∷ []) = subst (λ v. SelectsFirst text v old (h.0 ∷ [])) same h.1 in
      let whole = did s ty.table.tree tests shows order has means in
      let answer : Answers (h.0 ∷ whole.0) = whole.1 in
      let those : IsPermutation (filter p (typed_rows ty old.now.trees)) (ty.from h.0 ∷ map ty.from whole.0) =
      selected_typed ty s (passes values tests) (shown_by shows values) p (row_order order values) old.now.trees (h.0 ∷ whole.0) passing showing answer typed_h in
      let sorted : IsSorted cmp (ty.from h.0 ∷ map ty.from whole.0) =
      selected_sorted ty p (passes values tests) (shown_by shows values) (row_order order values) cmp old.now.trees
      (h.0 ∷ whole.0) passing showing compares answer typed_h in
      (map ty.from whole.0, rw (h.2) those, rw (h.2) sorted)

  pub first_fetched : (r : Result (Option T) Error) → IfOk r (FetchesFirst typed ty.from text given old)
      → IfOk r (λ found. IsFirst ty s p cmp old (option_map typed found))
  first_fetched (Ok found) h = first_is found h
  first_fetched (Err e) h = h
