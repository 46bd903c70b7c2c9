-- What a visitor was shown of a table whose rows are typed, by a text that shows all its rows in some order.
use Rattle.std.proofs.Common.{◌≡◌, Bool, IsPermutation, List, [], ◌∷◌, ◌++◌, ap, arith, length, map, refl, subst, sym, true, ℕ, ◌∙◌}
use Rattle.std.proofs.lemmas.List.{length-map, map-append}
use Rattle.std.specs.Prelude.{filter}
use Rattle.std.specs.List.Sorted.{IsSorted}
use Rattle.std.specs.declared.cmp.Ordering.{Ordering}
use Rattle.sqlite.specs.State.{State}
use Rattle.sqlite_schema.specs.declared.schema.Schema.{Schema}
use Rattle.sqlite_sql.specs.Term.{Term}
use Rattle.sqlite_value.specs.declared.keys.Key.{Key}
use Rattle.sqlite_value.specs.Order.{Row}
use Rattle.typed_sql.proofs.Ordered.{selected_sorted}
use Rattle.typed_sql.proofs.TypedRows.{selected_typed}
use Rattle.typed_sql.specs.Meanings.{MeansSelect}
use Rattle.typed_sql.specs.Reading.{IsAnswerOf, row_order, shown_by}
use Rattle.typed_sql.specs.Typed.{AreTyped, IsTypedRow, Typing, row_of, typed_rows}
use Rattle.typed_sql.specs.Visited.{HasVisited, HasVisitedRows}
use Rattle.typed_sql.specs.Writing.{HasSchema, passes}

any : {R : Type 0} → R → Bool
any x = true

all_pass : {R : Type 0} (xs : List R) → filter any xs ≡ xs
unfolding any
all_pass [] = refl
all_pass (x ∷ xs) = ap (λ l. x ∷ l) (all_pass xs)

module _ {V O T R : Type 0} (ty : Typing R) (s : Schema) (sees : V → O → T → V → O → Type 0) (typed : T → R) (text : List ℕ)
    (shows : List Term) (order : List (Term × Key)) (cmp : R → R → Ordering)
    (means : MeansSelect s text ty.table.tree [] shows order)
    (showing : (r : Row) → shown_by shows [] r ≡ ty.columns r)
    (compares : (a b : Row) → IsTypedRow ty a → IsTypedRow ty b → row_order order [] a b ≡ cmp (row_of ty a) (row_of ty b))
    (state : State) (typed_now : AreTyped ty state.now.trees) where
  abbrev Answer : List Row → Type 0
  Answer rows = IsAnswerOf (state.now.trees ty.table.tree) (passes [] []) (shown_by shows []) (row_order order []) rows

  those : (rows : List Row) → Answer rows → IsPermutation (typed_rows ty state.now.trees) (map ty.from rows)
  unfolding any
  those rows answer =
      subst (λ l. IsPermutation l (map ty.from rows)) (all_pass (typed_rows ty state.now.trees))
      (selected_typed ty s (passes [] []) (shown_by shows []) any (row_order order []) state.now.trees rows (λ r is. refl) showing answer typed_now)

  in_order : (rows : List Row) → Answer rows → IsSorted cmp (map ty.from rows)
  unfolding any
  in_order rows answer =
      selected_sorted ty any (passes [] []) (shown_by shows []) (row_order order []) cmp state.now.trees rows (λ r is. refl) showing
      (λ a b is other. compares a b is.0 other.0) answer typed_now

  -- it was shown what comes first among the table's rows in that order
  pub visited_rows : (whole : Bool) (old new : V × O) → HasSchema state s → HasVisited sees typed ty.from text state whole old new
      → HasVisitedRows sees typed cmp (typed_rows ty state.now.trees) whole old new
  visited_rows whole old new has h = record {
    shown = h.shown;
    told = h.told;
    first = λ some.
        let it = h.first (omega (arith, some, ap length h.read, length-map h.shown typed, length-map h.rows ty.from))
        s ty.table.tree [] shows order has means in
        let same : map ty.from (h.rows ++ it.0) ≡ map typed h.shown ++ map ty.from it.0 =
        map-append ty.from h.rows it.0 ∙ ap (λ l. l ++ map ty.from it.0) (sym h.read) in (
          map ty.from it.0,
          subst (IsPermutation (typed_rows ty state.now.trees)) same (those (h.rows ++ it.0) it.1),
          subst (IsSorted cmp) same (in_order (h.rows ++ it.0) it.1),
        );
    all = λ is.
        let answer = h.all is s ty.table.tree [] shows order has means in (
          subst (IsPermutation (typed_rows ty state.now.trees)) (sym h.read) (those h.rows answer),
          subst (IsSorted cmp) (sym h.read) (in_order h.rows answer),
        );
  }
