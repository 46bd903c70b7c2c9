-- What was fetched from a table whose rows are typed.
use Rattle.std.proofs.Common.{Bool, Err, IsPermutation, List, Ok, Option, Result, map, subst, sym, ℕ, ◌≡◌}
use Rattle.std.specs.Option.{option_to_list}
use Rattle.std.specs.Prelude.{IfOk, Vec, filter}
use Rattle.std.specs.declared.alloc.Global.{Global}
use Rattle.sqlite.specs.declared.error.Error.{Error}
use Rattle.sqlite.specs.State.{State}
use Rattle.sqlite_schema.specs.declared.schema.Schema.{Schema}
use Rattle.sqlite_sql.specs.Term.{Term}
use Rattle.sqlite_value.specs.declared.keys.Key.{Key}
use Rattle.sqlite_value.specs.Order.{Row}
use Rattle.std.specs.List.Sorted.{IsSorted}
use Rattle.std.specs.declared.cmp.Ordering.{Ordering}
use Rattle.typed_sql.proofs.Ordered.{Passes, selected_sorted}
use Rattle.typed_sql.proofs.TypedRows.{selected_typed}
use Rattle.typed_sql.specs.Meanings.{MeansSelect}
use Rattle.typed_sql.specs.Reading.{Fetches, Selects, row_order, shown_by}
use Rattle.typed_sql.specs.Typed.{AreInOrder, AreThose, IsTypedRow, Typing, row_of, typed_rows}
use Rattle.typed_sql.specs.Writing.{passes}

-- The text shows the columns of the rows that pass, in some order, where the values are those that it was given.
module _ {T R : Type 0} (ty : Typing R) (s : Schema) (typed : T → R) (text : List ℕ) (tests shows : List Term)
    (order : List (Term × Key)) (p : R → Bool) (values given : Row) (same : given ≡ values)
    (means : MeansSelect s text ty.table.tree tests shows order)
    (passing : (r : Row) → IsTypedRow ty r → passes values tests r ≡ p (row_of ty r))
    (showing : (r : Row) → shown_by shows values r ≡ ty.columns r) (old : State) where
  -- so what was fetched is those that pass
  those : (found : List T) → Fetches typed ty.from text given old found → AreThose ty s p old (map typed found)
  those found h has typed_h =
      let did : Selects text values old h.0 = subst (λ v. Selects text v old h.0) same h.1 in
      subst (IsPermutation (filter p (typed_rows ty old.now.trees))) (sym h.2)
      (selected_typed ty s (passes values tests) (shown_by shows values) p (row_order order values) old.now.trees h.0
      passing showing (did s ty.table.tree tests shows order has means) typed_h)

  pub those_fetched : (r : Result (Vec T Global) Error)
      → IfOk r (λ found. Fetches typed ty.from text given old found.items)
      → IfOk r (λ found. AreThose ty s p old (map typed found.items))
  those_fetched (Ok found) h = those found.items h
  those_fetched (Err e) h = h

  pub one_fetched : (r : Result (Option T) Error)
      → IfOk r (λ found. Fetches typed ty.from text given old (option_to_list found))
      → IfOk r (λ found. AreThose ty s p old (map typed (option_to_list found)))
  one_fetched (Ok found) h = those (option_to_list found) h
  one_fetched (Err e) h = h

  -- in the order of the text, as it compares typed rows
  module _ (cmp : R → R → Ordering)
      (compares : (a b : Row) → Passes ty p a → Passes ty p b
      → row_order order values a b ≡ cmp (row_of ty a) (row_of ty b)) where
    in_order : (found : List T) → Fetches typed ty.from text given old found → AreInOrder ty s cmp old (map typed found)
    in_order found h has typed_h =
        let did : Selects text values old h.0 = subst (λ v. Selects text v old h.0) same h.1 in
        subst (IsSorted cmp) (sym h.2)
        (selected_sorted ty p (passes values tests) (shown_by shows values) (row_order order values) cmp old.now.trees
        h.0 passing showing compares (did s ty.table.tree tests shows order has means) typed_h)

    pub in_order_fetched : (r : Result (Vec T Global) Error)
        → IfOk r (λ found. Fetches typed ty.from text given old found.items)
        → IfOk r (λ found. AreInOrder ty s cmp old (map typed found.items))
    in_order_fetched (Ok found) h = in_order found.items h
    in_order_fetched (Err e) h = h
