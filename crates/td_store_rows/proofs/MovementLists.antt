-- What a list shows of a holder's movements in a range of serials, read alone.
use Rattle.std.proofs.Common.{Err, IsPermutation, List, [], ◌∷◌, Ok, Result, ap, map, nat_cmp, refl, subst, sym, ℕ, ◌∙◌, ◌≡◌}
use Rattle.std.specs.Prelude.{IfOk, Vec, filter}
use Rattle.std.specs.List.Sorted.{IsSorted}
use Rattle.std.specs.declared.alloc.Global.{Global}
use Rattle.sqlite_trees.proofs.ListLemmas.{map-map}
use Rattle.sqlite_value.specs.Order.{Row}
use Rattle.sqlite.specs.State.{State}
use Rattle.sqlite.specs.declared.error.Error.{Error}
use Rattle.td_movement.specs.declared.movement.Movement.{Movement}
use Rattle.td_table_model.specs.Gathering.{in_order, place}
use Rattle.td_table_model.specs.Tables.{Keyed}
use Rattle.td_table_model.proofs.Orders.{sorted_is_order}
use Rattle.td_schema.specs.Layouts.{schema_of}
use Rattle.td_schema.specs.declared.layout.Layout.{Layout}
use Rattle.typed_sql.proofs.Ordered.{selected_sorted}
use Rattle.typed_sql.proofs.TypedRows.{selected_typed}
use Rattle.typed_sql.specs.Reading.{Fetches, IsAnswerOf, Selects, row_order, shown_by}
use Rattle.typed_sql.specs.Typed.{row_of, typed_rows}
use Rattle.typed_sql.specs.Values.{number_value}
use Rattle.typed_sql.specs.Writing.{HasSchema, passes}
use Rattle.td_store_rows.specs.Columns.{movement_columns, movement_from, movement_typing}
use Rattle.td_store_rows.specs.MovementTable.{AreListedBySerial, listed_from, shown_in_list, shown_of}
use Rattle.td_store_rows.specs.Places.{is_within}
use Rattle.td_store_rows.specs.declared.movements.stored.MovementInList.{MovementInList}
use Rattle.td_store_rows.specs.declared.movements.texts.TheConstants.{LISTED_WITHIN}
use Rattle.td_store_rows.proofs.MovementMeanings.{by_serial, listed_columns, listed_means}
use Rattle.td_store_rows.proofs.MovementStatements.{compared, range_passes}
use Rattle.td_store_rows.proofs.RangeTests.{is_owned, within_tests}

module _ (H first end : ℕ) where
  abbrev values : Row
  values = number_value H ∷ number_value first ∷ number_value end ∷ []

  abbrev Shows : List Row → List Row → Type 0
  Shows rows answer = IsAnswerOf rows (passes values within_tests) (shown_by listed_columns values) (row_order by_serial values) answer

  -- the movements that were found, with all of their columns
  abbrev movements : (rows answer : List Row) → Shows rows answer → List (Keyed Movement)
  movements rows answer a = map movement_from (map movement_columns a.found)

  whole : (rows answer : List Row) → (a : Shows rows answer)
      → IsAnswerOf rows (passes values within_tests) movement_columns (row_order by_serial values) (map movement_columns a.found)
  whole rows answer a = record { found = a.found; all = a.all; sorted = a.sorted; shown = refl }

  -- what is shown of a row is what a list shows of the movement in it
  same : (rows answer : List Row) → (a : Shows rows answer) → map listed_from answer ≡ map shown_of (movements rows answer a)
  same rows answer a =
      ap (map listed_from) a.shown ∙ map-map listed_from (shown_by listed_columns values) a.found
      ∙ sym (ap (map shown_of) (map-map movement_from movement_columns a.found) ∙ map-map shown_of (row_of movement_typing) a.found)

  module _ (given : Row) (is : given ≡ values) (old : State) where
    abbrev Read : List MovementInList → Type 0
    Read found = Fetches shown_in_list listed_from LISTED_WITHIN.now given old found

    order_is : (found : List MovementInList) → Read found → AreListedBySerial (is_within H first end) old found
    order_is found h l has typed apart =
        let did : Selects LISTED_WITHIN.now values old h.0 = subst (λ v. Selects LISTED_WITHIN.now v old h.0) is h.1 in
        let a : Shows (old.now.trees 4) h.0 = did (schema_of l) 4 within_tests listed_columns by_serial has (listed_means l) in
        let ms : List (Keyed Movement) = movements (old.now.trees 4) h.0 a in
        let those : IsPermutation (filter (is_within H first end) (typed_rows movement_typing old.now.trees)) ms =
        selected_typed movement_typing (schema_of l) (passes values within_tests) movement_columns (is_within H first end) (row_order by_serial values) old.now.trees
        (map movement_columns a.found) (λ r is. range_passes r is H first end) (λ r. refl) (whole (old.now.trees 4) h.0 a) typed in
        let sorted : IsSorted (λ x y. nat_cmp (place x) (place y)) ms =
        selected_sorted movement_typing (is_within H first end) (passes values within_tests) movement_columns (row_order by_serial values)
        (λ x y. nat_cmp (place x) (place y)) old.now.trees (map movement_columns a.found) (λ r is. range_passes r is H first end) (λ r. refl)
        (compared H (is_within H first end) (λ m. is_owned H first end m) values) (whole (old.now.trees 4) h.0 a) typed in
        h.2 ∙ same (old.now.trees 4) h.0 a
        ∙ ap (map shown_of) (sorted_is_order place ms (filter (is_within H first end) (typed_rows movement_typing old.now.trees)) those sorted apart)

    pub listed_fetched : (r : Result (Vec MovementInList Global) Error) → IfOk r (λ found. Read found.items)
        → IfOk r (λ found. AreListedBySerial (is_within H first end) old found.items)
    listed_fetched (Ok found) h = order_is found.items h
    listed_fetched (Err e) h = h
