-- The serials of a holder's movements that count, read alone.
use Rattle.std.proofs.Common.{Err, IsPermutation, List, [], ◌∷◌, Ok, Result, ap, map, nat_cmp, refl, subst, sym, ℕ, ◌∙◌, ◌≡◌}
use Rattle.std.specs.Prelude.{IfOk, Vec, filter, ◌==◌}
use Rattle.std.specs.List.Sorted.{IsSorted}
use Rattle.std.specs.declared.alloc.Global.{Global}
use Rattle.std.proofs.lemmas.List.Sorted.{IsPermutation-map}
use Rattle.sqlite_exec.proofs.RowsLemmas.{IsSorted-map}
use Rattle.sqlite_trees.proofs.ListLemmas.{map-map}
use Rattle.sqlite_value.specs.Order.{Row, column}
use Rattle.sqlite.specs.State.{State}
use Rattle.sqlite.specs.declared.error.Error.{Error}
use Rattle.td_movement.specs.States.{is_counting}
use Rattle.td_table_model.specs.Gathering.{place}
use Rattle.td_schema.specs.Layouts.{schema_of}
use Rattle.td_schema.specs.declared.layout.Layout.{Layout}
use Rattle.typed_sql.proofs.Ordered.{both_pass, selected_sorted}
use Rattle.typed_sql.proofs.TypedRows.{selected_typed}
use Rattle.typed_sql.specs.Reading.{Fetches, IsAnswerOf, Selects, row_order, shown_by}
use Rattle.typed_sql.specs.Typed.{row_of, typed_rows}
use Rattle.typed_sql.specs.Values.{number_in, number_value}
use Rattle.typed_sql.specs.Writing.{HasSchema, passes}
use Rattle.td_store_rows.specs.Columns.{movement_columns, movement_from, movement_typing}
use Rattle.td_store_rows.specs.MovementTable.{AreSerialsInOrder, AreSerialsOf, counts_for, serial_of_stored}
use Rattle.td_store_rows.specs.declared.movements.stored.MovementSerial.{MovementSerial}
use Rattle.td_store_rows.specs.declared.movements.texts.TheConstants.{COUNTING_SERIALS}
use Rattle.td_store_rows.proofs.MovementMeanings.{by_serial, counting_means, counting_tests, serial_column}
use Rattle.td_store_rows.proofs.MovementStatements.{compared, counting_passes}

-- what the column that is shown says
abbrev pub serial_shown : Row → ℕ
serial_shown cells = number_in (column cells 0)

module _ (H : ℕ) where
  abbrev values : Row
  values = number_value H ∷ []

  abbrev Shows : List Row → List Row → Type 0
  Shows rows answer = IsAnswerOf rows (passes values counting_tests) (shown_by serial_column values) (row_order by_serial values) answer

  -- the rows that were found, with all of their columns
  whole : (rows answer : List Row) → (a : Shows rows answer)
      → IsAnswerOf rows (passes values counting_tests) movement_columns (row_order by_serial values) (map movement_columns a.found)
  whole rows answer a = record { found = a.found; all = a.all; sorted = a.sorted; shown = refl }

  -- the serial that is shown of a row is that of the movement in it
  same : (rows answer : List Row) → (a : Shows rows answer)
      → map serial_shown answer ≡ map place (map movement_from (map movement_columns a.found))
  same rows answer a =
      ap (map serial_shown) a.shown ∙ map-map serial_shown (shown_by serial_column values) a.found
      ∙ sym (ap (map place) (map-map movement_from movement_columns a.found) ∙ map-map place (row_of movement_typing) a.found)

  module _ (given : Row) (is : given ≡ values) (old : State) where
    abbrev Read : List MovementSerial → Type 0
    Read found = Fetches serial_of_stored serial_shown COUNTING_SERIALS.now given old found

    answer_of : (found : List MovementSerial) → (h : Read found) → (l : Layout) → HasSchema old (schema_of l) → Shows (old.now.trees 4) h.0
    answer_of found h l has =
        let did : Selects COUNTING_SERIALS.now values old h.0 = subst (λ v. Selects COUNTING_SERIALS.now v old h.0) is h.1 in
        did (schema_of l) 4 counting_tests serial_column by_serial has (counting_means l)

    found_is : (found : List MovementSerial) → Read found → AreSerialsOf (counts_for H) old found
    found_is found h l has typed =
        let a = answer_of found h l has in
        subst (IsPermutation (map place (filter (counts_for H) (typed_rows movement_typing old.now.trees))))
        (sym (h.2 ∙ same (old.now.trees 4) h.0 a))
        (IsPermutation-map place _ _
        (selected_typed movement_typing (schema_of l) (passes values counting_tests) movement_columns (counts_for H) (row_order by_serial values) old.now.trees
        (map movement_columns a.found) (λ r is. counting_passes r is H) (λ r. refl) (whole (old.now.trees 4) h.0 a) typed))

    order_is : (found : List MovementSerial) → Read found → AreSerialsInOrder old found
    order_is found h l has typed =
        let a = answer_of found h l has in
        subst (IsSorted nat_cmp) (sym (h.2 ∙ same (old.now.trees 4) h.0 a))
        (IsSorted-map nat_cmp place (map movement_from (map movement_columns a.found))
        (selected_sorted movement_typing (counts_for H) (passes values counting_tests) movement_columns (row_order by_serial values)
        (λ x y. nat_cmp (place x) (place y)) old.now.trees (map movement_columns a.found) (λ r is. counting_passes r is H) (λ r. refl)
        (compared H (counts_for H) (λ m passing. (both_pass (m.holder == H) (is_counting m.row.state) passing).0) (number_value H ∷ [])) (whole (old.now.trees 4) h.0 a) typed))

    pub serials_fetched : (r : Result (Vec MovementSerial Global) Error) → IfOk r (λ found. Read found.items)
        → IfOk r (λ found. AreSerialsOf (counts_for H) old found.items)
    serials_fetched (Ok found) h = found_is found.items h
    serials_fetched (Err e) h = h

    pub serials_in_order : (r : Result (Vec MovementSerial Global) Error) → IfOk r (λ found. Read found.items)
        → IfOk r (λ found. AreSerialsInOrder old found.items)
    serials_in_order (Ok found) h = order_is found.items h
    serials_in_order (Err e) h = h
