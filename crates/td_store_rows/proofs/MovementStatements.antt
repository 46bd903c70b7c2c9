-- What the statements on the table of movements did.
use Rattle.std.proofs.Common.{Bool, nat_cmp, true, List, [], ap, false, map, refl, subst, ℕ, ◌∙◌, ◌∷◌, ◌≡◌}
use Rattle.std.specs.Prelude.{filter, codes, if◌then◌else◌, ◌==◌}
use Rattle.sqlite_typed.proofs.TestLemmas.{at_or, last_term, then_term, truth_or, then_value}
use Rattle.typed_sql.proofs.Ordered.{Passes, by_both, by_second}
use Rattle.typed_sql.specs.Reading.{row_order}
use Rattle.typed_sql.specs.Typed.{AreInOrder, typed_rows, IsTypedRow, row_of}
use Rattle.td_table_model.proofs.Orders.{sorted_is_order}
use Rattle.td_table_model.specs.Gathering.{owner, place}
use Rattle.td_store_rows.proofs.MovementMeanings.{above_tests, after_tests, by_serial, counting_tests, insert_means, key_tests, lrn_tests, new_row, set_columns, set_means}
use Rattle.td_store_rows.specs.MovementTable.{AreBySerial, AreMovements, movement_row_of, TurnsMovements, counts_for, has_lrn, has_mrn, status_values, with_new_status}
use Rattle.td_store_rows.specs.Places.{by_place, is_above, is_after, is_within}
use Rattle.td_store_rows.specs.declared.movements.stored.StoredMovement.{StoredMovement}
use Rattle.td_store_rows.proofs.RangeTests.{within_passes, within_tests}
use Rattle.sqlite.specs.State.{State}
use Rattle.td_store_rows.proofs.MovementCells.{counting_names, back, bare, cells_stored}
use Rattle.sqlite_rules.specs.Cast.{cast_all}
use Rattle.sqlite_sql.specs.Ops.{binary}
use Rattle.sqlite_sql.specs.Term.{eval_all}
use Rattle.sqlite_sql.specs.declared.ops.BinaryOp.TheVariants.{Coalesce, Compare}
use Rattle.sqlite_sql.specs.declared.ops.CompareOp.TheVariants.{Eq}
use Rattle.sqlite_trees.specs.Tree.{rowid}
use Rattle.sqlite_value.specs.Order.{Row, column}
use Rattle.sqlite_value.specs.declared.keys.Collation.TheVariants.{Binary}
use Rattle.sqlite_value.specs.declared.value.Value.TheVariants.{Text}
use Rattle.std.specs.Str.{bytes_eq}
use Rattle.td_model.specs.declared.change.NewStatus.{NewStatus}
use Rattle.td_movement.specs.States.{state_name}
use Rattle.td_movement.specs.declared.movement.Movement.{Movement}
use Rattle.td_store_rows.specs.Columns.{movement_cells, movement_columns, movement_typing, movements_table}
use Rattle.td_store_rows.specs.declared.movements.texts.TheConstants.{INSERT, SET_STATUS}
use Rattle.td_schema.specs.Layouts.{schema_of}
use Rattle.td_schema.specs.declared.layout.Layout.{Layout}
use Rattle.typed_sql.proofs.Columns.{given_or, number_above, number_is, text_is}
use Rattle.typed_sql.proofs.TypedRows.{inserted_typed, updated_typed}
use Rattle.typed_sql.specs.Values.{number_or_null, number_value, text_or_null}
use Rattle.typed_sql.specs.Writing.{Inserts, IsInserted, Updates, columns_set, passes}
use Rattle.td_table_model.specs.Tables.{Keyed}

pub inserted : (m : Keyed Movement) → bare m ≡ m → (values : Row) → values ≡ movement_cells m → (old new : State)
    → Inserts INSERT.now values old new → TurnsMovements (λ rows. m ∷ rows) old new
inserted m plain values is old new h layout has typed =
    let did : Inserts INSERT.now (movement_cells m) old new = subst (λ v. Inserts INSERT.now v old new) is h in
    let done = did (schema_of layout) movements_table new_row has (insert_means layout) in
    inserted_typed movement_typing (schema_of layout) (eval_all new_row (movement_cells m ∷ []))
    (movement_cells m) m old.now new.now (λ id. refl) (back m ∙ plain)
    (subst (λ c. IsInserted (schema_of layout) movements_table
    (eval_all new_row (movement_cells m ∷ [])) c old.now new.now) (cells_stored m) done) typed

module _ (r : Row) (is : IsTypedRow movement_typing r) where
  abbrev m : Keyed Movement
  m = row_of movement_typing r

  holder_is : (H : ℕ) → truth_or false (binary (Compare Eq Binary) (column r 1) (number_value H)) ≡ (m.holder == H)
  holder_is H = number_is (column r 1) m.holder H (ap (λ l. column l 0) is)

  pub key_passes : (H n : ℕ) (mrn : List ℕ) (more : Row)
      → passes (number_value H ∷ number_value n ∷ Text mrn ∷ more) key_tests r ≡ has_mrn H n mrn m
  key_passes H n mrn more =
      then_term (holder_is H)
      (then_term (number_is (column r 2) m.serial n (ap (λ l. column l 1) is))
      (last_term (text_is (column r 3) m.row.mrn mrn (ap (λ l. column l 2) is))))

  pub lrn_passes : (H : ℕ) (lrn : List ℕ) → passes (number_value H ∷ Text lrn ∷ []) lrn_tests r ≡ has_lrn H lrn m
  lrn_passes H lrn =
      then_term (holder_is H) (last_term (text_is (column r 4) m.row.lrn lrn (ap (λ l. column l 3) is)))

  pub range_passes : (H first end : ℕ) → passes (number_value H ∷ number_value first ∷ number_value end ∷ []) within_tests r ≡ is_within H first end m
  range_passes H first end = within_passes m r (ap (λ l. column l 0) is) (ap (λ l. column l 1) is) H first end

  pub after_passes : (H n : ℕ) → passes (number_value H ∷ number_value n ∷ []) after_tests r ≡ is_after H n m
  after_passes H n = then_term (holder_is H) (last_term (number_above (column r 2) m.serial n (ap (λ l. column l 1) is)))

  pub above_passes : (H : ℕ) → passes (number_value H ∷ []) above_tests r ≡ is_above H m
  above_passes H = last_term (number_above (column r 1) m.holder H (ap (λ l. column l 0) is))

  state_is : (name : List ℕ)
      → truth_or false (binary (Compare Eq Binary) (column r 8) (Text name))
      ≡ bytes_eq (state_name m.row.state) name
  state_is name = text_is (column r 8) (state_name m.row.state) name (ap (λ l. column l 7) is)

  pub counting_passes : (H : ℕ) → passes (number_value H ∷ []) counting_tests r ≡ counts_for H m
  counting_passes H = then_term (holder_is H) (last_term (
      at_or false _ _ (at_or false _ _ (state_is (codes "released")) (state_is (codes "enquired")))
      (at_or false _ _ (state_is (codes "arrived"))
      (at_or false _ _ (state_is (codes "discrepant")) (state_is (codes "cleared"))))
      ∙ counting_names m.row.state))

  pub status_set : (H n : ℕ) (status : NewStatus)
      → movement_columns (rowid r ∷ columns_set movements_table set_columns (status_values H n status) r)
      ≡ movement_cells (with_new_status status m)
  status_set H n status =
      let row : eval_all set_columns (status_values H n status ∷ r ∷ [])
      ≡ movement_cells (with_new_status status m) =
      then_value (ap (λ l. column l 0) is)
      (then_value (ap (λ l. column l 1) is)
      (then_value (ap (λ l. column l 2) is) (then_value (ap (λ l. column l 3) is)
      (then_value (ap (λ l. column l 4) is)
      (then_value (ap (λ l. column l 5) is) (then_value (ap (λ l. column l 6) is) (then_value refl
      (then_value (ap (λ l. binary Coalesce (number_or_null status.limit) (column l 8)) is
      ∙ given_or number_value (λ x. refl) status.limit m.row.limit)
      (then_value (ap (λ l. binary Coalesce (number_or_null status.arrival) (column l 9)) is
      ∙ given_or number_value (λ x. refl) status.arrival m.row.arrival)
      (then_value (ap (λ l. binary Coalesce (text_or_null status.actual) (column l 10)) is
      ∙ given_or Text (λ x. refl) status.actual m.row.actual) refl)))))))))) in
      ap (cast_all movements_table.columns) row ∙ cells_stored (with_new_status status m)

pub status_turned : (H n : ℕ) (status : NewStatus) (values : Row) → values ≡ status_values H n status
    → (old new : State) → Updates SET_STATUS.now values old new
    → TurnsMovements (map (λ m. if has_mrn H n status.mrn m then with_new_status status m else m)) old new
status_turned H n status values is old new h layout has typed =
    let did : Updates SET_STATUS.now (status_values H n status) old new =
    subst (λ v. Updates SET_STATUS.now v old new) is h in
    let done = did (schema_of layout) movements_table key_tests set_columns has (set_means layout) typed.ids in
    updated_typed movement_typing (schema_of layout) (passes (status_values H n status) key_tests)
    (columns_set movements_table set_columns (status_values H n status)) (has_mrn H n status.mrn)
    (with_new_status status) old.now new.now
    (λ r row_is. key_passes r row_is H n status.mrn
    (Text (state_name status.state) ∷ number_or_null status.limit ∷ number_or_null status.arrival
    ∷ text_or_null status.actual ∷ [])) (λ r row_is. status_set r row_is H n status)
    (λ r. back (with_new_status status (row_of movement_typing r))) done typed

-- movements of one holder are compared by their serials
module _ (H : ℕ) (p : Keyed Movement → Bool)
    (own : (m : Keyed Movement) → p m ≡ true → (m.holder == H) ≡ true) where
  pub compared : (values : Row) (a b : Row) → Passes movement_typing p a → Passes movement_typing p b
      → row_order by_serial values a b
      ≡ nat_cmp (place (row_of movement_typing a)) (place (row_of movement_typing b))
  compared values =
      by_second movement_typing p (λ m. m.holder) H (λ r is. ap (λ l. column l 0) is) own values place
      (λ r is. ap (λ l. column l 1) is)

-- and those of several by holder and then by serial
pub placed : (p : Keyed Movement → Bool) (values : Row) (a b : Row) → Passes movement_typing p a → Passes movement_typing p b
    → row_order by_serial values a b ≡ by_place (row_of movement_typing a) (row_of movement_typing b)
placed = by_both movement_typing owner place (λ r is. ap (λ l. column l 0) is) (λ r is. ap (λ l. column l 1) is)

-- so those that were fetched are they by their serials
pub by_serials : (p : Keyed Movement → Bool) (old : State) (found : List StoredMovement) → AreMovements p old found
    → ((l : Layout) → AreInOrder movement_typing (schema_of l) (λ a b. nat_cmp (place a) (place b)) old (map movement_row_of found))
    → AreBySerial p old found
by_serials p old found those sorted layout has typed apart =
    sorted_is_order place (map movement_row_of found) (filter p (typed_rows movement_typing old.now.trees))
    (those layout has typed) (sorted layout has typed) apart
