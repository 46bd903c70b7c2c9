-- The deadlines of movements, read alone and shown to a visitor.
use Rattle.std.proofs.Common.{Bool, IsPermutation, List, [], ◌∷◌, ◌++◌, ap, arith, false, length, map, refl, subst, sym, true, ◌∙◌, ◌≡◌}
use Rattle.std.proofs.Math.Seq.{take-append_seam}
use Rattle.std.proofs.lemmas.Bool.{false≢true}
use Rattle.std.proofs.lemmas.List.{append-nil, map-append, map-id, take-append-drop}
use Rattle.std.specs.Prelude.{drop, take}
use Rattle.std.specs.List.{FoldsTo, take-map}
use Rattle.std.specs.List.Sorted.{IsSorted}
use Rattle.sqlite_trees.proofs.ListLemmas.{all_of, filter_all, map-map}
use Rattle.sqlite_value.specs.Order.{Row}
use Rattle.sqlite.specs.State.{State}
use Rattle.td_movement.specs.declared.movement.Movement.{Movement}
use Rattle.td_schema.specs.Layouts.{schema_of}
use Rattle.td_schema.specs.declared.layout.Layout.{Layout}
use Rattle.td_table_model.specs.Tables.{Keyed}
use Rattle.typed_sql.proofs.Ordered.{selected_sorted}
use Rattle.typed_sql.proofs.TypedRows.{selected_typed}
use Rattle.typed_sql.specs.Reading.{IsAnswerOf, row_order, shown_by}
use Rattle.typed_sql.specs.Typed.{AreTyped, row_of, typed_rows}
use Rattle.typed_sql.specs.Visited.{HasVisited, HasVisitedRows, step_of}
use Rattle.typed_sql.specs.Writing.{HasSchema, passes}
use Rattle.td_store_rows.specs.Columns.{movement_columns, movement_from, movement_typing}
use Rattle.td_store_rows.specs.MovementTable.{deadlines_from, deadlines_of}
use Rattle.td_store_rows.specs.Places.{by_place}
use Rattle.td_store_rows.specs.declared.movements.stored.MovementDeadlines.{MovementDeadlines}
use Rattle.td_store_rows.specs.declared.movements.texts.TheConstants.{DEADLINES}
use Rattle.td_store_rows.proofs.MovementMeanings.{by_serial, deadline_columns, deadlines_mean}
use Rattle.td_store_rows.proofs.MovementStatements.{placed}

abbrev deadlines : Keyed Movement → MovementDeadlines
deadlines m = deadlines_of m.holder m.row

module _ {V O : Type 0} (sees : V → O → MovementDeadlines → V → O → Type 0) (l : Layout) (state : State)
    (has : HasSchema state (schema_of l)) (typed : AreTyped movement_typing state.now.trees) where
  abbrev rows : List (Keyed Movement)
  rows = typed_rows movement_typing state.now.trees

  abbrev Shows : List Row → Type 0
  Shows answer = IsAnswerOf (state.now.trees 4) (passes [] []) (shown_by deadline_columns []) (row_order by_serial []) answer

  -- the movements of the table in order, whose deadlines the answer says
  record Tells (answer : List Row) : Type 0 where
    movements : List (Keyed Movement)
    all : IsPermutation rows movements
    sorted : IsSorted by_place movements
    says : map deadlines_from answer ≡ map deadlines movements

  tells : (answer : List Row) → Shows answer → Tells answer
  tells answer a =
      let whole : IsAnswerOf (state.now.trees 4) (passes [] []) movement_columns (row_order by_serial []) (map movement_columns a.found) =
      record { found = a.found; all = a.all; sorted = a.sorted; shown = refl } in
      record {
        movements = map movement_from (map movement_columns a.found);
        all = subst (λ l. IsPermutation l (map movement_from (map movement_columns a.found)))
            (filter_all (λ _. true) rows (all_of (λ _. true ≡ true) (λ _. refl) rows))
            (selected_typed movement_typing (schema_of l) (passes [] []) movement_columns (λ _. true) (row_order by_serial [])
            state.now.trees (map movement_columns a.found) (λ r is. refl) (λ r. refl) whole typed);
        sorted = selected_sorted movement_typing (λ _. true) (passes [] []) movement_columns (row_order by_serial []) by_place
            state.now.trees (map movement_columns a.found) (λ r is. refl) (λ r. refl) (placed (λ _. true) []) whole typed;
        says =
            ap (map deadlines_from) a.shown ∙ map-map deadlines_from (shown_by deadline_columns []) a.found
            ∙ sym (ap (map deadlines) (map-map movement_from movement_columns a.found) ∙ map-map deadlines (row_of movement_typing) a.found);
      }

  -- who was shown the deadlines of movements
  told_of : (p q : V × O) (ms : List (Keyed Movement)) → FoldsTo (step_of sees) p (map deadlines ms) q
      → FoldsTo (step_of (λ v o m. sees v o (deadlines m))) p ms q
  told_of p q [] told = told
  told_of p q (m ∷ ms) told = (told.0, told.1, told_of told.0 q ms told.2)

  module _ (old new : V × O) where
    abbrev Read : Bool → Type 0
    Read whole = HasVisited sees (λ d. d) deadlines_from DEADLINES.now state whole old new

    abbrev Visited : Bool → Type 0
    Visited whole = HasVisitedRows (λ v o m. sees v o (deadlines m)) (λ m. m) by_place rows whole old new

    told_as : (whole : Bool) (h : Read whole) (ms : List (Keyed Movement)) → map deadlines_from h.rows ≡ map deadlines ms
        → FoldsTo (step_of (λ v o m. sees v o (deadlines m))) old ms new
    told_as whole h ms says =
        told_of old new ms (subst (λ l. FoldsTo (step_of sees) old l new) (sym (map-id h.shown) ∙ h.read ∙ says) h.told)

    -- all of them
    visited_all : (h : Read true) → Visited true
    visited_all h =
        let t = tells h.rows (h.all refl (schema_of l) 4 [] deadline_columns by_serial has (deadlines_mean l)) in
        record {
          shown = t.movements;
          told = told_as true h t.movements t.says;
          first = λ some. ([], rw (map-id t.movements, append-nil t.movements) t.all, rw (map-id t.movements, append-nil t.movements) t.sorted);
          all = λ is. rw (map-id t.movements) (t.all, t.sorted);
        }

    -- or those that come first
    visited_first : (h : Read false) → Visited false
    visited_first h = by h.rows refl
      where
        by : (shown : List Row) → h.rows ≡ shown → Visited false
        by [] none = record {
          shown = [];
          told = told_as false h [] (ap (map deadlines_from) none);
          first = λ some. absurd (omega (arith, some));
          all = λ is. absurd (false≢true is);
        }
        by (r ∷ more) some =
            let it = h.first (omega (arith, ap length some)) (schema_of l) 4 [] deadline_columns by_serial has (deadlines_mean l) in
            let t = tells (h.rows ++ it.0) it.1 in
            let n = length (map deadlines_from h.rows) in
            let ms = take n t.movements in
            let says : map deadlines_from h.rows ≡ map deadlines ms =
            sym (take-append_seam (map deadlines_from h.rows) (map deadlines_from it.0))
            ∙ ap (take n) (sym (map-append deadlines_from h.rows it.0) ∙ t.says) ∙ take-map deadlines n t.movements in
            record {
              shown = ms;
              told = told_as false h ms says;
              first = λ _. (drop n t.movements, rw (map-id ms, take-append-drop n t.movements) t.all, rw (map-id ms, take-append-drop n t.movements) t.sorted);
              all = λ is. absurd (false≢true is);
            }

    pub deadlines_visited : (whole : Bool) → Read whole → Visited whole
    deadlines_visited true h = visited_all h
    deadlines_visited false h = visited_first h
