-- What a statement did to a table whose rows are typed.
use Rattle.sqlite_value.specs.Order.{Row}
use Rattle.sqlite.specs.Effect.{Database}
use Rattle.sqlite_schema.specs.declared.schema.Schema.{Schema}
use Rattle.sqlite_trees.proofs.ListLemmas.{IsPermutation-same, all-filter, all-permutation, all_weaker, map-map}
use Rattle.sqlite_trees.specs.Tree.{Trees, rowid}
use Rattle.sqlite_value.specs.declared.value.Value.TheVariants.{Int}
use Rattle.std.proofs.Common.{Bool, IsPermutation, List, [], ap, ap₂, cond, false, map, refl, subst, subst₂, sym, true, ◌∙◌, ◌∷◌, ◌≡◌}
use Rattle.std.proofs.lemmas.List.Sorted.{IsPermutation-map}
use Rattle.std.specs.List.{AllByRecursion}
use Rattle.std.specs.Prelude.{filter, if◌then◌else◌, not, ℤ}
use Rattle.std.specs.declared.cmp.Ordering.{Ordering}
use Rattle.typed_sql.specs.Reading.{IsAnswerOf}
use Rattle.typed_sql.specs.Typed.{AreTyped, HasNow, IsTypedRow, Typing, row_of, typed_rows}
use Rattle.typed_sql.specs.Writing.{IsDeleted, IsInserted, IsUpdated}

-- what a test leaves of rows, and of typed rows
kept_typed : {R : Type 0} (of : Row → R) (p : R → Bool) (test : Row → Bool) (rows : List Row)
    → AllByRecursion (λ r. test r ≡ p (of r)) rows
    → map of (filter test rows) ≡ filter p (map of rows)
kept_typed of p test [] each = refl
kept_typed of p test (r ∷ rows) each =
    rw each.0 (elim (p (of r)) as (λ b. map of (cond b (r ∷ filter test rows) (filter test rows))
    ≡ cond b (of r ∷ filter p (map of rows)) (filter p (map of rows)))
    [ true ↦ ap (λ l. of r ∷ l) (kept_typed of p test rows each.1) | false ↦ kept_typed of p test rows each.1 ])

-- and what a change of those that pass makes of them
set_typed : {R : Type 0} (of : Row → R) (p : R → Bool) (f : R → R) (test : Row → Bool) (set : Row
    → Row) (rows : List Row)
    → AllByRecursion (λ r. (test r ≡ p (of r)) × (of (set r) ≡ f (of r))) rows
    → map of (map (λ r. if test r then set r else r) rows) ≡ map (λ x. if p x then f x else x) (map of rows)
set_typed of p f test set [] each = refl
set_typed of p f test set (r ∷ rows) each =
    ap₂ ◌∷◌ (rw each.0.0
    (elim (p (of r)) as (λ b. of (if b then set r else r)
    ≡ (if b then f (of r) else of r)) [ true ↦ each.0.1 | false ↦ refl ]))
    (set_typed of p f test set rows each.1)

all_set : (P : Row → Type 0) (test : Row → Bool) (set : Row → Row) (rows : List Row)
    → AllByRecursion (λ r. P r × P (set r)) rows
    → AllByRecursion P (map (λ r. if test r then set r else r) rows)
all_set P test set [] each = tt
all_set P test set (r ∷ rows) each = (
  elim (test r) as
      (λ b. P (if b then set r else r)) [ true ↦ each.0.1 | false ↦ each.0.0 ],
  all_set P test set rows each.1,
)

module _ {R : Type 0} (ty : Typing R) (s : Schema) where
  -- one typed row more, under the rowid that it got
  pub inserted_typed_under : (source columns : Row) (x : R) (old new : Database) (h : IsInserted s ty.table source columns old new)
      → ty.columns (Int h.id ∷ columns) ≡ ty.cells x → ty.from (ty.cells x) ≡ x → AreTyped ty old.trees → HasNow ty s (x ∷ typed_rows ty old.trees) old new
  inserted_typed_under source columns x old new h shows back typed =
      let head : row_of ty (Int h.id ∷ columns) ≡ x = ap ty.from shows ∙ back in
      let first : IsTypedRow ty (Int h.id ∷ columns) = shows ∙ sym (ap ty.cells head) in
      record {
        same = subst (λ y. IsPermutation (y ∷ typed_rows ty old.trees) (typed_rows ty new.trees)) head (IsPermutation-map (row_of ty) _ _ h.rows);
        typed = record { ids = h.ids typed.ids; cells = all-permutation (IsTypedRow ty) _ _ h.rows (first, typed.cells) };
        others = h.others;
        schema = h.schema;
        sound = h.sound;
      }

  -- whatever rowid it gets
  pub inserted_typed : (source columns : Row) (x : R) (old new : Database)
      → ((id : ℤ) → ty.columns (Int id ∷ columns) ≡ ty.cells x) → ty.from (ty.cells x) ≡ x
      → IsInserted s ty.table source columns old new → AreTyped ty old.trees
      → HasNow ty s (x ∷ typed_rows ty old.trees) old new
  inserted_typed source columns x old new shows back h typed =
      inserted_typed_under source columns x old new h (shows h.id) back typed

  -- those that pass are set anew
  pub updated_typed : (test : Row → Bool) (columns : Row → Row) (p : R → Bool) (f : R → R) (old new : Database)
      → ((r : Row) → IsTypedRow ty r → test r ≡ p (row_of ty r))
      → ((r : Row) → IsTypedRow ty r → ty.columns (rowid r ∷ columns r) ≡ ty.cells (f (row_of ty r)))
      → ((r : Row) → ty.from (ty.cells (f (row_of ty r))) ≡ f (row_of ty r))
      → IsUpdated s ty.table test columns old new → AreTyped ty old.trees
      → HasNow ty s (map (λ x. if p x then f x else x) (typed_rows ty old.trees)) old new
  updated_typed test columns p f old new tests shows back h typed =
      let set = λ (r : Row). rowid r ∷ columns r in
      let anew : (r : Row) → IsTypedRow ty r → row_of ty (set r) ≡ f (row_of ty r) =
      λ r is. ap ty.from (shows r is) ∙ back r in
      let still : (r : Row) → IsTypedRow ty r → IsTypedRow ty (set r) = λ r is. shows r is
      ∙ sym (ap ty.cells (anew r is)) in
      let rows = old.trees ty.table.tree in
      record {
        same = subst (λ l. IsPermutation l (typed_rows ty new.trees))
            (set_typed (row_of ty) p f test set rows
            (all_weaker (IsTypedRow ty) (λ r. (test r ≡ p (row_of ty r))
            × (row_of ty (set r) ≡ f (row_of ty r))) (λ r is. (tests r is, anew r is)) rows typed.cells))
            (IsPermutation-map (row_of ty) _ _ h.rows);
        typed = record {
          ids = h.ids;
          cells = all-permutation (IsTypedRow ty) _ _ h.rows
              (all_set (IsTypedRow ty) test set rows
              (all_weaker (IsTypedRow ty) (λ r. IsTypedRow ty r
              × IsTypedRow ty (set r)) (λ r is. (is, still r is)) rows typed.cells));
        };
        others = h.others;
        schema = h.schema;
        sound = h.sound;
      }

  -- those that pass are gone
  pub deleted_typed : (test : Row → Bool) (p : R → Bool) (old new : Database)
      → ((r : Row) → IsTypedRow ty r → test r ≡ p (row_of ty r))
      → IsDeleted s ty.table test old new → AreTyped ty old.trees
      → HasNow ty s (filter (λ x. not (p x)) (typed_rows ty old.trees)) old new
  deleted_typed test p old new tests h typed =
      let rows = old.trees ty.table.tree in
      let left : typed_rows ty new.trees ≡ filter (λ x. not (p x)) (typed_rows ty old.trees) =
      ap (map (row_of ty)) h.rows
      ∙ kept_typed (row_of ty) (λ x. not (p x)) (λ r. not (test r)) rows
      (all_weaker (IsTypedRow ty) (λ r. not (test r) ≡ not (p (row_of ty r)))
      (λ r is. ap not (tests r is)) rows typed.cells) in
      record {
        same = IsPermutation-same _ _ (sym left);
        typed = record {
          ids = h.ids;
          cells =
              rw h.rows (all-filter (IsTypedRow ty) (λ r. not (test r)) rows typed.cells);
        };
        others = h.others;
        schema = h.schema;
        sound = h.sound;
      }

  -- those that pass are shown
  pub selected_typed : (test : Row → Bool) (show : Row → Row) (p : R → Bool) (order : Row → Row
      → Ordering) (trees : Trees) (answer : List Row)
      → ((r : Row) → IsTypedRow ty r → test r ≡ p (row_of ty r)) → ((r : Row) → show r ≡ ty.columns r)
      → IsAnswerOf (trees ty.table.tree) test show order answer → AreTyped ty trees
      → IsPermutation (filter p (typed_rows ty trees)) (map ty.from answer)
  selected_typed test show p order trees answer tests shows a typed =
      let rows = trees ty.table.tree in
      let read : map ty.from answer ≡ map (row_of ty) a.found = ap (map ty.from) a.shown
      ∙ map-map ty.from show a.found ∙ (λ i. map (λ r. ty.from (shows r i)) a.found) in
      let those = kept_typed (row_of ty) p test rows
      (all_weaker (IsTypedRow ty) (λ r. test r ≡ p (row_of ty r)) tests rows typed.cells) in
      subst₂ IsPermutation those (sym read) (IsPermutation-map (row_of ty) _ _ a.all)
