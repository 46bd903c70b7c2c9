-- What an UPDATE did to a table whose rows are typed, where each row that it sets is one that it may set.
use Rattle.sqlite_value.specs.Order.{Row}
use Rattle.sqlite.specs.Effect.{Database}
use Rattle.sqlite_schema.specs.declared.schema.Schema.{Schema}
use Rattle.sqlite_trees.proofs.ListLemmas.{all-permutation}
use Rattle.sqlite_trees.specs.Tree.{rowid}
use Rattle.std.proofs.Common.{Bool, IsPermutation, List, [], ap, ap₂, false, map, refl, subst, sym, true, ◌∙◌, ◌∷◌, ◌≡◌}
use Rattle.std.proofs.lemmas.List.Sorted.{IsPermutation-map}
use Rattle.std.specs.List.{AllByRecursion}
use Rattle.std.specs.Prelude.{if◌then◌else◌}
use Rattle.typed_sql.specs.Typed.{AreTyped, HasNow, IsTypedRow, Typing, row_of, typed_rows}
use Rattle.typed_sql.specs.Writing.{IsUpdated}

module _ {R : Type 0} (ty : Typing R) (s : Schema) (P : R → Type 0) (test : Row → Bool) (columns : Row → Row) (p : R → Bool) (f : R → R)
    (tests : (r : Row) → IsTypedRow ty r → test r ≡ p (row_of ty r))
    (shows : (r : Row) → IsTypedRow ty r → p (row_of ty r) ≡ true → P (row_of ty r) → ty.columns (rowid r ∷ columns r) ≡ ty.cells (f (row_of ty r)))
    (back : (r : Row) → ty.from (ty.cells (f (row_of ty r))) ≡ f (row_of ty r)) where
  abbrev set : Row → Row
  set r = rowid r ∷ columns r

  anew : (r : Row) → IsTypedRow ty r → p (row_of ty r) ≡ true → P (row_of ty r) → row_of ty (set r) ≡ f (row_of ty r)
  anew r is passes own = ap ty.from (shows r is passes own) ∙ back r

  -- a row that passes is set, and another stays
  one_set : (b : Bool) (r : Row) → p (row_of ty r) ≡ b → IsTypedRow ty r → P (row_of ty r)
      → row_of ty (if b then set r else r) ≡ (if b then f (row_of ty r) else row_of ty r)
  one_set true r passes is own = anew r is passes own
  one_set false r passes is own = refl

  one_typed : (b : Bool) (r : Row) → p (row_of ty r) ≡ b → IsTypedRow ty r → P (row_of ty r) → IsTypedRow ty (if b then set r else r)
  one_typed true r passes is own = shows r is passes own ∙ sym (ap ty.cells (anew r is passes own))
  one_typed false r passes is own = is

  rows_set : (rows : List Row) → AllByRecursion (IsTypedRow ty) rows → AllByRecursion P (map (row_of ty) rows)
      → map (row_of ty) (map (λ r. if test r then set r else r) rows) ≡ map (λ x. if p x then f x else x) (map (row_of ty) rows)
  rows_set [] typed own = refl
  rows_set (r ∷ rows) typed own =
      ap₂ ◌∷◌ (rw (tests r typed.0) (one_set (p (row_of ty r)) r refl typed.0 own.0)) (rows_set rows typed.1 own.1)

  all_set : (rows : List Row) → AllByRecursion (IsTypedRow ty) rows → AllByRecursion P (map (row_of ty) rows)
      → AllByRecursion (IsTypedRow ty) (map (λ r. if test r then set r else r) rows)
  all_set [] typed own = tt
  all_set (r ∷ rows) typed own =
      (rw (tests r typed.0) (one_typed (p (row_of ty r)) r refl typed.0 own.0), all_set rows typed.1 own.1)

  pub updated_where : (old new : Database) → IsUpdated s ty.table test columns old new → AreTyped ty old.trees → AllByRecursion P (typed_rows ty old.trees)
      → HasNow ty s (map (λ x. if p x then f x else x) (typed_rows ty old.trees)) old new
  updated_where old new h typed own =
      record {
        same = subst (λ l. IsPermutation l (typed_rows ty new.trees)) (rows_set (old.trees ty.table.tree) typed.cells own) (IsPermutation-map (row_of ty) _ _ h.rows);
        typed = record { ids = h.ids; cells = all-permutation (IsTypedRow ty) _ _ h.rows (all_set (old.trees ty.table.tree) typed.cells own) };
        others = h.others;
        schema = h.schema;
        sound = h.sound;
      }
