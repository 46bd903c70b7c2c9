-- What holds of the rows that a SELECT over a whole table shows holds of its rows.
use Rattle.std.proofs.Common.{◌≡◌, Bool, true, false, cond, List, [], ◌∷◌, length, map, refl, sym, subst, ap, arith, IsPermutation}
use Rattle.std.specs.Prelude.{ℤ, ◌↔◌, IsTrue, filter}
use Rattle.std.specs.List.{AllByRecursion}
use Rattle.std.specs.declared.cmp.Ordering.{Ordering}
use Rattle.std.proofs.lemmas.List.Sorted.{IsPermutation-sym, length_permutation}
use Rattle.sqlite_value.specs.declared.value.Value.TheVariants.{Int}
use Rattle.sqlite_value.specs.Order.{Row}
use Rattle.sqlite_trees.specs.Tree.{has_rowid, rowid}
use Rattle.sqlite_trees.proofs.ListLemmas.{IsPermutation-filter, all-map, all-permutation, all_from_map}
use Rattle.sqlite_rules.specs.Edit.{id_in}
use Rattle.sqlite_sql.specs.Term.{Term, col}
use Rattle.typed_sql.specs.Reading.{IsAnswerOf, shown_by}
use Rattle.typed_sql.specs.Writing.{HaveIds, passes}

-- with no test each row passes
all_pass : (values : Row) (rows : List Row) → filter (passes values []) rows ≡ rows
all_pass values [] = refl
all_pass values (r ∷ rows) = ap (λ l. r ∷ l) (all_pass values rows)

module _ (rows answer : List Row) (values : Row) (show : Row → Row) (order : Row → Row → Ordering)
    (a : IsAnswerOf rows (passes values []) show order answer) where
  -- the rows that were found are those of the table
  found_all : IsPermutation rows a.found
  found_all = subst (λ l. IsPermutation l a.found) (all_pass values rows) a.all

  pub told_of_rows : (P : Row → Type 0) (b : Bool) → IsTrue b ↔ AllByRecursion P answer → IsTrue b ↔ AllByRecursion (λ r. P (show r)) rows
  told_of_rows P b told = (
    λ is. all-permutation (λ r. P (show r)) a.found rows (IsPermutation-sym rows a.found found_all)
        (all_from_map P show a.found (subst (AllByRecursion P) a.shown (told.0 is))),
    λ all. told.1 (subst (AllByRecursion P) (sym a.shown) (all-map P show a.found (all-permutation (λ r. P (show r)) rows a.found found_all all))),
  )

-- rowids that are apart are so in any order
ids_permuted : (xs ys : List Row) → IsPermutation xs ys → HaveIds xs → HaveIds ys
ids_permuted xs ys same have = record {
  ints = all-permutation (λ r. rowid r ≡ Int (id_in (rowid r))) xs ys same have.ints;
  apart = λ id. omega (arith, have.apart id, length_permutation _ _ (IsPermutation-filter (has_rowid id) xs ys same));
}

module _ (shows : List Term) where
  -- a row that shows its rowid, and more after it
  abbrev pub show_id : Row → Row
  show_id = shown_by (col 1 0 ∷ shows) []

  count_shown : (id : ℤ) (rows : List Row) → length (filter (has_rowid id) (map show_id rows)) ≡ length (filter (has_rowid id) rows)
  count_shown id [] = refl
  count_shown id (r ∷ rows) =
      elim (has_rowid id r) as (λ b. length (cond b (show_id r ∷ filter (has_rowid id) (map show_id rows)) (filter (has_rowid id) (map show_id rows)))
      ≡ length (cond b (r ∷ filter (has_rowid id) rows) (filter (has_rowid id) rows)))
      [ true ↦ omega (arith, count_shown id rows) | false ↦ count_shown id rows ]

  -- so rowids that are shown apart are apart
  pub ids_of_rows : (rows answer : List Row) (order : Row → Row → Ordering) → IsAnswerOf rows (passes [] []) show_id order answer
      → HaveIds answer → HaveIds rows
  ids_of_rows rows answer order a have =
      let shown : HaveIds (map show_id a.found) = subst HaveIds a.shown have in
      ids_permuted a.found rows (IsPermutation-sym rows a.found (found_all rows answer [] show_id order a))
      (record {
        ints = all_from_map (λ r. rowid r ≡ Int (id_in (rowid r))) show_id a.found shown.ints;
        apart = λ id. omega (arith, shown.apart id, count_shown id a.found);
      })
