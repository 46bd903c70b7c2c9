-- What is known of rows that were shown one after another, as far as they were, and of whom they were shown to.
use Rattle.std.specs.Prelude.{◌≡◌, ◌<◌, ℕ, Bool, false, List, [], ◌∷◌, ◌++◌, length, map, Option, Some, None, Result, Ok, Err, IsTrue}
use Rattle.std.specs.List.{FoldsTo}
use Rattle.std.specs.List.Sorted.{IsPermutation, IsSorted}
use Rattle.std.specs.declared.cmp.Ordering.{Ordering}
use Rattle.sqlite_value.specs.declared.keys.Key.{Key}
use Rattle.sqlite_value.specs.Order.{Row}
use Rattle.sqlite_sql.specs.Term.{Term}
use Rattle.sqlite_schema.specs.declared.schema.Schema.{Schema}
use Rattle.sqlite.specs.State.{State}
use Rattle.typed_sql.specs.Meanings.{MeansSelect}
use Rattle.typed_sql.specs.Reading.{IsAnswerOf, Selects, row_order, shown_by}
use Rattle.typed_sql.specs.Writing.{HasSchema, passes}

-- whatever rows the text asks for, these come first among them
abbrev pub SelectsFirst : List ℕ → Row → State → List Row → Type 0
SelectsFirst text values old first =
    (s : Schema) (tree : ℕ) (tests shows : List Term) (order : List (Term × Key)) → HasSchema old s
    → MeansSelect s text tree tests shows order
    → (rest : List Row)
    × IsAnswerOf (old.now.trees tree) (passes values tests) (shown_by shows values) (row_order order values) (first ++ rest)

-- this is what the row says that comes first among those that the text asks for; none: it asks for no row
abbrev pub FetchesFirst : {T R : Type 0} → (T → R) → (Row → R) → List ℕ → Row → State → Option T → Type 0
FetchesFirst typed from text values old None = Selects text values old []
FetchesFirst typed from text values old (Some x) = (r : Row) × SelectsFirst text values old (r ∷ []) × (typed x ≡ from r)

-- what a visitor and what stands beside it do with a row, as a step from both to both
abbrev pub step_of : {V O T : Type 0} → (V → O → T → V → O → Type 0) → V × O → T → V × O → Type 0
step_of sees p row q = sees p.0 p.1 row q.0 q.1

-- a visitor and what stands beside it were shown some rows, one after another, whatever they are
abbrev pub HasSeen : {V O T : Type 0} → (V → O → T → V → O → Type 0) → V × O → V × O → Type 0
HasSeen {T = T} sees old new = (shown : List T) × FoldsTo (step_of sees) old shown new

-- A visitor and what stands beside it were shown what these rows say, one after another; where all were shown, they are the answer,
-- and else they come first in it.
pub record HasVisited {V O T R : Type 0} (sees : V → O → T → V → O → Type 0) (typed : T → R) (from : Row → R) (text : List ℕ)
    (state : State) (whole : Bool) (old new : V × O) : Type 0 where
  pub shown : List T
  pub rows : List Row
  pub told : FoldsTo (step_of sees) old shown new
  pub read : map typed shown ≡ map from rows
  pub first : 0 < length rows → SelectsFirst text [] state rows
  pub all : IsTrue whole → Selects text [] state rows

-- these stand first among the rows in an order
abbrev pub StandFirst : {R : Type 0} → (R → R → Ordering) → List R → List R → Type 0
StandFirst {R} cmp rows first = (rest : List R) × IsPermutation rows (first ++ rest) × IsSorted cmp (first ++ rest)

-- A visitor and what stands beside it were shown typed rows that come first among these in an order, one after another; where all
-- were shown, they are these rows.
pub record HasVisitedRows {V O T R : Type 0} (sees : V → O → T → V → O → Type 0) (typed : T → R) (cmp : R → R → Ordering)
    (rows : List R) (whole : Bool) (old new : V × O) : Type 0 where
  pub shown : List T
  pub told : FoldsTo (step_of sees) old shown new
  pub first : 0 < length shown → StandFirst cmp rows (map typed shown)
  pub all : IsTrue whole → IsPermutation rows (map typed shown) × IsSorted cmp (map typed shown)

-- the answer says that all rows were shown
abbrev pub is_whole : {E : Type 0} → Result Bool E → Bool
is_whole (Ok all) = all
is_whole (Err e) = false
