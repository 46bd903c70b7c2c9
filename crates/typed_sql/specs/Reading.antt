-- What a SELECT over one table shows.
use Rattle.std.specs.Prelude.{◌≡◌, ℕ, Bool, List, [], ◌∷◌, map, filter, IsTrue}
use Rattle.std.specs.List.Sorted.{IsPermutation, IsSorted}
use Rattle.std.specs.declared.cmp.Ordering.{Ordering}
use Rattle.sqlite_value.specs.declared.keys.Key.{Key}
use Rattle.sqlite_value.specs.Order.{Row}
use Rattle.sqlite_sql.specs.Query.{sort_cmp}
use Rattle.sqlite_sql.specs.Term.{Term, eval_all}
use Rattle.sqlite_schema.specs.declared.schema.Schema.{Schema}
use Rattle.sqlite.specs.Given.{IsPlain}
use Rattle.sqlite.specs.Listing.{understood}
use Rattle.sqlite.specs.State.{State, HasCleanDisk, IsUnchanged, KeepsCommit, Survives}
use Rattle.typed_sql.specs.Meanings.{MeansSelect}
use Rattle.typed_sql.specs.Writing.{HasSchema, passes}

-- what terms show of a row
abbrev pub shown_by : List Term → Row → Row → Row
shown_by shows values r = eval_all shows (values ∷ r ∷ [])

-- the order of rows under the terms of ORDER BY; with none all are alike
abbrev pub row_order : List (Term × Key) → Row → Row → Row → Ordering
row_order order values a b = sort_cmp order (values ∷ a ∷ []) (values ∷ b ∷ [])

-- the answer is what the rows that pass the test show, each once, in that order
pub record IsAnswerOf (rows : List Row) (test : Row → Bool) (show : Row → Row) (order : Row → Row
    → Ordering) (answer : List Row) : Type 0 where
  pub found : List Row
  pub all : IsPermutation (filter test rows) found
  pub sorted : IsSorted order found
  pub shown : answer ≡ map show found

-- whatever rows the text asks for, these are they
abbrev pub Selects : List ℕ → Row → State → List Row → Type 0
Selects text values old answer =
    (s : Schema) (tree : ℕ) (tests shows : List Term) (order : List (Term × Key)) → HasSchema old s
    → MeansSelect s text tree tests shows order
    → IsAnswerOf (old.now.trees tree) (passes values tests) (shown_by shows values) (row_order order values) answer

-- these are what the rows say that the text asks for, in their order
abbrev pub Fetches : {T R : Type 0} → (T → R) → (Row → R) → List ℕ → Row → State → List T → Type 0
Fetches typed from text values old found =
    (rows : List Row) × Selects text values old rows × (map typed found ≡ map from rows)

-- a text that doesn't write left all as it was
abbrev pub OnlyReads : List ℕ → State → State → Type 0
OnlyReads text old new = (s : Schema) → HasSchema old s → IsPlain (understood s text) → IsUnchanged old new

-- where the tables are those of the schema, all is left as it was
abbrev pub LeavesAll : Schema → State → State → Type 0
LeavesAll s old new = HasSchema old s → IsUnchanged old new

-- the calls between the two states have only read
pub record HasOnlyRead (old new : State) : Type 0 where
  pub was_open : IsTrue new.is_open → IsTrue old.is_open
  pub now_is : new.now ≡ old.now
  pub unchanged : IsTrue old.is_open → IsUnchanged old new

-- so they have where the tables are those of the schema
abbrev pub OnlyRead : Schema → State → State → Type 0
OnlyRead s old new = HasSchema old s → HasOnlyRead old new

-- A call on a transaction. If that was open, it is open still where the call ended well, and nothing is committed however it
-- ended. A crash leaves what it could leave before.
pub record StaysInside (well : Bool) (old new : State) : Type 0 where
  pub inside : HasCleanDisk new → IsTrue well → IsTrue old.in_transaction → IsTrue new.in_transaction
  pub kept : HasCleanDisk new → IsTrue old.in_transaction → KeepsCommit old new
  pub survives : Survives old new (λ _. ⊥)

-- one that only reads: where it ended well, all is as it was, if the tables are those of the schema
pub record Reads (s : Schema) (well : Bool) (old new : State) : Type 0 where
  pub still : HasCleanDisk new → IsTrue well → OnlyRead s old new
  pub within : StaysInside well old new
