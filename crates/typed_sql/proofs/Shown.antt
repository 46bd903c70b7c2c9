-- What a visitor was shown of the rows of a SELECT, as far as it was.
use Rattle.std.proofs.Common.{◌≡◌, List, [], ◌∷◌, ◌++◌, Bool, Err, ap, ap₂, arith, false, true, map, refl, sym, subst, ℕ, ◌∙◌}
use Rattle.std.proofs.lemmas.Bool.{false≢true}
use Rattle.std.proofs.lemmas.Fn.{FoldsTo-push}
use Rattle.std.proofs.lemmas.List.{map_push}
use Rattle.std.specs.List.{FoldsTo}
use Rattle.sqlite_value.specs.Order.{Row}
use Rattle.std.specs.Prelude.{Result, Ok, IsErr}
use Rattle.sqlite.specs.Effect.{Database}
use Rattle.sqlite.specs.State.{Begins, IsUnchanged, Shown, State}
use Rattle.sqlite.proofs.StateLemmas.{unchanged}
use Rattle.typed_sql.proofs.Answered.{shown_selects}
use Rattle.typed_sql.proofs.First.{begun_first}
use Rattle.typed_sql.specs.Reading.{IsAnswerOf, row_order, shown_by}
use Rattle.typed_sql.specs.Visited.{HasSeen, HasVisited, SelectsFirst, is_whole, step_of}
use Rattle.typed_sql.specs.Writing.{passes}

-- an error isn't told of all rows
pub err_not_whole : {E : Type 0} (r : Result Bool E) → IsErr r → is_whole r ≡ false
err_not_whole (Ok all) err = absurd (false≢true err)
err_not_whole (Err e) err = refl

-- one row more was shown
pub shown_more : {V O T R : Type 0} (sees : V → O → T → V → O → Type 0) (typed : T → R) (from : Row → R) (old mid new : V × O)
    (shown : List T) (rows : List Row) (x : T) (row : Row) → FoldsTo (step_of sees) old shown mid → map typed shown ≡ map from rows
    → sees mid.0 mid.1 x new.0 new.1 → typed x ≡ from row
    → FoldsTo (step_of sees) old (shown ++ x ∷ []) new × (map typed (shown ++ x ∷ []) ≡ map from (rows ++ row ∷ []))
shown_more sees typed from old mid new shown rows x row told read saw says = (
  FoldsTo-push (step_of sees) old shown mid x new told saw,
  map_push typed shown x ∙ ap₂ (λ l y. l ++ y ∷ []) read says ∙ sym (map_push from rows row),
)

-- one row more was shown, whatever came before
pub seen_more : {V O T : Type 0} (sees : V → O → T → V → O → Type 0) (old mid new : V × O) (x : T) → HasSeen sees old mid
    → sees mid.0 mid.1 x new.0 new.1 → HasSeen sees old new
seen_more sees old mid new x seen saw = (seen.0 ++ x ∷ [], FoldsTo-push (step_of sees) old seen.0 mid x new seen.1 saw)

-- rows that begin an answer come first in it
pub begins_first : (text : List ℕ) (first now : State) (rows : List Row) → IsUnchanged first now → Begins text [] now rows
    → SelectsFirst text [] first rows
begins_first text first now rows same begins s tree tests shows order has means =
    let it =
    begun_first text [] now now rows begins (unchanged now same.0.is_open) s tree tests shows order
    (λ _. ap (λ (d : Database). d.schema) same.0.now_is ∙ has same.0.was_open) means in (
      it.0,
      subst (λ (d : Database). IsAnswerOf (d.trees tree) (passes [] tests) (shown_by shows []) (row_order order []) (rows ++ it.0))
          same.0.now_is it.1,
    )

module _ {V O T R : Type 0} (sees : V → O → T → V → O → Type 0) (typed : T → R) (from : Row → R) (text : List ℕ) (first : State)
    (old : V × O) where
  -- nothing was shown
  pub none_visited : HasVisited sees typed from text first false old old
  none_visited = record {
    shown = [];
    rows = [];
    told = refl;
    read = refl;
    first = λ some. absurd (omega (arith, some));
    all = λ whole. absurd (false≢true whole);
  }

  module _ (now : State) (same : IsUnchanged first now) (new : V × O) (shown : List T) (rows : List Row)
      (told : FoldsTo (step_of sees) old shown new) (read : map typed shown ≡ map from rows) where
    -- what was shown begins the answer
    pub first_visited : Begins text [] now rows → HasVisited sees typed from text first false old new
    first_visited begins = record {
      shown = shown;
      rows = rows;
      told = told;
      read = read;
      first = λ some. begins_first text first now rows same begins;
      all = λ whole. absurd (false≢true whole);
    }

    -- it is the answer
    pub all_visited : (later : State) → Begins text [] now rows → Shown text [] now later rows
        → HasVisited sees typed from text first true old new
    all_visited later begins done = record {
      shown = shown;
      rows = rows;
      told = told;
      read = read;
      first = λ some. begins_first text first now rows same begins;
      all = λ whole. shown_selects text first now later rows same done;
    }
