-- What a visitor was shown of a desk over a file.
use Rattle.std.proofs.Common.{◌≡◌, ℕ, Bool, true, false, List, [], ◌∷◌, ◌++◌, Err, Ok, Result, ap, append-nil, arith, length, map, refl, subst, sym, ◌∙◌, IsPermutation}
use Rattle.std.proofs.lemmas.Bool.{false≢true}
use Rattle.std.proofs.lemmas.List.{map-append, map-id}
use Rattle.std.specs.Prelude.{IfOk, IsTrue}
use Rattle.sqlite.specs.declared.error.Error.{Error}
use Rattle.std.specs.List.{FoldsTo}
use Rattle.std.specs.List.Sorted.{IsSorted}
use Rattle.std.specs.declared.cmp.Ordering.{Ordering}
use Rattle.sqlite_trees.proofs.ListLemmas.{map-map}
use Rattle.sqlite.specs.Effect.{Database}
use Rattle.sqlite.specs.Held.{Held}
use Rattle.sqlite.specs.State.{State, HasCleanDisk}
use Rattle.td_model.specs.Content.{Content}
use Rattle.td_desk.specs.declared.fault.Fault.{Fault}
use Rattle.td_table_model.specs.Listed.{guarantees_listed, movements_listed, without_codes}
use Rattle.td_store_rows.specs.Columns.{kept_typing, movement_typing}
use Rattle.td_store_rows.proofs.StoreReads.{newest_keeps}
use Rattle.td_store_rows.specs.Places.{by_place}
use Rattle.td_store_rows.specs.StoreTables.{HoldsContent, tables_in}
use Rattle.td_store_rows.specs.MovementTable.{deadlines_of}
use Rattle.td_store_rows.specs.KeptTable.{kept_row_of}
use Rattle.td_store_rows.specs.Visited.{VisitsDeadlines, VisitsKept}
use Rattle.td_store_rows.specs.declared.guarantees.stored.KeptGuarantee.{KeptGuarantee}
use Rattle.td_store_rows.specs.declared.movements.stored.MovementDeadlines.{MovementDeadlines}
use Rattle.td_store.proofs.Holding.{content_held}
use Rattle.td_store.proofs.Listed.{listed_guarantees, listed_movements, said_guarantee, said_movement}
use Rattle.td_store.specs.Kept.{IsDeskOf, content_in}
use Rattle.td_store.specs.Visits.{IsVisit, said_of_guarantee, shown_of_movement}
use Rattle.typed_sql.specs.Typed.{AreTyped, typed_rows}
use Rattle.typed_sql.specs.Visited.{HasVisitedRows, is_whole, step_of}

-- rows that stand first in an order in which they say what is listed, say what is listed first
module _ {V O T R X : Type 0} (sees : V → O → T → V → O → Type 0) (typed : T → R) (said : R → X) (cmp : R → R → Ordering)
    (rows : List R) (all : List X) (listed : (given : List R) → IsPermutation rows given → IsSorted cmp given → map said given ≡ all) where
  abbrev says : T → X
  says x = said (typed x)

  pub is_visit : (whole : Bool) (old new : V × O) (result : Result Bool Fault) → (result ≡ Ok true → IsTrue whole)
      → HasVisitedRows sees typed cmp rows whole old new → IsVisit sees says all old result new
  is_visit true old new result is h = record {
    shown = h.shown;
    rest = [];
    told = h.told;
    are = append-nil (map says h.shown) ∙ sym (map-map said typed h.shown) ∙ listed (map typed h.shown) (h.all refl).0 (h.all refl).1;
    whole = λ e. refl;
  }
  is_visit false old new result is h = by_shown h.shown refl
    where
      by_shown : (xs : List T) → h.shown ≡ xs → IsVisit sees says all old result new
      by_shown [] none = record {
        shown = [];
        rest = all;
        told = subst (λ xs. FoldsTo (step_of sees) old xs new) none h.told;
        are = refl;
        whole = λ e. absurd (false≢true (is e));
      }
      by_shown (x ∷ xs) some =
          let it = h.first (omega (arith, ap length some)) in
          record {
            shown = h.shown;
            rest = map said it.0;
            told = h.told;
            are = ap (λ l. l ++ map said it.0) (sym (map-map said typed h.shown)) ∙ sym (map-append said (map typed h.shown) it.0)
                ∙ listed (map typed h.shown ++ it.0) it.1 it.2;
            whole = λ e. absurd (false≢true (is e));
          }

-- a visit to whom something is shown of each row is one to whom that is shown
shown_of : {V O T S : Type 0} (sees : V → O → S → V → O → Type 0) (shows : T → S) (p q : V × O) (rows : List T)
    → FoldsTo (step_of (λ v o row. sees v o (shows row))) p rows q → FoldsTo (step_of sees) p (map shows rows) q
shown_of sees shows p q [] told = told
shown_of sees shows p q (row ∷ rows) told = (told.0, told.1, shown_of sees shows told.0 q rows told.2)

as_shown : {V O T S : Type 0} (sees : V → O → S → V → O → Type 0) (shows : T → S) (all : List S) (old new : V × O) (result : Result Bool Fault)
    → IsVisit (λ v o row. sees v o (shows row)) shows all old result new → IsVisit sees (λ row. row) all old result new
as_shown sees shows all old new result h = record {
  shown = map shows h.shown;
  rest = h.rest;
  told = shown_of sees shows old new h.shown h.told;
  are = ap (λ l. l ++ h.rest) (map-id (map shows h.shown)) ∙ h.are;
  whole = h.whole;
}

-- where nothing was shown
pub none_visited : {V O T R : Type 0} (sees : V → O → T → V → O → Type 0) (typed : T → R) (cmp : R → R → Ordering) (rows : List R) (old : V × O)
    → HasVisitedRows sees typed cmp rows false old old
none_visited sees typed cmp rows old = record {
  shown = [];
  told = refl;
  first = λ some. absurd (omega (arith, some));
  all = λ is. absurd (false≢true is);
}

module _ {V O : Type 0} (whole : Bool) (old new : V × O) where
  -- a visit of a connection that shows what another shows is one of that
  module _ (a b : State) (same : b.now ≡ a.now) (live : IsTrue b.is_open → IsTrue a.is_open) where
    pub deadlines_of_same : (sees : V → O → MovementDeadlines → V → O → Type 0) → VisitsDeadlines sees b whole old new → VisitsDeadlines sees a whole old new
    deadlines_of_same sees visits l has typed =
        subst (λ (d : Database). HasVisitedRows (λ v o m. sees v o (deadlines_of m.holder m.row)) (λ m. m) by_place (typed_rows movement_typing d.trees) whole old new) same
        (visits l (λ is. ap (λ (d : Database). d.schema) same ∙ has (live is)) (subst (λ (d : Database). AreTyped movement_typing d.trees) (sym same) typed))

    pub kept_of_same : (sees : V → O → KeptGuarantee → V → O → Type 0) → VisitsKept sees b whole old new → VisitsKept sees a whole old new
    kept_of_same sees visits l keeps has typed =
        subst (λ (d : Database). HasVisitedRows sees kept_row_of by_place (typed_rows (kept_typing l) d.trees) whole old new) same
        (visits l keeps (λ is. ap (λ (d : Database). d.schema) same ∙ has (live is)) (subst (λ (d : Database). AreTyped (kept_typing l) d.trees) (sym same) typed))

  -- a visit of a desk's connection shows what its content lists
  module _ (country : List ℕ) (s : State) (desk : IsDeskOf country s) (clean : HasCleanDisk s) (live : IsTrue s.is_open)
      (result : Result Bool Fault) (is : result ≡ Ok true → IsTrue whole) where
    pub deadlines_visited : (sees : V → O → MovementDeadlines → V → O → Type 0) → VisitsDeadlines sees s whole old new
        → IsVisit sees (λ row. row) (map shown_of_movement (movements_listed (content_in s.now.trees))) old result new
    deadlines_visited sees visits =
        let was : (c : Content) × HoldsContent c s × (c.country ≡ country) = desk clean live in
        let trees = was.1.trees in
        subst (λ c. IsVisit sees (λ row. row) (map shown_of_movement (movements_listed c)) old result new) (sym (content_held was.0 s was.1))
        (as_shown sees said_movement (map shown_of_movement (movements_listed was.0)) old new result
        (is_visit (λ v o m. sees v o (said_movement m)) (λ m. m) said_movement by_place (typed_rows movement_typing s.now.trees)
        (map shown_of_movement (movements_listed was.0))
        (listed_movements (tables_in trees.layout s.now.trees) was.0 trees.sound trees.tables) whole old new result is
        (visits trees.layout was.1.schema trees.typed.movements)))

    pub guarantees_visited : (sees : V → O → KeptGuarantee → V → O → Type 0) → VisitsKept sees s whole old new
        → IsVisit sees said_of_guarantee (map without_codes (guarantees_listed (content_in s.now.trees))) old result new
    guarantees_visited sees visits =
        let was : (c : Content) × HoldsContent c s × (c.country ≡ country) = desk clean live in
        let trees = was.1.trees in
        let keeps = newest_keeps trees.layout trees.newest in
        subst (λ c. IsVisit sees said_of_guarantee (map without_codes (guarantees_listed c)) old result new) (sym (content_held was.0 s was.1))
        (is_visit sees kept_row_of said_guarantee by_place (typed_rows (kept_typing trees.layout) s.now.trees) (map without_codes (guarantees_listed was.0))
        (listed_guarantees (tables_in trees.layout s.now.trees) was.0 trees.sound trees.tables keeps) whole old new result is
        (visits trees.layout keeps was.1.schema (trees.typed.kept keeps)))

-- all was shown that is told to be
pub told_whole : {S : Type 0} (mid new : Held S) (answer : Result Bool Error) (result : Result Bool Fault)
    → IfOk result (λ x. (answer ≡ Ok x) × (new ≡ mid)) → result ≡ Ok true → IsTrue (is_whole answer)
told_whole mid new answer (Ok x) told whole = let is : x ≡ true = cc in ap is_whole told.0 ∙ is
told_whole mid new answer (Err e) told whole = cc
