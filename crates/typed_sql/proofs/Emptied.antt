-- A DELETE without a test leaves no row.
use Rattle.std.proofs.Common.{Bool, IsPermutation, List, Ok, [], ap, cond, false, map, refl, subst, sym, true, ℕ, ℤ, ◌∙◌, ◌∷◌, ◌≡◌}
use Rattle.std.proofs.lemmas.List.Sorted.{IsPermutation-sym}
use Rattle.std.specs.List.{AllByRecursion, list_any}
use Rattle.std.specs.Prelude.{filter, not, ◌||◌}
use Rattle.sqlite.specs.State.{Executes, State}
use Rattle.sqlite.specs.Listing.{understood}
use Rattle.sqlite_rules.specs.Calls.{ids_of}
use Rattle.sqlite_rules.specs.Edit.{id_in, without_all}
use Rattle.sqlite_schema.specs.declared.schema.Schema.{Schema}
use Rattle.sqlite_schema.specs.declared.schema.Table.{Table}
use Rattle.sqlite_sql.specs.Term.{col}
use Rattle.sqlite_trees.proofs.ListLemmas.{all-permutation, all_weaker}
use Rattle.sqlite_trees.specs.Tree.{has_rowid, rowid, without_rowid}
use Rattle.sqlite_value.specs.Order.{Row}
use Rattle.sqlite_value.specs.declared.value.Value.TheVariants.{Int, Null}
use Rattle.typed_sql.proofs.Queries.{plain_answer}
use Rattle.typed_sql.proofs.Ids.{has_own}
use Rattle.typed_sql.proofs.Steps.{command_is, one_deleted}
use Rattle.typed_sql.specs.Meanings.{MeansDelete, plain_query, program_of}
use Rattle.typed_sql.specs.Writing.{HaveIds, IsEmptied, passes}
use Rattle.typed_sql.specs.Reading.{IsAnswerOf, row_order, shown_by}

-- the rowid of the row is one of these
abbrev Named : List ℤ → Row → Type 0
Named ids r = list_any (λ id. has_rowid id r) ids ≡ true

-- rows whose rowids are all taken out leave none
none_left : (ids : List ℤ) (rows : List Row) → AllByRecursion (Named ids) rows → without_all rows ids ≡ []
none_left [] [] all = refl
none_left [] (r ∷ rows) all = absurd (let e = all.0 in cc)
none_left (id ∷ ids) rows all = none_left ids (without_rowid id rows) (go rows all)
  where
    go : (xs : List Row) → AllByRecursion (Named (id ∷ ids)) xs → AllByRecursion (Named ids) (without_rowid id xs)
    go [] all = tt
    go (x ∷ xs) all = by_test (has_rowid id x) all.0 (go xs all.1)
      where
        by_test : (b : Bool) → (b || list_any (λ i. has_rowid i x) ids) ≡ true → AllByRecursion (Named ids) (without_rowid id xs)
            → AllByRecursion (Named ids) (cond (not b) (x ∷ without_rowid id xs) (without_rowid id xs))
        by_test true is more = more
        by_test false is more = (is, more)

-- rows with their own rowids
own_named : (rows : List Row) → AllByRecursion (λ r. rowid r ≡ Int (id_in (rowid r))) rows → AllByRecursion (Named (map (λ r. id_in (rowid r)) rows)) rows
own_named [] all = tt
own_named (r ∷ rows) all = (
  ap (λ b. b || list_any (λ id. has_rowid id r) (map (λ x. id_in (rowid x)) rows)) (has_own (id_in (rowid r)) r all.0),
  all_weaker (Named (map (λ x. id_in (rowid x)) rows)) (Named (map (λ x. id_in (rowid x)) (r ∷ rows)))
      (λ x is. more (has_rowid (id_in (rowid r)) x) _ is) rows (own_named rows all.1),
)
  where
    more : (a b : Bool) → b ≡ true → (a || b) ≡ true
    more true b is = refl
    more false b is = is

all_kept : (xs : List Row) → filter (λ r. true) xs ≡ xs
all_kept [] = refl
all_kept (x ∷ xs) = ap (λ l. x ∷ l) (all_kept xs)

shown_ids : (found : List Row) → ids_of (map (λ r. rowid r ∷ []) found) ≡ map (λ r. id_in (rowid r)) found
shown_ids [] = refl
shown_ids (r ∷ found) = ap (λ l. id_in (rowid r) ∷ l) (shown_ids found)

pub emptied_as : (old new : State) (text : List ℕ) (count : ℕ) (s : Schema) (t : Table) → old.now.schema ≡ s → MeansDelete s text t []
    → HaveIds (old.now.trees t.tree) → Executes text [] old new (Ok count) → IsEmptied s t old.now new.now
emptied_as old new text count s t has means have h =
    let q = program_of (plain_query t.tree [] (col 1 0 ∷ []) []) in
    let step = one_deleted text [] old new s has means.place t means.table means.plain q (command_is (understood s text) ∙ means.command) count h in
    let a : IsAnswerOf (old.now.trees t.tree) (passes [] []) (shown_by (col 1 0 ∷ []) []) (row_order [] []) step.rows =
    plain_answer t.tree [] (col 1 0 ∷ []) [] old.now.trees [] step.rows (step.answer.answer Null) in
    let tree = old.now.trees t.tree in
    let all : IsPermutation tree a.found = subst (λ l. IsPermutation l a.found) (all_kept tree) a.all in
    let ids : ids_of step.rows ≡ map (λ r. id_in (rowid r)) a.found = ap ids_of a.shown ∙ shown_ids a.found in
    let own : AllByRecursion (Named (map (λ r. id_in (rowid r)) a.found)) a.found =
    own_named a.found (all-permutation (λ r. rowid r ≡ Int (id_in (rowid r))) _ _ all have.ints) in
    let named : AllByRecursion (Named (ids_of step.rows)) tree =
    subst (λ l. AllByRecursion (Named l) tree) (sym ids) (all-permutation (Named (map (λ r. id_in (rowid r)) a.found)) _ _ (IsPermutation-sym _ _ all) own) in
    record {
      rows = step.applied.rows ∙ none_left (ids_of step.rows) tree named;
      others = step.applied.tables;
      schema = step.schema_is;
      sound = step.sound;
    }
