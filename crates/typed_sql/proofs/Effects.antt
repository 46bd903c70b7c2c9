-- What a statement wrote, in words of rows.
use Rattle.sqlite.proofs.Callers.{one_permutation}
use Rattle.sqlite.specs.Effect.{Answers, Database, IsDatabase}
use Rattle.sqlite.specs.Listing.{understood}
use Rattle.sqlite.specs.State.{Executes, State}
use Rattle.sqlite_rules.specs.Calls.{ids_of}
use Rattle.sqlite_rules.specs.Cast.{cast, cast_all}
use Rattle.sqlite_rules.specs.Edit.{Applies, edit_of, id_in, is_taken, next_rowid, with_rowid}
use Rattle.sqlite_rules.specs.declared.error.Rowids.TheVariants.{Chosen, Given}
use Rattle.sqlite_schema.specs.declared.schema.Keys.TheVariants.{Enforced}
use Rattle.sqlite_schema.specs.declared.schema.Kind.TheVariants.{Integer}
use Rattle.sqlite_schema.specs.declared.schema.Schema.{Schema}
use Rattle.sqlite_schema.specs.declared.schema.Table.{Table}
use Rattle.sqlite_sql.specs.Ops.{unary}
use Rattle.sqlite_sql.specs.Term.{Term, col, eval_all}
use Rattle.sqlite_trees.proofs.ListLemmas.{all-filter}
use Rattle.sqlite_trees.specs.Tree.{Trees, has_rowid, put_row, rowid, without_rowid}
use Rattle.sqlite_trees.specs.View.{is_int}
use Rattle.sqlite_value.specs.Order.{Row, value_cmp}
use Rattle.sqlite_value.specs.declared.value.Value.{Value}
use Rattle.sqlite_value.specs.declared.value.Value.TheVariants.{Blob, Int, Null, Real, Text}
use Rattle.std.proofs.Common.{Bool, IsPermutation, List, Ok, [], ap, drop, false, length, map, refl, subst, sym, true, ℕ, ◌++◌, ◌∙◌, ◌∷◌, ◌≡◌}
use Rattle.std.proofs.lemmas.List.{length-map}
use Rattle.std.proofs.lemmas.List.Sorted.{IsPermutation-sym, IsPermutation-trans}
use Rattle.std.specs.Float.{minus_two_to}
use Rattle.std.specs.List.{AllByRecursion}
use Rattle.std.specs.Ordering.{is_eq, is_lt}
use Rattle.std.specs.Prelude.{filter, if◌then◌else◌, not, ℤ, ◌&&◌}
use Rattle.std.specs.declared.cmp.Ordering.{Ordering}
use Rattle.typed_sql.proofs.Ids.{has_own, ids_left, ids_put, puts}
use Rattle.typed_sql.proofs.Lists.{alone, replaced, same_left}
use Rattle.typed_sql.proofs.Queries.{plain_answer}
use Rattle.typed_sql.proofs.Steps.{command_is, one_deleted, one_inserted, one_updated}
use Rattle.typed_sql.specs.Meanings.{MeansDelete, MeansInsert, MeansUpdate, plain_query, plain_table, program_of}
use Rattle.typed_sql.specs.Reading.{IsAnswerOf, row_order, shown_by}
use Rattle.typed_sql.specs.Writing.{HaveIds, IsDeleted, IsInserted, IsUpdated, columns_put, columns_set, passes}

pub cast_int : (n : ℤ) → cast Integer (Int n) ≡ Int n
unfolding unary
cast_int n = elim (is_eq (value_cmp (Int n) (Int n)) && is_lt (value_cmp (Real (minus_two_to 63)) (Int n))) as
    (λ b. (if b then Int n else Int n) ≡ Int n) [ true ↦ refl | false ↦ refl ]

fresh_one : (b : Bool) → (not b && true) ≡ true → b ≡ false
fresh_one true h = absurd cc
fresh_one false h = refl

-- the row that an INSERT puts, under its rowid
row_with : (rows : List Row) (v : Value) (columns : Row)
    → is_int (rowid (with_rowid Chosen rows (v ∷ columns))) && true ≡ true
    → (id : ℤ) × (with_rowid Chosen rows (v ∷ columns) ≡ Int id ∷ columns) × ((n : ℤ) → v ≡ Int n → id ≡ n)
row_with rows Null columns h = (next_rowid rows, refl, λ n e. absurd (let no_int = e in cc))
row_with rows (Int m) columns h = (m, refl, λ n e. cc)
row_with rows (Real x) columns h = absurd cc
row_with rows (Text x) columns h = absurd cc
row_with rows (Blob x) columns h = absurd cc

put_one : (s : Schema) (t : Table) (source : Row) (old new : Database) → new.schema ≡ s
    → Applies s Enforced old.trees (edit_of old.trees (plain_table t) [] Chosen 0 (source ∷ [])) new.trees
    → IsDatabase new → IsInserted s t source (cast_all t.columns (drop 1 source)) old new
put_one s t source old new schema h sound =
    let tree = old.trees t.tree in
    let put = row_with tree (cast Integer (rowid source)) (cast_all t.columns (drop 1 source)) h.keyed in
    let free : is_taken tree (Int put.0 ∷ cast_all t.columns (drop 1 source)) ≡ false =
    fresh_one _ (rw put.1 at h.fresh) in
    let rows : new.trees t.tree ≡ put_row (Int put.0 ∷ cast_all t.columns (drop 1 source)) tree =
    rw put.1 at h.rows in
    record {
      id = put.0;
      given = λ n is. put.2 n (ap (cast Integer) is ∙ cast_int n);
      rows = rw rows (puts _ tree free);
      ids = λ have. rw rows (ids_put put.0 _ tree refl free have);
      others = h.tables;
      schema = schema;
      sound = sound;
    }

pub inserted_as : (old new : State) (text : List ℕ) (values : Row) (count : ℕ) (s : Schema) (t : Table)
    (row : List Term) → old.now.schema ≡ s → MeansInsert s text t row
    → Executes text values old new (Ok count)
    → IsInserted s t (eval_all row (values ∷ [])) (columns_put t row values) old.now new.now
inserted_as old new text values count s t row has means h =
    let done = one_inserted text values old new s has means.place t means.table means.plain row means.width
    (eval_all row (values ∷ [])) (command_is (understood s text) ∙ means.command) (means.one values) count h in
    put_one s t (eval_all row (values ∷ [])) old.now new.now done.0 done.1 done.2

-- the rows that a query shows by which a statement changes them
shown_rows : (s : Schema) (t : ℕ) (tests shows : List Term) (db : Trees) (values : Row) (rows : List Row)
    → Answers (record { schema = s; trees = db }) (program_of (plain_query t tests shows [])) values rows
    → IsAnswerOf (db t) (passes values tests) (shown_by shows values) (row_order [] values) rows
shown_rows s t tests shows db values rows answer =
    plain_answer t tests shows [] db values rows (answer.answer Null)

-- where the statement changes one row, that row alone passes
only_one : (tree : List Row) (test : Row → Bool) (show : Row → Row) (order : Row → Row
    → Ordering) (rows : List Row) → IsAnswerOf tree test show order rows → 1 ≡ length rows
    → (r : Row) × (filter test tree ≡ r ∷ []) × (rows ≡ show r ∷ [])
only_one tree test show order rows a one =
    let it = alone a.found (sym (length-map a.found show) ∙ ap length (sym a.shown) ∙ sym one) in (
      it.0,
      one_permutation it.0 (filter test tree)
          (IsPermutation-sym _ _ (subst (IsPermutation (filter test tree)) it.1 a.all)),
      a.shown
          ∙ ap (map show) it.1,
    )

module _ (t : Table) (test : Row
    → Bool) (tree : List Row) (have : HaveIds tree) (r : Row) (only : filter test tree ≡ r ∷ []) where
  abbrev id : ℤ
  id = id_in (rowid r)

  has_id : rowid r ≡ Int id
  has_id = (subst (AllByRecursion (λ r. rowid r ≡ Int (id_in (rowid r)))) only
      (all-filter (λ r. rowid r ≡ Int (id_in (rowid r))) test tree have.ints)).0

  -- without its rowid are those that don't pass
  left : without_rowid id tree ≡ filter (λ x. not (test x)) tree
  left = same_left (has_rowid id) test r tree (has_own id r has_id) only (have.apart id)

  one_passes : length (filter test tree) ≡ 1
  one_passes = ap length only

  module _ (columns : Row
      → Row) (after : List Row) (fresh : is_taken (without_rowid id tree) (cast Integer (rowid r) ∷ columns r)
      ≡ false)
      (rows : after ≡ put_row (cast Integer (rowid r) ∷ columns r) (without_rowid id tree)) where
    abbrev set_row : Row → Row
    set_row x = rowid x ∷ columns x

    new_is : cast Integer (rowid r) ∷ columns r ≡ set_row r
    new_is = ap (λ v. v ∷ columns r) (ap (cast Integer) has_id ∙ cast_int id ∙ sym has_id)

    free : is_taken (without_rowid id tree) (set_row r) ≡ false
    free = subst (λ x. is_taken (without_rowid id tree) x ≡ false) new_is fresh

    after_is : after ≡ put_row (set_row r) (without_rowid id tree)
    after_is = rows ∙ ap (λ x. put_row x (without_rowid id tree)) new_is

    pub rows_set : IsPermutation (map (λ x. if test x then set_row x else x) tree) after
    rows_set = rw after_is
        (IsPermutation-trans _ _ _
        (subst (IsPermutation (map (λ x. if test x then set_row x else x) tree)) split
        (replaced test set_row tree)) (puts (set_row r) (without_rowid id tree) free))
      where
        split : map set_row (filter test tree) ++ filter (λ x. not (test x)) tree
            ≡ set_row r ∷ without_rowid id tree
        split = rw (only, left) refl

    pub ids_set : HaveIds after
    ids_set = rw after_is
        (ids_put id (set_row r) (without_rowid id tree) has_id free
        (ids_left (λ x. not (has_rowid id x)) tree have))

set_one : (s : Schema) (t : Table) (test : Row → Bool) (raw : Row
    → Row) (old new : Database) (rows : List Row) (r : Row) → new.schema ≡ s → HaveIds (old.trees t.tree)
    → filter test (old.trees t.tree) ≡ r ∷ [] → rows ≡ (rowid r ∷ rowid r ∷ raw r) ∷ []
    → Applies s Enforced old.trees (edit_of old.trees (plain_table t) (ids_of rows) Given 1 rows) new.trees
    → IsDatabase new → IsUpdated s t test (λ x. cast_all t.columns (raw x)) old new
set_one s t test raw old new rows r schema have only is h sound =
    let applied : Applies s Enforced old.trees
    (edit_of old.trees (plain_table t) (ids_of ((rowid r ∷ rowid r ∷ raw r) ∷ [])) Given 1
    ((rowid r ∷ rowid r ∷ raw r) ∷ [])) new.trees =
    subst (λ rows. Applies s Enforced old.trees
    (edit_of old.trees (plain_table t) (ids_of rows) Given 1 rows) new.trees) is h in
    let fresh = fresh_one _ applied.fresh in
    record {
      one = one_passes t test (old.trees t.tree) have r only;
      rows = rows_set t test (old.trees t.tree) have r only (λ x. cast_all t.columns (raw x))
          (new.trees t.tree) fresh applied.rows;
      ids = ids_set t test (old.trees t.tree) have r only (λ x. cast_all t.columns (raw x))
          (new.trees t.tree) fresh applied.rows;
      others = applied.tables;
      schema = schema;
      sound = sound;
    }

pub updated_as : (old new : State) (text : List ℕ) (values : Row) (s : Schema) (t : Table)
    (tests columns : List Term) → old.now.schema ≡ s → MeansUpdate s text t tests columns
    → HaveIds (old.now.trees t.tree) → Executes text values old new (Ok 1)
    → IsUpdated s t (passes values tests) (columns_set t columns values) old.now new.now
updated_as old new text values s t tests columns has means have h =
    let q = program_of (plain_query t.tree tests (col 1 0 ∷ col 1 0 ∷ columns) []) in
    let step = one_updated text values old new s has means.place t means.table means.plain q
    (command_is (understood s text) ∙ means.command) 1 h in
    let it = only_one _ _ _ _ step.rows
    (shown_rows s t.tree tests (col 1 0 ∷ col 1 0 ∷ columns) old.now.trees values step.rows step.answer)
    step.counted in
    set_one s t (passes values tests)
    (λ r. eval_all columns (values ∷ r ∷ [])) old.now new.now step.rows it.0 step.schema_is have it.1 it.2
    step.applied step.sound

take_one : (s : Schema) (t : Table) (test : Row → Bool) (old new : Database) (rows : List Row) (r : Row)
    → new.schema ≡ s → HaveIds (old.trees t.tree)
    → filter test (old.trees t.tree) ≡ r ∷ [] → rows ≡ (rowid r ∷ []) ∷ []
    → Applies s Enforced old.trees (edit_of old.trees (plain_table t) (ids_of rows) Given 0 []) new.trees
    → IsDatabase new → IsDeleted s t test old new
take_one s t test old new rows r schema have only is h sound =
    let applied : Applies s Enforced old.trees
    (edit_of old.trees (plain_table t) (ids_of ((rowid r ∷ []) ∷ [])) Given 0 []) new.trees =
    subst (λ rows. Applies s Enforced old.trees
    (edit_of old.trees (plain_table t) (ids_of rows) Given 0 []) new.trees) is h in
    let gone : new.trees t.tree ≡ filter (λ x. not (test x)) (old.trees t.tree) = applied.rows
    ∙ left t test (old.trees t.tree) have r only in
    record {
      one = one_passes t test (old.trees t.tree) have r only;
      rows = gone;
      ids = rw gone (ids_left (λ x. not (test x)) (old.trees t.tree) have);
      others = applied.tables;
      schema = schema;
      sound = sound;
    }

pub deleted_as : (old new : State) (text : List ℕ) (values : Row) (s : Schema) (t : Table) (tests : List Term)
    → old.now.schema ≡ s → MeansDelete s text t tests
    → HaveIds (old.now.trees t.tree) → Executes text values old new (Ok 1)
    → IsDeleted s t (passes values tests) old.now new.now
deleted_as old new text values s t tests has means have h =
    let q = program_of (plain_query t.tree tests (col 1 0 ∷ []) []) in
    let step = one_deleted text values old new s has means.place t means.table means.plain q
    (command_is (understood s text) ∙ means.command) 1 h in
    let it = only_one _ _ _ _ step.rows
    (shown_rows s t.tree tests (col 1 0 ∷ []) old.now.trees values step.rows step.answer) step.counted in
    take_one s t (passes values tests) old.now new.now step.rows it.0 step.schema_is have it.1 it.2 step.applied
    step.sound
