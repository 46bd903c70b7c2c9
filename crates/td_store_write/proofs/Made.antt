-- The tables that are made, and the office's row in them.
use Rattle.std.proofs.Common.{◌≡◌, ◌∙◌, ℕ, List, [], ◌∷◌, map, IsPermutation, ap, refl, sym, subst, arith}
use Rattle.std.specs.List.{AllByRecursion}
use Rattle.std.proofs.lemmas.List.Sorted.{IsPermutation-refl}
use Rattle.sqlite_trees.specs.Tree.{Trees}
use Rattle.sqlite.specs.Effect.{Database}
use Rattle.sqlite.specs.State.{State}
use Rattle.sqlite.proofs.Callers.{one_permutation}
use Rattle.td_model.specs.Content.{empty_content}
use Rattle.td_base.specs.Codes.{IsCountry}
use Rattle.td_schema.specs.Tables.{IsEmptyOf}
use Rattle.td_schema.specs.Layouts.{desk_schema, newest_layout, newest_version}
use Rattle.typed_sql.specs.Writing.{HaveIds}
use Rattle.typed_sql.specs.Typed.{AreTyped, HasNow, IsTypedRow, Typing, row_of, typed_rows}
use Rattle.td_store_rows.specs.Columns.{meta_row, meta_typing, holder_typing, guarantee_typing, kept_typing, code_typing, movement_typing, line_typing}
use Rattle.td_store_rows.specs.MetaTable.{TurnsMeta}
use Rattle.td_store_rows.specs.StoreTables.{AreTreesOf, HoldsContent, country_in}
use Rattle.td_store_rows.proofs.Holding.{trees_still}
use Rattle.td_store_rows.proofs.Turned.{listed_there}

-- a table without rows is typed, and has no typed row
none_typed : {R : Type 0} (ty : Typing R) (trees : Trees) → trees ty.table.tree ≡ [] → AreTyped ty trees
none_typed ty trees none = record {
  ids = subst HaveIds (sym none) (record { ints = tt; apart = λ id. omega arith });
  cells = subst (AllByRecursion (IsTypedRow ty)) (sym none) tt;
}

none_there : {R : Type 0} (ty : Typing R) (trees : Trees) → trees ty.table.tree ≡ [] → IsPermutation [] (typed_rows ty trees)
none_there ty trees none = subst (IsPermutation []) (ap (map (row_of ty)) (sym none)) (IsPermutation-refl [])

-- the trees of the empty desk: the office's row, and no other
pub of_empty_desk : (country : List ℕ) (old new : State) → IsCountry country → IsEmptyOf desk_schema old.now
    → TurnsMeta (λ rows. meta_row newest_version country ∷ rows) old new → AreTreesOf (empty_content country) new.now.trees
of_empty_desk country old new is was turns = record {
  layout = newest_layout;
  newest = refl;
  listed = listed_there newest_layout new.now now.schema now.sound;
  typed = record {
    meta = now.typed;
    holders = none_typed holder_typing b holders;
    guarantees = none_typed (guarantee_typing newest_layout) b guarantees;
    kept = λ keeps. none_typed (kept_typing newest_layout) b guarantees;
    codes = none_typed code_typing b codes;
    movements = none_typed movement_typing b movements;
    lines = none_typed (line_typing newest_layout) b lines;
  };
  sound = record { country = is; order = tt; holders = tt };
  tables = record {
    country = ap country_in meta;
    holders = none_there holder_typing b holders;
    guarantees = none_there (guarantee_typing newest_layout) b guarantees;
    kept = λ keeps. none_there (kept_typing newest_layout) b guarantees;
    codes = none_there code_typing b codes;
    movements = none_there movement_typing b movements;
    lines = none_there (line_typing newest_layout) b lines;
  };
  office = meta;
}
  where
    a : Trees
    a = old.now.trees

    b : Trees
    b = new.now.trees

    now : HasNow meta_typing desk_schema (meta_row newest_version country ∷ typed_rows meta_typing a) old.now new.now
    now = turns newest_layout (λ is_open. was.schema) (none_typed meta_typing a was.empty.0)

    meta : typed_rows meta_typing b ≡ meta_row newest_version country ∷ []
    meta = one_permutation (meta_row newest_version country) (typed_rows meta_typing b)
        (subst (λ rows. IsPermutation (meta_row newest_version country ∷ map (row_of meta_typing) rows) (typed_rows meta_typing b)) was.empty.0 now.same)

    holders : b 1 ≡ []
    holders = now.others.1.0 (λ e. cc) ∙ was.empty.1.0

    codes : b 2 ≡ []
    codes = now.others.1.1.0 (λ e. cc) ∙ was.empty.1.1.0

    movements : b 4 ≡ []
    movements = now.others.1.1.1.0 (λ e. cc) ∙ was.empty.1.1.1.0

    guarantees : b 8 ≡ []
    guarantees = now.others.1.1.1.1.0 (λ e. cc) ∙ was.empty.1.1.1.1.0

    lines : b 11 ≡ []
    lines = now.others.1.1.1.1.1.0 (λ e. cc) ∙ was.empty.1.1.1.1.1.0

-- under the tables' schema
schema_there : (country : List ℕ) (old new : State) → IsEmptyOf desk_schema old.now
    → TurnsMeta (λ rows. meta_row newest_version country ∷ rows) old new → new.now.schema ≡ desk_schema
schema_there country old new was turns =
    (turns newest_layout (λ is_open. was.schema) (none_typed meta_typing old.now.trees was.empty.0)).schema

-- and a connection to them holds the content of the empty desk, under that schema
pub holds_empty : (country : List ℕ) (old made new : State) → IsCountry country → IsEmptyOf desk_schema old.now
    → TurnsMeta (λ rows. meta_row newest_version country ∷ rows) old made → new.now ≡ made.now
    → HoldsContent (empty_content country) new × (new.now.schema ≡ desk_schema)
unfolding of_empty_desk
holds_empty country old made new is was turns same = (
  record {
    trees = trees_still (empty_content country) made.now new.now same (of_empty_desk country old made is was turns);
    schema = λ _. there;
  },
  there,
)
  where
    there : new.now.schema ≡ desk_schema
    there = ap (λ (d : Database). d.schema) same ∙ schema_there country old made was turns
