-- Tables that are made and have the office's row alone, and what they hold with the rows of the holders of a range.
use Rattle.std.proofs.Common.{◌≡◌, ◌∙◌, ℕ, List, [], ◌∷◌, map, IsPermutation, ap, refl, sym, subst, arith}
use Rattle.std.specs.List.{AllByRecursion}
use Rattle.std.proofs.lemmas.List.Sorted.{IsPermutation-refl}
use Rattle.sqlite_trees.specs.Tree.{Trees}
use Rattle.sqlite.specs.Effect.{Database}
use Rattle.sqlite.specs.State.{State}
use Rattle.sqlite.proofs.Callers.{one_permutation}
use Rattle.td_model.specs.Content.{Content, empty_content}
use Rattle.td_table_model.specs.Tables.{AreTablesOf}
use Rattle.td_table_model.proofs.Following.{same_tables}
use Rattle.td_schema.specs.Tables.{IsEmptyOf}
use Rattle.td_schema.specs.Layouts.{desk_schema, newest_layout, newest_version, schema_of}
use Rattle.td_schema.specs.declared.layout.Layout.{Layout}
use Rattle.typed_sql.specs.Writing.{HaveIds, HasSchema}
use Rattle.typed_sql.specs.Typed.{AreTyped, HasNow, IsTypedRow, Typing, row_of, typed_rows}
use Rattle.td_store_rows.specs.Columns.{meta_row, meta_typing, holder_typing, guarantee_typing, kept_typing, code_typing, movement_typing, line_typing}
use Rattle.td_store_rows.specs.MetaTable.{TurnsMeta}
use Rattle.td_store_rows.specs.StoreTables.{AreAllTyped, AreStoreTrees, HasOfficeRow, HasTables, HoldsContent, country_in, tables_in}
use Rattle.td_store_rows.proofs.StoreReads.{newest_keeps}
use Rattle.td_store_rows.proofs.Turned.{listed_there}
use Rattle.td_extract.specs.Between.{content_between}
use Rattle.td_extract.specs.Copied.{Copies, of_holders, with_rows}
use Rattle.td_extract.proofs.Between.{sound_parts_are_sound}
use Rattle.td_extract.proofs.Picked.{alone, rows_of_range}

-- a table without rows is typed, and has no typed row
none_typed : {R : Type 0} (ty : Typing R) (trees : Trees) → trees ty.table.tree ≡ [] → AreTyped ty trees
none_typed ty trees none = record {
  ids = subst HaveIds (sym none) (record { ints = tt; apart = λ id. omega arith });
  cells = subst (AllByRecursion (IsTypedRow ty)) (sym none) tt;
}

none_there : {R : Type 0} (ty : Typing R) (trees : Trees) → trees ty.table.tree ≡ [] → IsPermutation [] (typed_rows ty trees)
none_there ty trees none = subst (IsPermutation []) (ap (map (row_of ty)) (sym none)) (IsPermutation-refl [])

-- The tables as they are made, with the office's row: no other table has a row.
pub record AreMade (country : List ℕ) (db : Database) : Type 0 where
  pub schema : db.schema ≡ schema_of newest_layout
  pub listed : AreStoreTrees newest_layout db.trees
  pub typed : AreAllTyped newest_layout db.trees
  pub office : HasOfficeRow newest_version country db.trees
  pub empty : AreTablesOf (tables_in newest_layout db.trees) (empty_content country)

pub made : (country : List ℕ) (old new : State) → IsEmptyOf desk_schema old.now → TurnsMeta (λ rows. meta_row newest_version country ∷ rows) old new
    → AreMade country new.now
made country old new was turns = record {
  schema = now.schema;
  listed = listed_there newest_layout new.now now.schema now.sound;
  typed = record {
    meta = now.typed;
    holders = none_typed holder_typing b holders;
    guarantees = none_typed (guarantee_typing newest_layout) b guarantees;
    kept = λ keeps. none_typed (kept_typing newest_layout) b guarantees;
    codes = none_typed code_typing b codes;
    movements = none_typed movement_typing b movements;
    lines = none_typed (line_typing newest_layout) b lines;
  };
  office = meta;
  empty = record {
    country = ap country_in meta;
    holders = none_there holder_typing b holders;
    guarantees = none_there (guarantee_typing newest_layout) b guarantees;
    kept = λ keeps. none_there (kept_typing newest_layout) b guarantees;
    codes = none_there code_typing b codes;
    movements = none_there movement_typing b movements;
    lines = none_there (line_typing newest_layout) b lines;
  };
}
  where
    a : Trees
    a = old.now.trees

    b : Trees
    b = new.now.trees

    now : HasNow meta_typing desk_schema (meta_row newest_version country ∷ typed_rows meta_typing a) old.now new.now
    now = turns newest_layout (λ is_open. was.schema) (none_typed meta_typing a was.empty.0)

    meta : typed_rows meta_typing b ≡ meta_row newest_version country ∷ []
    meta = one_permutation (meta_row newest_version country) (typed_rows meta_typing b)
        (subst (λ rows. IsPermutation (meta_row newest_version country ∷ map (row_of meta_typing) rows) (typed_rows meta_typing b)) was.empty.0 now.same)

    holders : b 1 ≡ []
    holders = now.others.1.0 (λ e. cc) ∙ was.empty.1.0

    codes : b 2 ≡ []
    codes = now.others.1.1.0 (λ e. cc) ∙ was.empty.1.1.0

    movements : b 4 ≡ []
    movements = now.others.1.1.1.0 (λ e. cc) ∙ was.empty.1.1.1.0

    guarantees : b 8 ≡ []
    guarantees = now.others.1.1.1.1.0 (λ e. cc) ∙ was.empty.1.1.1.1.0

    lines : b 11 ≡ []
    lines = now.others.1.1.1.1.1.0 (λ e. cc) ∙ was.empty.1.1.1.1.1.0

-- with the rows of the holders of a range they are a desk's file of what the content has of these holders
pub holds_extract : (country : List ℕ) (first last : ℕ) (from made_at new : State) → AreMade country made_at.now → Copies (of_holders first last) from made_at new
    → (c : Content) → HoldsContent c from → c.country ≡ country → HoldsContent (content_between first last c) new
holds_extract country first last from made_at new is copies c holds at =
    let l : Layout = newest_layout in
    let has : HasTables l (with_rows (of_holders first last (tables_in holds.trees.layout from.now.trees))) made_at new =
    copies c holds l refl (λ _. is.schema) is.typed in
    let empty : AreTablesOf (tables_in l made_at.now.trees) (empty_content c.country) =
    subst (λ k. AreTablesOf (tables_in l made_at.now.trees) (empty_content k)) (sym at) is.empty in
    record {
      schema = has.schema;
      trees = record {
        layout = l;
        newest = refl;
        listed = has.listed is.listed;
        typed = has.typed;
        sound = sound_parts_are_sound first last c holds.trees.sound;
        tables = same_tables (with_rows (of_holders first last (tables_in holds.trees.layout from.now.trees)) (tables_in l made_at.now.trees)) (tables_in l new.now.trees)
            (content_between first last c)
            (alone (content_between first last c) (of_holders first last (tables_in holds.trees.layout from.now.trees))
            (rows_of_range first last c holds.trees.layout from.now.trees holds.trees.tables (newest_keeps holds.trees.layout holds.trees.newest)) (tables_in l made_at.now.trees) empty) has.same;
        office = has.office ∙ is.office ∙ ap (λ k. meta_row newest_version k ∷ []) (sym at);
      };
    }

-- whatever rows were put into them, their schema is the one they were made with
pub makes_tables : (country : List ℕ) (first last : ℕ) (from made_at new : State) → AreMade country made_at.now → Copies (of_holders first last) from made_at new
    → (c : Content) → HoldsContent c from → HasSchema new desk_schema
makes_tables country first last from made_at new is copies c holds = (copies c holds newest_layout refl (λ _. is.schema) is.typed).schema
