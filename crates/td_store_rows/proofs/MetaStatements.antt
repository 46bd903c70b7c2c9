-- What the statements on the table `meta` did.
use Rattle.std.proofs.Common.{IsPermutation, List, Option, Some, None, [], ap, arith, map, refl, subst, subst₂, sym, true, ℕ, ◌∙◌, ◌∷◌, ◌≡◌}
use Rattle.std.proofs.lemmas.List.Sorted.{IsPermutation-map, length_permutation}
use Rattle.std.specs.Option.{option_to_list}
use Rattle.std.specs.Prelude.{filter, if◌then◌else◌, pos}
use Rattle.sqlite.specs.State.{State}
use Rattle.sqlite_sql.specs.Term.{eval_all}
use Rattle.sqlite_trees.proofs.ListLemmas.{all-permutation}
use Rattle.sqlite_value.specs.Order.{Row, column}
use Rattle.sqlite_rules.specs.Cast.{cast_all}
use Rattle.sqlite_trees.specs.Tree.{rowid}
use Rattle.sqlite_value.specs.declared.value.Value.TheVariants.{Null, Text}
use Rattle.td_schema.specs.Layouts.{schema_of}
use Rattle.typed_sql.proofs.Columns.{cast_null}
use Rattle.typed_sql.proofs.Effects.{cast_int}
use Rattle.typed_sql.proofs.TypedRows.{inserted_typed, selected_typed, updated_typed}
use Rattle.typed_sql.specs.Reading.{Selects, row_order, shown_by}
use Rattle.typed_sql.specs.Typed.{HasNow, IsTypedRow, row_of, typed_rows}
use Rattle.typed_sql.specs.Values.{number_value}
use Rattle.typed_sql.specs.Writing.{Inserts, Updates, columns_put, columns_set, passes}
use Rattle.sqlite_typed.proofs.TestLemmas.{then_value}
use Rattle.td_store_rows.specs.declared.meta.stored.StoredMeta.{StoredMeta}
use Rattle.td_store_rows.specs.declared.meta.texts.TheConstants.{INSERT, SET_VERSION, FIND}
use Rattle.td_store_rows.specs.Columns.{MetaRow, meta_cells, meta_columns, meta_from, meta_row, meta_table, meta_typing}
use Rattle.td_store_rows.specs.MetaTable.{IsTheMeta, TurnsMeta, stored_of, with_version}
use Rattle.td_store_rows.proofs.MetaMeanings.{all_columns, find_means, insert_means, new_row, new_version, set_means}

put_columns : (version : ℕ) (country : List ℕ)
    → columns_put meta_table new_row (meta_cells (meta_row version country))
    ≡ Null ∷ number_value version ∷ Text country ∷ []
put_columns version country = then_value cast_null (then_value (cast_int (pos version)) refl)

pub inserted : (version : ℕ) (country : List ℕ) (values : Row) → values ≡ meta_cells (meta_row version country)
    → (old new : State) → Inserts INSERT.now values old new → TurnsMeta (λ rows. meta_row version country ∷ rows) old new
inserted version country values is old new h l has typed =
    let given : Row = meta_cells (meta_row version country) in
    let did : Inserts INSERT.now given old new = subst (λ v. Inserts INSERT.now v old new) is h in
    inserted_typed meta_typing (schema_of l) (eval_all new_row (given ∷ [])) (columns_put meta_table new_row given)
    (meta_row version country) old.now new.now
    (λ id. ap meta_columns (ap (λ l. number_value 1 ∷ l) (put_columns version country))) refl
    (did (schema_of l) meta_table new_row has (insert_means l)) typed

-- the version set anew
set_row : (version : ℕ) (r : Row) → IsTypedRow meta_typing r
    → meta_columns (rowid r ∷ columns_set meta_table new_version (number_value version ∷ []) r) ≡ meta_cells (with_version version (row_of meta_typing r))
set_row version r is =
    let country : List ℕ = (row_of meta_typing r).country in
    let row : eval_all new_version ((number_value version ∷ []) ∷ r ∷ []) ≡ Null ∷ number_value version ∷ Text country ∷ [] =
    then_value refl (then_value refl (then_value (ap (λ l. column l 1) is) refl)) in
    ap (λ cells. meta_columns (rowid r ∷ cells)) (ap (cast_all meta_table.columns) row ∙ put_columns version country)

all_set : (f : MetaRow → MetaRow) (rows : List MetaRow) → map (λ m. if true then f m else m) rows ≡ map f rows
all_set f [] = refl
all_set f (m ∷ rows) = ap (λ l. f m ∷ l) (all_set f rows)

pub version_set : (version : ℕ) (values : Row) → values ≡ number_value version ∷ [] → (old new : State)
    → Updates SET_VERSION.now values old new → TurnsMeta (map (with_version version)) old new
version_set version values is old new h l has typed =
    let given : Row = number_value version ∷ [] in
    let did : Updates SET_VERSION.now given old new = subst (λ v. Updates SET_VERSION.now v old new) is h in
    let done = did (schema_of l) meta_table [] new_version has (set_means l) typed.ids in
    subst (λ rows. HasNow meta_typing (schema_of l) rows old.now new.now) (all_set (with_version version) (typed_rows meta_typing old.now.trees))
    (updated_typed meta_typing (schema_of l) (passes given []) (columns_set meta_table new_version given) (λ m. true)
    (with_version version) old.now new.now (λ r row_is. refl) (λ r row_is. set_row version r row_is) (λ r. refl) done typed)

-- a list of one element at most has one order
few_are_same : {X : Type 0} (xs : List X) (one : Option X) → IsPermutation xs (option_to_list one)
    → xs ≡ option_to_list one
few_are_same [] None same = refl
few_are_same (x ∷ xs) None same = let e = length_permutation _ _ same in absurd (omega (arith, e))
few_are_same [] (Some y) same = let e = length_permutation _ _ same in absurd (omega (arith, e))
few_are_same (x ∷ []) (Some y) same =
    ap (λ z. z ∷ []) (sym (all-permutation (λ z. z ≡ x) (x ∷ []) (y ∷ []) same (refl, tt)).0)
few_are_same (x ∷ z ∷ xs) (Some y) same = let e = length_permutation _ _ same in absurd (omega (arith, e))

all_kept : {X : Type 0} (xs : List X) → filter (λ x. true) xs ≡ xs
all_kept [] = refl
all_kept (x ∷ xs) = ap (λ l. x ∷ l) (all_kept xs)

pub found_meta : (old : State) (one : Option StoredMeta) (rows : List Row) → Selects FIND.now [] old rows
    → option_to_list one ≡ map stored_of (map meta_from rows) → IsTheMeta old one
found_meta old one rows shows is s first has typed =
    let answer = shows s 0 [] all_columns [] has (find_means s first) in
    let those : IsPermutation (filter (λ m. true) (typed_rows meta_typing old.now.trees)) (map meta_from rows) =
    selected_typed meta_typing s (passes [] []) (shown_by all_columns []) (λ m. true) (row_order [] [])
    old.now.trees rows (λ r typed_row. refl) (λ r. refl) answer typed in
    few_are_same _ one (subst₂ IsPermutation (ap (map stored_of) (all_kept (typed_rows meta_typing old.now.trees)))
    (sym is) (IsPermutation-map stored_of _ _ those))
