-- Rows as a statement shows them, without codes or lines, are put as they stand.
use Rattle.std.proofs.Common.{◌≡◌, ◌∙◌, Bool, List, [], ◌∷◌, map, refl, ap₂, subst, IsPermutation}
use Rattle.std.specs.Prelude.{filter}
use Rattle.std.specs.List.{AllByRecursion}
use Rattle.std.proofs.lemmas.List.Sorted.{IsPermutation-map}
use Rattle.sqlite_trees.specs.Tree.{Trees}
use Rattle.sqlite_trees.proofs.ListLemmas.{all-filter, all-map, all_of, map-map}
use Rattle.td_movement.specs.declared.movement.Movement.{Movement}
use Rattle.td_schema.specs.declared.layout.Layout.{Layout}
use Rattle.td_table_model.specs.Tables.{Keyed, Kept, guarantee_row, movement_row, with_amount}
use Rattle.typed_sql.specs.Typed.{row_of, typed_rows}
use Rattle.td_store_rows.specs.Columns.{kept_typing, movement_typing}
use Rattle.td_store_rows.specs.KeptTable.{kept_row_of}
use Rattle.td_store_rows.specs.MovementTable.{movement_row_of}
use Rattle.td_store_rows.specs.declared.guarantees.stored.KeptGuarantee.{KeptGuarantee}
use Rattle.td_store_rows.specs.declared.movements.stored.StoredMovement.{StoredMovement}
use Rattle.td_extract.specs.Copied.{bare_kept, bare_movement}

-- what leaves each element leaves a list
left_as_is : {X : Type 0} (f : X → X) (xs : List X) → AllByRecursion (λ x. f x ≡ x) xs → map f xs ≡ xs
left_as_is f [] all = refl
left_as_is f (x ∷ xs) all = ap₂ ◌∷◌ all.0 (left_as_is f xs all.1)

map_as : {X Y : Type 0} (f g : X → Y) → ((x : X) → f x ≡ g x) → (xs : List X) → map f xs ≡ map g xs
map_as f g same [] = refl
map_as f g same (x ∷ xs) = ap₂ ◌∷◌ (same x) (map_as f g same xs)

-- rows that were found, of rows that it leaves
found_as_is : {X Y : Type 0} (f : X → X) (said put : Y → X) → ((y : Y) → f (said y) ≡ put y) → (rows : List X) → AllByRecursion (λ x. f x ≡ x) rows → (found : List Y)
    → IsPermutation rows (map said found) → IsPermutation rows (map put found)
found_as_is f said put same rows all found are =
    let left : IsPermutation (map f rows) (map f (map said found)) = IsPermutation-map f rows (map said found) are in
    let said_so : map f (map said found) ≡ map put found = map-map f said found ∙ map_as (λ y. f (said y)) put same found in
    subst (λ l. IsPermutation l (map put found)) (left_as_is f rows all) (subst (λ l. IsPermutation (map f rows) l) said_so left)

-- a guarantee's row without codes, and a movement's without lines
abbrev without_codes : Keyed Kept → Keyed Kept
without_codes k = with_amount k.row.used (guarantee_row k.holder (k.serial, k.row.guarantee))

abbrev without_lines : Keyed Movement → Keyed Movement
without_lines m = movement_row m.holder (m.serial, m.row)

pub kept_found : (l : Layout) (trees : Trees) (p : Keyed Kept → Bool) (found : List KeptGuarantee)
    → IsPermutation (filter p (typed_rows (kept_typing l) trees)) (map kept_row_of found)
    → IsPermutation (filter p (typed_rows (kept_typing l) trees)) (map bare_kept found)
kept_found l trees p found are =
    found_as_is without_codes kept_row_of bare_kept (λ s. refl) (filter p (typed_rows (kept_typing l) trees))
    (all-filter (λ k. without_codes k ≡ k) p (typed_rows (kept_typing l) trees)
    (all-map (λ k. without_codes k ≡ k) (row_of (kept_typing l)) (trees (kept_typing l).table.tree)
    (all_of (λ r. without_codes (row_of (kept_typing l) r) ≡ row_of (kept_typing l) r) (λ r. refl) (trees (kept_typing l).table.tree))))
    found are

pub movements_found : (trees : Trees) (p : Keyed Movement → Bool) (found : List StoredMovement)
    → IsPermutation (filter p (typed_rows movement_typing trees)) (map movement_row_of found)
    → IsPermutation (filter p (typed_rows movement_typing trees)) (map bare_movement found)
movements_found trees p found are =
    found_as_is without_lines movement_row_of bare_movement (λ s. refl) (filter p (typed_rows movement_typing trees))
    (all-filter (λ m. without_lines m ≡ m) p (typed_rows movement_typing trees)
    (all-map (λ m. without_lines m ≡ m) (row_of movement_typing) (trees movement_typing.table.tree)
    (all_of (λ r. without_lines (row_of movement_typing r) ≡ row_of movement_typing r) (λ r. refl) (trees movement_typing.table.tree))))
    found are
