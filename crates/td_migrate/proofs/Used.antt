-- What is in use on guarantees hangs on the movements and the lines alone.
use Rattle.std.proofs.Common.{◌≡◌, ℕ, List, [], ◌∷◌, map, ap, ap₂, refl}
use Rattle.std.specs.List.{flat_map, sum_by}
use Rattle.std.specs.Prelude.{◌==◌, ◌&&◌, filter}
use Rattle.sqlite_trees.specs.Tree.{Trees}
use Rattle.td_guarantee.specs.declared.guarantee.Guarantee.{Guarantee}
use Rattle.td_movement.specs.States.{is_counting}
use Rattle.td_movement.specs.declared.movement.Movement.{Movement}
use Rattle.td_table_model.specs.Looking.{cents_of}
use Rattle.td_table_model.specs.Tables.{Keyed, LineCells, with_amount}
use Rattle.td_schema.specs.declared.layout.Layout.TheVariants.{Grown2}
use Rattle.typed_sql.specs.Typed.{row_of}
use Rattle.td_store_rows.specs.Columns.{line_typing, movement_typing}
use Rattle.td_migrate.specs.Filled.{with_its_use}
use Rattle.td_migrate.specs.InUse.{in_use}

-- by the rows of the two tables
abbrev used_in : ℕ → ℕ → List (Keyed Movement) → List (Keyed LineCells) → ℕ
used_in H n movements lines =
    sum_by cents_of (flat_map (λ m. filter (λ l. l.holder == m.holder && (l.serial == m.serial && l.row.guarantee == n)) lines)
    (filter (λ m. m.holder == H && is_counting m.row.state) movements))

use_still : (H n : ℕ) (a b : Trees) → b movement_typing.table.tree ≡ a movement_typing.table.tree → b (line_typing Grown2).table.tree ≡ a (line_typing Grown2).table.tree
    → in_use Grown2 H n b ≡ in_use Grown2 H n a
use_still H n a b movements lines =
    ap₂ (λ ms ls. used_in H n (map (row_of movement_typing) ms) (map (row_of (line_typing Grown2)) ls)) movements lines

-- so a guarantee has the same in use
with_still : (a b : Trees) → b movement_typing.table.tree ≡ a movement_typing.table.tree → b (line_typing Grown2).table.tree ≡ a (line_typing Grown2).table.tree
    → (g : Keyed Guarantee) → with_its_use b g ≡ with_its_use a g
with_still a b movements lines g =
    ap (λ used. with_amount used (record g { row = record g.row { codes = [] } })) (use_still g.holder g.serial a b movements lines)

pub all_still : (a b : Trees) → b movement_typing.table.tree ≡ a movement_typing.table.tree → b (line_typing Grown2).table.tree ≡ a (line_typing Grown2).table.tree
    → (rows : List (Keyed Guarantee)) → map (with_its_use b) rows ≡ map (with_its_use a) rows
all_still a b movements lines [] = refl
all_still a b movements lines (g ∷ rows) = ap₂ ◌∷◌ (with_still a b movements lines g) (all_still a b movements lines rows)
