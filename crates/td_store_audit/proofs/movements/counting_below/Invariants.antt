use Rattle.std.proofs.Common.{◌≡◌, ◌≤◌, ◌-◌, List, true}
use Rattle.sqlite.specs.Held.{state}
use Rattle.sqlite.specs.State.{HasCleanDisk}
use Rattle.td_movement.specs.declared.movement.Movement.{Movement}
use Rattle.td_table_model.specs.Tables.{Keyed}
use Rattle.td_store_rows.specs.Columns.{movement_typing}
use Rattle.td_store_rows.specs.StoreReads.{IsAny, ReadsStore}
use Rattle.td_store_audit_rows.specs.InPlace.{AreNextMovements}
use Rattle.td_store_audit.specs.InFile.{AreTypedApart, IsSoWhere}
use Rattle.td_store_audit.specs.Ranges.{AreSerialsIn, movements_below}
use Rattle.td_store_audit.proofs.movements.counting_below.Given as goal

-- nothing is changed, and there are movements in their places, with the serials that count of these: those of the file below the
-- first that wasn't read
abbrev pub invariant-parts : goal.invariant-parts
invariant-parts g l =
    (l.tx.conn.ghost_name ≡ l.initial.tx.conn.ghost_name)
    × ReadsStore true (state g.S.Store l.initial.tx.conn.now) (state g.S.Store l.tx.conn.now)
    × (l.first ≤ l.end)
    × ((rows : List (Keyed Movement)) × AreNextMovements l.country 0 (l.first - 1) rows × AreSerialsIn rows l.serials.items
    × (HasCleanDisk (state g.S.Store l.tx.conn.now)
    → IsSoWhere IsAny (λ layout. AreTypedApart movement_typing) (λ layout trees. rows ≡ movements_below layout trees l.holder l.first)
    (state g.S.Store l.initial.tx.conn.now)))

abbrev pub decreases-parts : goal.decreases-parts
decreases-parts g l = l.end - l.first
