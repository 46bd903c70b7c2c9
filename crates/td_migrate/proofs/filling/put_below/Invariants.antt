use Rattle.std.proofs.Common.{◌≡◌, ◌-◌, ◌≤◌, ℕ, filter, map, true}
use Rattle.sqlite.specs.Held.{state}
use Rattle.typed_sql.specs.Reading.{StaysInside}
use Rattle.typed_sql.specs.Typed.{typed_rows}
use Rattle.td_store_audit.specs.Totals.{AreTotals}
use Rattle.td_store_rows.specs.Columns.{guarantee_typing, kept_typing}
use Rattle.td_store_rows.specs.Places.{is_within}
use Rattle.td_migrate.specs.Filled.{AreGuaranteesTyped, IsFirst, with_sum}
use Rattle.td_migrate.proofs.Putting.{HasPut}
use Rattle.td_migrate.proofs.filling.put_below.Given as goal

-- those below were put
abbrev pub invariant-parts : goal.invariant-parts
invariant-parts g l =
    (l.first ≤ l.end) × (l.tx.conn.ghost_name ≡ l.initial.tx.conn.ghost_name)
    × StaysInside true (state g.S.Store l.initial.tx.conn.now) (state g.S.Store l.tx.conn.now)
    × ((sums : ℕ → ℕ) → AreTotals sums l.totals
    → HasPut IsFirst kept_typing AreGuaranteesTyped (λ layout trees. map (with_sum sums) (filter (is_within l.holder 0 l.first) (typed_rows (guarantee_typing layout) trees)))
    (state g.S.Store l.initial.tx.conn.now) (state g.S.Store l.tx.conn.now))

abbrev pub decreases-parts : goal.decreases-parts
decreases-parts g l = l.end - l.first
