use Rattle.std.proofs.Common.{◌≡◌, ◌-◌, ◌^◌, filter, map}
use Rattle.sqlite.specs.Held.{state}
use Rattle.typed_sql.specs.Typed.{typed_rows}
use Rattle.td_store_rows.specs.Columns.{guarantee_typing, kept_typing}
use Rattle.td_migrate.specs.Filled.{IsFirst, with_its_use}
use Rattle.td_migrate.specs.Put.{KeepTheRules}
use Rattle.td_migrate.proofs.Putting.{HasPut}
use Rattle.td_migrate.proofs.Split.{is_upto}
use Rattle.td_migrate.proofs.filling.fill.Given as goal

-- the guarantees of the holders up to the number were put
abbrev pub invariant-holders : goal.invariant-holders
invariant-holders g l =
    (l.tx.conn.ghost_name ≡ l.initial.tx.conn.ghost_name)
    × HasPut IsFirst kept_typing KeepTheRules (λ layout trees. map (with_its_use trees) (filter (is_upto l.number) (typed_rows (guarantee_typing layout) trees)))
    (state g.S.Store l.initial.tx.conn.now) (state g.S.Store l.tx.conn.now)

abbrev pub decreases-holders : goal.decreases-holders
decreases-holders g l = 2 ^ 32 - l.number
