use Rattle.std.proofs.Common.{◌≡◌, List, [], map}
use Rattle.std.specs.List.{FoldsTo}
use Rattle.std.specs.Prelude.{false}
use Rattle.sqlite_value.specs.Order.{Row}
use Rattle.sqlite.specs.Given.{HasGiven}
use Rattle.sqlite.specs.Held.{state}
use Rattle.sqlite.specs.State.{HasCleanDisk, IsUnchanged, Survives}
use Rattle.typed_sql.specs.Visited.{HasSeen, step_of}
use Rattle.typed_sql.proofs.visiting.visit.Given as goal

abbrev pub invariant-rows : goal.invariant-rows
invariant-rows g l =
    let old = state g.S.Store l.fn.conn in
    let now = state g.S.Store l.rows.conn.now in
    (l.rows.conn.ghost_name ≡ l.initial.rows.conn.ghost_name) × (l.rows.conn.now.in_transaction ≡ false) × Survives old now (λ _. ⊥)
    × (HasCleanDisk now → (given : List Row) × HasGiven g.S.Store l.text [] l.rows.conn.now given × IsUnchanged old now
    × (shown : List g.row.T.Denot) × FoldsTo (step_of g.V.Visitor.sees) (l.fn.visitor, l.fn.beside) shown (l.visitor, l.beside)
    × (map g.T.FromRow.typed shown ≡ map g.T.FromRow.from given))
    × HasSeen g.V.Visitor.sees (l.fn.visitor, l.fn.beside) (l.visitor, l.beside)
