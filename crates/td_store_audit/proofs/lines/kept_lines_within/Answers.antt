use Rattle.std.proofs.Common.{map, subst}
use Rattle.std.specs.Prelude.{◌↔◌, IsTrue}
use Rattle.sqlite.specs.Held.{state}
use Rattle.sqlite.specs.State.{State}
use Rattle.td_store_rows.specs.Columns.{line_typing}
use Rattle.td_store_rows.specs.LineTable.{line_row_of}
use Rattle.td_table_model.specs.Gathering.{part}
use Rattle.typed_sql.specs.Typed.{typed_rows}
use Rattle.td_store_audit.specs.InPlace.{AreLinesInPlaceWithin}
use Rattle.td_store_audit.proofs.RangesTold.{range_told}
use Rattle.td_store_audit.proofs.lines.kept_lines_within.Goals as goal

pub returns-then-not-lines_within_are_in_place-clause-told : goal.returns-then-not-lines_within_are_in_place-clause-told
returns-then-not-lines_within_are_in_place-clause-told g c = λ clean layout own has typed apart.
    let a : State = state g.S.Store c.args.tx.now.conn.now in
    subst (λ b. IsTrue b ↔ AreLinesInPlaceWithin c.args.guarantees c.args.first c.args.end (part c.args.holder (typed_rows (line_typing layout) a.now.trees))) c.if-not-lines_within_are_in_place.true
    (range_told layout a.now.trees c.args.holder c.args.guarantees c.args.first c.args.end (map line_row_of c.in_ok-lines.lines.items) c.lines_within_are_in_place.result
    (c.in_ok-lines.ensures.found clean layout own has typed) (c.in_ok-lines.ensures.order clean layout own has typed) apart
    (rw c.deref.ensures.value at c.lines_within_are_in_place.ensures))

pub returns-clause-told : goal.returns-clause-told
returns-clause-told g c = λ clean layout own has typed apart.
    let a : State = state g.S.Store c.args.tx.now.conn.now in
    subst (λ b. IsTrue b ↔ AreLinesInPlaceWithin c.args.guarantees c.args.first c.args.end (part c.args.holder (typed_rows (line_typing layout) a.now.trees))) c.if-not-lines_within_are_in_place.false
    (range_told layout a.now.trees c.args.holder c.args.guarantees c.args.first c.args.end (map line_row_of c.in_ok-lines.lines.items) c.lines_within_are_in_place.result
    (c.in_ok-lines.ensures.found clean layout own has typed) (c.in_ok-lines.ensures.order clean layout own has typed) apart
    (rw c.deref.ensures.value at c.lines_within_are_in_place.ensures))
