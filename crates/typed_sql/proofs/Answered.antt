-- Rows that were shown one after the other are the answer that a SELECT over one table has.
use Rattle.std.proofs.Common.{List, [], ap, subst, ℕ, ◌∙◌}
use Rattle.sqlite_value.specs.Order.{Row}
use Rattle.sqlite_value.specs.declared.value.Value.TheVariants.{Null}
use Rattle.sqlite.specs.Effect.{Database}
use Rattle.sqlite.specs.Listing.{understood}
use Rattle.sqlite.specs.State.{IsUnchanged, Shown, State}
use Rattle.sqlite.proofs.Callers.{reads_as}
use Rattle.typed_sql.proofs.Queries.{plain_answer}
use Rattle.typed_sql.proofs.Steps.{command_is}
use Rattle.typed_sql.specs.Reading.{IsAnswerOf, Selects, row_order, shown_by}
use Rattle.typed_sql.specs.Writing.{passes}

-- shown by a connection on the way, it is that of the connection as it was
pub shown_selects : (text : List ℕ) (first old new : State) (rows : List Row) → IsUnchanged first old → Shown text [] old new rows
    → Selects text [] first rows
shown_selects text first old new rows same shown s tree tests shows order has means =
    let schema = ap (λ (d : Database). d.schema) same.0.now_is ∙ has same.0.was_open in
    let read =
    reads_as text [] old new s schema _ (command_is (understood s text) ∙ means.command) means.plain means.unlisted rows shown in
    subst (λ (d : Database). IsAnswerOf (d.trees tree) (passes [] tests) (shown_by shows []) (row_order order []) rows) same.0.now_is
    (plain_answer tree tests shows order old.now.trees [] rows (read.answer Null))
