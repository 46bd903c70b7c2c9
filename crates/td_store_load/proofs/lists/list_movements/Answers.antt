use Rattle.std.proofs.Common.{◌≡◌, Some, map, subst}
use Rattle.std.proofs.lemmas.Result.{IfOk-weaker}
use Rattle.sqlite.specs.Held.{state}
use Rattle.sqlite.specs.State.{State}
use Rattle.td_model.specs.Table.{listed}
use Rattle.td_model.specs.Content.{Content, account_in}
use Rattle.td_table_model.specs.Gathering.{movements_by}
use Rattle.td_store_rows.specs.MovementTable.{shown_of}
use Rattle.td_store_rows.specs.Ranges.{rows_below}
use Rattle.td_store_rows.specs.StoreTables.{HoldsContent}
use Rattle.td_store_load.specs.Loaded.{IsOfTables}
use Rattle.td_store_load.proofs.InRanges.{all_listed}
use Rattle.td_store_load.proofs.lists.list_movements.Goals as goal

pub returns-clause-found : goal.returns-clause-found
returns-clause-found g c clean =
    let a : State = state g.S.Store c.args.tx.now.conn.now in
    let row = c.args.row.now in
    IfOk-weaker c.movements_below.result
    (λ found. IsOfTables (λ t. map shown_of (rows_below c.in-Some.end (movements_by row.holder t))) a found.items)
    (λ found. (content : Content) → HoldsContent content a → (account_in row.holder content).holder ≡ Some row
    → found.items ≡ map listed (account_in row.holder content).movements)
    (λ found is. all_listed row a found.items (subst (λ end. IsOfTables (λ t. map shown_of (rows_below end (movements_by row.holder t))) a found.items) c.in-Some.ensures.1 is))
    (c.movements_below.ensures.found clean)
