use Rattle.std.proofs.Common.{◌≡◌, ◌∙◌, [], ◌∷◌, sym, subst}
use Rattle.sqlite.specs.Held.{state}
use Rattle.sqlite.specs.State.{State}
use Rattle.td_schema.specs.Layouts.{grown, schema_of}
use Rattle.typed_sql.proofs.Leaving.{on_ok}
use Rattle.typed_sql.specs.Typed.{HasNow, typed_rows}
use Rattle.td_table_model.specs.Tables.{with_amount}
use Rattle.td_store_rows.specs.Columns.{kept_typing}
use Rattle.td_store_rows.specs.GuaranteeTable.{guarantee_row_of}
use Rattle.td_store_audit.specs.Totals.{IsAmount}
use Rattle.td_migrate.specs.Filled.{with_sum}
use Rattle.td_migrate.proofs.Older.{first_keeps}
use Rattle.td_migrate.proofs.Putting.{one_put}
use Rattle.td_migrate.proofs.filling.put_row.Goals as goal

pub returns-clause-filled : goal.returns-clause-filled
returns-clause-filled g c clean = on_ok c.insert_guarantee.result
    (λ turns sums are l at has typed any.
    let a : State = state g.S.Store c.args.tx.now.conn.now in
    let d : State = state g.S.Store c.insert_guarantee.new.tx.conn.now in
    let is : c.in-Some.used ≡ sums c.args.row.now.serial = (subst (IsAmount (sums c.args.row.now.serial)) (sym c.on.ensures ∙ c.in-Some.is) (are c.args.row.now.serial)).1 in
    one_put (kept_typing (grown l)) (schema_of (grown l)) (with_sum sums (guarantee_row_of c.args.row.now)) a.now d.now
    (subst (λ cents. HasNow (kept_typing (grown l)) (schema_of (grown l)) (with_amount cents (record (guarantee_row_of c.args.row.now) { row = record c.args.row.now.guarantee { codes = [] } }) ∷ typed_rows (kept_typing (grown l)) a.now.trees) a.now d.now) is
    (turns (grown l) (first_keeps l at) (λ _. has) typed)))
    (c.insert_guarantee.ensures.inserted clean)
