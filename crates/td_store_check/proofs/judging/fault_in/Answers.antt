use Rattle.std.proofs.Common.{None, arith, refl, rules, subst, sym, true, ◌∙◌, ◌≡◌}
use Rattle.std.specs.Prelude.{IfOk, is_some}
use Rattle.sqlite.specs.Effect.{Database}
use Rattle.sqlite.specs.Held.{state}
use Rattle.sqlite.specs.State.{HasCleanDisk, State}
use Rattle.td_schema.specs.Layouts.{IsNewest}
use Rattle.td_store_check.specs.Opened.{TellsOffice, TellsRows}
use Rattle.td_store_check.proofs.Begins.{store_begins}
use Rattle.td_store_check.proofs.Judged.{judged, rows_judged}
use Rattle.td_store_check.proofs.judging.fault_in.Goals as goal

pub read_office-requires-clause-first : goal.read_office-requires-clause-first
read_office-requires-clause-first g c clean =
    store_begins c.args.layout (state g.S.Store c.args.conn.now).now.schema (c.requires.tables clean)

pub returns-then-is_some-clause-told : goal.returns-then-is_some-clause-told
returns-then-is_some-clause-told g c clean =
    let found = c.in_ok-read_office.ensures.found clean in
    let some : is_some c.office_fault-fault.result ≡ true = search rules in
    judged c.args.country c.args.layout (state g.S.Store c.args.conn.now).now.trees c.in_ok-read_office.field-0 found
    c.office_fault-fault.result c.as_bytes-letters.ensures.form c.office_fault-fault.ensures some

pub returns-clause-told : goal.returns-clause-told
returns-clause-told g c clean =
    let a : State = state g.S.Store c.args.conn.now in
    let b : State = state g.S.Store c.read_office.new.conn in
    let clean_b : HasCleanDisk b = omega (arith, clean, c.fault_of_rows.ensures.looks.crash.clean) in
    let found = c.in_ok-read_office.ensures.found clean_b in
    let none : c.office_fault-fault.result ≡ None = search rules in
    let office : TellsOffice c.args.country c.in_ok-read_office.field-0 None = subst (TellsOffice c.args.country c.in_ok-read_office.field-0) none c.office_fault-fault.ensures in
    let now_is : b.now ≡ a.now = c.in_ok-read_office.ensures.looks.same clean_b (c.in_ok-read_office.ensures.looks.shown clean_b refl).1 in
    let newest : IsNewest c.args.layout = sym c.version_in.ensures ∙ c.if-version_in-ne-NEWEST_VERSION.false in
    rows_judged c.args.country c.args.layout a.now.trees c.in_ok-read_office.field-0 found newest office c.fault_of_rows.result
    (subst (λ (d : Database). IfOk c.fault_of_rows.result (TellsRows c.args.layout d.trees)) now_is (c.fault_of_rows.ensures.told clean))
