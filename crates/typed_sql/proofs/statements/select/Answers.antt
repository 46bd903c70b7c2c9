use Rattle.std.proofs.Common.{◌⊎◌, inl, inr, Err, IfErr, IsTrue, List, Ok, Result, Vec}
use Rattle.sqlite.specs.State.{FailsToQuery, IsTooLate, KeepsCommit, Shown, State}
use Rattle.std.proofs.lemmas.Bool.{false≢true}
use Rattle.std.specs.Prelude.{IfOk, OnOk, is_ok}
use Rattle.std.specs.declared.alloc.Global.{Global}
use Rattle.sqlite.specs.declared.error.Error.{Error}
use Rattle.sqlite_value.specs.declared.value.Value.{Value}
use Rattle.sqlite.specs.Held.{state}
use Rattle.sqlite.specs.Values.{bound}
use Rattle.typed_sql.proofs.Answering.{failed_keeps, late_keeps, shown_inside, shown_keeps, reads_only, selected_as}
use Rattle.typed_sql.specs.Reading.{OnlyReads, Selects}
use Rattle.typed_sql.proofs.statements.select.Goals as goal

pub returns-clause-selected : goal.returns-clause-selected
returns-clause-selected g c clean = by_result c.query_all.result (c.query_all.ensures.ok clean)
  where
    old : State
    old = state g.S.Store c.args.tx.now.conn.now

    new : State
    new = state g.S.Store c.query_all.new.self.conn.now

    by_result : (r : Result (Vec (List Value) Global) Error)
        → IfOk r (λ rows. Shown c.args.text.now (bound c.args.values.now) old new rows.items)
        → IfOk r (λ rows. Selects c.args.text.now (bound c.args.values.now) old rows.items)
    by_result (Ok rows) shown = selected_as c.args.text.now (bound c.args.values.now) old new rows.items shown
    by_result (Err e) shown = shown

pub returns-clause-still : goal.returns-clause-still
returns-clause-still g c clean = by_result c.query_all.result (c.query_all.ensures.ok clean)
  where
    old : State
    old = state g.S.Store c.args.tx.now.conn.now

    new : State
    new = state g.S.Store c.query_all.new.self.conn.now

    by_result : (r : Result (Vec (List Value) Global) Error)
        → IfOk r (λ rows. Shown c.args.text.now (bound c.args.values.now) old new rows.items)
        → OnOk r (OnlyReads c.args.text.now old new)
    by_result (Ok rows) shown = reads_only c.args.text.now (bound c.args.values.now) old new rows.items shown
    by_result (Err e) shown = shown

pub returns-clause-within : goal.returns-clause-within
returns-clause-within g c = record {
  inside = λ clean well was. goes_on c.query_all.result was (c.query_all.ensures.ok clean) well;
  kept = λ clean was. keeps c.query_all.result was (c.query_all.ensures.ok clean) (c.query_all.ensures.err clean);
  survives = c.query_all.ensures.survives;
}
  where
    old : State
    old = state g.S.Store c.args.tx.now.conn.now

    new : State
    new = state g.S.Store c.query_all.new.self.conn.now

    goes_on : (r : Result (Vec (List Value) Global) Error) → IsTrue old.in_transaction
        → IfOk r (λ rows. Shown c.args.text.now (bound c.args.values.now) old new rows.items)
        → IsTrue (is_ok r) → IsTrue new.in_transaction
    goes_on (Ok rows) inside shown well =
        shown_inside c.args.text.now (bound c.args.values.now) old new rows.items inside shown
    goes_on (Err e) inside shown well = absurd (false≢true well)

    keeps : (r : Result (Vec (List Value) Global) Error) → IsTrue old.in_transaction
        → IfOk r (λ rows. Shown c.args.text.now (bound c.args.values.now) old new rows.items)
        → IfErr r (λ e. FailsToQuery c.args.text.now
        (bound c.args.values.now) old new e ⊎ IsTooLate c.args.text.now (bound c.args.values.now) old new e)
        → KeepsCommit old new
    keeps (Ok rows) inside shown failed =
        shown_keeps c.args.text.now (bound c.args.values.now) old new rows.items inside shown
    keeps (Err e) inside shown (inl failed) =
        failed_keeps c.args.text.now (bound c.args.values.now) old new e failed
    keeps (Err e) inside shown (inr late) = late_keeps c.args.text.now (bound c.args.values.now) old new e late
