use Rattle.std.proofs.Common.{Result, Err, Ok, true}
use Rattle.sqlite.specs.declared.error.Error.{Error}
use Rattle.sqlite.specs.State.{Shows, Executes, State}
use Rattle.sqlite.specs.Held.{state}
use Rattle.sqlite.specs.Values.{bound}
use Rattle.std.specs.Prelude.{OnOk}
use Rattle.typed_sql.proofs.Effects.{updated_as}
use Rattle.typed_sql.specs.Writing.{Updates}
use Rattle.typed_sql.proofs.statements.update.Goals as goal

pub returns-clause-updated : goal.returns-clause-updated
returns-clause-updated g c clean =
    by_result c.change_one.result (c.change_one.ensures.ran clean) (c.change_one.ensures.inside clean)
  where
    old : State
    old = state g.S.Store c.args.tx.now.conn.now

    new : State
    new = state g.S.Store c.change_one.new.tx.conn.now

    by_result : (r : Result (Unit {0}) Error)
        → OnOk r (Executes c.args.text.now (bound c.args.values.now) old new (Ok 1))
        → OnOk r (Shows old new new.now old.committed true)
        → OnOk r (Updates c.args.text.now (bound c.args.values.now) old new)
    by_result (Ok x) ran inside =
        λ s t tests columns has means have. updated_as old new c.args.text.now
        (bound c.args.values.now) s t tests columns (has inside.was_open) means have ran
    by_result (Err e) ran inside = ran
