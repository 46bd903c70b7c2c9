use Rattle.std.proofs.Common.{[], arith, rules}
use Rattle.std.specs.Prelude.{IsTrue}
use Rattle.sqlite.specs.Held.{state}
use Rattle.sqlite.specs.State.{CommitsShowing, HasCleanDisk, Survives}
use Rattle.typed_sql.proofs.Left.{commits_nothing, query_left}
use Rattle.typed_sql.proofs.Answered.{shown_selects}
use Rattle.typed_sql.proofs.walking.walk.Goals as goal

pub returns-in_err-rows-clause-left : goal.returns-in_err-rows-clause-left
returns-in_err-rows-clause-left g c clean =
    let auto : IsTrue c.is_autocommit-settled.result = search rules in
    let refused = rw c.in_err-rows.was at c.query.follows.holds-at-none in
    query_left c.args.text.now [] (state g.S.Store c.args.conn.now) (state g.S.Store c.query.follows.lender-at-none) c.in_err-rows.field-0.0
    (c.is_autocommit-settled.ensures.settled auto) (refused.err clean)

pub returns-in_err-rows-clause-survives : goal.returns-in_err-rows-clause-survives
returns-in_err-rows-clause-survives g c =
    let old = state g.S.Store c.args.conn.now in
    let new = state g.S.Store c.query.follows.lender-at-none in
    let held = c.query.follows.holds-at-none in
    let kept : Survives old new (CommitsShowing c.args.text.now [] old) = search rules in
    commits_nothing c.args.text.now [] old new c.requires.plain kept

pub returns-in_default-clause-seen : goal.returns-in_default-clause-seen
returns-in_default-clause-seen g c clean none =
    let moved = c.next.follows.holds-at-none in
    let now = c.next.follows.lender-at-none.conn.now in
    let late : HasCleanDisk (state g.S.Store now) = search rules in
    let was = c.rows.invariant.3 (omega (arith, moved.survives.clean)) in
    let shown = (rw (c.in_ok-row.was, c.in_default.is) at (moved.ok late)) c.args.text.now [] was.0 was.1 in
    (was.0, shown_selects c.args.text.now (state g.S.Store c.args.conn.now) _ (state g.S.Store now) was.0 was.2 shown, was.3 none)
