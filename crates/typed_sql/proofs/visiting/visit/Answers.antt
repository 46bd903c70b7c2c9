use Rattle.std.proofs.Common.{[], ◌∷◌, ◌++◌, arith, rules}
use Rattle.std.specs.Prelude.{IsTrue}
use Rattle.sqlite.specs.Held.{state}
use Rattle.sqlite.specs.State.{CommitsShowing, HasCleanDisk, Survives}
use Rattle.sqlite.proofs.Callers.{given_begin, unchanged_then}
use Rattle.typed_sql.proofs.Left.{commits_nothing, query_left}
use Rattle.typed_sql.proofs.Shown.{all_visited, err_not_whole, first_visited, none_visited, seen_more, shown_more}
use Rattle.typed_sql.proofs.visiting.visit.Goals as goal

pub returns-in_err-rows-clause-left : goal.returns-in_err-rows-clause-left
returns-in_err-rows-clause-left g c clean =
    let auto : IsTrue c.is_autocommit-settled.result = search rules in
    let refused = rw c.in_err-rows.was at c.query.follows.holds-at-none in
    query_left c.args.text.now [] (state g.S.Store c.args.conn.now) (state g.S.Store c.query.follows.lender-at-none) c.in_err-rows.field-0.0
    (c.is_autocommit-settled.ensures.settled auto) (refused.err clean)

pub returns-in_err-rows-clause-survives : goal.returns-in_err-rows-clause-survives
returns-in_err-rows-clause-survives g c =
    let old = state g.S.Store c.args.conn.now in
    let new = state g.S.Store c.query.follows.lender-at-none in
    let held = c.query.follows.holds-at-none in
    let kept : Survives old new (CommitsShowing c.args.text.now [] old) = search rules in
    commits_nothing c.args.text.now [] old new c.requires.plain kept

pub returns-in_err-rows-clause-visited : goal.returns-in_err-rows-clause-visited
returns-in_err-rows-clause-visited g c clean =
    rw (err_not_whole c.from_residual.result c.from_residual.ensures.0)
    (none_visited g.V.Visitor.sees g.T.FromRow.typed g.T.FromRow.from c.args.text.now (state g.S.Store c.args.conn.now)
    (c.args.visitor.now, c.args.beside.now))

pub returns-in_err-row-clause-visited : goal.returns-in_err-row-clause-visited
returns-in_err-row-clause-visited g c clean =
    let moved = c.next.follows.holds-at-none in
    let late : HasCleanDisk (state g.S.Store c.next.follows.lender-at-none.conn.now) = search rules in
    let was = c.rows.invariant.3 (omega (arith, moved.survives.clean)) in
    rw (err_not_whole c.from_residual-in_err-row.result c.from_residual-in_err-row.ensures.0)
    (first_visited g.V.Visitor.sees g.T.FromRow.typed g.T.FromRow.from c.args.text.now (state g.S.Store c.args.conn.now)
    (c.args.visitor.now, c.args.beside.now) (state g.S.Store c.rows.rows.conn.now) was.2 (c.rows.visitor, c.rows.beside) was.3 was.0 was.4 was.5
    (given_begin g.S.Store c.args.text.now [] c.rows.rows.conn.now was.0 was.1))

pub returns-in_default-clause-visited : goal.returns-in_default-clause-visited
returns-in_default-clause-visited g c clean =
    let moved = c.next.follows.holds-at-none in
    let now = c.next.follows.lender-at-none.conn.now in
    let late : HasCleanDisk (state g.S.Store now) = search rules in
    let was = c.rows.invariant.3 (omega (arith, moved.survives.clean)) in
    let done = (rw (c.in_ok-row.was, c.in_default.is) at (moved.ok late)) c.args.text.now [] was.0 was.1 in
    all_visited g.V.Visitor.sees g.T.FromRow.typed g.T.FromRow.from c.args.text.now (state g.S.Store c.args.conn.now)
    (c.args.visitor.now, c.args.beside.now) (state g.S.Store c.rows.rows.conn.now) was.2 (c.rows.visitor, c.rows.beside) was.3 was.0 was.4 was.5
    (state g.S.Store now) (given_begin g.S.Store c.args.text.now [] c.rows.rows.conn.now was.0 was.1) done

pub returns-in_default-from_row-clause-visited : goal.returns-in_default-from_row-clause-visited
returns-in_default-from_row-clause-visited g c clean =
    let moved = c.next.follows.holds-at-none in
    let late : HasCleanDisk (state g.S.Store c.next.follows.lender-at-none.conn.now) = search rules in
    let was = c.rows.invariant.3 (omega (arith, moved.survives.clean)) in
    first_visited g.V.Visitor.sees g.T.FromRow.typed g.T.FromRow.from c.args.text.now (state g.S.Store c.args.conn.now)
    (c.args.visitor.now, c.args.beside.now) (state g.S.Store c.rows.rows.conn.now) was.2 (c.rows.visitor, c.rows.beside) was.3 was.0 was.4 was.5
    (given_begin g.S.Store c.args.text.now [] c.rows.rows.conn.now was.0 was.1)

pub returns-then-not-see-clause-visited : goal.returns-then-not-see-clause-visited
returns-then-not-see-clause-visited g c clean =
    let moved = c.next.follows.holds-at-none in
    let now = c.next.follows.lender-at-none.conn.now in
    let late : HasCleanDisk (state g.S.Store now) = search rules in
    let was = c.rows.invariant.3 (omega (arith, moved.survives.clean)) in
    let given = (rw (c.in_ok-row.was, c.in-Some.is) at (moved.ok late)) c.args.text.now [] was.0 was.1 in
    let same = unchanged_then (state g.S.Store c.args.conn.now) (state g.S.Store c.rows.rows.conn.now) (state g.S.Store now) was.2
    (rw c.in_ok-row.was at (moved.same late)) in
    let more = shown_more g.V.Visitor.sees g.T.FromRow.typed g.T.FromRow.from (c.args.visitor.now, c.args.beside.now) (c.rows.visitor, c.rows.beside)
    (c.see.new.self, c.see.new.beside) was.3 was.0 c.in-Some-from_row.read c.in-Some.row.now was.4 was.5 c.see.ensures.seen c.in-Some-from_row.ensures in
    first_visited g.V.Visitor.sees g.T.FromRow.typed g.T.FromRow.from c.args.text.now (state g.S.Store c.args.conn.now)
    (c.args.visitor.now, c.args.beside.now) (state g.S.Store now) same (c.see.new.self, c.see.new.beside)
    (was.3 ++ c.in-Some-from_row.read ∷ []) (was.0 ++ c.in-Some.row.now ∷ []) more.0 more.1
    (given_begin g.S.Store c.args.text.now [] now (was.0 ++ c.in-Some.row.now ∷ []) given)

pub returns-clause-visited : goal.returns-clause-visited
returns-clause-visited g c clean =
    let early : HasCleanDisk (state g.S.Store c.rows.rows.conn.now) = search rules in
    let was = c.rows.invariant.3 early in
    first_visited g.V.Visitor.sees g.T.FromRow.typed g.T.FromRow.from c.args.text.now (state g.S.Store c.args.conn.now)
    (c.args.visitor.now, c.args.beside.now) (state g.S.Store c.rows.rows.conn.now) was.2 (c.rows.visitor, c.rows.beside) was.3 was.0 was.4 was.5
    (given_begin g.S.Store c.args.text.now [] c.rows.rows.conn.now was.0 was.1)

pub rows-preserved : goal.rows-preserved
rows-preserved g c =
    let moved = c.next.follows.holds-at-none in
    let now = c.next.follows.lender-at-none.conn.now in (
      search rules,
      search rules,
      search rules,
      λ late.
          let was = c.rows.invariant.3 (omega (arith, moved.survives.clean)) in
          let given = (rw (c.in_ok-row.was, c.in-Some.is) at (moved.ok late)) c.args.text.now [] was.0 was.1 in
          let same = unchanged_then (state g.S.Store c.args.conn.now) (state g.S.Store c.rows.rows.conn.now) (state g.S.Store now) was.2
          (rw c.in_ok-row.was at (moved.same late)) in
          let more = shown_more g.V.Visitor.sees g.T.FromRow.typed g.T.FromRow.from (c.args.visitor.now, c.args.beside.now) (c.rows.visitor, c.rows.beside)
          (c.see.new.self, c.see.new.beside) was.3 was.0 c.in-Some-from_row.read c.in-Some.row.now was.4 was.5 c.see.ensures.seen c.in-Some-from_row.ensures in
          (was.0 ++ c.in-Some.row.now ∷ [], given, same, was.3 ++ c.in-Some-from_row.read ∷ [], more.0, more.1),
      seen_more g.V.Visitor.sees (c.args.visitor.now, c.args.beside.now) (c.rows.visitor, c.rows.beside) (c.see.new.self, c.see.new.beside)
          c.in-Some-from_row.read c.rows.invariant.4 c.see.ensures.seen,
    )

pub returns-then-not-see-clause-seen : goal.returns-then-not-see-clause-seen
returns-then-not-see-clause-seen g c =
    seen_more g.V.Visitor.sees (c.args.visitor.now, c.args.beside.now) (c.rows.visitor, c.rows.beside) (c.see.new.self, c.see.new.beside)
    c.in-Some-from_row.read c.rows.invariant.4 c.see.ensures.seen
