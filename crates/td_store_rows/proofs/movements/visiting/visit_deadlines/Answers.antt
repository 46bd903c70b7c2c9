use Rattle.sqlite.specs.Held.{state}
use Rattle.typed_sql.specs.Visited.{is_whole}
use Rattle.td_store_rows.proofs.Deadlines.{deadlines_visited}
use Rattle.td_store_rows.proofs.MovementMeanings.{deadlines_mean}
use Rattle.td_store_rows.proofs.StoreReads.{plain_there}
use Rattle.td_store_rows.specs.StoreReads.{IsAny}
use Rattle.td_store_rows.specs.declared.movements.texts.TheConstants.{DEADLINES}
use Rattle.td_store_rows.proofs.movements.visiting.visit_deadlines.Goals as goal

pub visit-requires-clause-plain : goal.visit-requires-clause-plain
visit-requires-clause-plain g c clean =
    plain_there IsAny DEADLINES.now (λ l any. (deadlines_mean l).plain) (state g.S.Store c.args.conn.now) (c.requires.tables clean)

pub returns-clause-visited : goal.returns-clause-visited
returns-clause-visited g c clean l has typed =
    deadlines_visited g.V.Visitor.sees l (state g.S.Store c.args.conn.now) has typed (c.args.visitor.now, c.args.beside.now)
    (c.visit.new.visitor, c.visit.new.beside) (is_whole c.visit.result) (c.visit.ensures.visited clean)
