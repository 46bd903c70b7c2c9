use Rattle.std.proofs.Common.{rules, refl}
use Rattle.sqlite.specs.Held.{state}
use Rattle.td_model.specs.Content.{empty_content}
use Rattle.td_schema.specs.Tables.{IsEmptyOf, no_schema}
use Rattle.td_store.proofs.Holding.{content_held}
use Rattle.td_store.proofs.Leaving.{leaves_shown}
use Rattle.td_store.proofs.desk.SqlDesk.create.Goals as goal

pub over-requires-clause-desk : goal.over-requires-clause-desk
over-requires-clause-desk g c = λ clean is.
    let none : IsEmptyOf no_schema (state g.S.Store c.args.conn).now = search rules in
    (empty_content c.args.country, (c.in_default.ensures.created clean none).0, refl)

pub returns-clause-empty : goal.returns-clause-empty
returns-clause-empty g c =
    let none : IsEmptyOf no_schema (state g.S.Store c.args.conn).now = search rules in
    rw c.over.ensures (λ clean. content_held (empty_content c.args.country) (state g.S.Store c.create_tables.new.conn)
    (c.in_default.ensures.created clean none).0)

pub returns-clause-made : goal.returns-clause-made
returns-clause-made g c =
    let none : IsEmptyOf no_schema (state g.S.Store c.args.conn).now = search rules in
    rw c.over.ensures (λ clean. (c.in_default.ensures.created clean none).0)

pub returns-clause-leaves : goal.returns-clause-leaves
returns-clause-leaves g c =
    let none : IsEmptyOf no_schema (state g.S.Store c.args.conn).now = search rules in
    rw c.over.ensures (λ clean. leaves_shown g.S.Store c.create_tables.new.conn c.see_settled-2.ensures.settled
    (λ is. (empty_content c.args.country, (c.in_default.ensures.created clean none).0)))

pub returns-clause-schema : goal.returns-clause-schema
returns-clause-schema g c =
    let none : IsEmptyOf no_schema (state g.S.Store c.args.conn).now = search rules in
    rw c.over.ensures (λ clean. (c.in_default.ensures.created clean none).1)
