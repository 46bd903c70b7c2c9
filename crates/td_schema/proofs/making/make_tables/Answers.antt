use Rattle.std.proofs.Common.{arith}
use Rattle.sqlite.specs.Held.{state}
use Rattle.sqlite.specs.State.{HasCleanDisk}
use Rattle.typed_sql.proofs.Leaving.{on_ok}
use Rattle.typed_sql.proofs.OnlyRead.{stays_on}
use Rattle.td_schema.proofs.making.make_tables.Goals as goal

pub returns-clause-made : goal.returns-clause-made
returns-clause-made g c clean =
    let first : HasCleanDisk (state g.S.Store c.make_base.new.tx.conn.now) = omega (arith, clean, c.make_rest.ensures.within.survives.clean) in
    on_ok c.make_rest.result (λ last none. last (c.in_ok-make_base.ensures.made first none)) (c.make_rest.ensures.made clean)

pub returns-clause-within : goal.returns-clause-within
returns-clause-within g c = stays_on c.in_ok-make_base.ensures.within c.make_rest.ensures.within
