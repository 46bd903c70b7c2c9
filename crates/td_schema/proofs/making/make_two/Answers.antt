use Rattle.std.proofs.Common.{arith}
use Rattle.sqlite.specs.Held.{state}
use Rattle.sqlite.specs.State.{HasCleanDisk}
use Rattle.typed_sql.proofs.Leaving.{on_ok}
use Rattle.typed_sql.proofs.OnlyRead.{stays_on}
use Rattle.td_schema.proofs.Steps.{made_empty}
use Rattle.td_schema.proofs.making.make_two.Goals as goal

pub returns-clause-made : goal.returns-clause-made
returns-clause-made g c clean =
    let first : HasCleanDisk (state g.S.Store c.make.new.tx.conn.now) = omega (arith, clean, c.make-2.ensures.within.survives.clean) in
    on_ok c.make-2.result
    (λ last s t u makes_t makes_u none.
    let one = made_empty s t _ _ none (c.in_ok-make.ensures.made first s t makes_t (λ is. none.schema)) in
    made_empty _ _ _ _ one (last _ u makes_u (λ is. one.schema)))
    (c.make-2.ensures.made clean)

pub returns-clause-within : goal.returns-clause-within
returns-clause-within g c = stays_on c.in_ok-make.ensures.within c.make-2.ensures.within
