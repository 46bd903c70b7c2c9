use Rattle.std.proofs.Common.{arith}
use Rattle.sqlite.specs.Held.{state}
use Rattle.sqlite.specs.State.{HasCleanDisk}
use Rattle.typed_sql.proofs.Leaving.{on_ok}
use Rattle.typed_sql.proofs.OnlyRead.{stays_on}
use Rattle.td_schema.proofs.Meanings.{meta_made, holders_made, codes_made, movements_made}
use Rattle.td_schema.proofs.Steps.{made_empty}
use Rattle.td_schema.proofs.making.make_base.Goals as goal

pub returns-clause-made : goal.returns-clause-made
returns-clause-made g c clean =
    let third : HasCleanDisk (state g.S.Store c.make-3.new.tx.conn.now) = omega (arith, clean, c.make-4.ensures.within.survives.clean) in
    let second : HasCleanDisk (state g.S.Store c.make-2.new.tx.conn.now) = omega (arith, third, c.make-3.ensures.within.survives.clean) in
    let first : HasCleanDisk (state g.S.Store c.make.new.tx.conn.now) = omega (arith, second, c.make-2.ensures.within.survives.clean) in
    on_ok c.make-4.result
    (λ last none.
    let one = made_empty _ _ _ _ none (c.in_ok-make.ensures.made first _ _ meta_made (λ is. none.schema)) in
    let two = made_empty _ _ _ _ one (c.in_ok-make-2.ensures.made second _ _ holders_made (λ is. one.schema)) in
    let three = made_empty _ _ _ _ two (c.in_ok-make-3.ensures.made third _ _ codes_made (λ is. two.schema)) in
    made_empty _ _ _ _ three (last _ _ movements_made (λ is. three.schema)))
    (c.make-4.ensures.made clean)

pub returns-clause-within : goal.returns-clause-within
returns-clause-within g c =
    stays_on c.in_ok-make.ensures.within (stays_on c.in_ok-make-2.ensures.within (stays_on c.in_ok-make-3.ensures.within c.make-4.ensures.within))
