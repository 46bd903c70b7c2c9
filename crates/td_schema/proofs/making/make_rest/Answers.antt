use Rattle.std.proofs.Common.{arith}
use Rattle.sqlite.specs.Held.{state}
use Rattle.sqlite.specs.State.{HasCleanDisk}
use Rattle.typed_sql.proofs.Leaving.{on_ok}
use Rattle.typed_sql.proofs.OnlyRead.{stays_on}
use Rattle.td_schema.proofs.Meanings.{guarantees_made, guarantees2_grown, guarantees2_made, lines3_grown_from_1, lines3_grown_from_2, lines3_made, lines_made, lines_made_at_2}
use Rattle.td_schema.proofs.Steps.{made_empty}
use Rattle.td_schema.proofs.making.make_rest.Goals as goal

pub returns-in-Made1-clause-made : goal.returns-in-Made1-clause-made
returns-in-Made1-clause-made g c clean =
    rw c.in-Made1.is (on_ok c.make_two.result (λ last none. last _ _ _ guarantees_made lines_made none) (c.make_two.ensures.made clean))

pub returns-in-Made2-clause-made : goal.returns-in-Made2-clause-made
returns-in-Made2-clause-made g c clean =
    rw c.in-Made2.is (on_ok c.make_two-in-Made2.result (λ last none. last _ _ _ guarantees2_made lines_made_at_2 none) (c.make_two-in-Made2.ensures.made clean))

pub returns-in_ok-make_two-in-Grown2-clause-made : goal.returns-in_ok-make_two-in-Grown2-clause-made
returns-in_ok-make_two-in-Grown2-clause-made g c clean =
    let first : HasCleanDisk (state g.S.Store c.make_two-in-Grown2.new.tx.conn.now) = omega (arith, clean, c.make.ensures.within.survives.clean) in
    rw c.in-Grown2.is (on_ok c.make.result (λ last none.
    let two = c.in_ok-make_two-in-Grown2.ensures.made first _ _ _ guarantees_made lines_made none in
    made_empty _ _ _ _ two (last _ _ guarantees2_grown (λ is. two.schema))) (c.make.ensures.made clean))

pub returns-in_ok-make_two-in-Grown2-clause-within : goal.returns-in_ok-make_two-in-Grown2-clause-within
returns-in_ok-make_two-in-Grown2-clause-within g c = stays_on c.in_ok-make_two-in-Grown2.ensures.within c.make.ensures.within

pub returns-in-Made3-clause-made : goal.returns-in-Made3-clause-made
returns-in-Made3-clause-made g c clean =
    rw c.in-Made3.is (on_ok c.make_two-in-Made3.result (λ last none. last _ _ _ guarantees2_made lines3_made none) (c.make_two-in-Made3.ensures.made clean))

pub returns-in_ok-make_two-in-Grown3From2-clause-made : goal.returns-in_ok-make_two-in-Grown3From2-clause-made
returns-in_ok-make_two-in-Grown3From2-clause-made g c clean =
    let first : HasCleanDisk (state g.S.Store c.make_two-in-Grown3From2.new.tx.conn.now) = omega (arith, clean, c.make-in-Grown3From2.ensures.within.survives.clean) in
    rw c.in-Grown3From2.is (on_ok c.make-in-Grown3From2.result (λ last none.
    let two = c.in_ok-make_two-in-Grown3From2.ensures.made first _ _ _ guarantees2_made lines_made_at_2 none in
    made_empty _ _ _ _ two (last _ _ lines3_grown_from_2 (λ is. two.schema))) (c.make-in-Grown3From2.ensures.made clean))

pub returns-in_ok-make_two-in-Grown3From2-clause-within : goal.returns-in_ok-make_two-in-Grown3From2-clause-within
returns-in_ok-make_two-in-Grown3From2-clause-within g c = stays_on c.in_ok-make_two-in-Grown3From2.ensures.within c.make-in-Grown3From2.ensures.within

pub returns-in_ok-make_two-in-Grown3From1-clause-made : goal.returns-in_ok-make_two-in-Grown3From1-clause-made
returns-in_ok-make_two-in-Grown3From1-clause-made g c clean =
    let first : HasCleanDisk (state g.S.Store c.make_two-in-Grown3From1.new.tx.conn.now) = omega (arith, clean, c.make_two-in-Grown3From1-2.ensures.within.survives.clean) in
    rw c.in-Grown3From1.is (on_ok c.make_two-in-Grown3From1-2.result (λ last none.
    let two = c.in_ok-make_two-in-Grown3From1.ensures.made first _ _ _ guarantees_made lines_made none in
    last _ _ _ guarantees2_grown lines3_grown_from_1 two) (c.make_two-in-Grown3From1-2.ensures.made clean))

pub returns-in_ok-make_two-in-Grown3From1-clause-within : goal.returns-in_ok-make_two-in-Grown3From1-clause-within
returns-in_ok-make_two-in-Grown3From1-clause-within g c = stays_on c.in_ok-make_two-in-Grown3From1.ensures.within c.make_two-in-Grown3From1-2.ensures.within
