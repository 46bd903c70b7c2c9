use Rattle.std.proofs.Common.{arith}
use Rattle.td_movement.specs.declared.state.State.TheVariants.{Accepted, Cancelled, Released, Enquired, Arrived, Discrepant, Cleared, WrittenOff}
use Rattle.td_movement.proofs.state.State.read.Goals as goal

pub returns-clause-none : goal.returns-clause-none
returns-clause-none c is Accepted = c.states.invariant 0 (omega (arith, c.states-test.false))
returns-clause-none c is Cancelled = c.states.invariant 1 (omega (arith, c.states-test.false))
returns-clause-none c is Released = c.states.invariant 2 (omega (arith, c.states-test.false))
returns-clause-none c is Enquired = c.states.invariant 3 (omega (arith, c.states-test.false))
returns-clause-none c is Arrived = c.states.invariant 4 (omega (arith, c.states-test.false))
returns-clause-none c is Discrepant = c.states.invariant 5 (omega (arith, c.states-test.false))
returns-clause-none c is Cleared = c.states.invariant 6 (omega (arith, c.states-test.false))
returns-clause-none c is WrittenOff = c.states.invariant 7 (omega (arith, c.states-test.false))
