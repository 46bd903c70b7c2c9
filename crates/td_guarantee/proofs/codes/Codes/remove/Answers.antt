use Rattle.std.proofs.Common.{subst, sym, ◌∙◌, ap}
use Rattle.td_guarantee.specs.Codes.{AreAscending, without_code}
use Rattle.td_guarantee.proofs.Coded.{ascending_without}
use Rattle.td_guarantee.proofs.codes.Codes.remove.Goals as goal

-- the order stays
pub invariant_of-self : goal.invariant_of-self
invariant_of-self c = subst AreAscending (sym c.remove.ensures) (ascending_without c.args.code.now _ c.self.invariant)

-- the codes that aren't the code are left
pub returns : goal.returns
returns c = c.remove.ensures ∙ ap (without_code c.args.code.now) c.self.view_is
