use Rattle.std.proofs.Common.{subst}
use Rattle.std.specs.List.{AllByRecursion}
use Rattle.std.specs.Str.{IsUtf8}
use Rattle.path_table.proofs.PartFacts.{nth_part}
use Rattle.path_table.proofs.parts.Parts.get.Goals as goal

pub returns-in_err-part : goal.returns-in_err-part
returns-in_err-part c =
    let shown = rw (← c.iter.ensures.value) at c.self.view_is in
    let texts = subst (AllByRecursion IsUtf8) c.self.view_is c.self.invariant in
    rw (c.from_residual.ensures) (rw (c.in_err-part.was) at (nth_part c.args.self.now c.iter.result c.nth.new.self c.args.place c.nth.result shown texts c.nth.ensures.ran))

pub returns : goal.returns
returns c =
    let shown = rw (← c.iter.ensures.value) at c.self.view_is in
    let texts = subst (AllByRecursion IsUtf8) c.self.view_is c.self.invariant in
    rw (c.in_ok-part.was) at (nth_part c.args.self.now c.iter.result c.nth.new.self c.args.place c.nth.result shown texts c.nth.ensures.ran)
