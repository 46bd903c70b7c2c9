use Rattle.std.proofs.Common.{◌≡◌, ℕ, ◌+◌, ◌-◌, length, arith, subst}
use Rattle.std.proofs.lemmas.List.{length-replicate}
use Rattle.td_base.specs.References.{IsReferenceText}
use Rattle.td_base.proofs.Identifiers.{with_behind, length-with_behind, marks_behind}
use Rattle.td_base.proofs.Numbered.{numbered_is_reference}
use Rattle.td_base.proofs.references.make_reference.Goals as goal

pub returns-clause-form : goal.returns-clause-form
returns-clause-form g c =
    let behind = c.args.behind.now in
    let digits = g.row.N - 11 - length behind in
    let identifier = with_behind digits c.args.holder c.args.serial behind in
    let places : length identifier + 5 ≡ g.row.N = omega (arith, length-with_behind digits c.args.holder c.args.serial behind) in
    let made = numbered_is_reference c.args.year2 c.args.country identifier c.write_reference.ensures.country (marks_behind digits c.args.holder c.args.serial behind c.requires.2) in
    subst (λ (n : ℕ). IsReferenceText n c.write_reference.new.text) places (rw (c.write_reference.ensures.text, length-replicate) made)
