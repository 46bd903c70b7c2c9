use Rattle.std.proofs.Common.{refl}
use Rattle.td_model.specs.Changes.{with_terms}
use Rattle.td_holder_memory.proofs.BySerial.{placed_back}
use Rattle.td_holder_memory.proofs.guarantee_rows.GuaranteeRows.put_terms.Goals as goal

-- they stand where they stood
pub invariant_of-self : goal.invariant_of-self
invariant_of-self c =
    let terms = c.args.terms.now in
    let lent = c.deref_mut.result.now in
    placed_back (λ g. g.grn) terms.grn (with_terms terms) (λ g. refl) c.self.inside.country c.self.inside.items.items lent c.put_terms_by_serial.new.guarantees c.self.inside.items.len c.self.inside.placed c.self.invariant
    c.deref_mut.ensures.value c.deref_mut.ensures.len c.put_terms_by_serial.ensures
