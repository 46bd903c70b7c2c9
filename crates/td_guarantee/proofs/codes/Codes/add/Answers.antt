use Rattle.std.proofs.Common.{◌≡◌, sym, ◌∙◌, ap, subst}
use Rattle.std.specs.Prelude.{insert}
use Rattle.td_guarantee.specs.Codes.{AreAscending, codes_kept, with_code}
use Rattle.td_guarantee.proofs.Coded.{inserted, stayed, parted, ascending_with}
use Rattle.td_guarantee.proofs.codes.Codes.add.Goals as goal

-- the code stands in its place
put : (c : goal.In_ok-insert) → codes_kept c.insert.new.self ≡ with_code c.args.code c.as_slice.result.now
put c =
    let code = c.args.code in
    let order = c.as_slice.ensures.ascending in
    c.in_ok-insert.ensures.ok ∙ ap (λ l. insert l c.in-Err.at code) (c.self.view_is ∙ sym c.as_slice.ensures.value)
    ∙ inserted code c.as_slice.result.now c.in-Err.at c.in-Err.ensures.bound (c.in-Err.ensures.position (parted code c.as_slice.result.now order))

-- the order stays
pub invariant_of-self : goal.invariant_of-self
invariant_of-self c = subst AreAscending (sym (put c)) (ascending_with c.args.code c.as_slice.result.now c.as_slice.ensures.ascending)

pub returns-in_ok-insert-clause-ok : goal.returns-in_ok-insert-clause-ok
returns-in_ok-insert-clause-ok c = put c ∙ ap (with_code c.args.code) c.as_slice.ensures.value

-- the code is there
pub returns-in_default-clause-ok : goal.returns-in_default-clause-ok
returns-in_default-clause-ok c =
    let code = c.args.code in
    let value = c.as_slice.ensures.value in
    sym value ∙ sym (stayed code c.as_slice.result.now c.in_default.field-0 code c.as_slice.ensures.ascending c.in_default.ensures.bound (c.in_default.ensures.ok code)) ∙ ap (with_code code) value
