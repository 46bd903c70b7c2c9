use Rattle.std.proofs.Common.{None, Some, sym, ◌∙◌, ap, ap₂, arith}
use Rattle.std.proofs.lemmas.Bool.Decides.{nat_tests}
use Rattle.std.specs.Prelude.{option_map}
use Rattle.td_base.specs.Days.{day_of_moment}
use Rattle.td_base.specs.References.{mrn_text}
use Rattle.td_model.specs.Account.{movement_by_lrn}
use Rattle.td_model.specs.Effects.{year2_at, next_serial, greatest_mrn_given}
use Rattle.td_acts.proofs.Lodging.{lodged_at, same_refusal}
use Rattle.td_acts.proofs.declaring.lodge.Goals as goal

-- a line is refused
pub returns-in-Some-refusal : goal.returns-in-Some-refusal
returns-in-Some-refusal c = λ account loaded.
    let d = c.args.declaration.now in
    let row = c.in-Some.row in
    let t = c.args.at in
    let verdict = lodged_at account.country account.holder account.guarantees account.movements t d.holder d.lrn d.departure d.destination d.lines.now row c.in-Some-next_mrn.next.0 c.in-Some-next_mrn.next.1 (Some c.in-Some-refusal.why)
    (sym loaded.holder ∙ c.in-Some.is)
    (grind (arith, nat_tests, c.lt.ensures, c.if-lt.false))
    (sym loaded.things.0 ∙ ap (movement_by_lrn d.lrn) (sym c.deref.ensures.value) ∙ sym c.find_movement_by_lrn.ensures ∙ ap (option_map (λ found. found.now)) c.in_default-find_movement_by_lrn.is)
    (ap (λ country. next_serial greatest_mrn_given row.mrn_count (mrn_text (year2_at t) country d.holder)) (sym loaded.country) ∙ sym c.next_mrn.ensures ∙ c.in-Some-next_mrn.is)
    (sym (same_refusal (day_of_moment t) c.args.loaded.now.guarantees.items account.guarantees d.lines.now loaded.things.1)
    ∙ sym (rw (c.of_moment.ensures, c.deref-2.ensures.value, c.as_slice.ensures.value) at c.find_refusal-refusal.ensures) ∙ c.in-Some-refusal.is) in
    ap₂ (λ said change. record { said = said; change = change }) c.refused-in-Some-refusal.ensures.said c.refused-in-Some-refusal.ensures.change ∙ sym verdict

-- the declaration is accepted
pub returns : goal.returns
returns c = λ account loaded.
    let d = c.args.declaration.now in
    let row = c.in-Some.row in
    let t = c.args.at in
    let verdict = lodged_at account.country account.holder account.guarantees account.movements t d.holder d.lrn d.departure d.destination d.lines.now row c.in-Some-next_mrn.next.0 c.in-Some-next_mrn.next.1 None
    (sym loaded.holder ∙ c.in-Some.is)
    (grind (arith, nat_tests, c.lt.ensures, c.if-lt.false))
    (sym loaded.things.0 ∙ ap (movement_by_lrn d.lrn) (sym c.deref.ensures.value) ∙ sym c.find_movement_by_lrn.ensures ∙ ap (option_map (λ found. found.now)) c.in_default-find_movement_by_lrn.is)
    (ap (λ country. next_serial greatest_mrn_given row.mrn_count (mrn_text (year2_at t) country d.holder)) (sym loaded.country) ∙ sym c.next_mrn.ensures ∙ c.in-Some-next_mrn.is)
    (sym (same_refusal (day_of_moment t) c.args.loaded.now.guarantees.items account.guarantees d.lines.now loaded.things.1)
    ∙ sym (rw (c.of_moment.ensures, c.deref-2.ensures.value, c.as_slice.ensures.value) at c.find_refusal-refusal.ensures) ∙ c.in_default-refusal.is) in
    ap₂ (λ said change. record { said = said; change = change }) c.accept.ensures.said (rw (c.in_ok-lines.ensures) at c.accept.ensures.change) ∙ sym verdict
