use Rattle.td_answers.proofs.PlainAnswers.{arrival_told, cancellation_told, control_told, declaration_told, enquiry_told, holder_told, opening_told, release_told, revocation_told, write_off_told}
use Rattle.td_answers.proofs.answers.answer_is_told_in.Goals as goal

pub returns-in-Holder : goal.returns-in-Holder
returns-in-Holder c = rw c.in-Holder.is (holder_told _ _ _ _ c.as_bytes-eori.ensures.form)

pub returns-in-Opened : goal.returns-in-Opened
returns-in-Opened c = rw c.in-Opened.is (opening_told _ c.is_grn.ensures)

pub returns-in-Revoked : goal.returns-in-Revoked
returns-in-Revoked c = rw c.in-Revoked.is (revocation_told _ _ c.is_grn-in-Revoked.ensures)

pub returns-in-Ie028 : goal.returns-in-Ie028
returns-in-Ie028 c = rw c.in-Ie028.is (declaration_told _ _ c.as_bytes-lrn.ensures.form c.is_mrn.ensures)

pub returns-in-Ie014 : goal.returns-in-Ie014
returns-in-Ie014 c = rw c.in-Ie014.is (cancellation_told _ c.is_mrn-in-Ie014.ensures)

pub returns-in-Ie029 : goal.returns-in-Ie029
returns-in-Ie029 c = rw c.in-Ie029.is (release_told _ _ c.is_mrn-in-Ie029.ensures)

pub returns-in-Ie006 : goal.returns-in-Ie006
returns-in-Ie006 c = rw c.in-Ie006.is (arrival_told _ _ c.is_mrn-in-Ie006.ensures)

pub returns-in-Ie018 : goal.returns-in-Ie018
returns-in-Ie018 c = rw c.in-Ie018.is (control_told _ _ c.is_mrn-in-Ie018.ensures)

pub returns-in-Ie045 : goal.returns-in-Ie045
returns-in-Ie045 c = rw c.in-Ie045.is (write_off_told _ c.is_mrn-in-Ie045.ensures)

pub returns-in-Ie140 : goal.returns-in-Ie140
returns-in-Ie140 c = rw c.in-Ie140.is (enquiry_told _ c.is_mrn-in-Ie140.ensures)

pub returns-in-Movement : goal.returns-in-Movement
returns-in-Movement c = rw c.in-Movement.is c.movement_is_told_in.ensures

pub returns-in-Movements : goal.returns-in-Movements
returns-in-Movements c = rw (c.in-Movements.is, ← c.as_slice.ensures) c.movements_are_told_in.ensures

pub returns-in-Guarantee : goal.returns-in-Guarantee
returns-in-Guarantee c = rw c.in-Guarantee.is c.guarantee_is_told_in.ensures

pub returns-in-Guarantees : goal.returns-in-Guarantees
returns-in-Guarantees c = rw (c.in-Guarantees.is, ← c.as_slice-in-Guarantees.ensures) c.guarantees_are_told_in.ensures
