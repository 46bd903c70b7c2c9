use Rattle.std.proofs.Common.{arith}
use Rattle.td_base.proofs.MadeReferences.{made_is_reference, made_owner, made_serial_is, made_unlettered, lettered_form, lettered_owner, lettered_serial_is, made_lettered}
use Rattle.td_base.proofs.OwnedReferences.{owned_lettered, owned_unlettered}
use Rattle.td_base.proofs.mrn.owned_mrns_are_made.Goals as goal

pub returns-clause-lettered : goal.returns-clause-lettered
returns-clause-lettered c = λ country text holder serial form. (
  (λ h. owned_lettered country text holder serial h.0 h.1 h.2 h.3),
  (λ h. rw h.4 (
    lettered_form h.0 country holder serial form,
    made_lettered h.0 country holder serial form,
    lettered_owner h.0 country holder serial form h.2,
    lettered_serial_is h.0 country holder serial form h.2 (omega (arith, h.3)),
  )),
)

pub returns-clause-older : goal.returns-clause-older
returns-clause-older c = λ country text holder serial form. (
  (λ h. owned_unlettered country text holder serial h.0 h.1 h.2 h.3),
  (λ h. rw h.4 (
    made_is_reference 7 h.0 country holder serial form,
    made_unlettered h.0 country holder serial form,
    made_owner 7 h.0 country holder serial form h.2,
    made_serial_is 7 h.0 country holder serial form h.2 (omega (arith, h.3)),
  )),
)
