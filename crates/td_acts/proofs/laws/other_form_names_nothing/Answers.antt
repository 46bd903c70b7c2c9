use Rattle.td_acts.proofs.OneForm.{other_form_names_nothing}
use Rattle.td_acts.proofs.laws.other_form_names_nothing.Goals as goal

pub returns : goal.returns
returns c = other_form_names_nothing
