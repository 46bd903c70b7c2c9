use Rattle.std.proofs.Common.{refl}
use Rattle.test_store.proofs.table_model.worked_by_hand.Goals as goal

pub returns : goal.returns
returns c = (refl, (refl, refl), refl, (refl, refl, refl))
