use Rattle.std.proofs.Common.{refl}
use Rattle.td_model.proofs.Kept.{empty_sound}
use Rattle.td_desk.proofs.laws.empty_desk_is_tied.Goals as goal

pub returns : goal.returns
returns c = λ country form. (empty_sound country form, record { each = λ H. refl; grown = λ H. tt })
