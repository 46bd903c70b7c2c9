use Rattle.std.proofs.Common.{◌∙◌, ap, ok_or}
use Rattle.td_fields.specs.declared.fault.WebFault.TheVariants.{BadHolder}
use Rattle.td_routes.proofs.routes.read_holder.Goals as goal

pub returns : goal.returns
returns c = c.ok_or.ensures.value ∙ ap (λ o. ok_or o BadHolder) c.read.ensures.value
