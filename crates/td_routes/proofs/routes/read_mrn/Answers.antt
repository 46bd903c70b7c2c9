use Rattle.td_fields.specs.declared.fault.WebFault.TheVariants.{BadMrn}
use Rattle.td_routes.proofs.PartFacts.{part_read_is}
use Rattle.td_routes.proofs.routes.read_mrn.Goals as goal

pub returns : goal.returns
returns c = part_read_is 18 BadMrn c.args.part.now _ _ c.read.ensures.value c.map_err.ensures.cases
