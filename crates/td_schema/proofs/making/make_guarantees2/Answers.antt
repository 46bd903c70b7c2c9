use Rattle.typed_sql.proofs.Leaving.{on_ok}
use Rattle.td_schema.proofs.Meanings.{guarantees2_grown}
use Rattle.td_schema.proofs.making.make_guarantees2.Goals as goal

pub returns-clause-made : goal.returns-clause-made
returns-clause-made g c clean = on_ok c.make.result (λ made is. made _ _ guarantees2_grown is) (c.make.ensures.made clean)

pub returns-clause-grown : goal.returns-clause-grown
returns-clause-grown g c clean = on_ok c.make.result (λ made is. (made _ _ guarantees2_grown is).schema) (c.make.ensures.made clean)
