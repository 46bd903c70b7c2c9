use Rattle.std.proofs.Common.{◌∙◌}
use Rattle.typed_sql.proofs.Leaving.{on_ok}
use Rattle.td_schema.proofs.Meanings.{lines3_grown, lines3_layout}
use Rattle.td_schema.proofs.making.make_lines3.Goals as goal

pub returns-clause-made : goal.returns-clause-made
returns-clause-made g c clean = on_ok c.make.result (λ made l at is. made _ _ (lines3_grown l at) is) (c.make.ensures.made clean)

pub returns-clause-grown : goal.returns-clause-grown
returns-clause-grown g c clean =
    on_ok c.make.result (λ made l at is. (made _ _ (lines3_grown l at) is).schema ∙ lines3_layout l at) (c.make.ensures.made clean)
