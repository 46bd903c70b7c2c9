use Rattle.typed_sql.proofs.Leaving.{on_ok}
use Rattle.td_schema.specs.Layouts.{schema_of}
use Rattle.td_schema.specs.declared.layout.Layout.TheVariants.{Grown2}
use Rattle.td_store_rows.specs.KeptTable.{first_guarantees}
use Rattle.td_store_rows.proofs.GuaranteeMeanings.{empty_means}
use Rattle.td_store_rows.proofs.guarantees.writing.empty_guarantees1.Goals as goal

pub returns-clause-emptied : goal.returns-clause-emptied
returns-clause-emptied g c clean =
    on_ok c.empty.result (λ did has ids. did (schema_of Grown2) first_guarantees has empty_means ids) (c.empty.ensures.emptied clean)
