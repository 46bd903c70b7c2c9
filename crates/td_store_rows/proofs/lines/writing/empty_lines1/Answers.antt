use Rattle.typed_sql.proofs.Leaving.{on_ok}
use Rattle.td_schema.specs.Layouts.{grown, schema_of}
use Rattle.td_store_rows.specs.LineTable.{first_lines}
use Rattle.td_store_rows.proofs.LineMeanings.{empty_means}
use Rattle.td_store_rows.proofs.lines.writing.empty_lines1.Goals as goal

pub returns-clause-emptied : goal.returns-clause-emptied
returns-clause-emptied g c clean =
    on_ok c.empty.result (λ did l is has ids. did (schema_of (grown l)) first_lines has (empty_means l is) ids) (c.empty.ensures.emptied clean)
