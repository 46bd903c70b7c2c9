use Rattle.std.proofs.Common.{map, refl}
use Rattle.std.specs.Prelude.{[], ◌∷◌}
use Rattle.sqlite.specs.Held.{state}
use Rattle.td_schema.specs.Layouts.{HasFewLines, schema_of}
use Rattle.typed_sql.proofs.Fetched.{those_fetched}
use Rattle.typed_sql.specs.Values.{number_value}
use Rattle.td_store_rows.proofs.StoreReads.{reads_in}
use Rattle.td_store_rows.proofs.LineMeanings.{all_columns, guarantee_tests, on_guarantee_means}
use Rattle.td_store_rows.proofs.LineStatements.{guarantee_passes}
use Rattle.typed_sql.specs.Typed.{AreThose}
use Rattle.td_store_rows.proofs.Each.{where_ok}
use Rattle.td_store_rows.specs.Columns.{line_typing}
use Rattle.td_store_rows.specs.LineTable.{is_line_on, line_row_of}
use Rattle.td_store_rows.specs.declared.lines.texts.TheConstants.{ON_GUARANTEE}
use Rattle.td_store_rows.proofs.lines.finding.lines_on.Goals as goal

pub returns-clause-found : goal.returns-clause-found
returns-clause-found g c clean =
    where_ok HasFewLines (λ l found. AreThose (line_typing l) (schema_of l) (is_line_on c.args.holder c.args.guarantee) (state g.S.Store c.args.tx.now.conn.now) (map line_row_of found.items)) c.fetch.result (λ l few.
    those_fetched (line_typing l) (schema_of l) line_row_of ON_GUARANTEE.now guarantee_tests all_columns []
    (is_line_on c.args.holder c.args.guarantee) (number_value c.args.holder ∷ number_value c.args.guarantee ∷ []) _
    c.serial_key.ensures (on_guarantee_means l few) (guarantee_passes l c.args.holder c.args.guarantee) (λ r. refl)
    (state g.S.Store c.args.tx.now.conn.now) c.fetch.result (c.fetch.ensures.found clean))

pub returns-clause-reads : goal.returns-clause-reads
returns-clause-reads g c =
    reads_in HasFewLines ON_GUARANTEE.now (λ l few. (on_guarantee_means l few).plain) _ _ c.fetch.result c.fetch.ensures.still c.fetch.ensures.within
