use Rattle.std.proofs.Common.{map, refl, true}
use Rattle.std.specs.Prelude.{[]}
use Rattle.sqlite.specs.Held.{state}
use Rattle.td_schema.specs.Layouts.{HasFewLines, schema_of}
use Rattle.typed_sql.proofs.Fetched.{those_fetched}
use Rattle.td_store_rows.proofs.StoreReads.{reads_in}
use Rattle.td_store_rows.proofs.LineMeanings.{all_columns, all_first_means}
use Rattle.typed_sql.specs.Typed.{AreThose}
use Rattle.td_store_rows.proofs.Each.{where_ok}
use Rattle.td_store_rows.specs.Columns.{line_typing}
use Rattle.td_store_rows.specs.LineTable.{line_row_of}
use Rattle.td_store_rows.specs.declared.lines.texts.TheConstants.{ALL_FIRST}
use Rattle.td_store_rows.proofs.lines.finding.older_lines.Goals as goal

pub returns-clause-found : goal.returns-clause-found
returns-clause-found g c clean =
    where_ok HasFewLines (λ l found. AreThose (line_typing l) (schema_of l) (λ line. true) (state g.S.Store c.args.tx.now.conn.now) (map line_row_of found.items)) c.fetch.result (λ l few.
    those_fetched (line_typing l) (schema_of l) line_row_of ALL_FIRST.now [] all_columns [] (λ line. true) []
    _ refl (all_first_means l few) (λ r is. refl) (λ r. refl) (state g.S.Store c.args.tx.now.conn.now) c.fetch.result (c.fetch.ensures.found clean))

pub returns-clause-reads : goal.returns-clause-reads
returns-clause-reads g c =
    reads_in HasFewLines ALL_FIRST.now (λ l few. (all_first_means l few).plain) _ _ c.fetch.result c.fetch.ensures.still c.fetch.ensures.within
