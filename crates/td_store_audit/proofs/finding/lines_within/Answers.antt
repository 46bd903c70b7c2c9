use Rattle.std.proofs.Common.{map, refl}
use Rattle.std.specs.Prelude.{[], ◌∷◌}
use Rattle.sqlite.specs.Held.{state}
use Rattle.td_schema.specs.Layouts.{schema_of}
use Rattle.typed_sql.proofs.Fetched.{in_order_fetched, those_fetched}
use Rattle.typed_sql.specs.Typed.{AreInOrder, AreThose}
use Rattle.typed_sql.specs.Values.{number_value}
use Rattle.td_store_rows.proofs.Each.{where_ok}
use Rattle.td_store_rows.proofs.RangeTests.{is_owned, within_tests}
use Rattle.td_store_rows.proofs.StoreReads.{reads_in}
use Rattle.td_store_rows.specs.Columns.{line_typing}
use Rattle.td_store_rows.specs.LineTable.{line_row_of}
use Rattle.td_store_rows.specs.Places.{is_within}
use Rattle.td_store_rows.specs.StoreReads.{IsOfVersion}
use Rattle.td_store_audit.proofs.Meanings.{by_three, line_terms, within_mean}
use Rattle.td_store_audit.proofs.Ordering.{lines_compared, within_pass}
use Rattle.td_store_audit.specs.Found.{line_order}
use Rattle.td_store_audit.specs.LineTexts.{lines_within_text}
use Rattle.td_store_audit.proofs.finding.lines_within.Goals as goal

pub returns-clause-found : goal.returns-clause-found
returns-clause-found g c clean =
    where_ok (IsOfVersion c.args.version) (λ l found. AreThose (line_typing l) (schema_of l) (is_within c.args.holder c.args.first c.args.end) (state g.S.Store c.args.tx.now.conn.now) (map line_row_of found.items)) c.fetch.result (λ l own.
    those_fetched (line_typing l) (schema_of l) line_row_of (lines_within_text c.args.version) within_tests line_terms by_three
    (is_within c.args.holder c.args.first c.args.end) (number_value c.args.holder ∷ number_value c.args.first ∷ number_value c.args.end ∷ []) _ c.range_key.ensures
    (within_mean c.args.version l own) (within_pass l c.args.holder c.args.first c.args.end) (λ r. refl)
    (state g.S.Store c.args.tx.now.conn.now) c.fetch.result (rw c.lines_within_at.ensures at (c.fetch.ensures.found clean)))

pub returns-clause-order : goal.returns-clause-order
returns-clause-order g c clean =
    where_ok (IsOfVersion c.args.version) (λ l found. AreInOrder (line_typing l) (schema_of l) line_order (state g.S.Store c.args.tx.now.conn.now) (map line_row_of found.items)) c.fetch.result (λ l own.
    in_order_fetched (line_typing l) (schema_of l) line_row_of (lines_within_text c.args.version) within_tests line_terms by_three
    (is_within c.args.holder c.args.first c.args.end) (number_value c.args.holder ∷ number_value c.args.first ∷ number_value c.args.end ∷ []) _ c.range_key.ensures
    (within_mean c.args.version l own) (within_pass l c.args.holder c.args.first c.args.end) (λ r. refl)
    (state g.S.Store c.args.tx.now.conn.now) line_order
    (lines_compared l c.args.holder (is_within c.args.holder c.args.first c.args.end) (λ m. is_owned c.args.holder c.args.first c.args.end m)
    (number_value c.args.holder ∷ number_value c.args.first ∷ number_value c.args.end ∷ []))
    c.fetch.result (rw c.lines_within_at.ensures at (c.fetch.ensures.found clean)))

pub returns-clause-reads : goal.returns-clause-reads
returns-clause-reads g c =
    reads_in (IsOfVersion c.args.version) (lines_within_text c.args.version) (λ l own. (within_mean c.args.version l own).plain) _ _ c.fetch.result
    (rw c.lines_within_at.ensures at c.fetch.ensures.still) c.fetch.ensures.within
