use Rattle.std.proofs.Common.{map, nat_cmp, refl}
use Rattle.std.specs.Prelude.{[], ◌∷◌}
use Rattle.sqlite.specs.Held.{state}
use Rattle.td_schema.specs.Layouts.{schema_of}
use Rattle.typed_sql.proofs.Fetched.{in_order_fetched, those_fetched}
use Rattle.typed_sql.proofs.Leaving.{if_both}
use Rattle.typed_sql.specs.Values.{number_value}
use Rattle.td_table_model.specs.Gathering.{place}
use Rattle.typed_sql.specs.Typed.{AreInOrder, AreThose}
use Rattle.td_store_rows.proofs.StoreReads.{reads_in}
use Rattle.td_store_rows.proofs.Each.{where_ok}
use Rattle.td_store_rows.specs.Columns.{guarantee_typing}
use Rattle.td_store_rows.specs.GuaranteeTable.{guarantee_row_of}
use Rattle.td_store_rows.specs.Places.{is_within}
use Rattle.td_store_rows.proofs.RangeTests.{within_tests}
use Rattle.td_store_rows.specs.GuaranteeTexts.{within_text}
use Rattle.td_store_rows.specs.StoreReads.{IsOfVersion}
use Rattle.td_store_rows.proofs.GuaranteeMeanings.{six_columns, by_serial, within_means}
use Rattle.td_store_rows.proofs.GuaranteeStatements.{by_serials, compared, range_passes}
use Rattle.td_store_rows.proofs.guarantees.finding.guarantees_within.Goals as goal

pub returns-clause-found : goal.returns-clause-found
returns-clause-found g c clean =
    where_ok (IsOfVersion c.args.version) (λ l found. AreThose (guarantee_typing l) (schema_of l) (is_within c.args.holder c.args.first c.args.end) (state g.S.Store c.args.tx.now.conn.now) (map guarantee_row_of found.items)) c.fetch.result (λ l is_at.
    those_fetched (guarantee_typing l) (schema_of l) guarantee_row_of (within_text c.args.version) within_tests six_columns by_serial
    (is_within c.args.holder c.args.first c.args.end) (number_value c.args.holder ∷ number_value c.args.first ∷ number_value c.args.end ∷ [])
    _ c.range_key.ensures (within_means c.args.version l is_at) (λ r is. range_passes l r is c.args.holder c.args.first c.args.end) (λ r. refl)
    (state g.S.Store c.args.tx.now.conn.now) c.fetch.result (rw c.within.ensures at (c.fetch.ensures.found clean)))

pub returns-clause-order : goal.returns-clause-order
returns-clause-order g c clean =
    if_both c.fetch.result
    (λ found. by_serials c.args.version (is_within c.args.holder c.args.first c.args.end) (state g.S.Store c.args.tx.now.conn.now) found.items)
    (returns-clause-found g c clean)
    (where_ok (IsOfVersion c.args.version) (λ l found. AreInOrder (guarantee_typing l) (schema_of l) (λ a b. nat_cmp (place a) (place b)) (state g.S.Store c.args.tx.now.conn.now) (map guarantee_row_of found.items))
    c.fetch.result (λ l is_at.
    in_order_fetched (guarantee_typing l) (schema_of l) guarantee_row_of (within_text c.args.version) within_tests six_columns by_serial
    (is_within c.args.holder c.args.first c.args.end) (number_value c.args.holder ∷ number_value c.args.first ∷ number_value c.args.end ∷ []) _ c.range_key.ensures (within_means c.args.version l is_at)
    (λ r is. range_passes l r is c.args.holder c.args.first c.args.end) (λ r. refl) (state g.S.Store c.args.tx.now.conn.now)
    (λ a b. nat_cmp (place a) (place b)) (compared l c.args.holder c.args.first c.args.end (number_value c.args.holder ∷ number_value c.args.first ∷ number_value c.args.end ∷ [])) c.fetch.result (rw c.within.ensures at (c.fetch.ensures.found clean))))

pub returns-clause-reads : goal.returns-clause-reads
returns-clause-reads g c =
    reads_in (IsOfVersion c.args.version) (within_text c.args.version) (λ l is_at. (within_means c.args.version l is_at).plain) _ _ c.fetch.result (rw c.within.ensures at c.fetch.ensures.still) c.fetch.ensures.within
