use Rattle.std.proofs.Common.{map, nat_cmp, refl}
use Rattle.std.specs.Prelude.{[], ◌∷◌}
use Rattle.sqlite.specs.Held.{state}
use Rattle.td_schema.specs.Layouts.{schema_of}
use Rattle.typed_sql.proofs.Fetched.{in_order_fetched, those_fetched}
use Rattle.typed_sql.proofs.Leaving.{if_both}
use Rattle.typed_sql.specs.Values.{number_value}
use Rattle.td_store_rows.specs.StoreReads.{IsAny}
use Rattle.td_store_rows.proofs.StoreReads.{reads_in}
use Rattle.td_store_rows.proofs.MovementMeanings.{all_columns, by_serial, within_means}
use Rattle.td_store_rows.proofs.MovementStatements.{by_serials, compared, range_passes}
use Rattle.td_table_model.specs.Gathering.{place}
use Rattle.typed_sql.specs.Typed.{AreInOrder, AreThose}
use Rattle.td_store_rows.proofs.Each.{each_ok}
use Rattle.td_store_rows.specs.Columns.{movement_typing}
use Rattle.td_store_rows.specs.MovementTable.{movement_row_of}
use Rattle.td_store_rows.specs.Places.{is_within}
use Rattle.td_store_rows.proofs.RangeTests.{is_owned, within_tests}
use Rattle.td_store_rows.specs.declared.movements.texts.TheConstants.{WITHIN}
use Rattle.td_store_rows.proofs.movements.finding.movements_within.Goals as goal

pub returns-clause-found : goal.returns-clause-found
returns-clause-found g c clean =
    each_ok (λ l found. AreThose movement_typing (schema_of l) (is_within c.args.holder c.args.first c.args.end) (state g.S.Store c.args.tx.now.conn.now) (map movement_row_of found.items)) c.fetch.result (λ l.
    those_fetched movement_typing (schema_of l) movement_row_of WITHIN.now within_tests all_columns by_serial
    (is_within c.args.holder c.args.first c.args.end) (number_value c.args.holder ∷ number_value c.args.first ∷ number_value c.args.end ∷ []) _
    c.range_key.ensures (within_means l) (λ r is. range_passes r is c.args.holder c.args.first c.args.end) (λ r. refl)
    (state g.S.Store c.args.tx.now.conn.now) c.fetch.result (c.fetch.ensures.found clean))

pub returns-clause-order : goal.returns-clause-order
returns-clause-order g c clean =
    if_both c.fetch.result
    (λ found. by_serials (is_within c.args.holder c.args.first c.args.end) (state g.S.Store c.args.tx.now.conn.now) found.items)
    (returns-clause-found g c clean)
    (each_ok (λ l found. AreInOrder movement_typing (schema_of l) (λ a b. nat_cmp (place a) (place b)) (state g.S.Store c.args.tx.now.conn.now) (map movement_row_of found.items))
    c.fetch.result (λ l.
    in_order_fetched movement_typing (schema_of l) movement_row_of WITHIN.now within_tests all_columns by_serial
    (is_within c.args.holder c.args.first c.args.end) (number_value c.args.holder ∷ number_value c.args.first ∷ number_value c.args.end ∷ []) _ c.range_key.ensures (within_means l)
    (λ r is. range_passes r is c.args.holder c.args.first c.args.end) (λ r. refl) (state g.S.Store c.args.tx.now.conn.now)
    (λ a b. nat_cmp (place a) (place b)) (compared c.args.holder (is_within c.args.holder c.args.first c.args.end) (λ m. is_owned c.args.holder c.args.first c.args.end m)
    (number_value c.args.holder ∷ number_value c.args.first ∷ number_value c.args.end ∷ []))
    c.fetch.result (c.fetch.ensures.found clean)))

pub returns-clause-reads : goal.returns-clause-reads
returns-clause-reads g c =
    reads_in IsAny WITHIN.now (λ l any. (within_means l).plain) _ _ c.fetch.result c.fetch.ensures.still c.fetch.ensures.within
