use Rattle.std.proofs.Common.{map, nat_cmp, refl}
use Rattle.std.specs.Prelude.{[], ◌∷◌}
use Rattle.sqlite.specs.Held.{state}
use Rattle.td_schema.specs.Layouts.{HasMoreLines, schema_of}
use Rattle.typed_sql.proofs.Fetched.{in_order_fetched, those_fetched}
use Rattle.typed_sql.proofs.Leaving.{if_both}
use Rattle.typed_sql.specs.Values.{number_value}
use Rattle.td_table_model.specs.Gathering.{no_of}
use Rattle.td_store_rows.proofs.StoreReads.{reads_in}
use Rattle.td_store_rows.proofs.LineMeanings.{all_columns, by_number, key_tests, of_movement_means}
use Rattle.td_store_rows.proofs.LineStatements.{by_numbers, compared, key_passes}
use Rattle.typed_sql.specs.Typed.{AreInOrder, AreThose}
use Rattle.td_store_rows.proofs.Each.{where_ok}
use Rattle.td_store_rows.specs.Columns.{line_typing}
use Rattle.td_store_rows.specs.LineTable.{is_line_of, line_row_of}
use Rattle.td_store_rows.specs.declared.lines.texts.TheConstants.{OF_MOVEMENT}
use Rattle.td_store_rows.proofs.lines.finding.lines_of.Goals as goal

pub returns-clause-found : goal.returns-clause-found
returns-clause-found g c clean =
    where_ok HasMoreLines (λ l found. AreThose (line_typing l) (schema_of l) (is_line_of c.args.holder c.args.serial) (state g.S.Store c.args.tx.now.conn.now) (map line_row_of found.items)) c.fetch.result (λ l more.
    those_fetched (line_typing l) (schema_of l) line_row_of OF_MOVEMENT.now key_tests all_columns by_number
    (is_line_of c.args.holder c.args.serial) (number_value c.args.holder ∷ number_value c.args.serial ∷ []) _
    c.serial_key.ensures (of_movement_means l more) (key_passes l c.args.holder c.args.serial) (λ r. refl)
    (state g.S.Store c.args.tx.now.conn.now) c.fetch.result (c.fetch.ensures.found clean))

pub returns-clause-order : goal.returns-clause-order
returns-clause-order g c clean =
    if_both c.fetch.result
    (λ found. by_numbers c.args.holder c.args.serial (state g.S.Store c.args.tx.now.conn.now) found.items)
    (returns-clause-found g c clean)
    (where_ok HasMoreLines (λ l found. AreInOrder (line_typing l) (schema_of l) (λ a b. nat_cmp (no_of a) (no_of b)) (state g.S.Store c.args.tx.now.conn.now) (map line_row_of found.items))
    c.fetch.result (λ l more.
    in_order_fetched (line_typing l) (schema_of l) line_row_of OF_MOVEMENT.now key_tests all_columns by_number
    (is_line_of c.args.holder c.args.serial) (number_value c.args.holder ∷ number_value c.args.serial ∷ []) _
    c.serial_key.ensures (of_movement_means l more) (key_passes l c.args.holder c.args.serial) (λ r. refl)
    (state g.S.Store c.args.tx.now.conn.now) (λ a b. nat_cmp (no_of a) (no_of b))
    (compared l c.args.holder c.args.serial) c.fetch.result (c.fetch.ensures.found clean)))

pub returns-clause-reads : goal.returns-clause-reads
returns-clause-reads g c =
    reads_in HasMoreLines OF_MOVEMENT.now (λ l more. (of_movement_means l more).plain) _ _ c.fetch.result c.fetch.ensures.still c.fetch.ensures.within
