use Rattle.std.proofs.Common.{map, refl}
use Rattle.std.specs.Option.{option_to_list}
use Rattle.std.specs.Prelude.{[], ◌∷◌}
use Rattle.sqlite.specs.Held.{state}
use Rattle.td_schema.specs.Layouts.{IsNewest, schema_of}
use Rattle.typed_sql.proofs.Fetched.{one_fetched}
use Rattle.typed_sql.specs.Values.{number_value}
use Rattle.typed_sql.specs.Typed.{AreThose}
use Rattle.td_store_rows.proofs.StoreReads.{newest_keeps, reads_in}
use Rattle.td_store_rows.proofs.Each.{where_ok}
use Rattle.td_store_rows.specs.Columns.{guarantee_typing}
use Rattle.td_store_rows.specs.GuaranteeTable.{has_serial, guarantee_row_of}
use Rattle.td_store_rows.specs.declared.guarantees.texts.TheConstants.{BY_SERIAL}
use Rattle.td_store_rows.proofs.GuaranteeMeanings.{six_columns, by_serial_means, serial_tests}
use Rattle.td_store_rows.proofs.GuaranteeStatements.{serial_passes}
use Rattle.td_store_rows.proofs.guarantees.finding.find_by_serial.Goals as goal

pub returns-clause-found : goal.returns-clause-found
returns-clause-found g c clean =
    where_ok IsNewest (λ l found. AreThose (guarantee_typing l) (schema_of l) (has_serial c.args.holder c.args.serial) (state g.S.Store c.args.tx.now.conn.now) (map guarantee_row_of (option_to_list found))) c.fetch_one.result (λ l newest.
    one_fetched (guarantee_typing l) (schema_of l) guarantee_row_of BY_SERIAL.now serial_tests six_columns []
    (has_serial c.args.holder c.args.serial) (number_value c.args.holder ∷ number_value c.args.serial ∷ [])
    _ c.serial_key.ensures (by_serial_means l (newest_keeps l newest)) (λ r is. serial_passes l r is c.args.holder c.args.serial) (λ r. refl)
    (state g.S.Store c.args.tx.now.conn.now) c.fetch_one.result (c.fetch_one.ensures.found clean))

pub returns-clause-reads : goal.returns-clause-reads
returns-clause-reads g c =
    reads_in IsNewest BY_SERIAL.now (λ l newest. (by_serial_means l (newest_keeps l newest)).plain) _ _ c.fetch_one.result c.fetch_one.ensures.still c.fetch_one.ensures.within
