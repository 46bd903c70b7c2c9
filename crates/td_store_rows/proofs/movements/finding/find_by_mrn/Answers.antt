use Rattle.std.proofs.Common.{map, refl}
use Rattle.std.specs.Option.{option_to_list}
use Rattle.std.specs.Prelude.{[], ◌∷◌}
use Rattle.sqlite.specs.Held.{state}
use Rattle.sqlite_value.specs.declared.value.Value.TheVariants.{Text}
use Rattle.td_schema.specs.Layouts.{schema_of}
use Rattle.typed_sql.proofs.Fetched.{one_fetched}
use Rattle.typed_sql.specs.Values.{number_value}
use Rattle.td_store_rows.specs.StoreReads.{IsAny}
use Rattle.td_store_rows.proofs.StoreReads.{reads_in}
use Rattle.td_store_rows.proofs.MovementMeanings.{all_columns, by_mrn_means, key_tests}
use Rattle.td_store_rows.proofs.MovementStatements.{key_passes}
use Rattle.typed_sql.specs.Typed.{AreThose}
use Rattle.td_store_rows.proofs.Each.{each_ok}
use Rattle.td_store_rows.specs.Columns.{movement_typing}
use Rattle.td_store_rows.specs.MovementTable.{has_mrn, movement_row_of}
use Rattle.td_store_rows.specs.declared.movements.texts.TheConstants.{BY_MRN}
use Rattle.td_store_rows.proofs.movements.finding.find_by_mrn.Goals as goal

pub returns-clause-found : goal.returns-clause-found
returns-clause-found g c clean =
    each_ok (λ l found. AreThose movement_typing (schema_of l) (has_mrn c.args.holder c.args.serial c.args.mrn.now) (state g.S.Store c.args.tx.now.conn.now) (map movement_row_of (option_to_list found))) c.fetch_one.result (λ l.
    one_fetched movement_typing (schema_of l) movement_row_of BY_MRN.now key_tests all_columns []
    (has_mrn c.args.holder c.args.serial c.args.mrn.now) (number_value c.args.holder ∷ number_value c.args.serial ∷ Text c.args.mrn.now ∷ []) _
    c.mrn_values.ensures (by_mrn_means l) (λ r is. key_passes r is c.args.holder c.args.serial c.args.mrn.now []) (λ r. refl)
    (state g.S.Store c.args.tx.now.conn.now) c.fetch_one.result (c.fetch_one.ensures.found clean))

pub returns-clause-reads : goal.returns-clause-reads
returns-clause-reads g c =
    reads_in IsAny BY_MRN.now (λ l any. (by_mrn_means l).plain) _ _ c.fetch_one.result c.fetch_one.ensures.still c.fetch_one.ensures.within
