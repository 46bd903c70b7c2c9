use Rattle.std.proofs.Common.{map, refl}
use Rattle.std.specs.Option.{option_to_list}
use Rattle.std.specs.Prelude.{[], ◌∷◌}
use Rattle.sqlite.specs.Held.{state}
use Rattle.sqlite_value.specs.declared.value.Value.TheVariants.{Text}
use Rattle.td_schema.specs.Layouts.{schema_of}
use Rattle.typed_sql.proofs.Fetched.{one_fetched}
use Rattle.typed_sql.specs.Values.{number_value}
use Rattle.td_store_rows.specs.StoreReads.{IsAny}
use Rattle.td_store_rows.proofs.StoreReads.{reads_in}
use Rattle.td_store_rows.proofs.MovementMeanings.{all_columns, by_lrn_means, lrn_tests}
use Rattle.td_store_rows.proofs.MovementStatements.{lrn_passes}
use Rattle.typed_sql.specs.Typed.{AreThose}
use Rattle.td_store_rows.proofs.Each.{each_ok}
use Rattle.td_store_rows.specs.Columns.{movement_typing}
use Rattle.td_store_rows.specs.MovementTable.{has_lrn, movement_row_of}
use Rattle.td_store_rows.specs.declared.movements.texts.TheConstants.{BY_LRN}
use Rattle.td_store_rows.proofs.movements.finding.find_by_lrn.Goals as goal

pub returns-clause-found : goal.returns-clause-found
returns-clause-found g c clean =
    each_ok (λ l found. AreThose movement_typing (schema_of l) (has_lrn c.args.holder c.args.lrn.now) (state g.S.Store c.args.tx.now.conn.now) (map movement_row_of (option_to_list found))) c.fetch_one.result (λ l.
    one_fetched movement_typing (schema_of l) movement_row_of BY_LRN.now lrn_tests all_columns []
    (has_lrn c.args.holder c.args.lrn.now) (number_value c.args.holder ∷ Text c.args.lrn.now ∷ []) _
    c.lrn_values.ensures (by_lrn_means l) (λ r is. lrn_passes r is c.args.holder c.args.lrn.now) (λ r. refl)
    (state g.S.Store c.args.tx.now.conn.now) c.fetch_one.result (c.fetch_one.ensures.found clean))

pub returns-clause-reads : goal.returns-clause-reads
returns-clause-reads g c =
    reads_in IsAny BY_LRN.now (λ l any. (by_lrn_means l).plain) _ _ c.fetch_one.result c.fetch_one.ensures.still c.fetch_one.ensures.within
