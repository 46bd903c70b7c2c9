use Rattle.std.proofs.Common.{map, refl}
use Rattle.std.specs.Option.{option_to_list}
use Rattle.std.specs.Prelude.{[], ◌∷◌}
use Rattle.sqlite.specs.Held.{state}
use Rattle.sqlite_value.specs.declared.value.Value.TheVariants.{Text}
use Rattle.td_schema.specs.Layouts.{IsNewest, schema_of}
use Rattle.typed_sql.proofs.Fetched.{one_fetched}
use Rattle.typed_sql.specs.Values.{number_value}
use Rattle.typed_sql.specs.Typed.{AreThose}
use Rattle.td_store_rows.proofs.StoreReads.{newest_keeps, reads_in}
use Rattle.td_store_rows.proofs.Each.{where_ok}
use Rattle.td_store_rows.specs.Columns.{kept_typing}
use Rattle.td_store_rows.specs.KeptTable.{has_kept_grn, kept_row_of}
use Rattle.td_store_rows.specs.StoreReads.{KeepsUse}
use Rattle.td_store_rows.specs.declared.guarantees.texts.TheConstants.{BY_GRN}
use Rattle.td_store_rows.proofs.GuaranteeMeanings.{all_columns, by_grn_means, grn_tests}
use Rattle.td_store_rows.proofs.KeptStatements.{grn_passes}
use Rattle.td_store_rows.proofs.guarantees.finding.find_kept.Goals as goal

pub returns-clause-found : goal.returns-clause-found
returns-clause-found g c clean =
    where_ok KeepsUse (λ l found. AreThose (kept_typing l) (schema_of l) (has_kept_grn c.args.holder c.args.serial c.args.grn.now) (state g.S.Store c.args.tx.now.conn.now) (map kept_row_of (option_to_list found))) c.fetch_one.result (λ l keeps.
    one_fetched (kept_typing l) (schema_of l) kept_row_of BY_GRN.now grn_tests all_columns []
    (has_kept_grn c.args.holder c.args.serial c.args.grn.now) (number_value c.args.holder ∷ number_value c.args.serial ∷ Text c.args.grn.now ∷ [])
    _ c.grn_values.ensures (by_grn_means l keeps) (λ r is. grn_passes l r is c.args.holder c.args.serial c.args.grn.now []) (λ r. refl)
    (state g.S.Store c.args.tx.now.conn.now) c.fetch_one.result (c.fetch_one.ensures.found clean))

pub returns-clause-reads : goal.returns-clause-reads
returns-clause-reads g c =
    reads_in IsNewest BY_GRN.now (λ l newest. (by_grn_means l (newest_keeps l newest)).plain) _ _ c.fetch_one.result c.fetch_one.ensures.still c.fetch_one.ensures.within
