use Rattle.std.proofs.Common.{refl}
use Rattle.std.specs.Option.{option_map}
use Rattle.std.specs.Prelude.{[], ◌∷◌}
use Rattle.sqlite.specs.Held.{state}
use Rattle.td_schema.specs.Layouts.{schema_of}
use Rattle.typed_sql.proofs.FetchedFirst.{first_fetched}
use Rattle.typed_sql.specs.Typed.{IsFirst}
use Rattle.typed_sql.specs.Values.{number_value}
use Rattle.td_store_rows.specs.StoreReads.{KeepsUse}
use Rattle.td_store_rows.proofs.Each.{where_ok}
use Rattle.td_store_rows.proofs.StoreReads.{reads_in}
use Rattle.td_store_rows.proofs.GuaranteeMeanings.{above_tests, all_columns, by_serial, kept_of_holders_above_means}
use Rattle.td_store_rows.proofs.KeptStatements.{above_passes, placed}
use Rattle.td_store_rows.specs.Columns.{kept_typing}
use Rattle.td_store_rows.specs.KeptTable.{kept_row_of}
use Rattle.td_store_rows.specs.Places.{by_place, is_above}
use Rattle.td_store_rows.specs.declared.guarantees.texts.TheConstants.{KEPT_OF_HOLDERS_ABOVE}
use Rattle.td_store_rows.proofs.guarantees.finding.first_kept_above.Goals as goal

pub returns-clause-found : goal.returns-clause-found
returns-clause-found g c clean =
    where_ok KeepsUse (λ l found. IsFirst (kept_typing l) (schema_of l) (is_above c.args.holder) by_place (state g.S.Store c.args.tx.now.conn.now) (option_map kept_row_of found)) c.fetch_first.result (λ l keeps.
    first_fetched (kept_typing l) (schema_of l) kept_row_of KEPT_OF_HOLDERS_ABOVE.now above_tests all_columns by_serial
    (is_above c.args.holder) (number_value c.args.holder ∷ []) _ c.above_key.ensures (kept_of_holders_above_means l keeps)
    (λ r is. above_passes l r is c.args.holder) (λ r. refl) (state g.S.Store c.args.tx.now.conn.now) by_place (placed l (is_above c.args.holder) (number_value c.args.holder ∷ []))
    c.fetch_first.result (c.fetch_first.ensures.found clean))

pub returns-clause-reads : goal.returns-clause-reads
returns-clause-reads g c =
    reads_in KeepsUse KEPT_OF_HOLDERS_ABOVE.now (λ l keeps. (kept_of_holders_above_means l keeps).plain) _ _ c.fetch_first.result c.fetch_first.ensures.still c.fetch_first.ensures.within
