use Rattle.std.proofs.Common.{refl}
use Rattle.std.specs.Option.{option_map}
use Rattle.std.specs.Prelude.{[], ◌∷◌}
use Rattle.sqlite.specs.Held.{state}
use Rattle.td_schema.specs.Layouts.{schema_of}
use Rattle.typed_sql.proofs.FetchedFirst.{first_fetched}
use Rattle.typed_sql.specs.Typed.{IsFirst}
use Rattle.typed_sql.specs.Values.{number_value}
use Rattle.td_store_rows.specs.StoreReads.{KeepsUse}
use Rattle.td_store_rows.proofs.Each.{where_ok}
use Rattle.td_store_rows.proofs.StoreReads.{reads_in}
use Rattle.td_store_rows.proofs.GuaranteeMeanings.{after_tests, all_columns, by_serial, next_kept_of_holder_means}
use Rattle.td_store_rows.proofs.KeptStatements.{after_passes, placed}
use Rattle.td_store_rows.specs.Columns.{kept_typing}
use Rattle.td_store_rows.specs.KeptTable.{kept_row_of}
use Rattle.td_store_rows.specs.Places.{by_place, is_after}
use Rattle.td_store_rows.specs.declared.guarantees.texts.TheConstants.{NEXT_KEPT_OF_HOLDER}
use Rattle.td_store_rows.proofs.guarantees.finding.next_kept_of.Goals as goal

pub returns-clause-found : goal.returns-clause-found
returns-clause-found g c clean =
    where_ok KeepsUse (λ l found. IsFirst (kept_typing l) (schema_of l) (is_after c.args.holder c.args.serial) by_place (state g.S.Store c.args.tx.now.conn.now) (option_map kept_row_of found)) c.fetch_first.result (λ l keeps.
    first_fetched (kept_typing l) (schema_of l) kept_row_of NEXT_KEPT_OF_HOLDER.now after_tests all_columns by_serial
    (is_after c.args.holder c.args.serial) (number_value c.args.holder ∷ number_value c.args.serial ∷ []) _ c.place_key.ensures (next_kept_of_holder_means l keeps)
    (λ r is. after_passes l r is c.args.holder c.args.serial) (λ r. refl) (state g.S.Store c.args.tx.now.conn.now) by_place (placed l (is_after c.args.holder c.args.serial) (number_value c.args.holder ∷ number_value c.args.serial ∷ []))
    c.fetch_first.result (c.fetch_first.ensures.found clean))

pub returns-clause-reads : goal.returns-clause-reads
returns-clause-reads g c =
    reads_in KeepsUse NEXT_KEPT_OF_HOLDER.now (λ l keeps. (next_kept_of_holder_means l keeps).plain) _ _ c.fetch_first.result c.fetch_first.ensures.still c.fetch_first.ensures.within
