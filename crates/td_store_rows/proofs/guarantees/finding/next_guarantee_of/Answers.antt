use Rattle.std.proofs.Common.{refl}
use Rattle.std.specs.Option.{option_map}
use Rattle.std.specs.Prelude.{[], ◌∷◌}
use Rattle.sqlite.specs.Held.{state}
use Rattle.td_schema.specs.Layouts.{schema_of}
use Rattle.typed_sql.proofs.FetchedFirst.{first_fetched}
use Rattle.typed_sql.specs.Typed.{IsFirst}
use Rattle.typed_sql.specs.Values.{number_value}
use Rattle.td_store_rows.specs.StoreReads.{IsOfVersion}
use Rattle.td_store_rows.proofs.Each.{where_ok}
use Rattle.td_store_rows.proofs.StoreReads.{reads_in}
use Rattle.td_store_rows.proofs.GuaranteeMeanings.{after_tests, six_columns, by_serial, next_of_holder_means}
use Rattle.td_store_rows.proofs.GuaranteeStatements.{after_passes, placed}
use Rattle.td_store_rows.specs.Columns.{guarantee_typing}
use Rattle.td_store_rows.specs.GuaranteeTable.{guarantee_row_of}
use Rattle.td_store_rows.specs.GuaranteeTexts.{next_of_holder_text}
use Rattle.td_store_rows.specs.Places.{by_place, is_after}
use Rattle.td_store_rows.proofs.guarantees.finding.next_guarantee_of.Goals as goal

pub returns-clause-found : goal.returns-clause-found
returns-clause-found g c clean =
    where_ok (IsOfVersion c.args.version) (λ l found. IsFirst (guarantee_typing l) (schema_of l) (is_after c.args.holder c.args.serial) by_place (state g.S.Store c.args.tx.now.conn.now) (option_map guarantee_row_of found)) c.fetch_first.result (λ l own.
    first_fetched (guarantee_typing l) (schema_of l) guarantee_row_of (next_of_holder_text c.args.version) after_tests six_columns by_serial
    (is_after c.args.holder c.args.serial) (number_value c.args.holder ∷ number_value c.args.serial ∷ []) _ c.place_key.ensures (next_of_holder_means c.args.version l own)
    (λ r is. after_passes l r is c.args.holder c.args.serial) (λ r. refl) (state g.S.Store c.args.tx.now.conn.now) by_place (placed l (is_after c.args.holder c.args.serial) (number_value c.args.holder ∷ number_value c.args.serial ∷ []))
    c.fetch_first.result (rw c.next_of_holder.ensures at (c.fetch_first.ensures.found clean)))

pub returns-clause-reads : goal.returns-clause-reads
returns-clause-reads g c =
    reads_in (IsOfVersion c.args.version) (next_of_holder_text c.args.version) (λ l own. (next_of_holder_means c.args.version l own).plain) _ _ c.fetch_first.result (rw c.next_of_holder.ensures at c.fetch_first.ensures.still) c.fetch_first.ensures.within
