use Rattle.std.proofs.Common.{refl}
use Rattle.std.specs.Option.{option_map}
use Rattle.std.specs.Prelude.{[], ◌∷◌}
use Rattle.sqlite.specs.Held.{state}
use Rattle.td_schema.specs.Layouts.{schema_of}
use Rattle.typed_sql.proofs.FetchedFirst.{first_fetched}
use Rattle.typed_sql.specs.Typed.{IsFirst}
use Rattle.typed_sql.specs.Values.{number_value}
use Rattle.td_store_rows.specs.StoreReads.{IsAny}
use Rattle.td_store_rows.proofs.Each.{each_ok}
use Rattle.td_store_rows.proofs.StoreReads.{reads_in}
use Rattle.td_store_rows.proofs.MovementMeanings.{after_tests, all_columns, by_serial, next_of_holder_means}
use Rattle.td_store_rows.proofs.MovementStatements.{after_passes, placed}
use Rattle.td_store_rows.specs.Columns.{movement_typing}
use Rattle.td_store_rows.specs.MovementTable.{movement_row_of}
use Rattle.td_store_rows.specs.Places.{by_place, is_after}
use Rattle.td_store_rows.specs.declared.movements.texts.TheConstants.{NEXT_OF_HOLDER}
use Rattle.td_store_rows.proofs.movements.finding.next_movement_of.Goals as goal

pub returns-clause-found : goal.returns-clause-found
returns-clause-found g c clean =
    each_ok (λ l found. IsFirst movement_typing (schema_of l) (is_after c.args.holder c.args.serial) by_place (state g.S.Store c.args.tx.now.conn.now) (option_map movement_row_of found)) c.fetch_first.result (λ l.
    first_fetched movement_typing (schema_of l) movement_row_of NEXT_OF_HOLDER.now after_tests all_columns by_serial
    (is_after c.args.holder c.args.serial) (number_value c.args.holder ∷ number_value c.args.serial ∷ []) _ c.place_key.ensures (next_of_holder_means l)
    (λ r is. after_passes r is c.args.holder c.args.serial) (λ r. refl) (state g.S.Store c.args.tx.now.conn.now) by_place (placed (is_after c.args.holder c.args.serial) (number_value c.args.holder ∷ number_value c.args.serial ∷ []))
    c.fetch_first.result (c.fetch_first.ensures.found clean))

pub returns-clause-reads : goal.returns-clause-reads
returns-clause-reads g c =
    reads_in IsAny NEXT_OF_HOLDER.now (λ l any. (next_of_holder_means l).plain) _ _ c.fetch_first.result c.fetch_first.ensures.still c.fetch_first.ensures.within
