use Rattle.std.proofs.Common.{map, refl}
use Rattle.std.specs.Prelude.{[], ◌∷◌}
use Rattle.sqlite.specs.Held.{state}
use Rattle.td_schema.specs.Layouts.{grown, schema_of}
use Rattle.typed_sql.proofs.Fetched.{those_fetched}
use Rattle.typed_sql.specs.Typed.{AreThose}
use Rattle.typed_sql.specs.Values.{number_value}
use Rattle.td_store_rows.proofs.Each.{where_ok}
use Rattle.td_store_rows.proofs.RangeTests.{within_tests}
use Rattle.td_store_rows.proofs.StoreReads.{reads_in}
use Rattle.td_store_rows.specs.Columns.{guarantee_typing}
use Rattle.td_store_rows.specs.GuaranteeTable.{guarantee_row_of}
use Rattle.td_store_rows.specs.Places.{is_within}
use Rattle.td_migrate.specs.Filled.{IsFirst}
use Rattle.td_migrate.specs.Put.{IsGrownFrom}
use Rattle.td_migrate.specs.declared.filling.TheConstants.{FIRST_WITHIN}
use Rattle.td_migrate.proofs.Older.{first_mean, first_pass, first_plain, guarantee_terms}
use Rattle.td_migrate.proofs.filling.first_within.Goals as goal

pub returns-clause-found : goal.returns-clause-found
returns-clause-found g c clean =
    where_ok IsFirst (λ l found. AreThose (guarantee_typing l) (schema_of (grown l)) (is_within c.args.holder c.args.first c.args.end) (state g.S.Store c.args.tx.now.conn.now) (map guarantee_row_of found.items)) c.fetch.result (λ l at.
    those_fetched (guarantee_typing l) (schema_of (grown l)) guarantee_row_of FIRST_WITHIN.now within_tests guarantee_terms []
    (is_within c.args.holder c.args.first c.args.end) (number_value c.args.holder ∷ number_value c.args.first ∷ number_value c.args.end ∷ []) _ c.range_key.ensures
    (first_mean l at) (first_pass l c.args.holder c.args.first c.args.end) (λ r. refl)
    (state g.S.Store c.args.tx.now.conn.now) c.fetch.result (c.fetch.ensures.found clean))

pub returns-clause-reads : goal.returns-clause-reads
returns-clause-reads g c = reads_in (IsGrownFrom IsFirst) FIRST_WITHIN.now first_plain _ _ c.fetch.result c.fetch.ensures.still c.fetch.ensures.within
