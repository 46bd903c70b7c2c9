use Rattle.std.proofs.Common.{map, refl}
use Rattle.std.specs.Prelude.{[], ◌∷◌}
use Rattle.sqlite.specs.Held.{state}
use Rattle.td_schema.specs.Layouts.{schema_of}
use Rattle.typed_sql.proofs.Fetched.{in_order_fetched, those_fetched}
use Rattle.typed_sql.specs.Typed.{AreInOrder, AreThose}
use Rattle.typed_sql.specs.Values.{number_value}
use Rattle.td_store_rows.proofs.Each.{each_ok}
use Rattle.td_store_rows.proofs.RangeTests.{is_owned, within_tests}
use Rattle.td_store_rows.proofs.StoreReads.{reads_in}
use Rattle.td_store_rows.specs.Columns.{code_typing}
use Rattle.td_store_rows.specs.CodeTable.{code_row_of}
use Rattle.td_store_rows.specs.Places.{is_within}
use Rattle.td_store_rows.specs.StoreReads.{IsAny}
use Rattle.td_store_audit.proofs.Meanings.{by_three, code_terms, codes_within_mean}
use Rattle.td_store_audit.proofs.Ordering.{code_within_pass, codes_compared}
use Rattle.td_store_audit.specs.Found.{code_order}
use Rattle.td_store_audit.specs.declared.texts.TheConstants.{CODES_WITHIN}
use Rattle.td_store_audit.proofs.finding.codes_within.Goals as goal

pub returns-clause-found : goal.returns-clause-found
returns-clause-found g c clean =
    each_ok (λ l found. AreThose code_typing (schema_of l) (is_within c.args.holder c.args.first c.args.end) (state g.S.Store c.args.tx.now.conn.now) (map code_row_of found.items)) c.fetch.result (λ l.
    those_fetched code_typing (schema_of l) code_row_of CODES_WITHIN.now within_tests code_terms by_three
    (is_within c.args.holder c.args.first c.args.end) (number_value c.args.holder ∷ number_value c.args.first ∷ number_value c.args.end ∷ []) _ c.range_key.ensures
    (codes_within_mean l) (code_within_pass c.args.holder c.args.first c.args.end) (λ r. refl)
    (state g.S.Store c.args.tx.now.conn.now) c.fetch.result (c.fetch.ensures.found clean))

pub returns-clause-order : goal.returns-clause-order
returns-clause-order g c clean =
    each_ok (λ l found. AreInOrder code_typing (schema_of l) code_order (state g.S.Store c.args.tx.now.conn.now) (map code_row_of found.items)) c.fetch.result (λ l.
    in_order_fetched code_typing (schema_of l) code_row_of CODES_WITHIN.now within_tests code_terms by_three
    (is_within c.args.holder c.args.first c.args.end) (number_value c.args.holder ∷ number_value c.args.first ∷ number_value c.args.end ∷ []) _ c.range_key.ensures
    (codes_within_mean l) (code_within_pass c.args.holder c.args.first c.args.end) (λ r. refl)
    (state g.S.Store c.args.tx.now.conn.now) code_order
    (codes_compared c.args.holder (is_within c.args.holder c.args.first c.args.end) (λ m. is_owned c.args.holder c.args.first c.args.end m)
    (number_value c.args.holder ∷ number_value c.args.first ∷ number_value c.args.end ∷ []))
    c.fetch.result (c.fetch.ensures.found clean))

pub returns-clause-reads : goal.returns-clause-reads
returns-clause-reads g c =
    reads_in IsAny CODES_WITHIN.now (λ l any. (codes_within_mean l).plain) _ _ c.fetch.result
    c.fetch.ensures.still c.fetch.ensures.within
