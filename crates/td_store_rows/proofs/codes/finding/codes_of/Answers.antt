use Rattle.std.proofs.Common.{map, refl}
use Rattle.std.specs.Prelude.{[], ◌∷◌}
use Rattle.sqlite.specs.Held.{state}
use Rattle.td_schema.specs.Layouts.{schema_of}
use Rattle.typed_sql.proofs.Fetched.{in_order_fetched, those_fetched}
use Rattle.typed_sql.proofs.Leaving.{if_both}
use Rattle.typed_sql.specs.Values.{number_value}
use Rattle.td_store_rows.specs.StoreReads.{IsAny}
use Rattle.td_store_rows.proofs.StoreReads.{reads_in}
use Rattle.td_store_rows.proofs.CodeMeanings.{all_columns, by_code, key_tests, of_guarantee_means}
use Rattle.td_store_rows.proofs.CodeStatements.{by_codes, code_cmp, compared, key_passes}
use Rattle.typed_sql.specs.Typed.{AreInOrder, AreThose}
use Rattle.td_store_rows.proofs.Each.{each_ok}
use Rattle.td_store_rows.specs.Columns.{code_typing}
use Rattle.td_store_rows.specs.CodeTable.{is_code_of_guarantee, code_row_of}
use Rattle.td_store_rows.specs.declared.codes.texts.TheConstants.{OF_GUARANTEE}
use Rattle.td_store_rows.proofs.codes.finding.codes_of.Goals as goal

pub returns-clause-found : goal.returns-clause-found
returns-clause-found g c clean =
    each_ok (λ l found. AreThose code_typing (schema_of l) (is_code_of_guarantee c.args.holder c.args.serial) (state g.S.Store c.args.tx.now.conn.now) (map code_row_of found.items)) c.fetch.result (λ l.
    those_fetched code_typing (schema_of l) code_row_of OF_GUARANTEE.now key_tests all_columns by_code
    (is_code_of_guarantee c.args.holder c.args.serial) (number_value c.args.holder ∷ number_value c.args.serial ∷ [])
    _ c.serial_key.ensures (of_guarantee_means l) (key_passes c.args.holder c.args.serial) (λ r. refl)
    (state g.S.Store c.args.tx.now.conn.now) c.fetch.result (c.fetch.ensures.found clean))

pub returns-clause-order : goal.returns-clause-order
returns-clause-order g c clean =
    if_both c.fetch.result
    (λ found. by_codes c.args.holder c.args.serial (state g.S.Store c.args.tx.now.conn.now) found.items)
    (returns-clause-found g c clean)
    (each_ok (λ l found. AreInOrder code_typing (schema_of l) code_cmp (state g.S.Store c.args.tx.now.conn.now) (map code_row_of found.items))
    c.fetch.result (λ l.
    in_order_fetched code_typing (schema_of l) code_row_of OF_GUARANTEE.now key_tests all_columns by_code
    (is_code_of_guarantee c.args.holder c.args.serial) (number_value c.args.holder ∷ number_value c.args.serial ∷ [])
    _ c.serial_key.ensures (of_guarantee_means l) (key_passes c.args.holder c.args.serial) (λ r. refl)
    (state g.S.Store c.args.tx.now.conn.now) code_cmp (compared c.args.holder c.args.serial) c.fetch.result
    (c.fetch.ensures.found clean)))

pub returns-clause-reads : goal.returns-clause-reads
returns-clause-reads g c =
    reads_in IsAny OF_GUARANTEE.now (λ l any. (of_guarantee_means l).plain) _ _ c.fetch.result c.fetch.ensures.still c.fetch.ensures.within
