use Rattle.std.proofs.Common.{Ok, refl}
use Rattle.std.specs.Prelude.{[], ◌∷◌}
use Rattle.sqlite.specs.Held.{state}
use Rattle.sqlite.specs.declared.error.Error.{Error}
use Rattle.td_schema.specs.Layouts.{schema_of}
use Rattle.typed_sql.proofs.FetchedFirst.{first_fetched}
use Rattle.typed_sql.specs.Typed.{typed_rows}
use Rattle.typed_sql.specs.Values.{number_value}
use Rattle.td_store_rows.proofs.MovementMeanings.{after_tests}
use Rattle.td_store_rows.proofs.StoreReads.{reads_in}
use Rattle.td_store_rows.specs.Columns.{code_typing}
use Rattle.td_store_rows.specs.CodeTable.{code_row_of}
use Rattle.td_store_rows.specs.Places.{is_after}
use Rattle.td_store_rows.specs.StoreReads.{IsAny}
use Rattle.td_store_audit.proofs.Meanings.{by_three, code_terms, codes_behind_mean}
use Rattle.td_store_audit.proofs.Ordering.{code_behind_pass, codes_compared, is_behind}
use Rattle.td_store_audit.proofs.PlaceRanges.{first_tells}
use Rattle.td_store_audit.specs.Found.{code_order}
use Rattle.td_store_audit.specs.declared.texts.TheConstants.{CODES_BEHIND}
use Rattle.td_store_audit.proofs.finding.has_code_behind.Goals as goal

pub returns-clause-told : goal.returns-clause-told
returns-clause-told g c clean l has typed =
    rw (c.is_some.ensures) (first_tells code_row_of (is_after c.args.holder c.args.serial) code_order (typed_rows code_typing (state g.S.Store c.args.tx.now.conn.now).now.trees) c.in_ok-code.code
    (first_fetched code_typing (schema_of l) code_row_of CODES_BEHIND.now after_tests code_terms by_three
    (is_after c.args.holder c.args.serial) (number_value c.args.holder ∷ number_value c.args.serial ∷ []) _ (rw c.number.ensures.value at c.place_key.ensures)
    (codes_behind_mean l) (code_behind_pass c.args.holder c.args.serial) (λ r. refl)
    (state g.S.Store c.args.tx.now.conn.now) code_order
    (codes_compared c.args.holder (is_after c.args.holder c.args.serial) (is_behind c.args.holder c.args.serial)
    (number_value c.args.holder ∷ number_value c.args.serial ∷ []))
    (Ok c.in_ok-code.code) (c.in_ok-code.ensures.found clean) has typed))

pub returns-clause-reads : goal.returns-clause-reads
returns-clause-reads g c =
    reads_in {E = Error} IsAny CODES_BEHIND.now (λ l any. (codes_behind_mean l).plain) _ _ (Ok c.in_ok-code.code)
    c.in_ok-code.ensures.still c.in_ok-code.ensures.within
