use Rattle.std.proofs.Common.{Ok, refl}
use Rattle.std.specs.Prelude.{[], ◌∷◌}
use Rattle.sqlite.specs.Held.{state}
use Rattle.sqlite.specs.declared.error.Error.{Error}
use Rattle.td_schema.specs.Layouts.{schema_of}
use Rattle.typed_sql.proofs.FetchedFirst.{first_fetched}
use Rattle.typed_sql.specs.Typed.{typed_rows}
use Rattle.typed_sql.specs.Values.{number_value}
use Rattle.td_store_rows.proofs.MovementMeanings.{after_tests}
use Rattle.td_store_rows.proofs.StoreReads.{reads_in}
use Rattle.td_store_rows.specs.Columns.{line_typing}
use Rattle.td_store_rows.specs.LineTable.{line_row_of}
use Rattle.td_store_rows.specs.Places.{is_after}
use Rattle.td_store_rows.specs.StoreReads.{IsOfVersion}
use Rattle.td_store_audit.proofs.Meanings.{behind_mean, by_three, line_terms}
use Rattle.td_store_audit.proofs.Ordering.{behind_pass, is_behind, lines_compared}
use Rattle.td_store_audit.proofs.PlaceRanges.{first_tells}
use Rattle.td_store_audit.specs.Found.{line_order}
use Rattle.td_store_audit.specs.LineTexts.{lines_behind_text}
use Rattle.td_store_audit.proofs.finding.has_line_behind.Goals as goal

pub returns-clause-told : goal.returns-clause-told
returns-clause-told g c clean l own has typed =
    rw (c.is_some.ensures) (first_tells line_row_of (is_after c.args.holder c.args.serial) line_order (typed_rows (line_typing l) (state g.S.Store c.args.tx.now.conn.now).now.trees) c.in_ok-line.line
    (first_fetched (line_typing l) (schema_of l) line_row_of (lines_behind_text c.args.version) after_tests line_terms by_three
    (is_after c.args.holder c.args.serial) (number_value c.args.holder ∷ number_value c.args.serial ∷ []) _ (rw c.number.ensures.value at c.place_key.ensures)
    (behind_mean c.args.version l own) (behind_pass l c.args.holder c.args.serial) (λ r. refl)
    (state g.S.Store c.args.tx.now.conn.now) line_order
    (lines_compared l c.args.holder (is_after c.args.holder c.args.serial) (is_behind c.args.holder c.args.serial)
    (number_value c.args.holder ∷ number_value c.args.serial ∷ []))
    (Ok c.in_ok-line.line) (rw c.lines_behind_at.ensures at (c.in_ok-line.ensures.found clean)) has typed))

pub returns-clause-reads : goal.returns-clause-reads
returns-clause-reads g c =
    reads_in {E = Error} (IsOfVersion c.args.version) (lines_behind_text c.args.version) (λ l own. (behind_mean c.args.version l own).plain) _ _ (Ok c.in_ok-line.line)
    (rw c.lines_behind_at.ensures at c.in_ok-line.ensures.still) c.in_ok-line.ensures.within
