use Rattle.typed_sql.specs.Typed.{IsTypedRow}
use Rattle.td_store_rows.specs.Columns.{line_typing}
use Rattle.td_store_rows.specs.StoreTables.{tables_in}
use Rattle.td_store_audit_rows.specs.Kept.{AreLinesKept}
use Rattle.td_store_audit_rows.specs.Untyped.{AllRows}
use Rattle.td_store_audit.proofs.Live.{schema_keeps}
use Rattle.td_store_audit.proofs.Tables.{lines_kept}
use Rattle.td_store_audit.proofs.laws.schema_keeps_lines.Goals as goal

pub returns : goal.returns
returns c =
    schema_keeps (λ layout trees. AllRows (line_typing layout) (IsTypedRow (line_typing layout)) trees → AreLinesKept (tables_in layout trees)) lines_kept
