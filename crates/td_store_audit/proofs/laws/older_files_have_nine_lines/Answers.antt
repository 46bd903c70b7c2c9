use Rattle.typed_sql.specs.Typed.{IsTypedRow}
use Rattle.td_schema.specs.Layouts.{HasFewLines}
use Rattle.td_store_rows.specs.Columns.{line_typing}
use Rattle.td_store_rows.specs.StoreTables.{tables_in}
use Rattle.td_store_audit_rows.specs.Untyped.{AllRows}
use Rattle.td_store_audit.specs.Keeping.{HaveNineLines}
use Rattle.td_store_audit.proofs.FewLines.{nine_lines}
use Rattle.td_store_audit.proofs.Live.{schema_keeps}
use Rattle.td_store_audit.proofs.laws.older_files_have_nine_lines.Goals as goal

pub returns : goal.returns
returns c =
    schema_keeps (λ layout trees. HasFewLines layout → AllRows (line_typing layout) (IsTypedRow (line_typing layout)) trees → HaveNineLines (tables_in layout trees)) nine_lines
