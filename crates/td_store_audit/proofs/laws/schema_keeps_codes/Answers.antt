use Rattle.typed_sql.specs.Typed.{IsTypedRow}
use Rattle.td_store_rows.specs.Columns.{code_typing}
use Rattle.td_store_rows.specs.StoreTables.{tables_in}
use Rattle.td_store_audit_rows.specs.Kept.{AreCodesKept}
use Rattle.td_store_audit_rows.specs.Untyped.{AllRows}
use Rattle.td_store_audit.proofs.Live.{schema_keeps}
use Rattle.td_store_audit.proofs.Tables.{codes_kept}
use Rattle.td_store_audit.proofs.laws.schema_keeps_codes.Goals as goal

pub returns : goal.returns
returns c =
    schema_keeps (λ layout trees. AllRows code_typing (IsTypedRow code_typing) trees → AreCodesKept (tables_in layout trees)) codes_kept
