use Rattle.typed_sql.specs.Typed.{IsTypedRow}
use Rattle.td_store_rows.specs.Columns.{guarantee_typing}
use Rattle.td_store_rows.specs.StoreTables.{tables_in}
use Rattle.td_store_audit_rows.specs.Kept.{AreGuaranteesKept}
use Rattle.td_store_audit_rows.specs.Untyped.{AllRows}
use Rattle.td_store_audit.proofs.Live.{schema_keeps}
use Rattle.td_store_audit.proofs.Tables.{guarantees_kept}
use Rattle.td_store_audit.proofs.laws.schema_keeps_guarantees.Goals as goal

pub returns : goal.returns
returns c =
    schema_keeps (λ layout trees. AllRows (guarantee_typing layout) (IsTypedRow (guarantee_typing layout)) trees → AreGuaranteesKept (tables_in layout trees)) guarantees_kept
