use Rattle.typed_sql.specs.Typed.{IsTypedRow}
use Rattle.td_store_rows.specs.Columns.{movement_typing}
use Rattle.td_store_rows.specs.StoreTables.{tables_in}
use Rattle.td_store_audit_rows.specs.Kept.{AreMovementsKept}
use Rattle.td_store_audit_rows.specs.Untyped.{AllRows}
use Rattle.td_store_audit.proofs.Live.{schema_keeps}
use Rattle.td_store_audit.proofs.Tables.{movements_kept}
use Rattle.td_store_audit.proofs.laws.schema_keeps_movements.Goals as goal

pub returns : goal.returns
returns c =
    schema_keeps (λ layout trees. AllRows movement_typing (IsTypedRow movement_typing) trees → AreMovementsKept (tables_in layout trees)) movements_kept
