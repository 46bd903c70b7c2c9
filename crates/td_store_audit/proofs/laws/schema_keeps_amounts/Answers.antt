use Rattle.typed_sql.specs.Typed.{IsTypedRow}
use Rattle.td_store_rows.specs.Columns.{guarantee_typing}
use Rattle.td_store_rows.specs.StoreReads.{KeepsUse}
use Rattle.td_store_audit_rows.specs.Laws.{AreAmountsKept}
use Rattle.td_store_audit_rows.specs.Untyped.{AllRows}
use Rattle.td_store_audit.proofs.Live.{schema_keeps}
use Rattle.td_store_audit.proofs.Tables.{amounts_kept}
use Rattle.td_store_audit.proofs.laws.schema_keeps_amounts.Goals as goal

pub returns : goal.returns
returns c =
    schema_keeps (λ layout trees. KeepsUse layout → AllRows (guarantee_typing layout) (IsTypedRow (guarantee_typing layout)) trees → AreAmountsKept layout trees)
    amounts_kept
