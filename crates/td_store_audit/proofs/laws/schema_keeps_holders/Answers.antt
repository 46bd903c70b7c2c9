use Rattle.td_store_rows.specs.Columns.{holder_typing}
use Rattle.td_store_rows.specs.StoreTables.{tables_in}
use Rattle.td_store_audit_rows.specs.Kept.{AreHoldersKept}
use Rattle.td_store_audit_rows.specs.Untyped.{AllRows, HasNumber}
use Rattle.td_store_audit.proofs.HoldersKept.{holders_kept}
use Rattle.td_store_audit.proofs.Live.{schema_keeps}
use Rattle.td_store_audit.proofs.laws.schema_keeps_holders.Goals as goal

pub returns : goal.returns
returns c =
    schema_keeps (λ layout trees. AllRows holder_typing HasNumber trees × AreHoldersKept (tables_in layout trees))
    (λ layout trees obeys ids. holders_kept layout trees ids.holders obeys)
