use Rattle.td_store_audit_rows.proofs.Raw.{content_keeps}
use Rattle.td_store_audit_rows.proofs.laws.content_keeps_rules.Goals as goal

pub returns : goal.returns
returns c = content_keeps
