use Rattle.td_store_audit_rows.proofs.Raw.{rules_mean_content}
use Rattle.td_store_audit_rows.proofs.laws.kept_rules_mean_content.Goals as goal

pub returns : goal.returns
returns c = rules_mean_content
