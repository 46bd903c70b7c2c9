use Rattle.std.proofs.Common.{rules}
use Rattle.td_store_audit_rows.specs.Laws.{ContentKeepsRules}
use Rattle.td_store_audit_rows.proofs.Raw.{content_keeps}
use Rattle.td_store_check.proofs.auditing.audit.Goals as goal

-- rows of sound content keep every rule
pub returns-in-Some-clause-sound : goal.returns-in-Some-clause-sound
returns-in-Some-clause-sound g c =
    let keeps : ContentKeepsRules = content_keeps in
    search rules
