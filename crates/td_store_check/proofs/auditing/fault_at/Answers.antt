use Rattle.td_store_check.proofs.Judged.{store_or_damage}
use Rattle.td_store_check.proofs.auditing.fault_at.Goals as goal

pub returns-in-Store-clause-kinds : goal.returns-in-Store-clause-kinds
returns-in-Store-clause-kinds g c = store_or_damage c.fault_of_rows.result c.fault_of_rows.ensures.kinds
