use Rattle.td_store.proofs.Acknowledged.{is_kept, is_kept_meanwhile}
use Rattle.td_store.proofs.laws.acknowledged_decisions_are_kept.Goals as goal

pub returns-clause-kept : goal.returns-clause-kept
returns-clause-kept g c = is_kept g.S.Store

pub returns-clause-meanwhile : goal.returns-clause-meanwhile
returns-clause-meanwhile g c = is_kept_meanwhile g.S.Store
