use Rattle.td_store_load.specs.Placed.{guarantees_placed, movements_placed}
use Rattle.td_table_model.specs.Listed.{guarantees_listed, movements_listed}
use Rattle.td_store.specs.Kept.{sql_view}
use Rattle.td_store.proofs.Walked.{walks_give}
use Rattle.td_store.proofs.laws.walks_give_what_is_listed.Goals as goal

pub returns-clause-movements : goal.returns-clause-movements
returns-clause-movements g c = walks_give (sql_view g.S.Store) movements_placed movements_listed

pub returns-clause-guarantees : goal.returns-clause-guarantees
returns-clause-guarantees g c = walks_give (sql_view g.S.Store) guarantees_placed guarantees_listed
