use Rattle.sqlite.specs.Held.{state}
use Rattle.td_store_audit.proofs.Live.{live_keeps}
use Rattle.td_store_audit.proofs.connection.database_keeps.Goals as goal

pub returns : goal.returns
returns g c = live_keeps (state g.S.Store c.args.conn.now) c.schema.ensures.live
