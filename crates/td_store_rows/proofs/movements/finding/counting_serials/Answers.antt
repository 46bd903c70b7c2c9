use Rattle.sqlite.specs.Held.{state}
use Rattle.td_store_rows.specs.StoreReads.{IsAny}
use Rattle.td_store_rows.proofs.StoreReads.{reads_in}
use Rattle.td_store_rows.proofs.MovementMeanings.{counting_means}
use Rattle.td_store_rows.proofs.MovementSerials.{serials_fetched, serials_in_order}
use Rattle.td_store_rows.specs.declared.movements.texts.TheConstants.{COUNTING_SERIALS}
use Rattle.td_store_rows.proofs.movements.finding.counting_serials.Goals as goal

pub returns-clause-found : goal.returns-clause-found
returns-clause-found g c clean =
    serials_fetched c.args.holder _ c.holder_key.ensures (state g.S.Store c.args.tx.now.conn.now) c.fetch.result (c.fetch.ensures.found clean)

pub returns-clause-order : goal.returns-clause-order
returns-clause-order g c clean =
    serials_in_order c.args.holder _ c.holder_key.ensures (state g.S.Store c.args.tx.now.conn.now) c.fetch.result (c.fetch.ensures.found clean)

pub returns-clause-reads : goal.returns-clause-reads
returns-clause-reads g c =
    reads_in IsAny COUNTING_SERIALS.now (λ l any. (counting_means l).plain) _ _ c.fetch.result c.fetch.ensures.still c.fetch.ensures.within
