use Rattle.sqlite.specs.Held.{state}
use Rattle.td_store_rows.specs.StoreReads.{IsAny}
use Rattle.td_store_rows.proofs.StoreReads.{reads_in}
use Rattle.td_store_rows.proofs.MovementLists.{listed_fetched}
use Rattle.td_store_rows.proofs.MovementMeanings.{listed_means}
use Rattle.td_store_rows.specs.declared.movements.texts.TheConstants.{LISTED_WITHIN}
use Rattle.td_store_rows.proofs.movements.finding.listed_within.Goals as goal

pub returns-clause-order : goal.returns-clause-order
returns-clause-order g c clean =
    listed_fetched c.args.holder c.args.first c.args.end _ c.range_key.ensures (state g.S.Store c.args.tx.now.conn.now) c.fetch.result (c.fetch.ensures.found clean)

pub returns-clause-reads : goal.returns-clause-reads
returns-clause-reads g c =
    reads_in IsAny LISTED_WITHIN.now (λ l any. (listed_means l).plain) _ _ c.fetch.result c.fetch.ensures.still c.fetch.ensures.within
