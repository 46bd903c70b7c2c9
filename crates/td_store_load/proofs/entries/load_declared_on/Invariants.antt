use Rattle.std.proofs.Common.{◌≡◌, take, true}
use Rattle.std.specs.Prelude.{filter_map}
use Rattle.sqlite.specs.Held.{state}
use Rattle.sqlite.specs.State.{HasCleanDisk}
use Rattle.td_model.specs.Account.{entry_in}
use Rattle.td_model.specs.Content.{account_in}
use Rattle.td_store_rows.specs.StoreReads.{ReadsNewest}
use Rattle.td_store_load.specs.Loaded.{IsOfContent}
use Rattle.td_store_load.proofs.entries.load_declared_on.Given as goal

abbrev pub invariant-lines : goal.invariant-lines
invariant-lines g l =
    (l.tx.conn.ghost_name ≡ l.initial.tx.conn.ghost_name)
    × ReadsNewest true (state g.S.Store l.initial.tx.conn.now) (state g.S.Store l.tx.conn.now)
    × (HasCleanDisk (state g.S.Store l.tx.conn.now)
    → IsOfContent l.country (λ c. filter_map (λ x. entry_in (account_in l.holder c) x.0.grn) (take l.declared-index l.lines))
    (state g.S.Store l.initial.tx.conn.now) l.found.items)
