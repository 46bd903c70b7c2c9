use Rattle.std.proofs.Common.{◌≡◌, ◌≤◌, ◌-◌, true}
use Rattle.sqlite.specs.Held.{state}
use Rattle.sqlite.specs.State.{HasCleanDisk}
use Rattle.td_store_rows.specs.StoreReads.{ReadsStore}
use Rattle.td_store_audit.specs.Premises.{TellsCodesWithin}
use Rattle.td_store_audit.proofs.codes.has_codes_below.Given as goal

-- nothing is changed, and the codes of the guarantees below the first that wasn't read are in their places
abbrev pub invariant-parts : goal.invariant-parts
invariant-parts g l =
    (l.tx.conn.ghost_name ≡ l.initial.tx.conn.ghost_name)
    × ReadsStore true (state g.S.Store l.initial.tx.conn.now) (state g.S.Store l.tx.conn.now)
    × (l.first ≤ l.end)
    × (HasCleanDisk (state g.S.Store l.tx.conn.now) → TellsCodesWithin l.holder 0 l.first (state g.S.Store l.initial.tx.conn.now) true)

abbrev pub decreases-parts : goal.decreases-parts
decreases-parts g l = l.end - l.first
