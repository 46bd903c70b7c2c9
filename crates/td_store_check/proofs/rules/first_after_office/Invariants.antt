use Rattle.std.proofs.Common.{◌≡◌, ◌-◌, ◌^◌, true}
use Rattle.sqlite.specs.Held.{state}
use Rattle.sqlite.specs.State.{HasCleanDisk}
use Rattle.td_store_rows.specs.StoreReads.{IsOfVersion, ReadsVersion}
use Rattle.td_store_audit.specs.Broken.{HasOffice}
use Rattle.td_store_audit.specs.InFile.{IsSoWhere}
use Rattle.td_store_audit.proofs.Walked.{IsWalked}
use Rattle.td_store_check.proofs.rules.first_after_office.Given as goal

-- nothing is changed, and the holders up to the number were asked
abbrev pub invariant-holders : goal.invariant-holders
invariant-holders g l =
    (l.tx.conn.ghost_name ≡ l.initial.tx.conn.ghost_name)
    × ReadsVersion l.version true (state g.S.Store l.initial.tx.conn.now) (state g.S.Store l.tx.conn.now)
    × (HasCleanDisk (state g.S.Store l.tx.conn.now)
    → IsSoWhere (IsOfVersion l.version) (HasOffice l.country l.fn.readable) (IsWalked l.country l.fn.readable l.number l.least) (state g.S.Store l.initial.tx.conn.now))

abbrev pub decreases-holders : goal.decreases-holders
decreases-holders g l = 2 ^ 32 - l.number
