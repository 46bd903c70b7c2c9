use Rattle.std.proofs.Common.{◌∙◌, ◌<◌, ◌+◌, Some, ap, map, refl, subst, sym}
use Rattle.std.specs.Prelude.{unwrap_or}
use Rattle.sqlite.specs.Held.{state}
use Rattle.sqlite.specs.State.{State, HasCleanDisk}
use Rattle.typed_sql.proofs.OnlyRead.{stays_on}
use Rattle.td_store_audit_rows.specs.NextHolder.{IsNextHolder}
use Rattle.td_store_audit_rows.specs.declared.holders.RawHolder.{RawHolder}
use Rattle.td_store_rows.specs.Columns.{guarantee_typing, kept_typing}
use Rattle.td_migrate.specs.Filled.{HasSums, IsFirst, with_its_use}
use Rattle.td_migrate.specs.Put.{KeepTheRules}
use Rattle.td_migrate.proofs.EachHolder.{first_all, first_asked, first_none, first_still}
use Rattle.td_migrate.proofs.Older.{first_beside}
use Rattle.td_migrate.proofs.Putting.{HasPut, nothing_put}
use Rattle.td_migrate.proofs.Walking.{all_put, holder_put, upto}
use Rattle.td_migrate.proofs.filling.fill.Goals as goal

pub holders-init : goal.holders-init
holders-init g c = (
  refl,
  nothing_put IsFirst kept_typing KeepTheRules (upto IsFirst guarantee_typing kept_typing first_beside with_its_use first_still 0) (state g.S.Store c.args.tx.now.conn.now)
      (λ l at x keep. ap (map (with_its_use x)) (first_none l x keep)),
)

pub holders-preserved : goal.holders-preserved
holders-preserved g c = (
  c.put_of.ensures.same_reference ∙ c.holder_above.ensures.same_reference ∙ c.holders.invariant.0,
  subst (λ n. HasPut IsFirst kept_typing KeepTheRules (upto IsFirst guarantee_typing kept_typing first_beside with_its_use first_still n) a d) (sym c.number-number.ensures.value)
      (holder_put IsFirst guarantee_typing kept_typing first_beside with_its_use first_still (HasSums raw) c.holders.number (unwrap_or raw.grn_count 0 + 1) raw above a b m d
      (first_asked c.holders.number raw) c.holders.invariant.1 c.in_ok-raw.ensures.reads found c.in_ok-put_of.ensures.within c.in_ok-put_of.ensures.filled),
)
  where
    a : State
    a = state g.S.Store c.args.tx.now.conn.now

    b : State
    b = state g.S.Store c.holders.tx.conn.now

    m : State
    m = state g.S.Store c.holder_above.new.tx.conn.now

    d : State
    d = state g.S.Store c.put_of.new.tx.conn.now

    raw : RawHolder
    raw = c.in-Some.raw

    above : c.holders.number < raw.holder
    above = rw c.in-Some.is at c.in_ok-raw.ensures.above

    found : HasCleanDisk m → IsNextHolder c.holders.number b (Some raw)
    found clean = subst (IsNextHolder c.holders.number b) c.in-Some.is (c.in_ok-raw.ensures.found clean)

pub returns-clause-filled : goal.returns-clause-filled
returns-clause-filled g c clean =
    all_put IsFirst guarantee_typing kept_typing first_beside with_its_use first_still c.holders.number (state g.S.Store c.args.tx.now.conn.now) (state g.S.Store c.holders.tx.conn.now)
    (state g.S.Store c.holder_above.new.tx.conn.now) (λ l at. first_all c.holders.number l) c.holders.invariant.1 c.in_ok-raw.ensures.reads
    (λ clean. subst (IsNextHolder c.holders.number (state g.S.Store c.holders.tx.conn.now)) c.in_default.is (c.in_ok-raw.ensures.found clean)) clean

pub returns-clause-within : goal.returns-clause-within
returns-clause-within g c = stays_on c.holders.invariant.1.within c.in_ok-raw.ensures.reads.within
