use Rattle.std.proofs.Common.{◌≡◌, ◌-◌, Bool, true, false, ap, arith, refl, subst}
use Rattle.sqlite.specs.Held.{state}
use Rattle.sqlite.specs.State.{State, HasCleanDisk}
use Rattle.std.specs.Prelude.{is_some, not}
use Rattle.td_store_rows.proofs.StoreReads.{reads_on}
use Rattle.td_store_rows.specs.Columns.{guarantee_typing}
use Rattle.td_store_rows.specs.StoreReads.{IsOfVersion}
use Rattle.td_store_audit_rows.specs.InPlace.{AreGuaranteesInPlace}
use Rattle.td_store_audit.specs.InFile.{AreTypedApart, HasGuaranteesInPlace, TellsWhere}
use Rattle.td_store_audit.specs.Ranges.{guarantees_below}
use Rattle.td_store_audit.proofs.GuaranteesKept.{by_next, first_before, not_below}
use Rattle.td_store_audit.proofs.guarantees.has_guarantees.Goals as goal

-- a test and its opposite
turned : (a b : Bool) → a ≡ not b → not a ≡ b
turned a true is = ap not is
turned a false is = ap not is

-- those up to the count aren't in their places
pub returns-then-not-branch-clause-told : goal.returns-then-not-branch-clause-told
returns-then-not-branch-clause-told g c clean =
    not_below c.args.version c.args.country a c.args.raw.now c.in-Some.count c.in-Some-checked_add.end c.in-Some.is c.in-Some-checked_add.ensures.1
    (subst (TellsWhere (IsOfVersion c.args.version) (λ layout. AreTypedApart (guarantee_typing layout))
    (λ layout trees. AreGuaranteesInPlace c.args.country (c.in-Some-checked_add.end - 1) (guarantees_below layout trees c.args.raw.now.holder c.in-Some-checked_add.end)) a)
    c.if-not-branch.true (c.in_ok-has_guarantees_below.ensures.told clean))
  where
    a : State
    a = state g.S.Store c.args.tx.now.conn.now

-- they are, and it is asked whether another stands behind the count
pub returns-clause-told : goal.returns-clause-told
returns-clause-told g c clean =
    subst (TellsWhere (IsOfVersion c.args.version) (λ layout. AreTypedApart (guarantee_typing layout)) (λ layout trees. HasGuaranteesInPlace layout c.args.country trees c.args.raw.now) a)
    (turned (is_some c.in_ok-next_guarantee_of.field-0) c.is_none.result c.is_none.ensures)
    (by_next c.args.version c.args.country a c.args.raw.now c.in-Some.count c.in-Some-checked_add.end c.in-Some.is c.in-Some-checked_add.ensures.1 c.in_ok-next_guarantee_of.field-0
    (subst (TellsWhere (IsOfVersion c.args.version) (λ layout. AreTypedApart (guarantee_typing layout))
    (λ layout trees. AreGuaranteesInPlace c.args.country (c.in-Some-checked_add.end - 1) (guarantees_below layout trees c.args.raw.now.holder c.in-Some-checked_add.end)) a)
    c.if-not-branch.false (c.in_ok-has_guarantees_below.ensures.told clean_b))
    (first_before c.args.version a b (c.in_ok-has_guarantees_below.ensures.reads.still clean_b refl) c.args.raw.now.holder c.in-Some.count c.in_ok-next_guarantee_of.field-0
    (rw c.number.ensures.value at (c.in_ok-next_guarantee_of.ensures.found clean))))
  where
    a : State
    a = state g.S.Store c.args.tx.now.conn.now

    b : State
    b = state g.S.Store c.has_guarantees_below.new.tx.conn.now

    clean_b : HasCleanDisk b
    clean_b = omega (arith, clean, c.next_guarantee_of.ensures.reads.within.survives.clean)

pub returns-clause-reads : goal.returns-clause-reads
returns-clause-reads g c = reads_on c.in_ok-has_guarantees_below.ensures.reads c.in_ok-next_guarantee_of.ensures.reads
