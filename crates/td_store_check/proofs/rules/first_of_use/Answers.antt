use Rattle.std.proofs.Common.{arith, refl, true}
use Rattle.std.specs.Prelude.{◌≤◌}
use Rattle.sqlite.specs.Held.{state}
use Rattle.sqlite.specs.State.{State, HasCleanDisk}
use Rattle.td_table_model.specs.Tables.{version_with_amounts}
use Rattle.td_table_model.specs.declared.rule.Rule.TheVariants.{S7, S8}
use Rattle.td_store_rows.proofs.StoreReads.{reads_on}
use Rattle.td_store_audit.proofs.AskedParts as asked
use Rattle.td_store_check.proofs.rules.first_of_use.Goals as goal

pub returns-then-not-comes_before-clause-told : goal.returns-then-not-comes_before-clause-told
returns-then-not-comes_before-clause-told g c clean country =
    asked.use_stops_at c.args.version country c.args.parts.now c.args.end a S7 c.comes_before.result c.if-not-comes_before.true c.comes_before.ensures
    (asked.use_up_to_S7 c.args.version country c.args.parts.now c.args.end a)
  where
    a : State
    a = state g.S.Store c.args.tx.now.conn.now

pub returns-then-not-branch-clause-told : goal.returns-then-not-branch-clause-told
returns-then-not-branch-clause-told g c clean country =
    asked.use_breaks_at c.args.version country c.args.parts.now c.args.end a S7 c.in_ok-keeps_amounts.field-0 c.if-not-branch.true
    (asked.amounts_told c.args.version country c.args.parts.now c.args.end a c.in_ok-keeps_amounts.field-0 (c.in_ok-keeps_amounts.ensures.told clean))
    (asked.use_up_to_S7 c.args.version country c.args.parts.now c.args.end a) (c.comes_before.ensures.0 c.if-not-comes_before.false)
  where
    a : State
    a = state g.S.Store c.args.tx.now.conn.now

pub returns-then-version-ge-VERSION_WITH_AMOUNTS-clause-told : goal.returns-then-version-ge-VERSION_WITH_AMOUNTS-clause-told
returns-then-version-ge-VERSION_WITH_AMOUNTS-clause-told g c clean country =
    let least : version_with_amounts ≤ c.args.version = omega (arith, c.if-version-ge-VERSION_WITH_AMOUNTS.true) in
    let told = c.in_ok-keeps_amounts.ensures.told clean in
    asked.use_ends c.args.version country c.args.parts.now c.args.end a true refl
    (asked.covered_told c.args.version country c.args.parts.now c.args.end a least c.in_ok-keeps_amounts.field-0 c.if-not-branch.false told)
    (asked.use_up_to_S8 c.args.version country c.args.parts.now c.args.end a c.in_ok-keeps_amounts.field-0 c.if-not-branch.false told)
  where
    a : State
    a = state g.S.Store c.args.tx.now.conn.now

pub returns-then-not-comes_before-2-clause-told : goal.returns-then-not-comes_before-2-clause-told
returns-then-not-comes_before-2-clause-told g c clean country =
    asked.use_stops_at c.args.version country c.args.parts.now c.args.end a S8 c.comes_before-2.result c.if-not-comes_before-2.true c.comes_before-2.ensures
    (asked.use_up_to_S8 c.args.version country c.args.parts.now c.args.end a c.in_ok-keeps_amounts.field-0 c.if-not-branch.false (c.in_ok-keeps_amounts.ensures.told clean))
  where
    a : State
    a = state g.S.Store c.args.tx.now.conn.now

pub returns-then-not-branch-2-clause-told : goal.returns-then-not-branch-2-clause-told
returns-then-not-branch-2-clause-told g c clean country =
    asked.use_breaks_at c.args.version country c.args.parts.now c.args.end a S8 c.in_ok-is_holder_covered.field-0 c.if-not-branch-2.true
    (asked.cover_told c.args.version country c.args.parts.now c.args.end a c.in_ok-is_holder_covered.field-0 b (c.in_ok-keeps_amounts.ensures.reads.still clean_b refl)
    (c.in_ok-is_holder_covered.ensures.told clean))
    (asked.use_up_to_S8 c.args.version country c.args.parts.now c.args.end a c.in_ok-keeps_amounts.field-0 c.if-not-branch.false (c.in_ok-keeps_amounts.ensures.told clean_b))
    (c.comes_before-2.ensures.0 c.if-not-comes_before-2.false)
  where
    a : State
    a = state g.S.Store c.args.tx.now.conn.now

    b : State
    b = state g.S.Store c.keeps_amounts.new.tx.conn.now

    clean_b : HasCleanDisk b
    clean_b = omega (arith, clean, c.is_holder_covered.ensures.reads.within.survives.clean)

pub returns-then-not-branch-2-clause-reads : goal.returns-then-not-branch-2-clause-reads
returns-then-not-branch-2-clause-reads g c = reads_on c.in_ok-keeps_amounts.ensures.reads c.in_ok-is_holder_covered.ensures.reads

pub returns-clause-told : goal.returns-clause-told
returns-clause-told g c clean country =
    asked.use_ends c.args.version country c.args.parts.now c.args.end a c.in_ok-is_holder_covered.field-0 c.if-not-branch-2.false
    (asked.cover_told c.args.version country c.args.parts.now c.args.end a c.in_ok-is_holder_covered.field-0 b (c.in_ok-keeps_amounts.ensures.reads.still clean_b refl)
    (c.in_ok-is_holder_covered.ensures.told clean))
    (asked.use_up_to_S8 c.args.version country c.args.parts.now c.args.end a c.in_ok-keeps_amounts.field-0 c.if-not-branch.false (c.in_ok-keeps_amounts.ensures.told clean_b))
  where
    a : State
    a = state g.S.Store c.args.tx.now.conn.now

    b : State
    b = state g.S.Store c.keeps_amounts.new.tx.conn.now

    clean_b : HasCleanDisk b
    clean_b = omega (arith, clean, c.is_holder_covered.ensures.reads.within.survives.clean)

pub returns-clause-reads : goal.returns-clause-reads
returns-clause-reads g c = reads_on c.in_ok-keeps_amounts.ensures.reads c.in_ok-is_holder_covered.ensures.reads
