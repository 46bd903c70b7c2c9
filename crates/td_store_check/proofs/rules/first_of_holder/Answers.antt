use Rattle.std.proofs.Common.{arith, refl, true}
use Rattle.sqlite.specs.Held.{state}
use Rattle.sqlite.specs.State.{State, HasCleanDisk}
use Rattle.td_table_model.specs.declared.rule.Rule.TheVariants.{S2, S3, S4}
use Rattle.td_store_rows.specs.StoreReads.{IsOfVersion}
use Rattle.td_store_rows.proofs.StoreReads.{reads_on}
use Rattle.td_store_audit.specs.InFile.{OnlyReadIn}
use Rattle.td_store_audit.proofs.AskedHolder as asked
use Rattle.td_store_audit.proofs.Reading.{any_read, anywhere, more_read}
use Rattle.td_store_check.proofs.rules.first_of_holder.Goals as goal

pub returns-then-not-comes_before-clause-told : goal.returns-then-not-comes_before-clause-told
returns-then-not-comes_before-clause-told g c clean =
    asked.stops_at c.args.version c.args.country c.args.raw.now c.args.end a S2 c.comes_before.result c.if-not-comes_before.true c.comes_before.ensures
    (asked.up_to_S2 c.args.version c.args.country c.args.raw.now c.args.end a)
  where
    a : State
    a = state g.S.Store c.args.tx.now.conn.now

pub returns-then-not-has_identity-clause-told : goal.returns-then-not-has_identity-clause-told
returns-then-not-has_identity-clause-told g c clean =
    asked.breaks_at c.args.version c.args.country c.args.raw.now c.args.end a S2 c.has_identity.result c.if-not-has_identity.true
    (asked.identity_told c.args.version c.args.country c.args.raw.now c.args.end a c.has_identity.result c.has_identity.ensures)
    (asked.up_to_S2 c.args.version c.args.country c.args.raw.now c.args.end a) (c.comes_before.ensures.0 c.if-not-comes_before.false)
  where
    a : State
    a = state g.S.Store c.args.tx.now.conn.now

pub returns-then-not-comes_before-2-clause-told : goal.returns-then-not-comes_before-2-clause-told
returns-then-not-comes_before-2-clause-told g c clean =
    asked.stops_at c.args.version c.args.country c.args.raw.now c.args.end a S3 c.comes_before-2.result c.if-not-comes_before-2.true c.comes_before-2.ensures
    (asked.up_to_S3 c.args.version c.args.country c.args.raw.now c.args.end a c.has_identity.result c.if-not-has_identity.false c.has_identity.ensures)
  where
    a : State
    a = state g.S.Store c.args.tx.now.conn.now

pub returns-then-not-branch-clause-told : goal.returns-then-not-branch-clause-told
returns-then-not-branch-clause-told g c clean =
    let before = c.comes_before-2.ensures.0 c.if-not-comes_before-2.false in
    asked.breaks_at c.args.version c.args.country c.args.raw.now c.args.end a S3 c.in_ok-has_guarantees.field-0 c.if-not-branch.true
    (asked.guarantees_told c.args.version c.args.country c.args.raw.now c.args.end a c.in_ok-has_guarantees.field-0 before (c.in_ok-has_guarantees.ensures.told clean))
    (asked.up_to_S3 c.args.version c.args.country c.args.raw.now c.args.end a c.has_identity.result c.if-not-has_identity.false c.has_identity.ensures) before
  where
    a : State
    a = state g.S.Store c.args.tx.now.conn.now

pub returns-then-not-comes_before-3-clause-told : goal.returns-then-not-comes_before-3-clause-told
returns-then-not-comes_before-3-clause-told g c clean =
    asked.stops_at c.args.version c.args.country c.args.raw.now c.args.end a S4 c.comes_before-3.result c.if-not-comes_before-3.true c.comes_before-3.ensures
    (asked.up_to_S4 c.args.version c.args.country c.args.raw.now c.args.end a c.in_ok-has_guarantees.field-0 c.if-not-branch.false
    (c.comes_before-2.ensures.0 c.if-not-comes_before-2.false) (c.in_ok-has_guarantees.ensures.told clean)
    (asked.up_to_S3 c.args.version c.args.country c.args.raw.now c.args.end a c.has_identity.result c.if-not-has_identity.false c.has_identity.ensures))
  where
    a : State
    a = state g.S.Store c.args.tx.now.conn.now

pub returns-then-not-branch-2-clause-told : goal.returns-then-not-branch-2-clause-told
returns-then-not-branch-2-clause-told g c clean =
    let before = c.comes_before-3.ensures.0 c.if-not-comes_before-3.false in
    asked.breaks_at c.args.version c.args.country c.args.raw.now c.args.end a S4 c.in_ok-has_codes.field-0 c.if-not-branch-2.true
    (asked.codes_told c.args.version c.args.country c.args.raw.now c.args.end a b read c.in_ok-has_codes.field-0 before (c.in_ok-has_codes.ensures.told clean))
    (asked.up_to_S4 c.args.version c.args.country c.args.raw.now c.args.end a c.in_ok-has_guarantees.field-0 c.if-not-branch.false
    (c.comes_before-2.ensures.0 c.if-not-comes_before-2.false) (c.in_ok-has_guarantees.ensures.told clean_b)
    (asked.up_to_S3 c.args.version c.args.country c.args.raw.now c.args.end a c.has_identity.result c.if-not-has_identity.false c.has_identity.ensures)) before
  where
    a : State
    a = state g.S.Store c.args.tx.now.conn.now

    b : State
    b = state g.S.Store c.has_guarantees.new.tx.conn.now

    clean_b : HasCleanDisk b
    clean_b = omega (arith, clean, c.has_codes.ensures.reads.within.survives.clean)

    read : OnlyReadIn (IsOfVersion c.args.version) a b
    read = c.in_ok-has_guarantees.ensures.reads.still clean_b refl

pub returns-then-not-branch-2-clause-reads : goal.returns-then-not-branch-2-clause-reads
returns-then-not-branch-2-clause-reads g c = reads_on c.in_ok-has_guarantees.ensures.reads (anywhere c.in_ok-has_codes.ensures.reads)

pub returns-clause-told : goal.returns-clause-told
returns-clause-told g c clean =
    asked.all_told c.args.version c.args.country c.args.raw.now c.args.end a d
    (more_read (IsOfVersion c.args.version) a b d read (any_read (IsOfVersion c.args.version) clean_d c.in_ok-has_codes.ensures.reads))
    (asked.up_to_S5 c.args.version c.args.country c.args.raw.now c.args.end a b read c.in_ok-has_codes.field-0 c.if-not-branch-2.false
    (c.comes_before-3.ensures.0 c.if-not-comes_before-3.false) (c.in_ok-has_codes.ensures.told clean_d)
    (asked.up_to_S4 c.args.version c.args.country c.args.raw.now c.args.end a c.in_ok-has_guarantees.field-0 c.if-not-branch.false
    (c.comes_before-2.ensures.0 c.if-not-comes_before-2.false) (c.in_ok-has_guarantees.ensures.told clean_b)
    (asked.up_to_S3 c.args.version c.args.country c.args.raw.now c.args.end a c.has_identity.result c.if-not-has_identity.false c.has_identity.ensures)))
    c.first_of_movements.result (c.first_of_movements.ensures.told clean)
  where
    a : State
    a = state g.S.Store c.args.tx.now.conn.now

    b : State
    b = state g.S.Store c.has_guarantees.new.tx.conn.now

    d : State
    d = state g.S.Store c.has_codes.new.tx.conn.now

    clean_d : HasCleanDisk d
    clean_d = omega (arith, clean, c.first_of_movements.ensures.reads.within.survives.clean)

    clean_b : HasCleanDisk b
    clean_b = omega (arith, clean_d, c.has_codes.ensures.reads.within.survives.clean)

    read : OnlyReadIn (IsOfVersion c.args.version) a b
    read = c.in_ok-has_guarantees.ensures.reads.still clean_b refl

pub returns-clause-reads : goal.returns-clause-reads
returns-clause-reads g c =
    reads_on (reads_on {w = true} c.in_ok-has_guarantees.ensures.reads (anywhere c.in_ok-has_codes.ensures.reads)) c.first_of_movements.ensures.reads
