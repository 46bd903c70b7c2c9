use Rattle.std.proofs.Common.{ap, arith, refl, true}
use Rattle.std.specs.Prelude.{is_some}
use Rattle.sqlite.specs.Held.{state}
use Rattle.sqlite.specs.State.{State, HasCleanDisk}
use Rattle.td_table_model.specs.declared.rule.Rule.TheVariants.{S5, S6}
use Rattle.td_store_rows.specs.StoreReads.{IsOfVersion}
use Rattle.td_store_rows.proofs.StoreReads.{reads_on}
use Rattle.td_store_audit.specs.InFile.{OnlyReadIn}
use Rattle.td_store_audit.proofs.AskedParts as asked
use Rattle.td_store_audit.proofs.Reading.{any_read, anywhere, more_read}
use Rattle.td_store_check.proofs.rules.first_of_movements.Goals as goal

pub returns-then-not-comes_before-clause-told : goal.returns-then-not-comes_before-clause-told
returns-then-not-comes_before-clause-told g c clean =
    asked.stops_at c.args.version c.args.country c.args.raw.now c.args.end a S5 c.comes_before.result c.if-not-comes_before.true c.comes_before.ensures
    (asked.up_to_S5 c.args.version c.args.country c.args.raw.now c.args.end a)
  where
    a : State
    a = state g.S.Store c.args.tx.now.conn.now

pub returns-in_default-clause-told : goal.returns-in_default-clause-told
returns-in_default-clause-told g c clean =
    let before = c.comes_before.ensures.0 c.if-not-comes_before.false in
    asked.breaks_at c.args.version c.args.country c.args.raw.now c.args.end a S5 (is_some c.in_ok-movements.field-0) (ap is_some c.in_default.is)
    (asked.movements_told c.args.version c.args.country c.args.raw.now c.args.end a (is_some c.in_ok-movements.field-0) before (c.in_ok-movements.ensures.told clean))
    (asked.up_to_S5 c.args.version c.args.country c.args.raw.now c.args.end a) before
  where
    a : State
    a = state g.S.Store c.args.tx.now.conn.now

pub returns-in_default-clause-reads : goal.returns-in_default-clause-reads
returns-in_default-clause-reads g c = anywhere c.in_ok-movements.ensures.reads

pub returns-then-not-comes_before-2-clause-told : goal.returns-then-not-comes_before-2-clause-told
returns-then-not-comes_before-2-clause-told g c clean =
    asked.stops_at c.args.version c.args.country c.args.raw.now c.args.end a S6 c.comes_before-2.result c.if-not-comes_before-2.true c.comes_before-2.ensures
    (asked.up_to_S6 c.args.version c.args.country c.args.raw.now c.args.end a (is_some c.in_ok-movements.field-0) (ap is_some c.in-Some.is)
    (c.comes_before.ensures.0 c.if-not-comes_before.false) (c.in_ok-movements.ensures.told clean))
  where
    a : State
    a = state g.S.Store c.args.tx.now.conn.now

pub returns-then-not-comes_before-2-clause-reads : goal.returns-then-not-comes_before-2-clause-reads
returns-then-not-comes_before-2-clause-reads g c = anywhere c.in_ok-movements.ensures.reads

pub returns-in_default-2-clause-told : goal.returns-in_default-2-clause-told
returns-in_default-2-clause-told g c clean =
    let before = c.comes_before-2.ensures.0 c.if-not-comes_before-2.false in
    asked.breaks_at c.args.version c.args.country c.args.raw.now c.args.end a S6 (is_some c.in_ok-totals.field-0) (ap is_some c.in_default-2.is)
    (asked.lines_told c.args.version c.args.country c.args.raw.now c.args.end a b (any_read (IsOfVersion c.args.version) clean_b c.in_ok-movements.ensures.reads) before
    c.in-Some.movements.raw (rw c.in-Some.is at c.in_ok-movements.ensures.holder) (is_some c.in_ok-totals.field-0) (c.in_ok-totals.ensures.told clean))
    (asked.up_to_S6 c.args.version c.args.country c.args.raw.now c.args.end a (is_some c.in_ok-movements.field-0) (ap is_some c.in-Some.is)
    (c.comes_before.ensures.0 c.if-not-comes_before.false) (c.in_ok-movements.ensures.told clean_b)) before
  where
    a : State
    a = state g.S.Store c.args.tx.now.conn.now

    b : State
    b = state g.S.Store c.kept_movements.new.tx.conn.now

    clean_b : HasCleanDisk b
    clean_b = omega (arith, clean, c.kept_lines.ensures.reads.within.survives.clean)

pub returns-in_default-2-clause-reads : goal.returns-in_default-2-clause-reads
returns-in_default-2-clause-reads g c = reads_on (anywhere c.in_ok-movements.ensures.reads) c.in_ok-totals.ensures.reads

pub returns-clause-told : goal.returns-clause-told
returns-clause-told g c clean =
    let before = c.comes_before.ensures.0 c.if-not-comes_before.false in
    let of_lines = c.comes_before-2.ensures.0 c.if-not-comes_before-2.false in
    asked.all_told c.args.version c.args.country c.args.raw.now c.args.end a b read of_lines (record { movements = c.in-Some.movements; totals = c.in-Some-2.totals })
    (rw c.in-Some.is at c.in_ok-movements.ensures.holder) before (rw c.in-Some.is at (c.in_ok-movements.ensures.handed clean_b))
    (rw c.in-Some-2.is at (c.in_ok-totals.ensures.handed clean_d)) d
    (more_read (IsOfVersion c.args.version) a b d read (c.in_ok-totals.ensures.reads.still clean_d refl))
    (asked.up_to_S7 c.args.version c.args.country c.args.raw.now c.args.end a b read of_lines c.in-Some.movements.raw (rw c.in-Some.is at c.in_ok-movements.ensures.holder) (is_some c.in_ok-totals.field-0) (ap is_some c.in-Some-2.is)
    (c.in_ok-totals.ensures.told clean_d)
    (asked.up_to_S6 c.args.version c.args.country c.args.raw.now c.args.end a (is_some c.in_ok-movements.field-0) (ap is_some c.in-Some.is) before
    (c.in_ok-movements.ensures.told clean_b)))
    c.first_of_use.result (c.first_of_use.ensures.told clean)
  where
    a : State
    a = state g.S.Store c.args.tx.now.conn.now

    b : State
    b = state g.S.Store c.kept_movements.new.tx.conn.now

    d : State
    d = state g.S.Store c.kept_lines.new.tx.conn.now

    clean_d : HasCleanDisk d
    clean_d = omega (arith, clean, c.first_of_use.ensures.reads.within.survives.clean)

    clean_b : HasCleanDisk b
    clean_b = omega (arith, clean_d, c.kept_lines.ensures.reads.within.survives.clean)

    read : OnlyReadIn (IsOfVersion c.args.version) a b
    read = any_read (IsOfVersion c.args.version) clean_b c.in_ok-movements.ensures.reads

pub returns-clause-reads : goal.returns-clause-reads
returns-clause-reads g c =
    reads_on (reads_on {w = true} (anywhere c.in_ok-movements.ensures.reads) c.in_ok-totals.ensures.reads) c.first_of_use.ensures.reads
