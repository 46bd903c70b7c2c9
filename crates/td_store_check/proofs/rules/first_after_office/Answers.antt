use Rattle.std.proofs.Common.{◌∙◌, ◌<◌, None, arith, refl, subst, sym, true}
use Rattle.sqlite.specs.Held.{state}
use Rattle.sqlite.specs.State.{State, HasCleanDisk}
use Rattle.td_schema.specs.declared.layout.Layout.{Layout}
use Rattle.td_store_rows.specs.Columns.{holder_typing}
use Rattle.td_store_rows.specs.StoreReads.{IsOfVersion, ReadsVersion}
use Rattle.td_store_rows.proofs.StoreReads.{reads_on}
use Rattle.td_store_audit_rows.specs.NextHolder.{ComesNext, HasLeastAbove, IsNextHolder}
use Rattle.td_store_audit_rows.specs.Untyped.{AllRows, HasNumber}
use Rattle.td_store_audit_rows.specs.declared.holders.RawHolder.{RawHolder}
use Rattle.td_store_audit.specs.FirstRule.{IsFirstNot}
use Rattle.td_store_audit.specs.HolderRules.{HolderKeeps, IsAskable}
use Rattle.td_store_audit.specs.InFile.{IsSoWhere}
use Rattle.td_store_audit.proofs.Reading.{anywhere, reads_none, so_before}
use Rattle.td_store_audit.proofs.Walked.{IsWalked, askable, walk_begins, walk_ends, walk_goes_on}
use Rattle.td_store_check.proofs.rules.first_after_office.Goals as goal

pub holders-init : goal.holders-init
holders-init g c = (
  refl,
  reads_none,
  λ clean layout own has office.
      walk_begins c.args.country c.args.readable layout (state g.S.Store c.args.tx.now.conn.now).now.trees office.kept c.first_unread-least.result c.first_unread-least.ensures,
)

pub holders-preserved : goal.holders-preserved
holders-preserved g c = (
  c.first_of_holder.ensures.same_reference ∙ c.holder_above.ensures.same_reference ∙ c.holders.invariant.0,
  reads_on upto_m c.in_ok-least.ensures.reads,
  λ clean layout own has office.
      let walked = c.holders.invariant.2 (clean_b clean) layout own has office in
      subst (λ n. IsWalked c.args.country c.args.readable n c.in_ok-least.least layout a.now.trees) (sym c.number-number.ensures.value)
      (walk_goes_on c.args.country c.args.readable layout a.now.trees office.kept c.holders.number raw (next clean layout own has office.kept.numbers) above
      c.holders.least c.in_ok-least.least walked (asked clean layout own has (askable c.args.country c.args.readable c.holders.number c.holders.least layout a.now.trees office walked))),
)
  where
    At : Layout → Type 0
    At = IsOfVersion c.args.version

    a : State
    a = state g.S.Store c.args.tx.now.conn.now

    b : State
    b = state g.S.Store c.holders.tx.conn.now

    m : State
    m = state g.S.Store c.holder_above.new.tx.conn.now

    d : State
    d = state g.S.Store c.first_of_holder.new.tx.conn.now

    raw : RawHolder
    raw = c.in-Some.raw

    upto_m : ReadsVersion c.args.version true a m
    upto_m = reads_on c.holders.invariant.1 (anywhere c.in_ok-raw.ensures.reads)

    clean_m : HasCleanDisk d → HasCleanDisk m
    clean_m clean = omega (arith, clean, c.first_of_holder.ensures.reads.within.survives.clean)

    clean_b : HasCleanDisk d → HasCleanDisk b
    clean_b clean = omega (arith, clean_m clean, c.holder_above.ensures.reads.within.survives.clean)

    above : c.holders.number < raw.holder
    above = rw c.in-Some.is at c.in_ok-raw.ensures.above

    next : HasCleanDisk d → IsSoWhere At (λ layout. AllRows holder_typing HasNumber) (λ layout trees. HasLeastAbove c.holders.number (trees holder_typing.table.tree) raw) a
    next clean =
        so_before At (λ layout. AllRows holder_typing HasNumber) (λ layout trees. HasLeastAbove c.holders.number (trees holder_typing.table.tree) raw) a b
        (c.holders.invariant.1.still (clean_b clean) refl)
        (λ layout own. subst (IsNextHolder c.holders.number b) c.in-Some.is (c.in_ok-raw.ensures.found (clean_m clean)) layout)

    asked : HasCleanDisk d → IsSoWhere At (IsAskable c.holders.least) (λ layout trees. IsFirstNot (HolderKeeps layout c.args.country trees raw) c.holders.least c.in_ok-least.least) a
    asked clean =
        so_before At (IsAskable c.holders.least) (λ layout trees. IsFirstNot (HolderKeeps layout c.args.country trees raw) c.holders.least c.in_ok-least.least) a m
        (upto_m.still (clean_m clean) refl) (c.in_ok-least.ensures.told clean)

pub returns-clause-told : goal.returns-clause-told
returns-clause-told g c clean layout own has office =
    walk_ends c.args.country c.args.readable c.holders.number c.holders.least layout a.now.trees office
    (none layout own has office.kept.numbers) (c.holders.invariant.2 clean_b layout own has office)
  where
    At : Layout → Type 0
    At = IsOfVersion c.args.version

    a : State
    a = state g.S.Store c.args.tx.now.conn.now

    b : State
    b = state g.S.Store c.holders.tx.conn.now

    clean_b : HasCleanDisk b
    clean_b = omega (arith, clean, c.holder_above.ensures.reads.within.survives.clean)

    none : IsSoWhere At (λ layout. AllRows holder_typing HasNumber) (λ layout trees. ComesNext c.holders.number (trees holder_typing.table.tree) None) a
    none =
        so_before At (λ layout. AllRows holder_typing HasNumber) (λ layout trees. ComesNext c.holders.number (trees holder_typing.table.tree) None) a b
        (c.holders.invariant.1.still clean_b refl) (λ layout own. subst (IsNextHolder c.holders.number b) c.in_default.is (c.in_ok-raw.ensures.found clean) layout)

pub returns-clause-reads : goal.returns-clause-reads
returns-clause-reads g c = reads_on c.holders.invariant.1 (anywhere c.in_ok-raw.ensures.reads)
