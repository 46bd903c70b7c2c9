use Rattle.std.proofs.Common.{rules, true, ◌∙◌, ◌<◌, ◌≤◌, ◌-◌, ℕ, Some, arith, refl, subst, sym}
use Rattle.sqlite.specs.Held.{state}
use Rattle.sqlite.specs.State.{State, HasCleanDisk}
use Rattle.td_model.specs.declared.holder_row.HolderRow.{HolderRow}
use Rattle.typed_sql.specs.Reading.{StaysInside}
use Rattle.td_store_rows.proofs.StoreReads.{reads_on}
use Rattle.td_extract.specs.Copied.{of_holders}
use Rattle.td_extract.specs.Extracted.{IsNextOf}
use Rattle.td_extract.proofs.Copied.{HasCopied, nothing_copied, reads_failed}
use Rattle.td_extract.proofs.Picked.{no_holders}
use Rattle.td_extract.proofs.Walked.{all_copied, next_copied}
use Rattle.td_extract.proofs.holders.copy_holders.Goals as goal

pub holders-init : goal.holders-init
holders-init g c = (
  refl,
  refl,
  omega (arith, c.requires.begins),
  λ far. omega (arith, c.requires.begins),
  nothing_copied (of_holders c.args.first (c.args.first - 1)) a (no_holders a c.args.first (c.args.first - 1) (omega (arith, c.requires.begins))) (state g.T.Store c.args.to.now.conn.now),
)
  where
    a : State
    a = state g.S.Store c.args.from.now.conn.now

pub holders-preserved : goal.holders-preserved
holders-preserved g c = (
  c.copy_holder.ensures.same_source ∙ c.next_holder.ensures.same_reference ∙ c.holders.invariant.0,
  c.copy_holder.ensures.same_target ∙ c.holders.invariant.1,
  omega (arith, c.number-number.ensures.value, range.0, c.holders.invariant.2),
  λ far. absurd (omega (arith, c.number-number.ensures.value, range.1, far)),
  more,
)
  where
    row : HolderRow
    row = c.in-Some.row

    number : ℕ
    number = c.holders.number

    a : State
    a = state g.S.Store c.args.from.now.conn.now

    b : State
    b = state g.S.Store c.holders.from.conn.now

    m : State
    m = state g.S.Store c.next_holder.new.tx.conn.now

    d : State
    d = state g.S.Store c.copy_holder.new.from.conn.now

    o : State
    o = state g.T.Store c.args.to.now.conn.now

    p : State
    p = state g.T.Store c.holders.to.conn.now

    r : State
    r = state g.T.Store c.copy_holder.new.to.conn.now

    range : (number < row.holder) × (row.holder ≤ c.args.last)
    range = rw c.in-Some.is at c.in_ok-row.ensures.range

    next : HasCleanDisk m → IsNextOf number c.args.last b (Some row)
    next clean = subst (IsNextOf number c.args.last b) c.in-Some.is (c.in_ok-row.ensures.found clean)

    more : HasCopied (of_holders c.args.first c.number-number.result) a d o r
    more = subst (λ n. HasCopied (of_holders c.args.first n) a d o r) (sym c.number-number.ensures.value)
        (next_copied c.args.first number c.args.last row c.holders.invariant.2 range.0 a b m d o p r c.holders.invariant.4
        c.in_ok-row.ensures.reads next (record { reads = c.in_ok-copy_holder.ensures.reads; within = c.in_ok-copy_holder.ensures.within; copies = c.in_ok-copy_holder.ensures.copied }))

pub returns-clause-copied : goal.returns-clause-copied
returns-clause-copied g c clean clean_to =
    let a : State = state g.S.Store c.args.from.now.conn.now in
    let b : State = state g.S.Store c.holders.from.conn.now in
    let p : State = state g.T.Store c.holders.to.conn.now in
    all_copied c.args.first c.holders.number c.args.last c.holders.invariant.3 a b (state g.S.Store c.next_holder.new.tx.conn.now) (state g.T.Store c.args.to.now.conn.now) p
    c.holders.invariant.4 c.in_ok-row.ensures.reads (λ clean. subst (IsNextOf c.holders.number c.args.last b) c.in_default.is (c.in_ok-row.ensures.found clean)) clean clean_to

pub returns-in_err-copy_holder-clause-reads : goal.returns-in_err-copy_holder-clause-reads
returns-in_err-copy_holder-clause-reads g c =
    reads_failed c.from_residual-in_err-copy_holder.result c.from_residual-in_err-copy_holder.ensures.0
    (reads_on (reads_on c.holders.invariant.4.reads c.in_ok-row.ensures.reads) c.in_err-copy_holder.ensures.reads)

pub returns-in_err-copy_holder-clause-within : goal.returns-in_err-copy_holder-clause-within
returns-in_err-copy_holder-clause-within g c =
    let o : State = state g.T.Store c.args.to.now.conn.now in
    let p : State = state g.T.Store c.holders.to.conn.now in
    let before : StaysInside true o p = c.holders.invariant.4.within in
    search (rules, before)
