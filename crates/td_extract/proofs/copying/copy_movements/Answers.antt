use Rattle.std.proofs.Common.{rules, true, ◌≡◌, ◌∙◌, ◌≤◌, ℕ, arith, refl, subst}
use Rattle.sqlite.specs.Held.{state}
use Rattle.sqlite.specs.State.{State}
use Rattle.typed_sql.specs.Reading.{StaysInside}
use Rattle.typed_sql.proofs.OnlyRead.{stays_on}
use Rattle.td_store_rows.specs.StoreReads.{ReadsNewest}
use Rattle.td_store_rows.proofs.StoreReads.{reads_on}
use Rattle.td_extract.specs.Copied.{Copies, rows_within, movements_within, lines_within}
use Rattle.td_extract.proofs.Copied.{HasCopied, copied_then, nothing_copied}
use Rattle.td_extract.proofs.Picked.{movements_of_range, movements_more, no_movements}
use Rattle.td_extract.proofs.copying.copy_movements.Goals as goal

pub parts-init : goal.parts-init
parts-init g c = (
  refl,
  refl,
  omega arith,
  nothing_copied (movements_within c.args.holder 0 0) (state g.S.Store c.args.from.now.conn.now) (no_movements (state g.S.Store c.args.from.now.conn.now) c.args.holder)
      (state g.T.Store c.args.to.now.conn.now),
)

-- one range more
pub parts-preserved : goal.parts-preserved
parts-preserved g c = (
  c.copy_lines.ensures.same_source ∙ c.copy_rows.ensures.same_source ∙ c.parts.invariant.0,
  c.copy_lines.ensures.same_target ∙ c.copy_rows.ensures.same_target ∙ c.parts.invariant.1,
  omega (arith, c.range_end-next.ensures c.parts-test.true, c.parts-test.true),
  copied_then (movements_within H 0 first) (movements_within H first next) (movements_within H 0 next) a (movements_more a H first next up) b e o p r c.parts.invariant.3 range,
)
  where
    H : ℕ
    H = c.args.holder

    first : ℕ
    first = c.parts.first

    next : ℕ
    next = c.range_end-next.result

    a : State
    a = state g.S.Store c.args.from.now.conn.now

    b : State
    b = state g.S.Store c.parts.from.conn.now

    d : State
    d = state g.S.Store c.copy_rows.new.from.conn.now

    e : State
    e = state g.S.Store c.copy_lines.new.from.conn.now

    o : State
    o = state g.T.Store c.args.to.now.conn.now

    p : State
    p = state g.T.Store c.parts.to.conn.now

    q : State
    q = state g.T.Store c.copy_rows.new.to.conn.now

    r : State
    r = state g.T.Store c.copy_lines.new.to.conn.now

    up : first ≤ next
    up = omega (arith, c.range_end-next.ensures c.parts-test.true, c.parts-test.true)

    one : HasCopied (rows_within H first next) b d p q
    one = record { reads = c.in_ok-copy_rows.ensures.reads; within = c.in_ok-copy_rows.ensures.within; copies = c.in_ok-copy_rows.ensures.copied }

    two : HasCopied (lines_within H first next) d e q r
    two = record { reads = c.in_ok-copy_lines.ensures.reads; within = c.in_ok-copy_lines.ensures.within; copies = c.in_ok-copy_lines.ensures.copied }

    range : HasCopied (movements_within H first next) b e p r
    range = copied_then (rows_within H first next) (lines_within H first next) (movements_within H first next) b (movements_of_range b H first next) d e p q r one two

pub returns-clause-copied : goal.returns-clause-copied
returns-clause-copied g c clean clean_to =
    let a : State = state g.S.Store c.args.from.now.conn.now in
    let o : State = state g.T.Store c.args.to.now.conn.now in
    let p : State = state g.T.Store c.parts.to.conn.now in
    let last : c.parts.first ≡ c.args.end = omega (arith, c.parts.invariant.2, c.parts-test.false) in
    subst (λ n. Copies (movements_within c.args.holder 0 n) a o p) last (c.parts.invariant.3.copies clean clean_to)

pub returns-in_err-copy_lines-clause-reads : goal.returns-in_err-copy_lines-clause-reads
returns-in_err-copy_lines-clause-reads g c =
    let a : State = state g.S.Store c.args.from.now.conn.now in
    let d : State = state g.S.Store c.copy_rows.new.from.conn.now in
    let before : ReadsNewest true a d = reads_on c.parts.invariant.3.reads c.in_ok-copy_rows.ensures.reads in
    search (rules, before)

pub returns-in_err-copy_lines-clause-within : goal.returns-in_err-copy_lines-clause-within
returns-in_err-copy_lines-clause-within g c =
    let o : State = state g.T.Store c.args.to.now.conn.now in
    let q : State = state g.T.Store c.copy_rows.new.to.conn.now in
    let before : StaysInside true o q = stays_on c.parts.invariant.3.within c.in_ok-copy_rows.ensures.within in
    search (rules, before)
