use Rattle.std.proofs.Common.{◌∙◌, ◌≡◌, ◌≤◌, ℕ, ◌+◌, [], ◌∷◌, ◌++◌, ap, refl, sym, subst, take}
use Rattle.std.proofs.lemmas.List.{take_all, take_more}
use Rattle.std.proofs.lemmas.List.Sums.{sum_by-take-le}
use Rattle.sqlite.specs.Held.{state}
use Rattle.sqlite.specs.State.{State}
use Rattle.td_store_write.specs.InUse.{amount_on, cents_at}
use Rattle.td_store_write.proofs.Following.{HasFollowed, follow_next, nothing_followed}
use Rattle.td_store_write.proofs.amounts.change_by_lines.Goals as goal

pub lines-init : goal.lines-init
lines-init g c = (refl, nothing_followed c.args.holder c.args.status c.args.lines.now (state g.S.Store c.args.tx.now.conn.now))

pub lines-preserved : goal.lines-preserved
lines-preserved g c = (c.change_one.ensures.same_reference ∙ c.lines.invariant.0, more)
  where
    a : State
    a = state g.S.Store c.args.tx.now.conn.now

    b : State
    b = state g.S.Store c.lines.tx.conn.now

    d : State
    d = state g.S.Store c.change_one.new.tx.conn.now

    split : take (c.lines.line-index + 1) c.args.lines.now ≡ take c.lines.line-index c.args.lines.now ++ c.line-item.result ∷ []
    split = take_more c.args.lines.now c.lines.line-index _ c.lines-test.true ∙ ap (λ x. take c.lines.line-index c.args.lines.now ++ x ∷ []) (sym c.line-item.is)

    low : (n : ℕ) → amount_on n (take c.lines.line-index c.args.lines.now ++ c.line-item.result ∷ []) ≤ amount_on n c.args.lines.now
    low n = subst (λ l. amount_on n l ≤ amount_on n c.args.lines.now) split (sum_by-take-le (cents_at n) c.args.lines.now (c.lines.line-index + 1))

    more : HasFollowed c.args.holder c.args.status (take (c.lines.line-index + 1) c.args.lines.now) c.args.lines.now a d
    more = subst (λ l. HasFollowed c.args.holder c.args.status l c.args.lines.now a d) (sym split)
        (follow_next c.args.holder c.args.status (take c.lines.line-index c.args.lines.now) c.args.lines.now c.line-item.result a b d low c.lines.invariant.1
        c.in_ok-change_one.ensures.changed c.in_ok-change_one.ensures.within)

pub returns-clause-changed : goal.returns-clause-changed
returns-clause-changed g c clean = rw (take_all c.lines.line-index c.args.lines.now c.lines-test.false) at (c.lines.invariant.1.tables clean)
