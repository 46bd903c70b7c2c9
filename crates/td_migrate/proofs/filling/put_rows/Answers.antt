use Rattle.std.proofs.Common.{◌∙◌, ◌≡◌, ◌+◌, ℕ, [], ◌∷◌, ◌++◌, ap, get_or, map, refl, sym, subst, take}
use Rattle.std.proofs.lemmas.List.{take_all, take_more, map-append}
use Rattle.sqlite.specs.Held.{state}
use Rattle.sqlite.specs.State.{State}
use Rattle.typed_sql.proofs.OnlyRead.{stays_nothing, stays_on}
use Rattle.td_store_audit.specs.Totals.{AreTotals}
use Rattle.td_store_rows.specs.Columns.{kept_typing}
use Rattle.td_store_rows.specs.GuaranteeTable.{guarantee_row_of}
use Rattle.td_migrate.specs.Filled.{IsFirst, with_sum}
use Rattle.td_migrate.specs.Put.{IsAnyFile}
use Rattle.td_migrate.proofs.Putting.{HasPut, nothing_put, put_then}
use Rattle.td_migrate.proofs.filling.put_rows.Goals as goal

pub rows-init : goal.rows-init
rows-init g c = (
  refl,
  stays_nothing,
  λ sums are. nothing_put IsFirst kept_typing IsAnyFile (λ layout trees. []) (state g.S.Store c.args.tx.now.conn.now) (λ l at x any. refl),
)

pub rows-preserved : goal.rows-preserved
rows-preserved g c = (c.put_row.ensures.same_reference ∙ c.rows.invariant.0, stays_on c.rows.invariant.1 c.in_ok-put_row.ensures.within, more)
  where
    a : State
    a = state g.S.Store c.args.tx.now.conn.now

    b : State
    b = state g.S.Store c.rows.tx.conn.now

    d : State
    d = state g.S.Store c.put_row.new.tx.conn.now

    split : map guarantee_row_of (take (c.rows.row-index + 1) c.args.rows.now)
        ≡ map guarantee_row_of (take c.rows.row-index c.args.rows.now) ++ guarantee_row_of c.row-item.result ∷ []
    split = ap (map guarantee_row_of) (take_more c.args.rows.now c.rows.row-index _ c.rows-test.true)
        ∙ map-append guarantee_row_of (take c.rows.row-index c.args.rows.now) (get_or c.args.rows.now c.rows.row-index _ ∷ [])
        ∙ ap (λ r. map guarantee_row_of (take c.rows.row-index c.args.rows.now) ++ guarantee_row_of r ∷ []) (sym c.row-item.is)

    more : (sums : ℕ → ℕ) → AreTotals sums c.args.totals.now
        → HasPut IsFirst kept_typing IsAnyFile (λ l trees. map (with_sum sums) (map guarantee_row_of (take (c.rows.row-index + 1) c.args.rows.now))) a d
    more sums are =
        subst (λ rows. HasPut IsFirst kept_typing IsAnyFile (λ l trees. map (with_sum sums) rows) a d) (sym split)
        (subst (λ rows. HasPut IsFirst kept_typing IsAnyFile (λ l trees. rows) a d)
        (sym (map-append (with_sum sums) (map guarantee_row_of (take c.rows.row-index c.args.rows.now)) (guarantee_row_of c.row-item.result ∷ [])))
        (put_then IsFirst kept_typing IsAnyFile IsAnyFile (λ l trees. map (with_sum sums) (map guarantee_row_of (take c.rows.row-index c.args.rows.now)))
        (λ l trees. map (with_sum sums) (guarantee_row_of c.row-item.result ∷ [])) a b d (λ l at x y others any. (tt, refl)) (c.rows.invariant.2 sums are)
        c.in_ok-put_row.ensures.within (λ clean. c.in_ok-put_row.ensures.filled clean sums are)))

pub returns-clause-filled : goal.returns-clause-filled
returns-clause-filled g c clean = λ sums are.
    rw (take_all c.rows.row-index c.args.rows.now c.rows-test.false) at ((c.rows.invariant.2 sums are).put clean)
