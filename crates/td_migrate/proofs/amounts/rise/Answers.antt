use Rattle.std.proofs.Common.{◌≡◌, ◌∷◌, ◌+◌, drop, get_or, refl, subst, sym, arith}
use Rattle.std.proofs.lemmas.Bool.{false≢true}
use Rattle.std.proofs.lemmas.List.{drop_all, drop_more}
use Rattle.keyed_rows.specs.Rows.{Rises}
use Rattle.td_store_rows.specs.MovementTable.{serial_of_stored}
use Rattle.td_migrate.proofs.amounts.rise.Goals as goal

pub loop-row-init : goal.loop-row-init
loop-row-init c = (λ rises. rises, λ rises. rises)

pub returns-then-serial-least : goal.returns-then-serial-least
returns-then-serial-least c = (
  λ t. absurd (false≢true t),
  λ rises.
      let next = subst (Rises serial_of_stored c.loop-row.least) (drop_more c.args.serials.now c.loop-row.row-index (record { serial = 0 }) c.loop-row-test.true) (c.loop-row.invariant.0 rises) in
      absurd (omega (arith, c.if-serial-least.true, c.from-serial.ensures, next.0)),
)

pub loop-row-preserved : goal.loop-row-preserved
loop-row-preserved c = (
  λ rises. subst (λ k. Rises serial_of_stored (k + 1) (drop (c.loop-row.row-index + 1) c.args.serials.now)) (sym c.from-serial.ensures)
      (subst (Rises serial_of_stored c.loop-row.least) next (c.loop-row.invariant.0 rises)).1,
  λ later. c.loop-row.invariant.1 (subst (Rises serial_of_stored c.loop-row.least) (sym next)
      (omega (arith, c.if-serial-least.false, c.from-serial.ensures), subst (λ k. Rises serial_of_stored (k + 1) (drop (c.loop-row.row-index + 1) c.args.serials.now)) c.from-serial.ensures later)),
)
  where
    next : drop c.loop-row.row-index c.args.serials.now ≡ get_or c.args.serials.now c.loop-row.row-index (record { serial = 0 }) ∷ drop (c.loop-row.row-index + 1) c.args.serials.now
    next = drop_more c.args.serials.now c.loop-row.row-index (record { serial = 0 }) c.loop-row-test.true

pub returns : goal.returns
returns c = (
  λ t. c.loop-row.invariant.1 (subst (Rises serial_of_stored c.loop-row.least) (sym (drop_all c.loop-row.row-index c.args.serials.now c.loop-row-test.false)) tt),
  λ rises. refl,
)
