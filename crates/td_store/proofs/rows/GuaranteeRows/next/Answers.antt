use Rattle.std.proofs.Common.{◌≡◌, ◌∙◌, None, Ok, Option, Result, ap, map, subst, sym, ℕ}
use Rattle.std.specs.Option.{option_map}
use Rattle.std.specs.Prelude.{IfOk, IfSome}
use Rattle.sqlite.specs.Held.{state}
use Rattle.td_model.specs.Content.{Content}
use Rattle.td_desk.specs.declared.fault.Fault.{Fault}
use Rattle.td_guarantee.specs.declared.guarantee.Guarantee.{Guarantee}
use Rattle.td_store_load.specs.Placed.{guarantees_placed, with_holder}
use Rattle.td_store.specs.Kept.{content_in}
use Rattle.td_store.specs.Pulled.{Gives, MovesOn, left_at}
use Rattle.td_store.specs.Standing.{guarantee_given}
use Rattle.td_store.specs.declared.rows.Place.{Place}
use Rattle.td_store.specs.declared.rows.Place.TheVariants.{After}
use Rattle.td_store.proofs.Stepping.{IsStep, ends_so, gives_so, made_none, moves_on, of_made}
use Rattle.td_store.proofs.rows.GuaranteeRows.next.Goals as goal

pub returns-clause-gave : goal.returns-clause-gave
returns-clause-gave g c clean is =
    subst (λ (at : Place). Gives (map with_holder (left_at at (guarantees_placed old))) (Ok (option_map guarantee_given c.as_given.result))
    (map with_holder (left_at c.step-at.result.0 (guarantees_placed new)))) (sym c.in-After.is)
    (subst (λ (r : Result (Option (ℕ × (Guarantee × ℕ))) Fault). Gives (map with_holder (left_at (After c.in-After.holder c.in-After.serial) (guarantees_placed old))) r
    (map with_holder (left_at c.step-at.result.0 (guarantees_placed new)))) (c.in_ok-given.was ∙ ap Ok (sym c.as_given.ensures))
    (gives_so c.in-After.holder c.in-After.serial (guarantees_placed old) (guarantees_placed new) c.following_guarantee-found.result c.step-at.result step
    (λ well. ap guarantees_placed (c.following_guarantee-found.ensures.looked.same clean (c.following_guarantee-found.ensures.looked.shown clean well).1))
    (c.following_guarantee-found.ensures.found clean is)))
  where
    old : Content
    old = content_in (state g.S.Store c.args.self.now.desk.now).now.trees

    new : Content
    new = content_in (state g.S.Store c.following_guarantee-found.new.self).now.trees

    step : IsStep c.in-After.holder c.in-After.serial c.following_guarantee-found.result c.step-at.result
    step = record { some = c.step-at.ensures.some; other = c.step-at.ensures.other; none = c.step-at.ensures.none; err = c.step-at.ensures.err }

pub returns-clause-ends : goal.returns-clause-ends
returns-clause-ends g c none =
    let nothing : c.as_given.result ≡ None = cc in
    ends_so c.in-After.holder c.in-After.serial c.following_guarantee-found.result c.step-at.result
    (record { some = c.step-at.ensures.some; other = c.step-at.ensures.other; none = c.step-at.ensures.none; err = c.step-at.ensures.err })
    (c.in_ok-given.was ∙ ap Ok (sym c.as_given.ensures ∙ made_none guarantee_given c.as_given.result nothing))

pub returns-clause-rises : goal.returns-clause-rises
returns-clause-rises g c =
    rw c.in-After.is
    (of_made (λ x. MovesOn (After c.in-After.holder c.in-After.serial) x.0 c.step-at.result.0) guarantee_given c.as_given.result
    (subst (λ (r : Result (Option (ℕ × (Guarantee × ℕ))) Fault). IfOk r (λ given. IfSome given (λ x. MovesOn (After c.in-After.holder c.in-After.serial) x.0 c.step-at.result.0)))
    (c.in_ok-given.was ∙ ap Ok (sym c.as_given.ensures))
    (moves_on c.in-After.holder c.in-After.serial c.following_guarantee-found.result c.step-at.result
    (record { some = c.step-at.ensures.some; other = c.step-at.ensures.other; none = c.step-at.ensures.none; err = c.step-at.ensures.err }))))
