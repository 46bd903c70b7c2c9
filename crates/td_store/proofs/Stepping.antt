-- Where a walk stands after a step, and what it gave.
use Rattle.std.proofs.Common.{◌≡◌, ◌⊎◌, ◌<◌, ℕ, Bool, true, false, List, map, Err, None, Ok, Option, Result, Some, ap, arith, inl, inr, refl, subst, sym}
use Rattle.std.specs.Option.{option_map}
use Rattle.std.specs.Prelude.{◌==◌, ◌&&◌, ◌||◌, IfErr, IfOk, IfSome, IsTrue, is_ok, nat_lt}
use Rattle.std.proofs.lemmas.Bool.Decides.{nat_tests}
use Rattle.td_desk.specs.declared.fault.Fault.{Fault}
use Rattle.td_desk.specs.declared.fault.Fault.TheVariants.{Store}
use Rattle.td_table_model.specs.Tables.{Keyed}
use Rattle.td_store_load.specs.Placed.{ComesNext, behind, found_at, is_behind, with_holder}
use Rattle.td_store_load.proofs.Listing.{next_is_behind}
use Rattle.typed_sql.proofs.Ordered.{both_pass}
use Rattle.td_store.specs.Pulled.{Gives, MovesOn, left_at}
use Rattle.td_store.specs.declared.rows.Place.{Place}
use Rattle.td_store.specs.declared.rows.Place.TheVariants.{After, Ended, Failed}

-- what was found of something, and a step of a walk along it
abbrev pub Answer : Type 0 → Type 0
Answer X = Result (Option (ℕ × ℕ × X)) Fault

abbrev pub Step : Type 0 → Type 0
Step X = Place × Result (Option (ℕ × X)) Fault

module _ {X : Type 0} (H n : ℕ) where
  -- what a step says
  pub record IsStep (found : Answer X) (step : Step X) : Type 0 where
    pub some : IfOk found (λ o. IfSome o (λ x. is_behind H n (found_at x) ≡ true → step ≡ (After x.0 x.1, Ok (Some (x.0, x.2)))))
    pub other : IfOk found (λ o. IfSome o (λ x. is_behind H n (found_at x) ≡ false → step ≡ (Failed Store, Err Store)))
    pub none : found ≡ Ok None → step ≡ (Ended, Ok None)
    pub err : IfErr found (λ fault. step ≡ (Failed fault, Err fault))

  behind_it : (x : ℕ × ℕ × X) → is_behind H n (found_at x) ≡ true → (H < x.0) ⊎ ((H ≡ x.0) × (n < x.1))
  behind_it x = by_test (nat_lt H x.0) refl
    where
      by_test : (b : Bool) → nat_lt H x.0 ≡ b → (b || (x.0 == H && nat_lt n x.1)) ≡ true → (H < x.0) ⊎ ((H ≡ x.0) × (n < x.1))
      by_test true less is = inl (grind (arith, nat_tests, less))
      by_test false other is =
          let both = both_pass (x.0 == H) (nat_lt n x.1) is in
          let same = both.0 in
          let later = both.1 in
          inr (grind (arith, nat_tests, same), grind (arith, nat_tests, later))

  -- what follows of a step from what follows of each that there is
  by_step : (P : Step X → Type 0) → ((x : ℕ × ℕ × X) → is_behind H n (found_at x) ≡ true → P (After x.0 x.1, Ok (Some (x.0, x.2))))
      → P (Ended, Ok None) → ((fault : Fault) → P (Failed fault, Err fault)) → (found : Answer X) (step : Step X) → IsStep found step → P step
  by_step P some none err (Ok (Some x)) step is = by_test (is_behind H n (found_at x)) refl
    where
      by_test : (b : Bool) → is_behind H n (found_at x) ≡ b → P step
      by_test true here = subst P (sym (is.some here)) (some x here)
      by_test false here = subst P (sym (is.other here)) (err Store)
  by_step P some none err (Ok None) step is = subst P (sym (is.none refl)) none
  by_step P some none err (Err fault) step is = subst P (sym is.err) (err fault)

  -- it moves on to what it gives
  pub moves_on : (found : Answer X) (step : Step X) → IsStep found step → IfOk step.1 (λ given. IfSome given (λ x. MovesOn (After H n) x.0 step.0))
  moves_on =
      by_step (λ step. IfOk step.1 (λ given. IfSome given (λ x. MovesOn (After H n) x.0 step.0))) (λ x here. (refl, behind_it x here)) tt (λ fault. tt)

  -- the fault that it answers is the one by which it failed
  pub fails_so : (fault : Fault) (found : Answer X) (step : Step X) → IsStep found step → step.1 ≡ Err fault → step.0 ≡ Failed fault
  fails_so fault =
      by_step (λ step. step.1 ≡ Err fault → step.0 ≡ Failed fault) (λ x here same. absurd (let e = same in cc)) (λ same. absurd (let e = same in cc))
      (λ other same. let one : other ≡ fault = cc in ap Failed one)

  -- it has ended where it gives nothing more
  pub ends_so : (found : Answer X) (step : Step X) → IsStep found step → step.1 ≡ Ok None → step.0 ≡ Ended
  ends_so =
      by_step (λ step. step.1 ≡ Ok None → step.0 ≡ Ended) (λ x here same. absurd (let e = same in cc)) (λ same. refl)
      (λ fault same. absurd (let e = same in cc))

  -- and where what it found comes next of all, it gives the first of what was left
  pub gives_so : (all after : List (Keyed X)) (found : Answer X) (step : Step X) → IsStep found step → (IsTrue (is_ok found) → after ≡ all)
      → IfOk found (λ o. ComesNext H n all (option_map found_at o))
      → Gives (map with_holder (left_at (After H n) all)) step.1 (map with_holder (left_at step.0 after))
  gives_so all after (Ok (Some x)) step is same next =
      subst (λ (s : Step X). Gives (map with_holder (behind H n all)) s.1 (map with_holder (left_at s.0 after)))
      (sym (is.some (next_is_behind H n all (found_at x) next)))
      (rw (same refl) (ap (map with_holder) next))
  gives_so all after (Ok None) step is same next =
      subst (λ (s : Step X). Gives (map with_holder (behind H n all)) s.1 (map with_holder (left_at s.0 after))) (sym (is.none refl))
      (ap (map with_holder) next, refl)
  gives_so all after (Err fault) step is same next =
      subst (λ (s : Step X). Gives (map with_holder (behind H n all)) s.1 (map with_holder (left_at s.0 after))) (sym is.err) tt

-- what holds of what is made of something that may be there
pub of_made : {A B : Type 0} (P : B → Type 0) (f : A → B) (o : Option A) → IfSome (option_map f o) P → IfSome o (λ x. P (f x))
of_made P f None h = tt
of_made P f (Some x) h = h

-- nothing is made of nothing alone
pub made_none : {A B : Type 0} (f : A → B) (o : Option A) → o ≡ None → option_map f o ≡ None
made_none f o none = ap (option_map f) none
