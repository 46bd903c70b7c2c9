-- The lines of a release: told the same of amounts that are the same, and what is in use after it.
use Rattle.std.proofs.Common.{◌≡◌, ◌≢◌, ℕ, ◌+◌, ◌≤◌, Bool, true, false, List, [], ◌∷◌, map, Option, Some, None, refl, sym, ◌∙◌, ap₂, ap, arith}
use Rattle.std.specs.Prelude.{AllPairs, ◌-◌, if◌then◌else◌, option_map}
use Rattle.std.specs.List.{AllByRecursion}
use Rattle.std.specs.Str.{bytes_eq}
use Rattle.std.proofs.lemmas.Bool.Decides.{nat_tests}
use Rattle.std.proofs.lemmas.List.Sums.{sum_by-cons}
use Rattle.std.proofs.lemmas.Slice.Eq.{bytes_eq-Decides}
use Rattle.td_movement.specs.declared.movement.Movement.{Movement}
use Rattle.td_movement.specs.States.{is_counting}
use Rattle.td_guarantee.specs.Usage.{has_ended, is_within, cents_on, lines_on, used_on}
use Rattle.td_model.specs.declared.change.NewStatus.{NewStatus}
use Rattle.td_commands.specs.declared.said.Refusal.{Refusal}
use Rattle.td_commands.specs.declared.said.Refusal.TheVariants.{GuaranteeEnded, OverReference}
use Rattle.td_model.specs.Account.{Account, ReferencesDiffer, entry_in, guarantee_by_grn, movement_by_mrn}
use Rattle.td_model.specs.Changes.{moved}
use Rattle.td_acts.specs.Deciding.{terms_alone}
use Rattle.td_model.specs.Sound.{IsCovered}
use Rattle.td_model.proofs.Cover.{lines_off}
use Rattle.td_model.proofs.ByKey.{KeysDiffer, behind_differ, first_differs, others_differ, each_found}
use Rattle.td_model.proofs.Joined.{AllByRecursion-weaker}
use Rattle.td_model.proofs.Steps.{used_moved}
use Rattle.td_movement.specs.declared.line.Line.{Line}
use Rattle.td_guarantee.specs.declared.guarantee.Guarantee.{Guarantee}
use Rattle.td_model.specs.Declaring.{refusal_or, cover_refusal, first_uncovered}

-- a line is refused by the terms of its guarantee, whatever its codes are
by_terms : (day cents : ℕ) (entry : Option (Guarantee × ℕ)) → cover_refusal day cents (option_map terms_alone entry) ≡ cover_refusal day cents entry
by_terms day cents None = refl
by_terms day cents (Some (g, used)) = refl

-- lines are refused alike over guarantees that are found alike, but for their codes
pub same_uncovered : (day : ℕ) (a b : List ℕ → Option (Guarantee × ℕ)) (lines : List Line) → AllByRecursion (λ l. a l.grn ≡ option_map terms_alone (b l.grn)) lines → first_uncovered day a lines ≡ first_uncovered day b lines
same_uncovered day a b [] same = refl
same_uncovered day a b (l ∷ lines) same = ap₂ refusal_or (ap (cover_refusal day l.cents) same.0 ∙ by_terms day l.cents (b l.grn)) (same_uncovered day a b lines same.1)

-- neither refuses
neither : (a b : Option Refusal) → refusal_or a b ≡ None → (a ≡ None) × (b ≡ None)
neither None b none = (refl, none)
neither (Some why) b none = cc

-- an amount that isn't refused fits
fits_if_fine : (day cents used : ℕ) (g : Guarantee) → cover_refusal day cents (Some (g, used)) ≡ None → used + cents ≤ g.reference
fits_if_fine day cents used g fine = by_tests (has_ended day g.ends) (is_within g.reference used cents) refl fine
  where
    by_tests : (e w : Bool) → is_within g.reference used cents ≡ w → (if◌then◌else◌ {A = Option Refusal} e (Some GuaranteeEnded) (if w then None else Some (OverReference (g.reference - used) g.grn))) ≡ None → used + cents ≤ g.reference
    by_tests true w is fine = cc
    by_tests false false is fine = cc
    by_tests false true is fine = grind (arith, nat_tests, is)

-- lines of which none is refused fit beside what is in use on a guarantee: at most one of them is on it
lines_fit : (day : ℕ) (entry : List ℕ → Option (Guarantee × ℕ)) (g : Guarantee) (used : ℕ) → entry g.grn ≡ Some (g, used) → used ≤ g.reference
    → (lines : List Line) → KeysDiffer (λ (l : Line). l.grn) lines → first_uncovered day entry lines ≡ None → used + lines_on g.grn lines ≤ g.reference
lines_fit day entry g used is within [] differ fine = omega (arith, within)
lines_fit day entry g used is within (l ∷ lines) differ fine =
    let each = neither (cover_refusal day l.cents (entry l.grn)) (first_uncovered day entry lines) fine in
    by_test (bytes_eq l.grn g.grn) refl each.0 (lines_fit day entry g used is within lines (behind_differ (λ (l : Line). l.grn) l lines differ) each.1)
  where
    by_test : (b : Bool) → bytes_eq l.grn g.grn ≡ b → cover_refusal day l.cents (entry l.grn) ≡ None → used + lines_on g.grn lines ≤ g.reference → used + lines_on g.grn (l ∷ lines) ≤ g.reference
    by_test true named fine later =
        let same : l.grn ≡ g.grn = (bytes_eq-Decides l.grn g.grn).0 named in
        let here : used + l.cents ≤ g.reference = fits_if_fine day l.cents used g (ap (cover_refusal day l.cents) (sym is ∙ ap entry (sym same)) ∙ fine) in
        let apart = others_differ (λ (l : Line). l.grn) l.grn lines (first_differs (λ (l : Line). l.grn) l lines differ) in
        let none : lines_on g.grn lines ≡ 0 = lines_off g.grn lines (AllByRecursion-weaker (λ (m : Line). l.grn ≢ m.grn) (λ (m : Line). m.grn ≢ g.grn) (λ m other e. other (same ∙ sym e)) lines apart) in
        let cents : cents_on g.grn l ≡ l.cents = rw named refl in
        omega (arith, sum_by-cons (cents_on g.grn) l lines, cents, none, here)
    by_test false other fine later =
        let cents : cents_on g.grn l ≡ 0 = rw other refl in
        omega (arith, sum_by-cons (cents_on g.grn) l lines, cents, later)

-- a movement has at most its lines in use
at_most_lines : (grn : List ℕ) (m : Movement) (b : Bool) → (if b then lines_on grn m.lines else 0) ≤ lines_on grn m.lines
at_most_lines grn m true = omega arith
at_most_lines grn m false = omega arith

-- a release whose lines aren't refused leaves every guarantee covered
pub covered_when_released : (account : Account) (day : ℕ) (status : NewStatus) (found : Movement) → ReferencesDiffer account → movement_by_mrn status.mrn account.movements ≡ Some found
    → AllPairs (λ (l m : Line). l.grn ≢ m.grn) found.lines → first_uncovered day (entry_in account) found.lines ≡ None
    → AllByRecursion (IsCovered account.movements) account.guarantees → AllByRecursion (IsCovered (map (moved status) account.movements)) account.guarantees
covered_when_released account day status found differ is distinct fine covered = each account.guarantees (each_found (λ (g : Guarantee). g.grn) account.guarantees differ.grns) covered
  where
    each : (gs : List Guarantee) → AllByRecursion (λ g. guarantee_by_grn g.grn account.guarantees ≡ Some g) gs → AllByRecursion (IsCovered account.movements) gs → AllByRecursion (IsCovered (map (moved status) account.movements)) gs
    each [] here covered = tt
    each (g ∷ gs) here covered = (
      (let used = used_on g.grn account.movements in
          let entry : entry_in account g.grn ≡ Some (g, used) = ap (option_map (λ (g : Guarantee). (g, used_on g.grn account.movements))) here.0 in
          let fit = lines_fit day (entry_in account) g used entry covered.0 found.lines distinct fine in
          let step = used_moved g.grn status account.movements found differ.mrns is in
          let most = at_most_lines g.grn found (is_counting status.state) in
          omega (arith, step, most, fit)),
      each gs here.1 covered.1,
    )
