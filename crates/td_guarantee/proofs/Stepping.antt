-- A step of one movement changes the amount in use by that movement's lines alone.
use Rattle.std.proofs.Common.{◌≡◌, ◌∙◌, ℕ, ◌+◌, List, [], ◌∷◌, ◌++◌, ap, arith, refl, true, false, cond}
use Rattle.std.proofs.lemmas.List.Sums.{sum_by-append, sum_by-cons}
use Rattle.td_movement.specs.declared.movement.Movement.{Movement}
use Rattle.td_movement.specs.States.{is_counting}
use Rattle.td_guarantee.specs.Usage.{lines_on, movement_on, used_on}
use Rattle.td_guarantee.specs.Laws.{NewUseIsOfItsLines, StepChangesByItsLines, StepGivesBack, StepKeeps, StepTakesUp}

-- a list with one in the midst
in_midst : (grn : List ℕ) (before after : List Movement) (m : Movement) → used_on grn (before ++ m ∷ after) ≡ used_on grn before + (movement_on grn m + used_on grn after)
in_midst grn before after m = sum_by-append (movement_on grn) before (m ∷ after) ∙ ap (λ n. used_on grn before + n) (sum_by-cons (movement_on grn) m after)

pub step_changes : StepChangesByItsLines
step_changes grn before after m new =
    let with_new = in_midst grn before after new in
    let with_old = in_midst grn before after m in
    omega (arith, with_new, with_old)

-- what a movement has, by whether it counts
counts : (grn : List ℕ) (m : Movement) → is_counting m.state ≡ true → movement_on grn m ≡ lines_on grn m.lines
counts grn m is = ap (λ b. cond b (lines_on grn m.lines) 0) is

counts_not : (grn : List ℕ) (m : Movement) → is_counting m.state ≡ false → movement_on grn m ≡ 0
counts_not grn m is = ap (λ b. cond b (lines_on grn m.lines) 0) is

pub takes_up : StepTakesUp
takes_up grn before after m new same was now =
    let e = step_changes grn before after m new in
    let old = counts_not grn m was in
    let up : movement_on grn new ≡ lines_on grn m.lines = counts grn new now ∙ ap (lines_on grn) same in
    omega (arith, e, old, up)

pub gives_back : StepGivesBack
gives_back grn before after m new same was now =
    let e = step_changes grn before after m new in
    let old = counts grn m was in
    let down = counts_not grn new now in
    omega (arith, e, old, down)

pub keeps : StepKeeps
keeps grn before after m new same as_before =
    let e = step_changes grn before after m new in
    let alike : movement_on grn new ≡ movement_on grn m = ap (λ b. cond b (lines_on grn new.lines) 0) as_before ∙ ap (λ l. cond (is_counting m.state) (lines_on grn l) 0) same in
    omega (arith, e, alike)

pub one_more : NewUseIsOfItsLines
one_more grn movements new =
    let split = in_midst grn movements [] new in
    let none : used_on grn [] ≡ 0 = refl in
    omega (arith, split, none)
