-- Rows that keep the amounts in use: without these, with them again, and after a change of a holder's rows.
use Rattle.std.proofs.Common.{sum_by, ◌≡◌, ℕ, ◌+◌, Bool, true, false, cond, List, [], ◌∷◌, ◌++◌, map, Option, Some, refl, sym, ◌∙◌, ap, ap₂, subst, arith}
use Rattle.std.specs.Prelude.{◌==◌, if◌then◌else◌}
use Rattle.std.specs.List.{AllByRecursion}
use Rattle.std.specs.Str.{bytes_eq}
use Rattle.std.proofs.lemmas.List.Sums.{sum_by-append, sum_by-cons}
use Rattle.std.proofs.lemmas.Slice.Eq.{bytes_eq-Decides}
use Rattle.td_guarantee.specs.declared.guarantee.Guarantee.{Guarantee}
use Rattle.td_guarantee.specs.Usage.{lines_on, movement_on, used_on}
use Rattle.td_movement.specs.declared.movement.Movement.{Movement}
use Rattle.td_movement.specs.declared.moves.Move.{Move}
use Rattle.td_movement.specs.declared.moves.Move.TheVariants.{Cancel, Release, Arrive, Judge, WriteOff, Enquire}
use Rattle.td_movement.specs.declared.state.Control.{Control}
use Rattle.td_movement.specs.declared.state.Control.TheVariants.{A1, A2, B1}
use Rattle.td_movement.specs.declared.state.Ground.{Ground}
use Rattle.td_movement.specs.declared.state.State.{State}
use Rattle.td_movement.specs.declared.state.State.TheVariants.{Accepted, Cancelled, Released, Enquired, Arrived, Discrepant, Cleared, WrittenOff}
use Rattle.td_movement.specs.States.{is_counting, state_after}
use Rattle.td_model.specs.Account.{movement_by_mrn}
use Rattle.td_model.specs.Effects.{judged}
use Rattle.td_model.specs.Changes.{moved, with_terms}
use Rattle.td_model.specs.declared.change.NewStatus.{NewStatus}
use Rattle.td_model.specs.declared.change.NewTerms.{NewTerms}
use Rattle.td_model.proofs.EachMove.{arrived_from, cancelled_from, enquired_from, judged_from, released_from, written_off_from}
use Rattle.td_model.proofs.Steps.{MrnsDiffer, used_moved}
use Rattle.td_table_model.specs.Tables.{Keyed, Kept, Tables, guarantee_row, numbered, with_amount, with_use, without_amount}
use Rattle.td_table_model.specs.Looking.{amount_between}
use Rattle.td_table_model.specs.Rules.{IsInUse}
use Rattle.td_table_model.specs.Changes.{used_after, with_kept_terms_of, with_terms_of, with_use_after}
use Rattle.td_table_model.proofs.OwnRows.{itself}

-- without what is in use the rows are those of the guarantees
pub guarantees_again : (ms : List Movement) (rows : List (Keyed Guarantee)) → map without_amount (map (with_use ms) rows) ≡ rows
guarantees_again ms [] = refl
guarantees_again ms (g ∷ rows) = ap (λ l. g ∷ l) (guarantees_again ms rows)

-- rows that keep what is in use, by the movements of each holder, are the guarantees with it
pub use_again : (movements : ℕ → List Movement) (rows : List (Keyed Kept)) → AllByRecursion (λ (k : Keyed Kept). IsInUse (movements k.holder) k) rows
    → map (λ (g : Keyed Guarantee). with_use (movements g.holder) g) (map without_amount rows) ≡ rows
use_again movements [] right = refl
use_again movements (k ∷ rows) right = ap₂ (λ used l. with_amount used (without_amount k) ∷ l) (sym right.0) (use_again movements rows right.1)

-- where as much is in use, the rows are the same
pub use_same : (before after : List Movement) → ((grn : List ℕ) → used_on grn before ≡ used_on grn after) → (rows : List (Keyed Guarantee))
    → map (with_use before) rows ≡ map (with_use after) rows
use_same before after same [] = refl
use_same before after same (g ∷ rows) = ap₂ (λ used l. with_amount used g ∷ l) (same g.row.grn) (use_same before after same rows)

-- an accepted movement takes nothing up
pub accepted_takes_nothing : (ms : List Movement) (m : Movement) → m.state ≡ Accepted → (grn : List ℕ) → used_on grn ms ≡ used_on grn (ms ++ m ∷ [])
accepted_takes_nothing ms m accepted grn =
    let none : movement_on grn m ≡ 0 = ap (λ s. cond (is_counting s) (lines_on grn m.lines) 0) accepted in
    let split = sum_by-append (movement_on grn) ms (m ∷ []) in
    let last = sum_by-cons (movement_on grn) m [] in
    let nil : sum_by (movement_on grn) [] ≡ 0 = refl in
    omega (arith, split, last, none, nil)

-- where terms are set anew, what is in use stays
pub terms_kept : (H : ℕ) (terms : NewTerms) (ms : List Movement) (rows : List (Keyed Guarantee))
    → map (with_kept_terms_of H terms) (map (with_use ms) rows) ≡ map (with_use ms) (map (with_terms_of H terms) rows)
terms_kept H terms ms [] = refl
terms_kept H terms ms (g ∷ rows) = ap₂ ◌∷◌ (here (g.holder == H) (bytes_eq g.row.grn terms.grn)) (terms_kept H terms ms rows)
  where
    here : (own named : Bool)
        → with_amount (used_on g.row.grn ms) (if own then record g { row = if named then with_terms terms g.row else g.row } else g)
        ≡ with_use ms (if own then record g { row = if named then with_terms terms g.row else g.row } else g)
    here true true = refl
    here true false = refl
    here false named = refl

-- whether a movement counted before a move that leads to a state
abbrev pub counted_before : State → Bool
counted_before Released = false
counted_before WrittenOff = true
counted_before state = is_counting state

-- what is judged counts, as it did
judged_counts : (control : Control) → counted_before (judged control) ≡ true
judged_counts A1 = refl
judged_counts A2 = refl
judged_counts B1 = refl

-- what is written off counted
off_counted : (s n : State) (cause : Ground) → state_after s (WriteOff cause) ≡ Some n → is_counting s ≡ true
off_counted Accepted n cause is = cc
off_counted Cancelled n cause is = cc
off_counted Released n cause is = refl
off_counted Enquired n cause is = refl
off_counted Arrived n cause is = refl
off_counted Discrepant n cause is = refl
off_counted Cleared n cause is = refl
off_counted WrittenOff n cause is = cc

-- each move is from a state that counts as the one that it leads to tells
pub counted_as : (s n : State) (move : Move) → state_after s move ≡ Some n → is_counting s ≡ counted_before n
counted_as s n Cancel is = let from = cancelled_from s n is in ap is_counting from.1 ∙ ap counted_before (sym from.0)
counted_as s n Release is = let from = released_from s n is in ap is_counting from.1 ∙ ap counted_before (sym from.0)
counted_as s n Arrive is = let from = arrived_from s n is in from.1 ∙ ap counted_before (sym from.0)
counted_as s n (Judge control) is =
    let from = judged_from s n control is in from.1 ∙ sym (judged_counts control) ∙ ap counted_before (sym from.0)
counted_as s n (WriteOff cause) is = let from = written_off_from s n cause is in off_counted s n cause is ∙ ap counted_before (sym from.0)
counted_as s n Enquire is = let from = enquired_from s n is in ap is_counting from.1 ∙ ap counted_before (sym from.0)

-- so the new state tells what becomes of an amount
told_by_state : (n : State) (lines before after : ℕ) → after + cond (counted_before n) lines 0 ≡ before + cond (is_counting n) lines 0
    → used_after n lines before ≡ after
told_by_state Accepted lines before after law = omega (arith, law)
told_by_state Cancelled lines before after law = omega (arith, law)
told_by_state Released lines before after law = omega (arith, law)
told_by_state Enquired lines before after law = omega (arith, law)
told_by_state Arrived lines before after law = omega (arith, law)
told_by_state Discrepant lines before after law = omega (arith, law)
told_by_state Cleared lines before after law = omega (arith, law)
told_by_state WrittenOff lines before after law = omega (arith, law)

-- what is in use after a movement came into its new state by a move
pub after_move : (grn : List ℕ) (status : NewStatus) (ms : List Movement) (found : Movement) (move : Move) → MrnsDiffer ms → movement_by_mrn status.mrn ms ≡ Some found
    → state_after found.state move ≡ Some status.state → used_after status.state (lines_on grn found.lines) (used_on grn ms) ≡ used_on grn (map (moved status) ms)
after_move grn status ms found move differ is leads =
    told_by_state status.state (lines_on grn found.lines) (used_on grn ms) (used_on grn (map (moved status) ms))
    (ap (λ counted. used_on grn (map (moved status) ms) + cond counted (lines_on grn found.lines) 0) (sym (counted_as found.state status.state move leads))
    ∙ used_moved grn status ms found differ is)

-- the rows that keep amounts after it, where each amount is told so
pub moved_kept : (H m : ℕ) (status : NewStatus) (t : Tables) (ms : List Movement) (n : ℕ) (gs : List Guarantee)
    → AllByRecursion (λ (p : ℕ × Guarantee). used_after status.state (amount_between H m p.0 t) (used_on p.1.grn ms) ≡ used_on p.1.grn (map (moved status) ms)) (numbered n gs)
    → map (with_use_after H m status.state t) (map (with_use ms) (map (guarantee_row H) (numbered n gs))) ≡ map (with_use (map (moved status) ms)) (map (guarantee_row H) (numbered n gs))
moved_kept H m status t ms n [] right = refl
moved_kept H m status t ms n (g ∷ gs) right = ap₂ ◌∷◌ (here (H == H) (itself H)) (moved_kept H m status t ms (n + 1) gs right.1)
  where
    here : (b : Bool) → b ≡ true
        → (if b then with_amount (used_after status.state (amount_between H m (n + 1) t) (used_on g.grn ms)) (guarantee_row H (n + 1, g)) else with_use ms (guarantee_row H (n + 1, g)))
        ≡ with_use (map (moved status) ms) (guarantee_row H (n + 1, g))
    here true is = ap (λ used. with_amount used (guarantee_row H (n + 1, g))) right.0
    here false is = cc

-- the movement with an MRN stands at a place, with what holds there
pub at_found : (P : ℕ → Movement → Type 0) (mrn : List ℕ) (n : ℕ) (ms : List Movement) (found : Movement) → movement_by_mrn mrn ms ≡ Some found
    → AllByRecursion (λ (p : ℕ × Movement). P p.0 p.1) (numbered n ms) → (k : ℕ) × P k found × (found.mrn ≡ mrn)
at_found P mrn n [] found is all = cc
at_found P mrn n (m ∷ ms) found is all = by_test (bytes_eq m.mrn mrn) refl is (λ later. at_found P mrn (n + 1) ms found later all.1)
  where
    by_test : (b : Bool) → bytes_eq m.mrn mrn ≡ b → if◌then◌else◌ {A = Option Movement} b (Some m) (movement_by_mrn mrn ms) ≡ Some found
        → (movement_by_mrn mrn ms ≡ Some found → (k : ℕ) × P k found × (found.mrn ≡ mrn)) → (k : ℕ) × P k found × (found.mrn ≡ mrn)
    by_test true same is more =
        let one : m ≡ found = cc in
        (n + 1, subst (P (n + 1)) one all.0, ap (λ (x : Movement). x.mrn) (sym one) ∙ (bytes_eq-Decides m.mrn mrn).0 same)
    by_test false other is more = more is
