-- A movement that moves, among a holder's movements: what is in use before and after, and the rules that stay.
use Rattle.std.proofs.Common.{◌≡◌, ◌≢◌, ℕ, zero, suc, ◌+◌, ◌<◌, ◌≤◌, Bool, true, false, List, [], ◌∷◌, length, map, get_or, Option, Some, refl, sym, ◌∙◌, ap, ap₂, subst, arith}
use Rattle.std.specs.Prelude.{AllPairs, if◌then◌else◌}
use Rattle.std.specs.List.{AllByRecursion}
use Rattle.std.specs.Str.{bytes_eq}
use Rattle.std.proofs.lemmas.List.Sums.{sum_by-cons}
use Rattle.std.proofs.lemmas.Slice.Eq.{bytes_eq-Decides}
use Rattle.td_movement.specs.declared.movement.Movement.{Movement}
use Rattle.td_movement.specs.States.{is_counting}
use Rattle.td_movement.specs.Status.{IsStatus}
use Rattle.td_guarantee.specs.declared.guarantee.Guarantee.{Guarantee}
use Rattle.td_guarantee.specs.Usage.{lines_on, movement_on, used_on}
use Rattle.td_model.specs.declared.change.NewStatus.{NewStatus}
use Rattle.td_model.specs.Account.{movement_by_mrn}
use Rattle.td_model.specs.Changes.{with_status, moved}
use Rattle.td_model.specs.Sound.{AllNumbered, IsMovementRow, IsCovered}
use Rattle.td_model.proofs.ByKey.{behind_differ, first_differs, only_found}
use Rattle.td_model.proofs.Joined.{AllByRecursion-weaker}

-- what is mapped to itself stays
pub map-id : {X : Type 0} (xs : List X) → map (λ x. x) xs ≡ xs
map-id [] = refl
map-id (x ∷ xs) = ap (λ l. x ∷ l) (map-id xs)

-- the MRNs of a list that differ, of the first and all behind it, and of these
abbrev pub MrnsDiffer : List Movement → Type 0
MrnsDiffer ms = AllPairs (λ a b. a.mrn ≢ b.mrn) ms

-- where none has the MRN, none moves
none_moves : (status : NewStatus) (ms : List Movement) → ((k : ℕ) (d : Movement) → k < length ms → status.mrn ≢ (get_or ms k d).mrn) → map (moved status) ms ≡ ms
none_moves status [] others = refl
none_moves status (m ∷ ms) others = ap₂ (λ x l. x ∷ l) (by_test (bytes_eq m.mrn status.mrn) refl) (none_moves status ms (λ k d within. others (suc k) d (omega (arith, within))))
  where
    by_test : (b : Bool) → bytes_eq m.mrn status.mrn ≡ b → (if b then with_status status m else m) ≡ m
    by_test true same = absurd (others zero m (omega arith) (sym ((bytes_eq-Decides m.mrn status.mrn).0 same)))
    by_test false other = refl

-- What is in use changes by what the one movement has in use: the sum after its move, with what it had before, is the sum before with what it has then.
pub used_moved : (grn : List ℕ) (status : NewStatus) (ms : List Movement) (found : Movement) → MrnsDiffer ms → movement_by_mrn status.mrn ms ≡ Some found
    → used_on grn (map (moved status) ms) + movement_on grn found ≡ used_on grn ms + movement_on grn (with_status status found)
used_moved grn status [] found differ is = cc
used_moved grn status (m ∷ ms) found differ is = by_test (bytes_eq m.mrn status.mrn) refl is (used_moved grn status ms found (behind_differ (λ (m : Movement). m.mrn) m ms differ))
  where
    by_test : (b : Bool) → bytes_eq m.mrn status.mrn ≡ b → if◌then◌else◌ {A = Option Movement} b (Some m) (movement_by_mrn status.mrn ms) ≡ Some found
        → (movement_by_mrn status.mrn ms ≡ Some found → used_on grn (map (moved status) ms) + movement_on grn found ≡ used_on grn ms + movement_on grn (with_status status found))
        → used_on grn ((if b then with_status status m else m) ∷ map (moved status) ms) + movement_on grn found ≡ used_on grn (m ∷ ms) + movement_on grn (with_status status found)
    by_test true same is more =
        let one : m ≡ found = cc in
        let key : m.mrn ≡ status.mrn = (bytes_eq-Decides m.mrn status.mrn).0 same in
        let rest : map (moved status) ms ≡ ms = none_moves status ms (λ k d within e. first_differs (λ (m : Movement). m.mrn) m ms differ k d within (key ∙ e)) in
        let after = sum_by-cons (movement_on grn) (with_status status m) (map (moved status) ms) in
        let before = sum_by-cons (movement_on grn) m ms in
        let same_rest : used_on grn (map (moved status) ms) ≡ used_on grn ms = ap (used_on grn) rest in
        subst (λ (f : Movement). used_on grn (with_status status m ∷ map (moved status) ms) + movement_on grn f ≡ used_on grn (m ∷ ms) + movement_on grn (with_status status f)) one
        (omega (arith, after, before, same_rest))
    by_test false other is more =
        let later = more is in
        let after = sum_by-cons (movement_on grn) m (map (moved status) ms) in
        let before = sum_by-cons (movement_on grn) m ms in
        omega (arith, after, before, later)

-- who moves has no more in use than before, unless it begins to count
no_more : (grn : List ℕ) (m : Movement) (status : NewStatus) → (is_counting status.state ≡ true → is_counting m.state ≡ true) → movement_on grn (with_status status m) ≤ movement_on grn m
no_more grn m status still = by_test (is_counting status.state) (is_counting m.state) still
  where
    by_test : (after before : Bool) → (after ≡ true → before ≡ true) → (if after then lines_on grn m.lines else 0) ≤ (if before then lines_on grn m.lines else 0)
    by_test false before still = omega arith
    by_test true true still = omega arith
    by_test true false still = let no = still refl in cc

-- a move of a movement that doesn't begin to count leaves every guarantee covered
pub no_more_moved : (status : NewStatus) (ms : List Movement) (found : Movement) → MrnsDiffer ms → movement_by_mrn status.mrn ms ≡ Some found
    → (is_counting status.state ≡ true → is_counting found.state ≡ true) → (gs : List Guarantee) → AllByRecursion (IsCovered ms) gs → AllByRecursion (IsCovered (map (moved status) ms)) gs
no_more_moved status ms found differ is still gs covered =
    AllByRecursion-weaker (IsCovered ms) (IsCovered (map (moved status) ms))
    (λ g is_covered.
    let step = used_moved g.grn status ms found differ is in
    let fewer = no_more g.grn found status still in
    omega (arith, step, fewer, is_covered))
    gs covered

-- each row keeps its rule where it moves, and so all do
pub numbered_moved : {R : Type 0} (P : ℕ → R → Type 0) (f : R → R) (n : ℕ) (rows : List R) → AllByRecursion (λ r. (k : ℕ) → P k r → P k (f r)) rows → AllNumbered P n rows → AllNumbered P n (map f rows)
numbered_moved P f n [] each all = tt
numbered_moved P f n (r ∷ rows) each all = (each.0 (n + 1) all.0, numbered_moved P f (n + 1) rows each.1 all.1)

-- the row of a movement in its new state
row_moved : (country : List ℕ) (H : ℕ) (gs : List Guarantee) (status : NewStatus) (found : Movement) → (IsStatus found → IsStatus (with_status status found)) → (m : Movement) → (m.mrn ≡ status.mrn → m ≡ found)
    → (k : ℕ) → IsMovementRow country H gs k m → IsMovementRow country H gs k (moved status m)
row_moved country H gs status found keeps m one k is = by_test (bytes_eq m.mrn status.mrn) refl
  where
    by_test : (b : Bool) → bytes_eq m.mrn status.mrn ≡ b → IsMovementRow country H gs k (if b then with_status status m else m)
    by_test false other = is
    by_test true same =
        let here : m ≡ found = one ((bytes_eq-Decides m.mrn status.mrn).0 same) in
        let new : IsStatus m → IsStatus (with_status status m) = subst (λ (f : Movement). IsStatus f → IsStatus (with_status status f)) (sym here) keeps in
        record { mrn = is.mrn; lrn = is.lrn; departure = is.departure; destination = is.destination; accepted = is.accepted; status = new is.status; lines = is.lines }

-- the rows of all movements, where one moves
pub rows_moved : (country : List ℕ) (H : ℕ) (gs : List Guarantee) (status : NewStatus) (ms : List Movement) (found : Movement) → MrnsDiffer ms → movement_by_mrn status.mrn ms ≡ Some found
    → (IsStatus found → IsStatus (with_status status found)) → AllNumbered (IsMovementRow country H gs) 0 ms → AllNumbered (IsMovementRow country H gs) 0 (map (moved status) ms)
rows_moved country H gs status ms found differ is keeps rows =
    numbered_moved (IsMovementRow country H gs) (moved status) 0 ms
    (AllByRecursion-weaker (λ m. m.mrn ≡ status.mrn → m ≡ found) (λ m. (k : ℕ) → IsMovementRow country H gs k m → IsMovementRow country H gs k (moved status m)) (row_moved country H gs status found keeps) ms (only_found (λ (m : Movement). m.mrn) status.mrn ms found differ is))
    rows

-- a movement keeps its LRN
pub lrn_moved : (status : NewStatus) (m : Movement) → (moved status m).lrn ≡ m.lrn
lrn_moved status m = by_test (bytes_eq m.mrn status.mrn)
  where
    by_test : (b : Bool) → (if b then with_status status m else m).lrn ≡ m.lrn
    by_test true = refl
    by_test false = refl
