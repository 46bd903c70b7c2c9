-- Amounts in use that are kept, as movements begin and end to count.
use Rattle.std.proofs.Common.{◌≡◌, ℕ, ◌+◌, ◌<◌, List, [], ◌∷◌, length, map, get_or, set, drop, take, ◌∙◌, ap, arith}
use Rattle.std.proofs.lemmas.List.{get_or-set_same}
use Rattle.std.proofs.lemmas.List.Sums.{sum_by-take-drop, sum_by-drop_more, sum_by-set}
use Rattle.td_movement.specs.declared.movement.Movement.{Movement}
use Rattle.td_model.specs.declared.change.NewStatus.{NewStatus}
use Rattle.td_model.specs.Changes.{with_status, moved}
use Rattle.td_guarantee.specs.Usage.{movement_on, used_on}
use Rattle.td_holder_memory.specs.Kept.{Kept, AreKept}
use Rattle.td_holder_memory.specs.Places.{IsOnlyPlace}
use Rattle.td_holder_memory.proofs.BySerial.{one_made}

-- the amount in use but for one movement's
abbrev pub others_on : List ℕ → List Movement → ℕ → ℕ
others_on grn ms at = used_on grn (take at ms) + used_on grn (drop (at + 1) ms)

-- the amount in use is the others' and that movement's
with_one : (grn : List ℕ) (ms : List Movement) (at : ℕ) (d : Movement) → at < length ms → used_on grn ms ≡ others_on grn ms at + movement_on grn (get_or ms at d)
with_one grn ms at d within = omega (arith, sum_by-take-drop (movement_on grn) ms at, sum_by-drop_more (movement_on grn) ms at d within)

-- and so where it moves
moved_one : (grn : List ℕ) (status : NewStatus) (ms : List Movement) (at : ℕ) (d : Movement) → IsOnlyPlace (λ m. m.mrn) status.mrn ms at
    → used_on grn (map (moved status) ms) ≡ others_on grn ms at + movement_on grn (get_or (map (moved status) ms) at d)
moved_one grn status ms at d is =
    let made : map (moved status) ms ≡ set ms at (with_status status (get_or ms at d)) = one_made (λ m. m.mrn) status.mrn (with_status status) ms at d is in
    let there : get_or (map (moved status) ms) at d ≡ with_status status (get_or ms at d) = ap (λ l. get_or l at d) made ∙ get_or-set_same ms at (with_status status (get_or ms at d)) d is.within in
    omega (arith, ap (used_on grn) made, sum_by-set (movement_on grn) ms at (with_status status (get_or ms at d)) d is.within, with_one grn ms at d is.within, ap (movement_on grn) there)

-- there is a movement
pub one_of : (ms : List Movement) (at : ℕ) → at < length ms → Movement
one_of [] at within = absurd (omega (arith, within))
one_of (m ∷ ms) at within = m

-- what is kept is in use after one movement has moved, which was taken off before and put on then
pub moved_kept : (status : NewStatus) (ms moved_ms : List Movement) (before after : Movement) (at : ℕ) (d : Movement) (kept left sum : Kept) → IsOnlyPlace (λ m. m.mrn) status.mrn ms at
    → moved_ms ≡ map (moved status) ms → before ≡ get_or ms at d → after ≡ get_or moved_ms at d → AreKept (λ grn. used_on grn ms) kept
    → ((rest : List ℕ → ℕ) → AreKept (λ grn. rest grn + movement_on grn before) kept → AreKept rest left)
    → ((rest : List ℕ → ℕ) → AreKept rest left → AreKept (λ grn. rest grn + movement_on grn after) sum)
    → AreKept (λ grn. used_on grn moved_ms) sum
moved_kept status ms moved_ms before after at d kept left sum is made one_before one_after are off on = λ flag grn.
    let rest : List ℕ → ℕ = (λ grn. others_on grn ms at) in
    let then : after ≡ get_or (map (moved status) ms) at d = one_after ∙ ap (λ l. get_or l at d) made in
    let whole = on rest (off rest (λ was grn. omega (arith, are was grn, with_one grn ms at d is.within, ap (movement_on grn) one_before))) flag grn in
    omega (arith, whole, moved_one grn status ms at d is, ap (movement_on grn) then, ap (used_on grn) made)
