-- Amounts in use, where a guarantee or a movement comes to a holder's rows.
use Rattle.std.proofs.Common.{◌≡◌, ◌≢◌, ℕ, ◌+◌, ◌<◌, ◌≤◌, Bool, true, false, List, [], ◌∷◌, ◌++◌, length, Option, Some, refl, sym, ◌∙◌, arith}
use Rattle.std.specs.Prelude.{IsSome, if◌then◌else◌}
use Rattle.std.specs.List.{AllByRecursion}
use Rattle.std.specs.Str.{bytes_eq}
use Rattle.std.proofs.lemmas.List.Sums.{sum_by-cons, sum_by_push}
use Rattle.std.proofs.lemmas.Slice.Eq.{bytes_eq-Decides}
use Rattle.td_base.specs.Codes.{IsCountry, IsHolderNumber}
use Rattle.td_base.specs.References.{grn_text, greatest_grn_serial}
use Rattle.td_base.proofs.MadeReferences.{made_apart}
use Rattle.td_movement.specs.declared.line.Line.{Line}
use Rattle.td_movement.specs.declared.movement.Movement.{Movement}
use Rattle.td_movement.specs.declared.state.State.TheVariants.{Accepted}
use Rattle.td_movement.specs.States.{is_counting}
use Rattle.td_guarantee.specs.declared.guarantee.Guarantee.{Guarantee}
use Rattle.td_guarantee.specs.Usage.{cents_on, lines_on, movement_on, used_on}
use Rattle.td_model.specs.Account.{guarantee_by_grn}
use Rattle.td_model.specs.Account.{HolderRows}
use Rattle.td_model.specs.Sound.{AllNumbered, IsGuaranteeRow, IsMovementRow, IsCovered, AreHolderRows}
use Rattle.td_model.specs.Effects.{greatest_grn_given}

-- what holds of each holds of all with one more
pub AllByRecursion-append : {X : Type 0} (P : X → Type 0) (xs : List X) (y : X) → AllByRecursion P xs → P y → AllByRecursion P (xs ++ y ∷ [])
AllByRecursion-append P [] y all last = (last, tt)
AllByRecursion-append P (x ∷ xs) y all last = (all.0, AllByRecursion-append P xs y all.1 last)

-- a line on another guarantee takes up nothing
pub cents_off : (grn : List ℕ) (l : Line) → l.grn ≢ grn → cents_on grn l ≡ 0
cents_off grn l other = by_test (bytes_eq l.grn grn) refl
  where
    by_test : (b : Bool) → bytes_eq l.grn grn ≡ b → (if b then l.cents else 0) ≡ 0
    by_test true same = absurd (other ((bytes_eq-Decides l.grn grn).0 same))
    by_test false h = refl

pub lines_off : (grn : List ℕ) (lines : List Line) → AllByRecursion (λ l. l.grn ≢ grn) lines → lines_on grn lines ≡ 0
lines_off grn [] others = refl
lines_off grn (l ∷ lines) others = sum_by-cons (cents_on grn) l lines ∙ omega (arith, cents_off grn l others.0, lines_off grn lines others.1)

movement_off : (grn : List ℕ) (m : Movement) → AllByRecursion (λ l. l.grn ≢ grn) m.lines → movement_on grn m ≡ 0
movement_off grn m others = by_test (is_counting m.state)
  where
    by_test : (b : Bool) → (if b then lines_on grn m.lines else 0) ≡ 0
    by_test true = lines_off grn m.lines others
    by_test false = refl

used_off : (grn : List ℕ) (ms : List Movement) → AllByRecursion (λ m. AllByRecursion (λ l. l.grn ≢ grn) m.lines) ms → used_on grn ms ≡ 0
used_off grn [] others = refl
used_off grn (m ∷ ms) others = sum_by-cons (movement_on grn) m ms ∙ omega (arith, movement_off grn m others.0, used_off grn ms others.1)

-- what is found among guarantees of other references is another
found_other : (x grn : List ℕ) (gs : List Guarantee) → AllByRecursion (λ g. g.grn ≢ grn) gs → IsSome (guarantee_by_grn x gs) → x ≢ grn
found_other x grn [] others some = cc
found_other x grn (g ∷ gs) others some = by_test (bytes_eq g.grn x) refl (found_other x grn gs others.1) some
  where
    by_test : (b : Bool) → bytes_eq g.grn x ≡ b → (IsSome (guarantee_by_grn x gs) → x ≢ grn) → IsSome (if◌then◌else◌ {A = Option Guarantee} b (Some g) (guarantee_by_grn x gs)) → x ≢ grn
    by_test true same later some = λ e. others.0 ((bytes_eq-Decides g.grn x).0 same ∙ e)
    by_test false h later some = later some

lines_elsewhere : (grn : List ℕ) (gs : List Guarantee) → AllByRecursion (λ g. g.grn ≢ grn) gs → (lines : List Line) → AllByRecursion (λ l. IsSome (guarantee_by_grn l.grn gs)) lines → AllByRecursion (λ l. l.grn ≢ grn) lines
lines_elsewhere grn gs others [] own = tt
lines_elsewhere grn gs others (l ∷ lines) own = (found_other l.grn grn gs others own.0, lines_elsewhere grn gs others lines own.1)

-- movements whose lines are on guarantees of other references
movements_elsewhere : (country grn : List ℕ) (H n : ℕ) (gs : List Guarantee) → AllByRecursion (λ g. g.grn ≢ grn) gs → (ms : List Movement) → AllNumbered (IsMovementRow country H gs) n ms → AllByRecursion (λ m. AllByRecursion (λ l. l.grn ≢ grn) m.lines) ms
movements_elsewhere country grn H n gs others [] are = tt
movements_elsewhere country grn H n gs others (m ∷ ms) are = (lines_elsewhere grn gs others m.lines are.0.lines.own, movements_elsewhere country grn H (n + 1) gs others ms are.1)

-- a later serial's reference is none of the earlier ones'
earlier_differ : (country grn : List ℕ) (H k year n : ℕ) (gs : List Guarantee) → IsCountry country → IsHolderNumber H → k ≤ greatest_grn_serial → grn ≡ grn_text year country H k → AllNumbered (IsGuaranteeRow country H) n gs → n + length gs < k
    → AllByRecursion (λ g. g.grn ≢ grn) gs
earlier_differ country grn H k year n [] form number most is are more = tt
earlier_differ country grn H k year n (g ∷ gs) form number most is are more =
    let made = are.0.grn in (
      (λ same. let apart = made_apart 6 made.0 year country country H H (n + 1) k form form number number (omega (arith, most, more)) (omega (arith, most)) (sym made.2 ∙ same ∙ is) in absurd (omega (arith, apart.1, more))),
      earlier_differ country grn H k year (n + 1) gs form number most is are.1 (omega (arith, more)),
    )

-- nothing is in use on a new guarantee
pub unused_when_new : (country : List ℕ) (h : HolderRows) (g : Guarantee) → IsCountry country → h.row.grn_count < greatest_grn_given → IsGuaranteeRow country h.row.holder (h.row.grn_count + 1) g → AreHolderRows country h → used_on g.grn h.movements ≡ 0
unused_when_new country h g form left is sound =
    let made = is.grn in
    let others = earlier_differ country g.grn h.row.holder (h.row.grn_count + 1) made.0 0 h.guarantees form sound.row.number (omega (arith, left)) made.2 sound.guarantees (omega (arith, sound.grn_count)) in
    used_off g.grn h.movements (movements_elsewhere country g.grn h.row.holder 0 h.guarantees others h.movements sound.movements)

-- a movement that was accepted has nothing in use yet
pub covered_with_accepted : (ms : List Movement) (m : Movement) (g : Guarantee) → m.state ≡ Accepted → IsCovered ms g → IsCovered (ms ++ m ∷ []) g
covered_with_accepted ms m g accepted covered =
    let none : movement_on g.grn m ≡ 0 = rw accepted refl in
    omega (arith, sum_by_push (movement_on g.grn) ms m, none, covered)
