-- What is kept of each guarantee, as one amount changes.
use Rattle.std.proofs.Common.{◌≡◌, ◌≢◌, ℕ, zero, suc, ◌+◌, ◌<◌, Bool, true, false, Some, List, [], ◌∷◌, ◌++◌, length, get_or, set, refl, sym, ◌∙◌, ap, subst, arith}
use Rattle.std.specs.Prelude.{All, if◌then◌else◌}
use Rattle.std.specs.List.{sum_by}
use Rattle.std.specs.Str.{bytes_eq}
use Rattle.std.proofs.lemmas.List.Sums.{sum_by-cons, sum_by-set, sum_by_push}
use Rattle.std.proofs.lemmas.Slice.Eq.{bytes_eq-Decides}
use Rattle.td_base.specs.References.{serial_of}
use Rattle.td_model.specs.Sound.{AllNumbered}
use Rattle.td_movement.specs.declared.line.Line.{Line}
use Rattle.td_guarantee.specs.Usage.{cents_on}
use Rattle.td_holder_memory.specs.Kept.{kept_on}
use Rattle.td_holder_memory.specs.Places.{HaveSerials, IsOnlyPlace}
use Rattle.td_holder_memory.proofs.PlaceOfLrn.{told_apart}

-- what one entry keeps of a guarantee
abbrev entry_on : List ℕ → List ℕ × ℕ → ℕ
entry_on grn k = if bytes_eq k.0 grn then k.1 else 0

its_own : (grn : List ℕ) (k : List ℕ × ℕ) → k.0 ≡ grn → entry_on grn k ≡ k.1
its_own grn k is = ap (λ b. if b then k.1 else 0) ((bytes_eq-Decides k.0 grn).1 is)

another : (grn : List ℕ) (k : List ℕ × ℕ) → k.0 ≢ grn → entry_on grn k ≡ 0
another grn k other = ap (λ b. if b then k.1 else 0) (told_apart k.0 grn other)

-- nothing is kept of a guarantee that has no entry
pub kept_none : (grn : List ℕ) (amounts : List (List ℕ × ℕ)) → All (λ k. k.0 ≢ grn) amounts → kept_on grn amounts ≡ 0
kept_none grn [] none = refl
kept_none grn (k ∷ ks) none =
    omega (arith, sum_by-cons (entry_on grn) k ks, another grn k (none zero k (omega arith)), kept_none grn ks (λ i d within. none (suc i) d (omega (arith, within))))

-- of one that has one entry, what stands there
pub kept_alone : (grn : List ℕ) (amounts : List (List ℕ × ℕ)) (at : ℕ) (d : List ℕ × ℕ) → IsOnlyPlace (λ k. k.0) grn amounts at → kept_on grn amounts ≡ (get_or amounts at d).1
kept_alone grn [] at d is = absurd (omega (arith, is.within))
kept_alone grn (k ∷ ks) zero d is =
    omega (arith, sum_by-cons (entry_on grn) k ks, its_own grn k (is.there k), kept_none grn ks (λ i e within. is.only (suc i) e (omega (arith, within)) (λ e. omega (arith, e))))
kept_alone grn (k ∷ ks) (suc at) d is =
    omega (
      arith,
      sum_by-cons (entry_on grn) k ks,
      another grn k (is.only zero k (omega arith) (λ e. omega (arith, e))),
      kept_alone grn ks at d (record {
        within = omega (arith, is.within);
        there = is.there;
        only = λ i e inside other. is.only (suc i) e (omega (arith, inside)) (λ e. other (omega (arith, e)));
      }),
    )

-- with a guarantee more on which nothing is in use, the same is kept
pub kept_opened : (grn own : List ℕ) (amounts : List (List ℕ × ℕ)) → kept_on grn (amounts ++ (own, 0) ∷ []) ≡ kept_on grn amounts
kept_opened grn own amounts = omega (arith, sum_by_push (entry_on grn) amounts (own, 0), nothing (bytes_eq own grn))
  where
    nothing : (b : Bool) → ◌≡◌ {A = ℕ} (if b then 0 else 0) 0
    nothing true = refl
    nothing false = refl

-- an amount of a sum is the sum of amounts
parts : (b : Bool) (n m : ℕ) → (if b then n + m else 0) ≡ (if b then n else 0) + (if b then m else 0)
parts true n m = refl
parts false n m = refl

-- a line's amount is put on the entry of its guarantee
pub kept_more : (grn : List ℕ) (line : Line) (amounts : List (List ℕ × ℕ)) (at sum : ℕ) (d k : List ℕ × ℕ) → IsOnlyPlace (λ k. k.0) line.grn amounts at → k ≡ get_or amounts at d → sum ≡ k.1 + line.cents
    → kept_on grn (set amounts at (k.0, sum)) ≡ kept_on grn amounts + cents_on grn line
kept_more grn line amounts at sum d k is there all =
    let own : k.0 ≡ line.grn = ap (λ (x : List ℕ × ℕ). x.0) there ∙ is.there d in
    let changed = sum_by-set (entry_on grn) amounts at (k.0, sum) d is.within in
    let now : entry_on grn (k.0, sum) ≡ entry_on grn k + cents_on grn line = ap (λ n. entry_on grn (k.0, n)) all ∙ parts (bytes_eq k.0 grn) k.1 line.cents ∙ ap (λ (g : List ℕ). entry_on grn k + (if bytes_eq g grn then line.cents else 0)) own in
    omega (arith, changed, now, ap (entry_on grn) there)

-- or taken off
pub kept_less : (grn : List ℕ) (line : Line) (amounts : List (List ℕ × ℕ)) (at left : ℕ) (d k : List ℕ × ℕ) → IsOnlyPlace (λ k. k.0) line.grn amounts at → k ≡ get_or amounts at d → left + line.cents ≡ k.1
    → kept_on grn (set amounts at (k.0, left)) + cents_on grn line ≡ kept_on grn amounts
kept_less grn line amounts at left d k is there all =
    let own : k.0 ≡ line.grn = ap (λ (x : List ℕ × ℕ). x.0) there ∙ is.there d in
    let changed = sum_by-set (entry_on grn) amounts at (k.0, left) d is.within in
    let was : entry_on grn k ≡ entry_on grn (k.0, left) + cents_on grn line = ap (λ n. entry_on grn (k.0, n)) (sym all) ∙ parts (bytes_eq k.0 grn) left line.cents ∙ ap (λ (g : List ℕ). entry_on grn (k.0, left) + (if bytes_eq g grn then line.cents else 0)) own in
    omega (arith, changed, was, ap (entry_on grn) there)

-- amounts of which one changed stand in their places
set_numbered : (country : List ℕ) (n : ℕ) (amounts : List (List ℕ × ℕ)) (at amount : ℕ) (d k : List ℕ × ℕ) → AllNumbered (λ n (k : List ℕ × ℕ). serial_of country k.0 ≡ Some n) n amounts → at < length amounts → k ≡ get_or amounts at d
    → AllNumbered (λ n (k : List ℕ × ℕ). serial_of country k.0 ≡ Some n) n (set amounts at (k.0, amount))
set_numbered country n [] at amount d k all within there = absurd (omega (arith, within))
set_numbered country n (e ∷ es) zero amount d k all within there = (ap (λ (x : List ℕ × ℕ). serial_of country x.0) there ∙ all.0, all.1)
set_numbered country n (e ∷ es) (suc at) amount d k all within there = (all.0, set_numbered country (n + 1) es at amount d k all.1 (omega (arith, within)) there)

pub serials_set : (country : List ℕ) (amounts : List (List ℕ × ℕ)) (at amount : ℕ) (d k : List ℕ × ℕ) → HaveSerials (λ k. k.0) country amounts → at < length amounts → k ≡ get_or amounts at d → HaveSerials (λ k. k.0) country (set amounts at (k.0, amount))
serials_set country amounts at amount d k all within there = set_numbered country 0 amounts at amount d k all within there
