-- A movement by the place of its LRN.
use Rattle.std.proofs.Common.{◌≡◌, ◌≢◌, ℕ, zero, suc, ◌+◌, ◌<◌, Bool, true, false, true≢false, List, [], ◌∷◌, ◌++◌, length, map, get_or, Option, Some, None, refl, sym, ◌∙◌, ap, ap₂, subst, arith}
use Rattle.std.specs.Prelude.{replicate, ◌-◌, unwrap_or, option_map, if◌then◌else◌}
use Rattle.std.specs.BTreeMap.{BTreeMap, get, is_at}
use Rattle.std.specs.Map.{lookup}
use Rattle.std.specs.Option.{option_or}
use Rattle.std.specs.declared.cmp.Ordering.{Ordering}
use Rattle.std.specs.declared.cmp.Ordering.TheVariants.{Less, Equal, Greater}
use Rattle.std.specs.Ordering.{is_eq, nat_cmp, ordering_then}
use Rattle.std.specs.Cmp.Lexicographic.{slice_cmp}
use Rattle.std.proofs.lemmas.Map.Text.{is_eq-slice_cmp}
use Rattle.std.specs.Str.{bytes_eq}
use Rattle.std.proofs.lemmas.Slice.Eq.{bytes_eq-Decides}
use Rattle.td_movement.specs.declared.movement.Movement.{Movement}
use Rattle.td_model.specs.declared.change.NewStatus.{NewStatus}
use Rattle.td_model.specs.Account.{movement_by_lrn}
use Rattle.td_model.specs.Changes.{moved}
use Rattle.td_model.proofs.Steps.{lrn_moved}
use Rattle.td_holder_memory.specs.Places.{place_by_lrn, lrn_cmp}

-- a text that is another one is told apart
pub told_apart : (a b : List ℕ) → a ≢ b → bytes_eq a b ≡ false
told_apart a b other = by_test (bytes_eq a b) refl
  where
    by_test : (t : Bool) → bytes_eq a b ≡ t → bytes_eq a b ≡ false
    by_test true same = absurd (other ((bytes_eq-Decides a b).0 same))
    by_test false h = h

-- two texts of one length with more behind them are the same where the whole is
same_front : (x y r s : List ℕ) → length x ≡ length y → x ++ r ≡ y ++ s → x ≡ y
same_front [] [] r s long same = refl
same_front [] (b ∷ y) r s long same = absurd (omega (arith, long))
same_front (a ∷ x) [] r s long same = absurd (omega (arith, long))
same_front (a ∷ x) (b ∷ y) r s long same =
    let head : a ≡ b = cc in
    let rest : x ++ r ≡ y ++ s = cc in
    ap₂ (λ c l. c ∷ l) head (same_front x y r s (omega (arith, long)) rest)

-- a text as it is kept
abbrev whole : List ℕ → List ℕ
whole l = l ++ replicate (22 - length l) 0

-- in the order of places two LRNs are apart where they are not the same text
other_in_order : (a b : List ℕ) → a ≢ b → is_eq (lrn_cmp a b) ≡ false
other_in_order a b other = by_text (slice_cmp nat_cmp (whole a) (whole b)) (nat_cmp (length a) (length b)) refl refl
  where
    by_text : (r s : Ordering) → slice_cmp nat_cmp (whole a) (whole b) ≡ r → nat_cmp (length a) (length b) ≡ s → is_eq (ordering_then r s) ≡ false
    by_text Less s text long = refl
    by_text Greater s text long = refl
    by_text Equal Less text long = refl
    by_text Equal Greater text long = refl
    by_text Equal Equal text long =
        let kept : whole a ≡ whole b = (bytes_eq-Decides (whole a) (whole b)).0 (sym (is_eq-slice_cmp (whole a) (whole b)) ∙ ap is_eq text) in
        absurd (other (same_front a b (replicate (22 - length a) 0) (replicate (22 - length b) 0) (grind (arith, long)) kept))

-- a place put for an LRN that may have one already
pub put_once : (old : BTreeMap (List ℕ) ℕ) (new : List (List ℕ × ℕ)) (lrn : List ℕ) (at v : ℕ) → v ≡ unwrap_or (get lrn_cmp old lrn) at → lookup (is_at (lrn_cmp lrn)) new ≡ Some v
    → ((k : List ℕ) → is_at (lrn_cmp lrn) k ≡ false → lookup (is_at (lrn_cmp k)) new ≡ get lrn_cmp old k)
    → (k : List ℕ) → lookup (is_at (lrn_cmp k)) new ≡ option_or (get lrn_cmp old k) (if bytes_eq lrn k then Some at else None)
put_once old new lrn at v value there others k = by_test (bytes_eq lrn k) refl
  where
    kept : (o : Option ℕ) → Some (unwrap_or o at) ≡ option_or o (Some at)
    kept None = refl
    kept (Some n) = refl

    none_more : (o : Option ℕ) → o ≡ option_or o None
    none_more None = refl
    none_more (Some n) = refl

    by_test : (b : Bool) → bytes_eq lrn k ≡ b → lookup (is_at (lrn_cmp k)) new ≡ option_or (get lrn_cmp old k) (if b then Some at else None)
    by_test true is =
        let same : lrn ≡ k = (bytes_eq-Decides lrn k).0 is in
        subst (λ q. lookup (is_at (lrn_cmp q)) new ≡ option_or (get lrn_cmp old q) (Some at)) same (there ∙ ap (λ n. Some n) value ∙ kept (get lrn_cmp old lrn))
    by_test false is =
        let apart : lrn ≢ k = λ same. true≢false (sym ((bytes_eq-Decides lrn k).1 same) ∙ is) in
        others k (other_in_order lrn k apart) ∙ none_more (get lrn_cmp old k)

-- the place in a list with one more in front
abbrev behind : Bool → Option ℕ → Option ℕ
behind same o = if same then Some 0 else option_map (λ at. at + 1) o

one_place : (a b : ℕ) → Some a ≡ Some b → a ≡ b
one_place a b e = cc

-- a place is one of theirs
pub place_within : (lrn : List ℕ) (ms : List Movement) (at : ℕ) → place_by_lrn lrn ms ≡ Some at → at < length ms
place_within lrn [] at is = cc
place_within lrn (m ∷ ms) at is = by_test (bytes_eq m.lrn lrn) (place_by_lrn lrn ms) is (place_within lrn ms)
  where
    by_test : (b : Bool) (o : Option ℕ) → behind b o ≡ Some at → ((k : ℕ) → o ≡ Some k → k < length ms) → at < length (m ∷ ms)
    by_test true o is later = omega (arith, one_place 0 at is)
    by_test false None is later = cc
    by_test false (Some k) is later = omega (arith, one_place (k + 1) at is, later k refl)

-- the movement at the place of an LRN is the one that is found
pub found_by_place : (lrn : List ℕ) (ms : List Movement) (at : ℕ) (d : Movement) → place_by_lrn lrn ms ≡ Some at → movement_by_lrn lrn ms ≡ Some (get_or ms at d)
found_by_place lrn [] at d is = cc
found_by_place lrn (m ∷ ms) at d is = by_test (bytes_eq m.lrn lrn) (place_by_lrn lrn ms) at is (found_by_place lrn ms)
  where
    by_test : (b : Bool) (o : Option ℕ) (at : ℕ) → behind b o ≡ Some at → ((k : ℕ) (d : Movement) → o ≡ Some k → movement_by_lrn lrn ms ≡ Some (get_or ms k d))
        → (if b then Some m else movement_by_lrn lrn ms) ≡ Some (get_or (m ∷ ms) at d)
    by_test true o zero is later = refl
    by_test true o (suc at) is later = absurd (omega (arith, one_place 0 (suc at) is))
    by_test false None at is later = cc
    by_test false (Some k) zero is later = absurd (omega (arith, one_place (k + 1) zero is))
    by_test false (Some k) (suc at) is later = later at d (ap (λ n. Some n) (omega (arith, one_place (k + 1) (suc at) is)))

-- where an LRN has no place, no movement is found
pub none_by_place : (lrn : List ℕ) (ms : List Movement) → place_by_lrn lrn ms ≡ None → movement_by_lrn lrn ms ≡ None
none_by_place lrn [] none = refl
none_by_place lrn (m ∷ ms) none = by_test (bytes_eq m.lrn lrn) (place_by_lrn lrn ms) none (none_by_place lrn ms)
  where
    by_test : (b : Bool) (o : Option ℕ) → behind b o ≡ None → (o ≡ None → movement_by_lrn lrn ms ≡ None) → (if◌then◌else◌ {A = Option Movement} b (Some m) (movement_by_lrn lrn ms)) ≡ None
    by_test true o none later = cc
    by_test false None none later = later refl
    by_test false (Some k) none later = cc

-- one more behind them has the next place, where none before has its LRN
pub place_in_more : (lrn : List ℕ) (ms : List Movement) (m : Movement) → place_by_lrn lrn (ms ++ m ∷ []) ≡ option_or (place_by_lrn lrn ms) (if bytes_eq m.lrn lrn then Some (length ms) else None)
place_in_more lrn [] m = by_test (bytes_eq m.lrn lrn)
  where
    by_test : (b : Bool) → behind b None ≡ (if b then Some 0 else None)
    by_test true = refl
    by_test false = refl
place_in_more lrn (x ∷ ms) m = ap (behind (bytes_eq x.lrn lrn)) (place_in_more lrn ms m) ∙ by_test (bytes_eq x.lrn lrn) (place_by_lrn lrn ms) (bytes_eq m.lrn lrn)
  where
    by_test : (b : Bool) (o : Option ℕ) (t : Bool) → behind b (option_or o (if t then Some (length ms) else None)) ≡ option_or (behind b o) (if t then Some (length (x ∷ ms)) else None)
    by_test true o t = refl
    by_test false (Some k) t = refl
    by_test false None true = ap (λ n. Some n) (omega arith)
    by_test false None false = refl

-- movements that move keep their places
pub place_moved : (status : NewStatus) (lrn : List ℕ) (ms : List Movement) → place_by_lrn lrn (map (moved status) ms) ≡ place_by_lrn lrn ms
place_moved status lrn [] = refl
place_moved status lrn (m ∷ ms) = ap₂ behind (ap (λ l. bytes_eq l lrn) (lrn_moved status m)) (place_moved status lrn ms)
