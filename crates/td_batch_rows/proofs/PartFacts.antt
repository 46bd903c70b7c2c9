-- The parts of a text as an iterator gives them one by one, and the lines that these parts say.
use Rattle.std.proofs.Common.{◌≡◌, ◌<◌, ◌+◌, Bor, Bool, List, [], ◌∷◌, ◌++◌, ℕ, Option, Some, None, option_map, length, drop, get_or, false, refl, sym, ap, ◌∙◌, append_assoc, append-nil, arith}
use Rattle.std.proofs.lemmas.Iterator.{YieldsList}
use Rattle.std.proofs.lemmas.Iterator.Splits.{YieldsList-from_slice_split}
use Rattle.std.proofs.lemmas.List.{drop_more, at_drop_all}
use Rattle.std.specs.Fn.{CalledAt}
use Rattle.std.specs.Iterator.{AlwaysYields}
use Rattle.std.specs.Iterator.Runs.{EachRunFrom, IsSplitRun}
use Rattle.std.specs.List.{slice_split}
use Rattle.std.specs.Slice.Iter as slice
use denote.Param.Members.{Mut}
use Rattle.td_movement.specs.declared.line.Line.{Line}
use Rattle.td_batch_rows.specs.Declarations.{each_line, line_read, three_of}

-- what a slice that is cut gives; its clause `runs` says by which closure
pub gives_parts : {A F : Type 0} {s : _} {g : Mut F (Bor A × Unit {0}) Bool} {f : F} (p : A → Bool) (xs : List A)
    → EachRunFrom (slice.split_steps g) s (λ q. IsSplitRun q xs g f) → slice.split_rest s ≡ xs → slice.split_done s ≡ false → slice.split_callee s ≡ f
    → ((x : A) (b : Bool) (q : F) → CalledAt g f x b q → (q ≡ f) × (b ≡ p x)) → YieldsList (slice.split_steps g) (λ x. x.now) s (slice_split p xs)
gives_parts {g = g} p xs runs rest done closure tests = YieldsList-from_slice_split g p xs rest done closure tests

module _ {S A B : Type 0} (steps : S → Option A → S → Type 0) (v : A → B) where
  -- what was given is the first of the list
  gives_next : (s : S) (ys : List B) → AlwaysYields steps v s ys → (x : A) (t : S) → steps s (Some x) t
      → (more : List B) × (ys ≡ v x ∷ more) × AlwaysYields steps v t more
  gives_next s [] all x t step = absurd (all x t step)
  gives_next s (y ∷ ys) all x t step =
      let first = all.1 x t step in
      (ys, ap (λ z. z ∷ ys) (sym first.0), first.1)

  -- nothing was given: the list is at its end
  gives_none : (s : S) (ys : List B) → AlwaysYields steps v s ys → (t : S) → steps s None t → ys ≡ []
  gives_none s [] all t step = refl
  gives_none s (y ∷ ys) all t step = absurd (all.0 t step)

module _ {S : Type 0} {steps : S → Option (Bor (List ℕ)) → S → Type 0} {s : S} {parts : List (List ℕ)} (all : YieldsList steps (λ x. x.now) s parts)
    (x : Bor (List ℕ)) (t : S) (first : steps s (Some x) t) where
  -- one part is too few
  pub one_part : (u : S) → steps t None u → three_of parts ≡ None
  one_part u none =
      let one = gives_next steps (λ r. r.now) s parts all.runs x t first in
      rw (one.1, gives_none steps (λ r. r.now) t one.0 one.2 u none) refl

  module _ (y : Bor (List ℕ)) (u : S) (second : steps t (Some y) u) where
    -- two are too few
    pub two_parts : (w : S) → steps u None w → three_of parts ≡ None
    two_parts w none =
        let one = gives_next steps (λ r. r.now) s parts all.runs x t first in
        let two = gives_next steps (λ r. r.now) t one.0 one.2 y u second in
        rw (one.1, two.1, gives_none steps (λ r. r.now) u two.0 two.2 w none) refl

    module _ (z : Bor (List ℕ)) (w : S) (third : steps u (Some z) w) where
      -- three
      pub three_parts : (e : S) → steps w None e → three_of parts ≡ Some (x.now, y.now, z.now)
      three_parts e none =
          let one = gives_next steps (λ r. r.now) s parts all.runs x t first in
          let two = gives_next steps (λ r. r.now) t one.0 one.2 y u second in
          let three = gives_next steps (λ r. r.now) u two.0 two.2 z w third in
          rw (one.1, two.1, three.1, gives_none steps (λ r. r.now) w three.0 three.2 e none) refl

      -- four are too many
      pub four_parts : (more : Bor (List ℕ)) (e : S) → steps w (Some more) e → three_of parts ≡ None
      four_parts more e fourth =
          let one = gives_next steps (λ r. r.now) s parts all.runs x t first in
          let two = gives_next steps (λ r. r.now) t one.0 one.2 y u second in
          let three = gives_next steps (λ r. r.now) u two.0 two.2 z w third in
          let four = gives_next steps (λ r. r.now) w three.0 three.2 more e fourth in
          rw (one.1, two.1, three.1, four.1) refl

-- the lines of the parts from a place on, behind those that were read
abbrev pub read_from : List (Line × List ℕ) → List (List ℕ) → ℕ → Option (List (Line × List ℕ))
read_from done parts i = option_map (λ later. done ++ later) (each_line (drop i parts))

-- a line more behind those that were read is a line less in front of the others
one_more : (done : List (Line × List ℕ)) (line : Line × List ℕ) (o : Option (List (Line × List ℕ)))
    → option_map (λ later. done ++ later) (option_map (λ lines. line ∷ lines) o) ≡ option_map (λ later. (done ++ line ∷ []) ++ later) o
one_more done line None = refl
one_more done line (Some lines) = ap Some (sym (append_assoc done (line ∷ []) lines))

-- one part more says a line
pub read_goes_on : (done : List (Line × List ℕ)) (line : Line × List ℕ) (parts : List (List ℕ)) (i : ℕ) (d : List ℕ) → i < length parts
    → Some line ≡ line_read (get_or parts i d) → read_from done parts i ≡ read_from (done ++ line ∷ []) parts (i + 1)
read_goes_on done line parts i d within says =
    rw (drop_more parts i d within, ← says) (one_more done line (each_line (drop (i + 1) parts)))

-- one part says none
pub read_stops : (done : List (Line × List ℕ)) (parts : List (List ℕ)) (i : ℕ) (d : List ℕ) → i < length parts
    → None ≡ line_read (get_or parts i d) → read_from done parts i ≡ None
read_stops done parts i d within says = rw (drop_more parts i d within, ← says) refl

-- no part is left
pub read_ends : (done : List (Line × List ℕ)) (parts : List (List ℕ)) (i : ℕ) → i ≡ length parts → read_from done parts i ≡ Some done
read_ends done parts i at_end =
    ap (λ o. option_map (λ later. done ++ later) o) (at_drop_all each_line parts i (omega (arith, at_end))) ∙ ap Some (append-nil done)
