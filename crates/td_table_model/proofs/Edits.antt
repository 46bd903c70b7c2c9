-- A table after one holder's rows were changed, where all rows of the table are those of holders in order.
use Rattle.std.proofs.Common.{◌≡◌, ◌≢◌, ℕ, ◌+◌, ◌<◌, Bool, true, false, List, [], ◌∷◌, ◌++◌, flat_map, Option, Some, None, refl, sym, ◌∙◌, arith, append_assoc, append-nil, IsPermutation}
use Rattle.std.specs.Prelude.{◌==◌, nat_lt, if◌then◌else◌}
use Rattle.std.specs.List.{AllByRecursion}
use Rattle.std.specs.Option.{option_map_or}
use Rattle.std.proofs.lemmas.Bool.Decides.{nat_tests}
use Rattle.std.proofs.lemmas.List.Concat.{flat_map-append}
use Rattle.std.proofs.lemmas.List.Sorted.{IsPermutation-trans, IsPermutation-append_left, IsPermutation-append_right, IsPermutation-append_comm}
use Rattle.keyed_rows.specs.Rows.{row_at, Rises, put_row}
use Rattle.td_table_model.proofs.Orders.{none_at}

move_over : {X : Type 0} (e a rest : List X) → IsPermutation (e ++ (a ++ rest)) (a ++ (e ++ rest))
move_over e a rest = rw (← append_assoc e a rest, ← append_assoc a e rest) (IsPermutation-append_left rest (e ++ a) (a ++ e) (IsPermutation-append_comm e a))

-- each row of the table becomes those of g, which touches no row of another number than w's
module _ {R X : Type 0} (key : R → ℕ) (own : X → ℕ) (f : R → List X) (owned : (r : R) → AllByRecursion (λ x. own x ≡ key r) (f r)) (g : X → List X) (w : R) (spares : (x : X) → own x ≢ key w → g x ≡ x ∷ []) where
  spared_by : (k : ℕ) (xs : List X) → k ≢ key w → AllByRecursion (λ x. own x ≡ k) xs → flat_map g xs ≡ xs
  spared_by k [] other all = refl
  spared_by k (x ∷ xs) other all = rw (spares x (λ e. other (sym all.0 ∙ e)), spared_by k xs other all.1) refl

  spared : (low : ℕ) (rows : List R) → Rises key low rows → key w < low → flat_map g (flat_map f rows) ≡ flat_map f rows
  spared low [] rise less = refl
  spared low (r ∷ rows) rise less = rw (flat_map-append g (f r) (flat_map f rows), spared_by (key r) (f r) (λ e. omega (arith, e, rise.0, less)) (owned r), spared (key r + 1) rows rise.1 (omega (arith, rise.0, less))) refl

  -- So where w's own rows are what the rows before become, with some more, the table is that of the rows with w in its place.
  pub put_in_table : (e : List X) (low : ℕ) (rows : List R) → Rises key low rows → IsPermutation (e ++ flat_map g (option_map_or f (row_at key (key w) rows) [])) (f w)
      → IsPermutation (e ++ flat_map g (flat_map f rows)) (flat_map f (put_row key w rows))
  put_in_table e low [] rise same = rw (append-nil (f w)) same
  put_in_table e low (r ∷ rows) rise same = by_tests (nat_lt (key r) (key w)) (key r == key w) refl refl same (put_in_table e (key r + 1) rows rise.1)
    where
      by_tests : (b d : Bool) → nat_lt (key r) (key w) ≡ b → (key r == key w) ≡ d
          → IsPermutation (e ++ flat_map g (option_map_or f (if◌then◌else◌ {A = Option R} d (Some r) (row_at key (key w) rows)) [])) (f w)
          → (IsPermutation (e ++ flat_map g (option_map_or f (row_at key (key w) rows) [])) (f w) → IsPermutation (e ++ flat_map g (flat_map f rows)) (flat_map f (put_row key w rows)))
          → IsPermutation (e ++ flat_map g (f r ++ flat_map f rows)) (flat_map f (if b then r ∷ put_row key w rows else (if d then w ∷ rows else w ∷ r ∷ rows)))
      by_tests true true below same is later = absurd (grind (arith, nat_tests, below, same))
      by_tests true false below other is later =
          rw (flat_map-append g (f r) (flat_map f rows), spared_by (key r) (f r) (grind (arith, nat_tests, other)) (owned r))
          (IsPermutation-trans _ _ _ (move_over e (f r) (flat_map g (flat_map f rows))) (IsPermutation-append_right (f r) _ _ (later is)))
      by_tests false true above same is later =
          let less : key w < key r + 1 = grind (arith, nat_tests, same) in
          rw (flat_map-append g (f r) (flat_map f rows), spared (key r + 1) rows rise.1 less, ← append_assoc e (flat_map g (f r)) (flat_map f rows))
          (IsPermutation-append_left (flat_map f rows) _ _ is)
      by_tests false false above other is later =
          let less : key w < key r = grind (arith, nat_tests, above, other) in
          let none : row_at key (key w) rows ≡ None = none_at key (key w) (key r + 1) rows rise.1 (omega (arith, less)) in
          let fresh : IsPermutation (e ++ []) (f w) = rw none at is in
          rw (flat_map-append g (f r) (flat_map f rows), spared (key r + 1) rows rise.1 (omega (arith, less)), spared_by (key r) (f r) (λ e. omega (arith, e, less)) (owned r))
          (IsPermutation-append_left (f r ++ flat_map f rows) _ _ (rw (append-nil e) at fresh))
