-- No more rows than a number have keys from 1 to it, if no two have one.
use Rattle.std.proofs.Common.{◌≡◌, ◌≤◌, ◌+◌, ℕ, zero, suc, Bool, true, false, cond, List, [], ◌∷◌, length, refl, ap, arith}
use Rattle.std.specs.Prelude.{◌==◌}
use Rattle.std.specs.List.{AllByRecursion}
use Rattle.std.proofs.lemmas.Bool.Decides.{nat_tests}
use Rattle.td_table_model.specs.Gathering.{IsApart, of_key}

module _ {R : Type 0} (key : R → ℕ) where
  -- how many have a key from 1 to m
  abbrev total : ℕ → List R → ℕ
  total zero rows = 0
  total (suc m) rows = length (of_key key (suc m) rows) + total m rows

  one_of_each : (m : ℕ) (rows : List R) → IsApart key rows → total m rows ≤ m
  one_of_each zero rows apart = omega arith
  one_of_each (suc m) rows apart = omega (arith, apart (suc m), one_of_each m rows apart)

  longer : (b : Bool) (r : R) (rows : List R) → length rows ≤ length (cond b (r ∷ rows) rows)
  longer true r rows = omega arith
  longer false r rows = omega arith

  grows : (m : ℕ) (r : R) (rows : List R) → total m rows ≤ total m (r ∷ rows)
  grows zero r rows = omega arith
  grows (suc m) r rows = omega (arith, longer (key r == suc m) r (of_key key (suc m) rows), grows m r rows)

  counted : (m : ℕ) (r : R) (rows : List R) → 1 ≤ key r → key r ≤ m → total m rows + 1 ≤ total m (r ∷ rows)
  counted zero r rows low high = absurd (omega (arith, low, high))
  counted (suc m) r rows low high = by_test (key r == suc m) refl (counted m r rows low)
    where
      by_test : (b : Bool) → (key r == suc m) ≡ b → (key r ≤ m → total m rows + 1 ≤ total m (r ∷ rows)) → total (suc m) rows + 1 ≤ total (suc m) (r ∷ rows)
      by_test true is more =
          let here = ap (λ t. length (cond t (r ∷ of_key key (suc m) rows) (of_key key (suc m) rows))) is in
          omega (arith, here, grows m r rows)
      by_test false is more =
          let within : key r ≤ m = grind (arith, nat_tests, is, high) in
          omega (arith, longer (key r == suc m) r (of_key key (suc m) rows), more within)

  all_counted : (m : ℕ) (rows : List R) → AllByRecursion (λ r. (1 ≤ key r) × (key r ≤ m)) rows → length rows ≤ total m rows
  all_counted m [] all = omega arith
  all_counted m (r ∷ rows) all = omega (arith, counted m r rows all.0.0 all.0.1, all_counted m rows all.1)

  pub not_more : (m : ℕ) (rows : List R) → IsApart key rows → AllByRecursion (λ r. (1 ≤ key r) × (key r ≤ m)) rows → length rows ≤ m
  not_more m rows apart all = omega (arith, all_counted m rows all, one_of_each m rows apart)
