-- What statements one after another have written, each well.
use Rattle.std.proofs.Common.{◌≡◌, ◌∙◌, ℕ, zero, suc, ◌+◌, ◌<◌, List, [], ◌∷◌, ◌++◌, length, map, take, get_or, true, sym, ap, subst, arith, IsPermutation}
use Rattle.std.proofs.lemmas.List.{take_more, map-append, append_assoc}
use Rattle.std.proofs.lemmas.List.Sorted.{IsPermutation-middle}
use Rattle.sqlite.specs.State.{State, HasCleanDisk}
use Rattle.td_table_model.specs.Tables.{Tables, numbered}
use Rattle.td_table_model.specs.Changes.{HaveSameRows}
use Rattle.typed_sql.specs.Reading.{StaysInside}
use Rattle.typed_sql.proofs.OnlyRead.{stays_nothing, stays_on}
use Rattle.td_store_rows.specs.StoreTables.{TurnsTables}
use Rattle.td_store_rows.proofs.Chained.{RespectsRows, turned_as, turned_nothing, turned_then}

pub record HasWritten (f : Tables → Tables) (old new : State) : Type 0 where
  pub tables : HasCleanDisk new → TurnsTables f old new
  pub within : StaysInside true old new

-- nothing yet
pub nothing_written : (f : Tables → Tables) → ((t : Tables) → HaveSameRows (f t) t) → (a : State)
    → HasWritten f a a
nothing_written f same a = record { tables = λ clean. turned_nothing f same a; within = stays_nothing }

-- a statement more
pub written_then : (f g : Tables → Tables) → RespectsRows g → (a b d : State) → HasWritten f a b → HasWritten g b d
    → HasWritten (λ t. g (f t)) a d
written_then f g respects a b d first second = record {
  tables = λ clean.
      turned_then f g respects a b d (first.tables (omega (arith, clean, second.within.survives.clean)))
      (second.tables clean);
  within = stays_on first.within second.within;
}

-- what was written, said otherwise
pub written_as : (f g : Tables → Tables) → ((t : Tables) → HaveSameRows (g t) (f t)) → (old new : State)
    → HasWritten f old new → HasWritten g old new
written_as f g same old new written = record {
  tables = λ clean. turned_as f g old new same (written.tables clean);
  within = written.within;
}

-- a row that is put before those that are there, and the next of a list that is put with the ones before it
pub next_put : {X Y : Type 0} (row : X → Y) (xs : List X) (i : ℕ) (d : X) → i < length xs → (there : List Y)
    → IsPermutation (map row (take (i + 1) xs) ++ there) (row (get_or xs i d) ∷ (map row (take i xs) ++ there))
next_put row xs i d low there =
    let split : map row (take (i + 1) xs) ++ there ≡ map row (take i xs) ++ row (get_or xs i d) ∷ there =
    ap (λ l. map row l ++ there) (take_more xs i d low) ∙ ap (λ l. l ++ there) (map-append row (take i xs) (get_or xs i d ∷ []))
    ∙ append_assoc (map row (take i xs)) (row (get_or xs i d) ∷ []) there in
    subst (λ l. IsPermutation l (row (get_or xs i d) ∷ (map row (take i xs) ++ there))) (sym split)
    (IsPermutation-middle (map row (take i xs)) (row (get_or xs i d)) there)

-- the element at a place of a numbered list
numbered_at : {X : Type 0} (n : ℕ) (xs : List X) (i : ℕ) (p : ℕ × X) (d : X) → i < length xs
    → get_or (numbered n xs) i p ≡ (n + i + 1, get_or xs i d)
numbered_at n [] i p d low = absurd (omega (arith, low))
numbered_at n (x ∷ xs) zero p d low = ap (λ k. (k, x)) (omega arith)
numbered_at n (x ∷ xs) (suc i) p d low =
    numbered_at (n + 1) xs i p d (omega (arith, low)) ∙ ap (λ k. (k, get_or xs i d)) (omega arith)

pub numbered_from_one : {X : Type 0} (xs : List X) (i : ℕ) (p : ℕ × X) (d : X) → i < length xs
    → get_or (numbered 0 xs) i p ≡ (i + 1, get_or xs i d)
numbered_from_one xs i p d low = numbered_at 0 xs i p d low ∙ ap (λ k. (k, get_or xs i d)) (omega arith)
