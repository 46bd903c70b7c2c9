-- Amounts in use that follow a movement, line by line.
use Rattle.std.proofs.Common.{◌≡◌, ◌≢◌, ◌∙◌, ℕ, ◌+◌, ◌≤◌, Bool, true, false, List, [], ◌∷◌, ◌++◌, map, refl, sym, ap, ap₂, subst, arith, IsPermutation}
use Rattle.std.specs.Prelude.{◌==◌, ◌&&◌, filter, if◌then◌else◌}
use Rattle.std.specs.List.{AllByRecursion, sum_by}
use Rattle.std.proofs.lemmas.Bool.Decides.{nat_tests}
use Rattle.std.proofs.lemmas.List.Sums.{sum_by-append, sum_by-cons}
use Rattle.std.proofs.lemmas.List.Sorted.{sum_by-IsPermutation}
use Rattle.sqlite.specs.State.{State as FileState, HasCleanDisk}
use Rattle.sqlite_trees.proofs.ListLemmas.{all-map, all-permutation, all_weaker}
use Rattle.td_movement.specs.declared.state.State.{State}
use Rattle.td_movement.specs.declared.state.State.TheVariants.{Accepted, Cancelled, Released, Enquired, Arrived, Discrepant, Cleared, WrittenOff}
use Rattle.td_table_model.specs.Tables.{Keyed, Kept, LineCells, Tables, with_amount, without_amount}
use Rattle.td_table_model.specs.Changes.{HaveSameRows, used_after, with_use_after}
use Rattle.td_table_model.specs.Looking.{amount_between, cents_of}
use Rattle.td_table_model.proofs.Counting.{sum_by-map}
use Rattle.td_table_model.proofs.Joining.{sum_by-passing, sum_by-same}
use Rattle.typed_sql.specs.Reading.{StaysInside}
use Rattle.typed_sql.proofs.OnlyRead.{stays_nothing, stays_on}
use Rattle.typed_sql.proofs.Ordered.{both_pass}
use Rattle.td_store_rows.specs.GuaranteeTable.{has_serial}
use Rattle.td_store_rows.specs.KeptTable.{MayChange}
use Rattle.td_store_rows.specs.LineTable.{is_line_of, line_row_of}
use Rattle.td_store_rows.specs.StoreTables.{tables_in}
use Rattle.td_store_rows.specs.declared.lines.stored.StoredLine.{StoredLine}
use Rattle.td_store_rows.proofs.Chained.{has_as, has_then, kept_respect, map_respects, same_rows, turned_nothing}
use Rattle.td_store_rows.proofs.StoreReads.{newest_keeps}
use Rattle.td_store_write.specs.InUse.{FitLines, MayFollow, TurnsFitting, amount_on, cents_at, change_at, changes_use, with_change, with_lines, is_of}

-- the kept rows alone are made others by f
abbrev pub set_kept : (Keyed Kept → Keyed Kept) → Tables → Tables
set_kept f t = record t { kept = map f t.kept }

-- tables that are the same have the same rows
pub same_as : (t u : Tables) → t ≡ u → HaveSameRows t u
same_as t u is = subst (HaveSameRows t) is (same_rows t)

-- nothing changes nothing, and one change after another is their sum
pub used_stays : (state : State) (used : ℕ) → used_after state 0 used ≡ used
used_stays Accepted used = refl
used_stays Cancelled used = refl
used_stays Released used = omega arith
used_stays Enquired used = refl
used_stays Arrived used = refl
used_stays Discrepant used = refl
used_stays Cleared used = refl
used_stays WrittenOff used = omega arith

used_twice : (state : State) (one two used : ℕ) → used_after state two (used_after state one used) ≡ used_after state (one + two) used
used_twice Accepted one two used = refl
used_twice Cancelled one two used = refl
used_twice Released one two used = omega arith
used_twice Enquired one two used = refl
used_twice Arrived one two used = refl
used_twice Discrepant one two used = refl
used_twice Cleared one two used = refl
used_twice WrittenOff one two used = omega arith

-- a state that changes no amount leaves each
pub used_left : (state : State) → changes_use state ≡ false → (cents used : ℕ) → used_after state cents used ≡ used
used_left Accepted is cents used = refl
used_left Cancelled is cents used = refl
used_left Released is cents used = cc
used_left Enquired is cents used = refl
used_left Arrived is cents used = refl
used_left Discrepant is cents used = refl
used_left Cleared is cents used = refl
used_left WrittenOff is cents used = cc

pub other_state : (state : State) → state ≢ Released → state ≢ WrittenOff → changes_use state ≡ false
other_state Accepted first second = refl
other_state Cancelled first second = refl
other_state Released first second = absurd (first refl)
other_state Enquired first second = refl
other_state Arrived first second = refl
other_state Discrepant first second = refl
other_state Cleared first second = refl
other_state WrittenOff first second = absurd (second refl)

-- what may follow all may follow a part of it, after another part
part_may : (state : State) (one two all used : ℕ) → one + two ≤ all → MayFollow state all used → MayFollow state two (used_after state one used)
part_may Accepted one two all used low may = tt
part_may Cancelled one two all used low may = tt
part_may Released one two all used low may = omega (arith, low, may)
part_may Enquired one two all used low may = tt
part_may Arrived one two all used low may = tt
part_may Discrepant one two all used low may = tt
part_may Cleared one two all used low may = tt
part_may WrittenOff one two all used low may = (omega (arith, low, may.0), omega (arith, may.1))

-- one line more
amount_more : (n : ℕ) (lines : List StoredLine) (x : StoredLine) → amount_on n (lines ++ x ∷ []) ≡ amount_on n lines + cents_at n x
amount_more n lines x =
    let split = sum_by-append (cents_at n) lines (x ∷ []) in
    let last = sum_by-cons (cents_at n) x [] in
    let nil : sum_by (cents_at n) [] ≡ 0 = refl in
    omega (arith, split, last, nil)

-- no line
none_there : (H : ℕ) (state : State) (k : Keyed Kept) → with_lines H state [] k ≡ k
none_there H state k = by_test (k.holder == H)
  where
    by_test : (b : Bool) → ◌≡◌ {A = Keyed Kept} (if b then with_change state 0 k else k) k
    by_test true = ap (λ used. with_amount used (without_amount k)) (used_stays state k.row.used)
    by_test false = refl

map_itself : (f : Keyed Kept → Keyed Kept) → ((k : Keyed Kept) → f k ≡ k) → (ks : List (Keyed Kept)) → map f ks ≡ ks
map_itself f same [] = refl
map_itself f same (k ∷ ks) = ap₂ ◌∷◌ (same k) (map_itself f same ks)

map_each : (f g : Keyed Kept → Keyed Kept) → ((k : Keyed Kept) → f k ≡ g k) → (ks : List (Keyed Kept)) → map f ks ≡ map g ks
map_each f g same [] = refl
map_each f g same (k ∷ ks) = ap₂ ◌∷◌ (same k) (map_each f g same ks)

map_twice : (f g h : Keyed Kept → Keyed Kept) → ((k : Keyed Kept) → g (f k) ≡ h k) → (ks : List (Keyed Kept)) → map g (map f ks) ≡ map h ks
map_twice f g h same [] = refl
map_twice f g h same (k ∷ ks) = ap₂ ◌∷◌ (same k) (map_twice f g h same ks)

-- tables whose kept rows are made the same are the same
pub set_same : (f g : Keyed Kept → Keyed Kept) → ((k : Keyed Kept) → f k ≡ g k) → (t : Tables) → set_kept f t ≡ set_kept g t
set_same f g same t = ap (λ rows. record t { kept = rows }) (map_each f g same t.kept)

pub set_none : (f : Keyed Kept → Keyed Kept) → ((k : Keyed Kept) → f k ≡ k) → (t : Tables) → t ≡ set_kept f t
set_none f same t = ap (λ rows. record t { kept = rows }) (sym (map_itself f same t.kept))

-- after the lines before it, the next line makes a row what all of them make it
module _ (H : ℕ) (state : State) (lines : List StoredLine) (x : StoredLine) (k : Keyed Kept) where
  abbrev had : ℕ
  had = amount_on k.serial lines

  abbrev in_all : ℕ
  in_all = amount_on k.serial (lines ++ x ∷ [])

  abbrev before : Keyed Kept
  before = with_change state had k

  by_serial : (b : Bool) → (k.serial == x.guarantee) ≡ b → ◌≡◌ {A = Keyed Kept} (if b then with_change state x.cents before else before) (with_change state in_all k)
  by_serial true named =
      let here : cents_at k.serial x ≡ x.cents = ap (λ c. if c then x.cents else 0) named in
      let total : had + x.cents ≡ in_all = omega (arith, amount_more k.serial lines x, here) in
      ap (λ used. with_amount used (without_amount k)) (used_twice state had x.cents k.row.used ∙ ap (λ cents. used_after state cents k.row.used) total)
  by_serial false other =
      let here : cents_at k.serial x ≡ 0 = ap (λ c. if c then x.cents else 0) other in
      let total : had ≡ in_all = omega (arith, amount_more k.serial lines x, here) in
      ap (λ cents. with_change state cents k) total

  by_owner : (b : Bool) → (k.holder == H) ≡ b → change_at state H x.guarantee x.cents (with_lines H state lines k) ≡ with_lines H state (lines ++ x ∷ []) k
  by_owner true own =
      let was : with_lines H state lines k ≡ before = ap (λ c. if c then before else k) own in
      let now : with_lines H state (lines ++ x ∷ []) k ≡ with_change state in_all k = ap (λ c. if c then with_change state in_all k else k) own in
      let mine : change_at state H x.guarantee x.cents before ≡ (if k.serial == x.guarantee then with_change state x.cents before else before) =
      ap (λ c. if c && (k.serial == x.guarantee) then with_change state x.cents before else before) own in
      ap (change_at state H x.guarantee x.cents) was ∙ mine ∙ by_serial (k.serial == x.guarantee) refl ∙ sym now
  by_owner false other =
      let was : with_lines H state lines k ≡ k = ap (λ c. if c then before else k) other in
      let now : with_lines H state (lines ++ x ∷ []) k ≡ k = ap (λ c. if c then with_change state in_all k else k) other in
      let spared : change_at state H x.guarantee x.cents k ≡ k = ap (λ c. if c && (k.serial == x.guarantee) then with_change state x.cents k else k) other in
      ap (change_at state H x.guarantee x.cents) was ∙ spared ∙ sym now

  line_more : change_at state H x.guarantee x.cents (with_lines H state lines k) ≡ with_lines H state (lines ++ x ∷ []) k
  line_more = by_owner (k.holder == H) refl

-- and a row that may follow all lines may follow it there
next_may : (H : ℕ) (state : State) (lines all : List StoredLine) (x : StoredLine) (k : Keyed Kept) → amount_on k.serial (lines ++ x ∷ []) ≤ amount_on k.serial all
    → (is_of H k ≡ true → MayFollow state (amount_on k.serial all) k.row.used)
    → has_serial H x.guarantee (with_lines H state lines k) ≡ true → MayFollow state x.cents (with_lines H state lines k).row.used
next_may H state lines all x k low may = by_owner (k.holder == H) refl
  where
    by_owner : (b : Bool) → (k.holder == H) ≡ b → has_serial H x.guarantee (if b then with_change state (amount_on k.serial lines) k else k) ≡ true
        → MayFollow state x.cents (if b then with_change state (amount_on k.serial lines) k else k).row.used
    by_owner true own named =
        let here : cents_at k.serial x ≡ x.cents = ap (λ c. if c then x.cents else 0) (both_pass (k.holder == H) (k.serial == x.guarantee) named).1 in
        part_may state (amount_on k.serial lines) x.cents (amount_on k.serial all) k.row.used (omega (arith, low, amount_more k.serial lines x, here)) (may own)
    by_owner false other named = let is = (both_pass (k.holder == H) (k.serial == x.guarantee) named).0 in cc

-- the lines before a place of all of them have been followed
pub record HasFollowed (H : ℕ) (state : State) (lines all : List StoredLine) (old new : FileState) : Type 0 where
  pub tables : HasCleanDisk new → TurnsFitting (FitLines H state all) (set_kept (with_lines H state lines)) old new
  pub within : StaysInside true old new

-- nothing was done, where f leaves each row
pub nothing_turned : (Fits : Tables → Type 0) (f : Keyed Kept → Keyed Kept) → ((k : Keyed Kept) → f k ≡ k) → (a : FileState) → TurnsFitting Fits (set_kept f) a a
nothing_turned Fits f same a l newest has typed may =
    turned_nothing (set_kept f) (λ t. same_as _ _ (sym (set_none f same t))) a l newest has typed

pub change_left : (state : State) → changes_use state ≡ false → (H n cents : ℕ) (k : Keyed Kept) → change_at state H n cents k ≡ k
change_left state none H n cents k = by_test (has_serial H n k)
  where
    by_test : (b : Bool) → ◌≡◌ {A = Keyed Kept} (if b then with_change state cents k else k) k
    by_test true = ap (λ used. with_amount used (without_amount k)) (used_left state none cents k.row.used)
    by_test false = refl

pub nothing_followed : (H : ℕ) (state : State) (all : List StoredLine) (a : FileState) → HasFollowed H state [] all a a
nothing_followed H state all a = record {
  tables = λ clean. nothing_turned (FitLines H state all) (with_lines H state []) (none_there H state) a;
  within = stays_nothing;
}

pub follow_next : (H : ℕ) (state : State) (lines all : List StoredLine) (x : StoredLine) (a b d : FileState)
    → ((n : ℕ) → amount_on n (lines ++ x ∷ []) ≤ amount_on n all) → HasFollowed H state lines all a b
    → (HasCleanDisk d → TurnsFitting (λ t. MayChange (has_serial H x.guarantee) (λ k. MayFollow state x.cents k.row.used) t.kept) (set_kept (change_at state H x.guarantee x.cents)) b d)
    → StaysInside true b d → HasFollowed H state (lines ++ x ∷ []) all a d
follow_next H state lines all x a b d low first next within = record {
  tables = λ clean l newest has typed may.
      let one = first.tables (omega (arith, clean, within.survives.clean)) l newest has typed may in
      let t = tables_in l a.now.trees in
      let left : MayChange (has_serial H x.guarantee) (λ k. MayFollow state x.cents k.row.used) (tables_in l b.now.trees).kept =
      all-permutation (λ k. has_serial H x.guarantee k ≡ true → MayFollow state x.cents k.row.used) _ _ (one.same.kept (newest_keeps l newest))
      (all-map (λ k. has_serial H x.guarantee k ≡ true → MayFollow state x.cents k.row.used) (with_lines H state lines) t.kept
      (all_weaker (λ k. is_of H k ≡ true → MayFollow state (amount_on k.serial all) k.row.used)
      (λ k. has_serial H x.guarantee (with_lines H state lines k) ≡ true → MayFollow state x.cents (with_lines H state lines k).row.used)
      (λ k own. next_may H state lines all x k (low k.serial) own) t.kept may)) in
      let two = next clean l newest one.schema one.typed left in
      let step = change_at state H x.guarantee x.cents in
      has_as l (λ t. set_kept step (set_kept (with_lines H state lines) t)) (set_kept (with_lines H state (lines ++ x ∷ []))) a d
      (same_as _ _ (ap (λ rows. record t { kept = rows }) (sym (map_twice (with_lines H state lines) step (with_lines H state (lines ++ x ∷ [])) (line_more H state lines x) t.kept))))
      (has_then l (set_kept (with_lines H state lines)) (set_kept step)
      (kept_respect (map step) (λ gs. gs) (map_respects step) (λ xs ys same. same)) a b d one two);
  within = stays_on first.within within;
}

-- Lines that were read are those of the movement: they have as much on each guarantee.
swap : (a b : ℕ) → (a == b) ≡ (b == a)
swap a b = grind (arith, nat_tests)

abbrev row_at_serial : ℕ → Keyed LineCells → ℕ
row_at_serial n l = if n == l.row.guarantee then l.row.cents else 0

each_line : (H m n : ℕ) (l : Keyed LineCells)
    → (if is_line_of H m l then row_at_serial n l else 0) ≡ (if l.holder == H && (l.serial == m && l.row.guarantee == n) then cents_of l else 0)
each_line H m n l = by_tests (l.holder == H) (l.serial == m) (n == l.row.guarantee) (l.row.guarantee == n) (swap n l.row.guarantee)
  where
    by_tests : (a b c e : Bool) → c ≡ e → ◌≡◌ {A = ℕ} (if a && b then (if c then l.row.cents else 0) else 0) (if a && (b && e) then cents_of l else 0)
    by_tests false b c e same = refl
    by_tests true false c e same = refl
    by_tests true true true true same = refl
    by_tests true true true false same = cc
    by_tests true true false true same = cc
    by_tests true true false false same = refl

all_lines : (H m n : ℕ) (ls : List (Keyed LineCells))
    → AllByRecursion (λ l. (if is_line_of H m l then row_at_serial n l else 0) ≡ (if l.holder == H && (l.serial == m && l.row.guarantee == n) then cents_of l else 0)) ls
all_lines H m n [] = tt
all_lines H m n (l ∷ ls) = (each_line H m n l, all_lines H m n ls)

pub read_amount : (H m n : ℕ) (t : Tables) (found : List StoredLine) → IsPermutation (filter (is_line_of H m) t.lines) (map line_row_of found)
    → amount_on n found ≡ amount_between H m n t
read_amount H m n t found those =
    sym (sum_by-map (row_at_serial n) line_row_of found)
    ∙ sum_by-IsPermutation (row_at_serial n) (filter (is_line_of H m) t.lines) (map line_row_of found) those
    ∙ sum_by-passing (row_at_serial n) (is_line_of H m) t.lines
    ∙ sum_by-same (λ l. if is_line_of H m l then row_at_serial n l else 0) (λ l. if l.holder == H && (l.serial == m && l.row.guarantee == n) then cents_of l else 0)
    t.lines (all_lines H m n t.lines)
    ∙ sym (sum_by-passing cents_of (λ l. l.holder == H && (l.serial == m && l.row.guarantee == n)) t.lines)

-- so a row after them is the row after the movement
pub lines_as_between : (H m : ℕ) (state : State) (t : Tables) (found : List StoredLine) → ((n : ℕ) → amount_on n found ≡ amount_between H m n t)
    → (k : Keyed Kept) → with_use_after H m state t k ≡ with_lines H state found k
lines_as_between H m state t found amounts k =
    ap (λ cents. if k.holder == H then with_change state cents k else k) (sym (amounts k.serial))

-- and where the state changes no amount it is the row itself
pub left_as_was : (H m : ℕ) (state : State) (t : Tables) → changes_use state ≡ false → (k : Keyed Kept) → with_use_after H m state t k ≡ k
left_as_was H m state t none k = by_test (k.holder == H)
  where
    by_test : (b : Bool) → ◌≡◌ {A = Keyed Kept} (if b then with_change state (amount_between H m k.serial t) k else k) k
    by_test true = ap (λ used. with_amount used (without_amount k)) (used_left state none (amount_between H m k.serial t) k.row.used)
    by_test false = refl
