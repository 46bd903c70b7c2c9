-- What the places of a holder's codes and lines say of the rules.
use Rattle.std.proofs.Common.{◌≡◌, ℕ, ◌+◌, ◌<◌, ◌≤◌, Bool, true, false, cond, List, [], ◌∷◌, length, Some, refl, sym, subst, ap, arith}
use Rattle.std.specs.Prelude.{◌↔◌, ◌==◌, IsSome}
use Rattle.std.specs.List.{AllByRecursion}
use Rattle.std.proofs.lemmas.Bool.Decides.{nat_tests}
use Rattle.sqlite_trees.proofs.ListLemmas.{all_both, all_weaker}
use Rattle.keyed_rows.specs.Rows.{row_at}
use Rattle.td_base.specs.Codes.{IsAccessCode}
use Rattle.td_guarantee.specs.declared.guarantee.Guarantee.{Guarantee}
use Rattle.td_movement.specs.declared.movement.Movement.{Movement}
use Rattle.td_model.specs.declared.holder_row.HolderRow.{HolderRow}
use Rattle.td_commands.specs.Lines.{IsLineAmount}
use Rattle.td_store_audit_rows.specs.InPlace.{AreLinesInPlace, IsLineInPlace}
use Rattle.td_table_model.specs.Gathering.{IsApart, IsNumbered, guarantees_by, lines_by, movements_by, no_of, of_key, owner, part, place}
use Rattle.td_table_model.specs.Rules.{AreLinesInRange, HasCodes, HasGuarantees, HasLines, HasMovements, count_of_codes, named_by}
use Rattle.td_table_model.specs.Tables.{Keyed, LineCells, Tables}
use Rattle.td_table_model.proofs.Rebuilt.{numbered_within}
use Rattle.td_store_audit.specs.InPlace.{AreAllLinesInPlace, AreCodesInPlace, AreOneToTwenty}
use Rattle.td_guarantee.specs.Codes.{most_codes}
use Rattle.td_movement.specs.Lines.{most_lines}

module _ {R : Type 0} (key : R → ℕ) where
  -- the numbers that numbered rows have
  pub named_in : (k n : ℕ) (rows : List R) → IsNumbered key n rows → IsSome (row_at key k rows) → (n < k) × (k ≤ n + length rows)
  named_in k n [] is some = cc
  named_in k n (r ∷ rows) is some = go (key r == k) refl some (named_in k (n + 1) rows is.1)
    where
      go : (b : Bool) → (key r == k) ≡ b → IsSome (cond b (Some r) (row_at key k rows)) → (IsSome (row_at key k rows) → (n + 1 < k) × (k ≤ n + 1 + length rows))
          → (n < k) × (k ≤ n + length (r ∷ rows))
      go true own some more = let same : key r ≡ k = grind (arith, nat_tests, own) in (omega (arith, same, is.0), omega (arith, same, is.0))
      go false other some more = let later = more some in (omega (arith, later.0), omega (arith, later.1))

  -- a number after that of the first row
  behind : (k n : ℕ) (r : R) → key r ≡ n + 1 → n < k → (key r == k) ≡ false → n + 1 < k
  behind k n r is low other = grind (arith, nat_tests, other, is, low)

  pub in_named : (k n : ℕ) (rows : List R) → IsNumbered key n rows → n < k → k ≤ n + length rows → IsSome (row_at key k rows)
  in_named k n [] is low high = absurd (omega (arith, low, high))
  in_named k n (r ∷ rows) is low high = go (key r == k) refl (λ less. in_named k (n + 1) rows is.1 less (omega (arith, high)))
    where
      go : (b : Bool) → (key r == k) ≡ b → (n + 1 < k → IsSome (row_at key k rows)) → IsSome (cond b (Some r) (row_at key k rows))
      go true own more = refl
      go false other more = more (behind k n r is.0 low other)

  -- what each of them has
  pub each_numbered : (Q : ℕ → Type 0) (n : ℕ) (rows : List R) → IsNumbered key n rows → AllByRecursion (λ r. Q (key r)) rows → (k : ℕ) → n < k → k ≤ n + length rows → Q k
  each_numbered Q n [] is all k low high = absurd (omega (arith, low, high))
  each_numbered Q n (r ∷ rows) is all k low high = go (key r == k) refl (λ less. each_numbered Q (n + 1) rows is.1 all.1 k less (omega (arith, high)))
    where
      go : (b : Bool) → (key r == k) ≡ b → (n + 1 < k → Q k) → Q k
      go true own more = subst Q (grind (arith, nat_tests, own)) all.0
      go false other more = more (behind k n r is.0 low other)

-- A holder's guarantees, or movements, that are numbered from 1 to their count.
module _ {R : Type 0} (rows : List (Keyed R)) (H count : ℕ) (serials : IsNumbered place 0 rows) (counted : count ≡ length rows) (mine : AllByRecursion (λ r. owner r ≡ H) rows) where
  is_named : (k : ℕ) → IsSome (row_at place k rows) ↔ ((1 ≤ k) × (k ≤ count))
  is_named k = (
    λ some. let it = named_in place k 0 rows serials some in (omega (arith, it.0), omega (arith, it.1, counted)),
    λ within. in_named place k 0 rows serials (omega (arith, within.0)) (omega (arith, within.1, counted)),
  )

  -- one of them is named exactly where the number is from 1 to their count
  pub all_named : {X : Type 0} (key : X → ℕ) (xs : List X) → AllByRecursion (λ x. (1 ≤ key x) × (key x ≤ count)) xs → AllByRecursion (λ x. IsSome (row_at place (key x) rows)) xs
  all_named key xs = all_weaker (λ x. (1 ≤ key x) × (key x ≤ count)) (λ x. IsSome (row_at place (key x) rows)) (λ x within. (is_named (key x)).1 within) xs

  pub all_within : {X : Type 0} (key : X → ℕ) (xs : List X) → AllByRecursion (λ x. IsSome (row_at place (key x) rows)) xs → AllByRecursion (λ x. (1 ≤ key x) × (key x ≤ count)) xs
  all_within key xs = all_weaker (λ x. IsSome (row_at place (key x) rows)) (λ x. (1 ≤ key x) × (key x ≤ count)) (λ x some. (is_named (key x)).0 some) xs

  -- what each number has, each row has, and the other way round
  pub each_row : (Q : ℕ → Type 0) (P : Keyed R → Type 0) → ((r : Keyed R) → owner r ≡ H → Q (place r) → P r) → ((n : ℕ) → 1 ≤ n → n ≤ count → Q n) → AllByRecursion P rows
  each_row Q P so each =
      all_both (λ r. owner r ≡ H) (λ r. (0 < place r) × (place r ≤ 0 + length rows)) P
      (λ r own within. so r own (each (place r) (omega (arith, within.0)) (omega (arith, within.1, counted)))) rows mine (numbered_within place 0 rows serials)

  pub each_number : (Q : ℕ → Type 0) (P : Keyed R → Type 0) → ((r : Keyed R) → owner r ≡ H → P r → Q (place r)) → AllByRecursion P rows → (n : ℕ) → 1 ≤ n → n ≤ count → Q n
  each_number Q P so all n low high =
      each_numbered place Q 0 rows serials (all_both (λ r. owner r ≡ H) P (λ r. Q (place r)) so rows mine all) n (omega (arith, low)) (omega (arith, high, counted))

module _ (t : Tables) (row : HolderRow) (has : HasGuarantees t row) (mine : AllByRecursion (λ g. owner g ≡ row.holder) (guarantees_by row.holder t)) where
  abbrev H : ℕ
  H = row.holder

  abbrev guarantees : List (Keyed Guarantee)
  guarantees = guarantees_by H t

  abbrev codes : List (Keyed (List ℕ))
  codes = part H t.codes

  count_is : (g : Keyed Guarantee) → owner g ≡ H → count_of_codes t g ≡ length (of_key place (place g) codes)
  count_is g own = ap (λ k. length (of_key place (place g) (part k t.codes))) own

  -- the codes are in their places exactly where they keep their rule, if each is well formed
  pub codes_tell : AllByRecursion (λ (c : Keyed (List ℕ)). IsAccessCode c.row) codes → AreCodesInPlace row.grn_count codes ↔ HasCodes t row
  codes_tell form = (
    λ are. record {
      name = all_named guarantees H row.grn_count has.serials has.count mine place codes are.belong;
      form = form;
      some = each_row guarantees H row.grn_count has.serials has.count mine (λ n. AreOneToTwenty (of_key place n codes)) (λ g. 1 ≤ count_of_codes t g)
          (λ g own are. omega (arith, count_is g own, are.some)) are.each;
      most = each_row guarantees H row.grn_count has.serials has.count mine (λ n. AreOneToTwenty (of_key place n codes)) (λ g. count_of_codes t g ≤ most_codes)
          (λ g own are. omega (arith, count_is g own, are.most)) are.each;
    },
    λ keeps. record {
      belong = all_within guarantees H row.grn_count has.serials has.count mine place codes keeps.name;
      each = λ n low high. record {
        some = each_number guarantees H row.grn_count has.serials has.count mine (λ k. 1 ≤ length (of_key place k codes)) (λ g. 1 ≤ count_of_codes t g)
            (λ g own some. omega (arith, count_is g own, some)) keeps.some n low high;
        most = each_number guarantees H row.grn_count has.serials has.count mine (λ k. length (of_key place k codes) ≤ most_codes) (λ g. count_of_codes t g ≤ most_codes)
            (λ g own most. omega (arith, count_is g own, most)) keeps.most n low high;
      };
    },
  )

  -- the lines of a movement of a holder, in range
  record AreInRange (k n : ℕ) : Type 0 where
    numbers : IsNumbered no_of 0 (lines_by k n t)
    some : 1 ≤ length (lines_by k n t)
    most : length (lines_by k n t) ≤ most_lines
    name : AllByRecursion (λ l. IsSome (row_at place (named_by l) (guarantees_by k t))) (lines_by k n t)
    apart : IsApart named_by (lines_by k n t)
    amounts : AllByRecursion (λ (l : Keyed LineCells). IsLineAmount l.row.cents) (lines_by k n t)

  -- they are exactly where they are in their places
  in_place : (n : ℕ) → AreInRange H n → AreLinesInPlace row.grn_count (lines_by H n t)
  in_place n are = record {
    numbers = are.numbers;
    some = are.some;
    most = are.most;
    each = all_both (λ l. (1 ≤ named_by l) × (named_by l ≤ row.grn_count)) (λ (l : Keyed LineCells). IsLineAmount l.row.cents) (IsLineInPlace row.grn_count)
        (λ l within amount. record { first = within.0; last = within.1; amount = amount }) (lines_by H n t)
        (all_within guarantees H row.grn_count has.serials has.count mine named_by (lines_by H n t) are.name) are.amounts;
    apart = are.apart;
  }

  in_range : (n : ℕ) → AreLinesInPlace row.grn_count (lines_by H n t) → AreInRange H n
  in_range n are = record {
    numbers = are.numbers;
    some = are.some;
    most = are.most;
    name = all_named guarantees H row.grn_count has.serials has.count mine named_by (lines_by H n t)
        (all_weaker (IsLineInPlace row.grn_count) (λ l. (1 ≤ named_by l) × (named_by l ≤ row.grn_count)) (λ l is. (is.first, is.last)) (lines_by H n t) are.each);
    apart = are.apart;
    amounts = all_weaker (IsLineInPlace row.grn_count) (λ (l : Keyed LineCells). IsLineAmount l.row.cents) (λ l is. is.amount) (lines_by H n t) are.each;
  }

  of_movement : (m : Keyed Movement) → owner m ≡ H → AreInRange H (place m) → AreLinesInRange t m
  of_movement m own are = let here : AreInRange m.holder m.serial = subst (λ k. AreInRange k m.serial) (sym own) are in record {
    numbers = here.numbers;
    some = here.some;
    most = here.most;
    name = here.name;
    apart = here.apart;
    amounts = here.amounts;
  }

  to_movement : (m : Keyed Movement) → owner m ≡ H → AreLinesInRange t m → AreInRange H (place m)
  to_movement m own are = subst (λ k. AreInRange k m.serial) own (record {
    numbers = are.numbers;
    some = are.some;
    most = are.most;
    name = are.name;
    apart = are.apart;
    amounts = are.amounts;
  })

  -- the lines are in their places exactly where they keep their rule
  pub lines_tell : HasMovements t row → AllByRecursion (λ m. owner m ≡ H) (movements_by H t) → AreAllLinesInPlace row.grn_count row.mrn_count (part H t.lines) ↔ HasLines t row
  lines_tell moves owned = (
    λ are. record {
      columns = each_row (movements_by H t) H row.mrn_count moves.serials moves.count owned (λ n. AreLinesInPlace row.grn_count (lines_by H n t)) (AreLinesInRange t)
          (λ m own is. of_movement m own (in_range (place m) is)) are.each;
      belong = all_named (movements_by H t) H row.mrn_count moves.serials moves.count owned place (part H t.lines) are.belong;
    },
    λ keeps. record {
      belong = all_within (movements_by H t) H row.mrn_count moves.serials moves.count owned place (part H t.lines) keeps.belong;
      each = each_number (movements_by H t) H row.mrn_count moves.serials moves.count owned (λ n. AreLinesInPlace row.grn_count (lines_by H n t)) (AreLinesInRange t)
          (λ m own is. in_place (place m) (to_movement m own is)) keeps.columns;
    },
  )
