-- A UNIQUE key read backward: no two rows of a table have it.
use Rattle.std.proofs.Common.{◌≡◌, ◌∙◌, ℕ, ℤ, ◌≤◌, Bool, true, false, cond, true≢false, List, [], ◌∷◌, length, map, inl, inr, refl, sym, subst, ap, arith}
use Rattle.std.specs.Prelude.{◌⊎◌, filter, ◌&&◌, ◌||◌}
use Rattle.std.specs.List.{AllByRecursion, list_any}
use Rattle.sqlite_value.specs.declared.keys.Collation.TheVariants.{Binary}
use Rattle.sqlite_value.specs.declared.value.Value.TheVariants.{Int}
use Rattle.sqlite_value.specs.Keys.{first_key, plain}
use Rattle.sqlite_value.specs.Order.{Row, column}
use Rattle.sqlite_trees.specs.Tree.{Trees, has_rowid, rowid}
use Rattle.sqlite_trees.proofs.ListLemmas.{all_both, filter-map}
use Rattle.sqlite_rules.specs.Edit.{id_in}
use Rattle.sqlite_schema.specs.Rules.{agree, clashes, differ, equal}
use Rattle.typed_sql.specs.Writing.{HaveIds}
use Rattle.typed_sql.specs.Typed.{IsTypedRow, Typing, row_of, typed_rows}
use Rattle.typed_sql.proofs.Ids.{has_own}
use Rattle.td_store_audit.proofs.Equal.{not_differ}

-- two rows have equal columns at these places
abbrev pub HaveSame : List ℕ → Row → Row → Type 0
HaveSame places a b = AllByRecursion (λ p. equal Binary (column a p) (column b p) ≡ true) places

-- so they agree on a key of them
pub agreed : (places : List ℕ) (a b : Row) → HaveSame places a b → agree plain places a places b ≡ true
unfolding first_key
agreed [] a b same = refl
agreed (p ∷ places) a b same = rw (same.0, agreed places a b same.1) refl

-- the rows pass a UNIQUE key
abbrev pub HaveKey : List ℕ → List Row → Type 0
HaveKey places rows = AllByRecursion (λ row. clashes plain places rows row ≡ false) rows

-- another row that agrees with this one has its rowid
no_other : (places : List ℕ) (id : ℤ) (row : Row) → rowid row ≡ Int id → (others : List Row)
    → AllByRecursion (λ r. rowid r ≡ Int (id_in (rowid r))) others
    → list_any (λ other. agree plain places other places row && differ (rowid other) (rowid row)) others ≡ false
    → AllByRecursion (λ other. HaveSame places other row → has_rowid id other ≡ true) others
no_other places id row is [] ints none = tt
no_other places id row is (other ∷ others) ints none =
    let two = neither (agree plain places other places row && differ (rowid other) (rowid row))
    (list_any (λ other. agree plain places other places row && differ (rowid other) (rowid row)) others) none in (
      λ same. own (second (agree plain places other places row) (differ (rowid other) (rowid row)) two.0 (agreed places other row same)),
      no_other places id row is others ints.1 two.1,
    )
  where
    neither : (a b : Bool) → (a || b) ≡ false → (a ≡ false) × (b ≡ false)
    neither false b is = (refl, is)
    neither true b is = absurd (true≢false is)

    second : (a b : Bool) → (a && b) ≡ false → a ≡ true → b ≡ false
    second true b is that = is
    second false b is that = absurd (true≢false (sym that))

    own : differ (rowid other) (rowid row) ≡ false → has_rowid id other ≡ true
    own alike =
        let same : id_in (rowid other) ≡ id = not_differ (id_in (rowid other)) id (ap (λ v. differ v (Int id)) (sym ints.0) ∙ ap (differ (rowid other)) (sym is) ∙ alike) in
        has_own id other (ints.0 ∙ ap Int same)

-- of rows that pass a test only where they have this rowid there are no more than have it
pub few : (test : Row → Bool) (id : ℤ) (rows : List Row) → AllByRecursion (λ r. test r ≡ true → has_rowid id r ≡ true) rows
    → length (filter test rows) ≤ length (filter (has_rowid id) rows)
few test id [] each = omega arith
few test id (r ∷ rows) each = by_tests (test r) (has_rowid id r) each.0 (few test id rows each.1)
  where
    by_tests : (t h : Bool) → (t ≡ true → h ≡ true) → length (filter test rows) ≤ length (filter (has_rowid id) rows)
        → length (cond t (r ∷ filter test rows) (filter test rows)) ≤ length (cond h (r ∷ filter (has_rowid id) rows) (filter (has_rowid id) rows))
    by_tests true true so less = omega (arith, less)
    by_tests true false so less = absurd (true≢false (sym (so refl)))
    by_tests false true so less = omega (arith, less)
    by_tests false false so less = less

-- either no row passes, or there are few
none_or_few : (test : Row → Bool) (Few : Type 0) (rows : List Row) → AllByRecursion (λ r. test r ≡ true → Few) rows → Few ⊎ (filter test rows ≡ [])
none_or_few test Few [] each = inr refl
none_or_few test Few (r ∷ rows) each = by_test (test r) each.0 (none_or_few test Few rows each.1)
  where
    by_test : (t : Bool) → (t ≡ true → Few) → Few ⊎ (filter test rows ≡ []) → Few ⊎ (cond t (r ∷ filter test rows) (filter test rows) ≡ [])
    by_test true so more = inl (so refl)
    by_test false so more = more

-- Rows that pass a test have one key, which is UNIQUE: so one row passes at most. What is known of each row tells that.
module _ (places : List ℕ) (rows : List Row) (ids : HaveIds rows) (key : HaveKey places rows) (IsRow : Row → Type 0) (each : AllByRecursion IsRow rows)
    (test : Row → Bool) (same : (a b : Row) → IsRow a → IsRow b → test a ≡ true → test b ≡ true → HaveSame places a b) where
  pub one_passes : length (filter test rows) ≤ 1
  one_passes = go (none_or_few test (length (filter test rows) ≤ 1) rows (all_both IsRow (λ row. (clashes plain places rows row ≡ false) × (rowid row ≡ Int (id_in (rowid row))))
      (λ row. test row ≡ true → length (filter test rows) ≤ 1) one rows each
      (all_both (λ row. clashes plain places rows row ≡ false) (λ row. rowid row ≡ Int (id_in (rowid row)))
      (λ row. (clashes plain places rows row ≡ false) × (rowid row ≡ Int (id_in (rowid row)))) (λ row c i. (c, i)) rows key ids.ints)))
    where
      one : (row : Row) → IsRow row → (clashes plain places rows row ≡ false) × (rowid row ≡ Int (id_in (rowid row)))
          → test row ≡ true → length (filter test rows) ≤ 1
      one row is facts passes =
          let id = id_in (rowid row) in
          let less = few test id rows (all_both IsRow (λ other. HaveSame places other row → has_rowid id other ≡ true) (λ other. test other ≡ true → has_rowid id other ≡ true)
          (λ other it so passed. so (same other row it is passed passes)) rows each (no_other places id row facts.1 rows ids.ints facts.0)) in
          omega (arith, less, ids.apart id)

      go : (length (filter test rows) ≤ 1) ⊎ (filter test rows ≡ []) → length (filter test rows) ≤ 1
      go (inl most) = most
      go (inr none) = rw none (omega arith)

-- a list has as many elements as it was made of
pub length_mapped : {X Y : Type 0} (f : X → Y) (xs : List X) → length (map f xs) ≡ length xs
length_mapped f [] = refl
length_mapped f (x ∷ xs) = omega (arith, length_mapped f xs)

-- so of typed rows
module _ {R : Type 0} (ty : Typing R) (trees : Trees) (places : List ℕ) (ids : HaveIds (trees ty.table.tree)) (key : HaveKey places (trees ty.table.tree))
    (typed : AllByRecursion (IsTypedRow ty) (trees ty.table.tree)) (test : R → Bool)
    (same : (a b : Row) → IsTypedRow ty a → IsTypedRow ty b → test (row_of ty a) ≡ true → test (row_of ty b) ≡ true → HaveSame places a b) where
  pub one_typed : length (filter test (typed_rows ty trees)) ≤ 1
  one_typed =
      rw (filter-map test (row_of ty) (trees ty.table.tree)) (subst (λ n. n ≤ 1) (sym (length_mapped (row_of ty) (filter (λ r. test (row_of ty r)) (trees ty.table.tree))))
      (one_passes places (trees ty.table.tree) ids key (IsTypedRow ty) typed (λ r. test (row_of ty r)) same))
