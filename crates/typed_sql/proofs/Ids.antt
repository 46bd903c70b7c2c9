-- Rowids are kept apart by what a statement does to a table.
use Rattle.sqlite_trees.proofs.TreeLemmas.{all-put_row}
use Rattle.std.proofs.lemmas.Int.{ints}
use Rattle.sqlite_rules.specs.Edit.{id_in, is_taken}
use Rattle.sqlite_trees.proofs.ListLemmas.{IsPermutation-filter, all-filter}
use Rattle.sqlite_trees.specs.Tree.{has_rowid, put_row, rowid}
use Rattle.sqlite_value.proofs.OrderLemmas.{value_cmp-Int}
use Rattle.sqlite_value.specs.Order.{Row, value_cmp}
use Rattle.sqlite_value.specs.declared.value.Value.TheVariants.{Int}
use Rattle.std.proofs.Common.{Bool, IsPermutation, List, [], ap, arith, cond, false, int_cmp, length, refl, subst, sym, true, ◌∙◌, ◌∷◌, ◌≡◌, ◌≤◌}
use Rattle.std.proofs.lemmas.List.Sorted.{IsPermutation-cons, IsPermutation-middle, IsPermutation-refl, IsPermutation-trans, length_permutation}
use Rattle.std.specs.Ordering.{is_eq, match_ordering}
use Rattle.std.specs.Prelude.{filter, ℤ, ◌||◌}
use Rattle.std.specs.declared.cmp.Ordering.{Ordering}
use Rattle.std.specs.declared.cmp.Ordering.TheVariants.{Equal, Greater, Less}
use Rattle.typed_sql.proofs.Lists.{fewer}
use Rattle.typed_sql.specs.Writing.{HaveIds}

-- a row whose rowid is free is put to the others
pub puts : (new : Row) (rows : List Row) → is_taken rows new ≡ false
    → IsPermutation (new ∷ rows) (put_row new rows)
puts new [] free = IsPermutation-refl (new ∷ [])
puts new (r ∷ rows) free = go (value_cmp (rowid r) (rowid new)) free (puts new rows)
  where
    go : (o : Ordering) → (is_eq o || is_taken rows new) ≡ false
        → (is_taken rows new ≡ false → IsPermutation (new ∷ rows) (put_row new rows))
        → IsPermutation (new ∷ r ∷ rows) (match_ordering o (r ∷ put_row new rows) (new ∷ rows) (new ∷ r ∷ rows))
    go Less free more =
        IsPermutation-trans _ _ _ (IsPermutation-middle (new ∷ []) r rows) (IsPermutation-cons r _ _ (more free))
    go Equal free more = cc
    go Greater free more = IsPermutation-refl _

-- none of the rows has a rowid that is free
free_of : (id : ℤ) (new : Row) (rows : List Row) → rowid new ≡ Int id → is_taken rows new ≡ false
    → filter (has_rowid id) rows ≡ []
free_of id new [] is free = refl
free_of id new (r ∷ rows) is free =
    go (is_eq (value_cmp (rowid r) (rowid new))) (has_rowid id r)
    (ap (λ v. is_eq (value_cmp (rowid r) v)) (sym is)) free (free_of id new rows is)
  where
    go : (b d : Bool) → d ≡ b → (b || is_taken rows new) ≡ false
        → (is_taken rows new ≡ false → filter (has_rowid id) rows ≡ [])
        → cond d (r ∷ filter (has_rowid id) rows) (filter (has_rowid id) rows) ≡ []
    go true d same free more = cc
    go false true same free more = cc
    go false false same free more = more free

ints_same : (a b : ℤ) → is_eq (value_cmp (Int a) (Int b)) ≡ true → a ≡ b
ints_same a b h = let e : is_eq (int_cmp a b) ≡ true = sym (ap is_eq (value_cmp-Int a b)) ∙ h in
    grind (arith, ints, e)

-- a row has its own rowid
pub has_own : (id : ℤ) (r : Row) → rowid r ≡ Int id → has_rowid id r ≡ true
has_own id r is = ap (λ v. is_eq (value_cmp v (Int id))) is ∙ ap is_eq (value_cmp-Int id id)
    ∙ (grind (arith, ints))

-- rowids stay apart where a row with a free one is put to the rows
pub ids_put : (id : ℤ) (new : Row) (rows : List Row) → rowid new ≡ Int id → is_taken rows new ≡ false
    → HaveIds rows → HaveIds (put_row new rows)
ids_put id new rows is free have = record {
  ints = all-put_row (λ r. rowid r ≡ Int (id_in (rowid r))) new rows (is
      ∙ ap (λ v. Int (id_in v)) (sym is)) have.ints;
  apart = λ k. rw (length_permutation _ _ (IsPermutation-filter (has_rowid k) _ _ (puts new rows free)))
      (go k (has_rowid k new) refl);
}
  where
    go : (k : ℤ) (b : Bool) → has_rowid k new ≡ b
        → length (cond b (new ∷ filter (has_rowid k) rows) (filter (has_rowid k) rows)) ≤ 1
    go k true its =
        let same : id ≡ k = ints_same id k (ap (λ v. is_eq (value_cmp v (Int k))) (sym is) ∙ its) in
        let none : filter (has_rowid k) rows ≡ [] =
        subst (λ n. filter (has_rowid n) rows ≡ []) same (free_of id new rows is free) in
        rw none (omega arith)
    go k false its = have.apart k

-- and where rows go
pub ids_left : (keep : Row → Bool) (rows : List Row) → HaveIds rows → HaveIds (filter keep rows)
ids_left keep rows have = record {
  ints = all-filter (λ r. rowid r ≡ Int (id_in (rowid r))) keep rows have.ints;
  apart = λ id. let less = fewer (has_rowid id) keep rows in let most = have.apart id in omega (arith, less, most);
}
