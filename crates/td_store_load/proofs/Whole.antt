-- A guarantee with its codes, and a movement with its lines, as the tables say.
use Rattle.std.proofs.Common.{◌≡◌, ◌∙◌, ℕ, zero, suc, ◌<◌, ◌≤◌, Bool, true, false, List, [], ◌∷◌, ◌++◌, length, filter, map, take, get_or, Option, Some, None, refl, ap, subst, arith, IsPermutation}
use Rattle.std.specs.Prelude.{◌==◌, ◌&&◌, find, option_to_list, IsSome, IfSome}
use Rattle.std.specs.List.{AllByRecursion}
use Rattle.std.specs.List.Sorted.{IsStrictlySortedBy}
use Rattle.std.specs.Option.{option_map_or}
use Rattle.std.specs.Ordering.{nat_cmp, is_lt, ordering_reverse}
use Rattle.std.specs.declared.cmp.Ordering.TheVariants.{Less}
use Rattle.std.specs.Cmp.Lexicographic.{slice_cmp}
use Rattle.std.proofs.lemmas.Cmp.{nat_list_cmp_total}
use Rattle.std.proofs.lemmas.List.Sorted.{length_permutation}
use Rattle.sqlite_trees.proofs.ListLemmas.{all-get_or, all_both, all-filter, all-map}
use Rattle.keyed_rows.specs.Rows.{row_at}
use Rattle.keyed_rows.proofs.Putting.{row_at_has, All-row_at}
use Rattle.td_base.specs.Codes.{IsAccessCode}
use Rattle.td_guarantee.specs.Codes.{AreAscending, is_before, with_code}
use Rattle.td_guarantee.specs.declared.guarantee.Guarantee.{Guarantee}
use Rattle.td_model.specs.declared.holder_row.HolderRow.{HolderRow}
use Rattle.td_table_model.specs.Tables.{Keyed, Tables}
use Rattle.td_table_model.specs.Gathering.{code_rank, codes_by, grn_by, holder_no, of_key, owner, part, place, text_rank}
use Rattle.td_table_model.specs.Rules.{KeepRules, KeepsRules}
use Rattle.td_table_model.proofs.Counting.{filter_both}
use Rattle.td_table_model.proofs.Grouped.{of_key_has}
use Rattle.td_table_model.proofs.Looked.{find_first, first, short_permutation}
use Rattle.td_table_model.proofs.Orders.{found_in_order, in_order_rises, rises-map}
use Rattle.td_table_model.proofs.Ranks.{ranks_ascend}
use Rattle.td_table_model.proofs.Rebuilt.{all_in_order}

-- a code behind all others is put at the end
put_last : (code : List ℕ) (codes : List (List ℕ)) → AllByRecursion (λ c. slice_cmp nat_cmp c code ≡ Less) codes
    → with_code code codes ≡ codes ++ code ∷ []
put_last code [] all = refl
put_last code (c ∷ codes) all =
    let holds : is_before c code ≡ true = ap is_lt all.0 in
    let fails : is_before code c ≡ false = ap is_lt (nat_list_cmp_total.antisymm code c ∙ ap ordering_reverse all.0) in
    rw (holds, fails) (ap (λ l. c ∷ l) (put_last code codes all.1))

-- codes in ascending order: those before a place stand before the one there
before_place : (codes : List (List ℕ)) (i : ℕ) (d : List ℕ) → AreAscending codes → i < length codes
    → AllByRecursion (λ c. slice_cmp nat_cmp c (get_or codes i d) ≡ Less) (take i codes)
unfolding IsStrictlySortedBy
before_place [] i d order within = absurd (omega (arith, within))
before_place (c ∷ codes) zero d order within = tt
before_place (c ∷ codes) (suc i) d order within = (
  all-get_or (λ z. slice_cmp nat_cmp c z ≡ Less) codes i d order.0 (omega (arith, within)),
  before_place codes i d order.1 (omega (arith, within)),
)

-- so the next of them is put at the end
pub next_code : (codes : List (List ℕ)) (i : ℕ) (d : List ℕ) → AreAscending codes → i < length codes
    → with_code (get_or codes i d) (take i codes) ≡ take i codes ++ get_or codes i d ∷ []
next_code codes i d order within = put_last (get_or codes i d) (take i codes) (before_place codes i d order within)

module _ (t : Tables) (keep : KeepRules t) (H : ℕ) where
  abbrev IsCode : Keyed (List ℕ) → Type 0
  IsCode c = IsAccessCode c.row

  -- the codes of a holder's number, registered or not
  own_forms : AllByRecursion IsCode (part H t.codes)
  own_forms = by_row (row_at holder_no H t.holders) refl (row_at_has holder_no H t.holders) (All-row_at holder_no (KeepsRules t) H t.holders keep.holders)
    where
      nobody : row_at holder_no H t.holders ≡ None → (r : Keyed (List ℕ)) → owner r ≡ H → IsSome (row_at holder_no (owner r) t.holders) → IsCode r
      nobody none r own some =
          let never = subst IsSome none (subst (λ k. IsSome (row_at holder_no k t.holders)) own some) in cc

      by_row : (o : Option HolderRow) → row_at holder_no H t.holders ≡ o → IfSome o (λ r. holder_no r ≡ H) → IfSome o (KeepsRules t) → AllByRecursion IsCode (part H t.codes)
      by_row None none has keeps =
          all_both (λ r. owner r ≡ H) (λ r. IsSome (row_at holder_no (owner r) t.holders)) IsCode (nobody none) (part H t.codes) (of_key_has owner H t.codes)
          (all-filter (λ r. IsSome (row_at holder_no (owner r) t.holders)) (λ r. owner r == H) t.codes keep.stored.codes_owned)
      by_row (Some row) some has keeps = subst (λ k. AllByRecursion IsCode (part k t.codes)) has keeps.codes.form

  -- those of a guarantee
  pub code_forms : (n : ℕ) → AllByRecursion IsCode (of_key place n (part H t.codes))
  code_forms n = all-filter IsCode (λ r. place r == n) (part H t.codes) own_forms

  pub codes_ascend : (n : ℕ) → AreAscending (map (λ (c : Keyed (List ℕ)). c.row) (codes_by H n t))
  codes_ascend n =
      ranks_ascend 0 (map (λ (c : Keyed (List ℕ)). c.row) (codes_by H n t))
      (all-map IsAccessCode (λ (c : Keyed (List ℕ)). c.row) (codes_by H n t) (all_in_order code_rank IsCode (of_key place n (part H t.codes)) (code_forms n)))
      (rises-map (λ (c : Keyed (List ℕ)). c.row) text_rank 0 (codes_by H n t) (in_order_rises code_rank (of_key place n (part H t.codes))))

-- the first of one or none
first_listed : {X : Type 0} (o : Option X) → first (option_to_list o) ≡ o
first_listed None = refl
first_listed (Some x) = refl

short : {X : Type 0} (o : Option X) → length (option_to_list o) ≤ 1
short None = omega arith
short (Some x) = omega arith

-- what is found is the one that passes, where at most one does
pub found_alone : {X : Type 0} (p : X → Bool) (xs : List X) (o : Option X) → IsPermutation (filter p xs) (option_to_list o) → find p xs ≡ o
found_alone p xs o same =
    find_first p xs ∙ ap first (short_permutation (filter p xs) (option_to_list o) same (omega (arith, length_permutation (filter p xs) (option_to_list o) same, short o))) ∙ first_listed o

-- the GRN of the holder's guarantee with a serial
pub grn_alone : (t : Tables) (H n : ℕ) (g : Keyed Guarantee) → IsPermutation (filter (λ r. r.holder == H && r.serial == n) t.guarantees) (g ∷ [])
    → grn_by H n t ≡ g.row.grn
grn_alone t H n g same =
    ap (λ o. option_map_or (λ (r : Keyed Guarantee). r.row.grn) o []) (found_in_order place n (part H t.guarantees)
    ∙ found_alone (λ r. place r == n) (part H t.guarantees) (Some g) (subst (λ l. IsPermutation l (g ∷ [])) (filter_both (λ r. place r == n) (λ r. owner r == H) t.guarantees) same))
