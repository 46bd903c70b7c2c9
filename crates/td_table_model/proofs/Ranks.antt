-- Access codes as numbers: they rise as the codes do.
use Rattle.std.proofs.Common.{◌≡◌, ℕ, ◌+◌, ◌<◌, ◌≤◌, Bool, true, false, cond, List, [], ◌∷◌, length, filter, refl, sym, ◌∙◌, ap, arith, inl, inr}
use Rattle.std.specs.Prelude.{◌==◌, nat_lt, All, ◌⊎◌}
use Rattle.std.specs.List.{AllByRecursion}
use Rattle.std.specs.Str.{bytes_eq}
use Rattle.std.proofs.lemmas.Bool.Decides.{nat_tests}
use Rattle.std.proofs.lemmas.Slice.Eq.{bytes_eq-Decides}
use Rattle.sqlite_trees.proofs.ListLemmas.{all_weaker, all_both, all-filter, filter_same}
use Rattle.keyed_rows.specs.Rows.{Rises}
use Rattle.td_table_model.proofs.Orders.{rises_above}
use Rattle.std.specs.Ordering.{nat_cmp, ordering_then}
use Rattle.std.specs.declared.cmp.Ordering.{Ordering}
use Rattle.std.specs.declared.cmp.Ordering.TheVariants.{Less, Equal, Greater}
use Rattle.std.specs.Cmp.Lexicographic.{slice_cmp}
use Rattle.std.specs.List.Sorted.{IsStrictlySortedBy}
use Rattle.ascii_text.specs.Digits.{IsMark}
use Rattle.td_base.specs.Codes.{IsAccessCode}
use Rattle.td_guarantee.specs.Codes.{AreAscending}
use Rattle.std.specs.Ordering.{is_eq, ordering_reverse}
use Rattle.std.proofs.lemmas.Cmp.{nat_list_cmp_total}
use Rattle.std.proofs.lemmas.Map.Text.{is_eq-slice_cmp}
use Rattle.std.specs.Cmp.{both_ways}
use Rattle.td_table_model.specs.Tables.{Keyed}
use Rattle.td_table_model.specs.Gathering.{IsApart, IsTextApart, code_rank, of_key, text_rank}
use Rattle.td_table_model.proofs.Grouped.{of_key_has}

abbrev cmp : List ℕ → List ℕ → Ordering
cmp = slice_cmp nat_cmp

-- one character before another, or the same and something behind decides
then_less : (x y : ℕ) (o : Ordering) → ordering_then (nat_cmp x y) o ≡ Less → (x < y) ⊎ ((x ≡ y) × (o ≡ Less))
then_less x y o is = by_tests (nat_lt x y) (x == y) refl refl is
  where
    by_tests : (a b : Bool) → nat_lt x y ≡ a → (x == y) ≡ b → ordering_then (cond a Less (cond b Equal Greater)) o ≡ Less → (x < y) ⊎ ((x ≡ y) × (o ≡ Less))
    by_tests true b below same is = inl (grind (arith, nat_tests, below))
    by_tests false true below same is = inr (grind (arith, nat_tests, same), is)
    by_tests false false below same is = cc

less_then : (x y : ℕ) (o : Ordering) → (x < y) ⊎ ((x ≡ y) × (o ≡ Less)) → ordering_then (nat_cmp x y) o ≡ Less
less_then x y o (inl below) = let e : nat_lt x y ≡ true = grind (arith, nat_tests, below) in rw e refl
less_then x y o (inr both) =
    let same = both.0 in
    let e : nat_lt x y ≡ false = grind (arith, nat_tests, same) in
    let f : (x == y) ≡ true = grind (arith, nat_tests, same) in
    rw (e, f) both.1

-- the four characters of a code
record FourMarks (text : List ℕ) : Type 0 where
  a : ℕ
  b : ℕ
  c : ℕ
  d : ℕ
  is : text ≡ a ∷ b ∷ c ∷ d ∷ []
  small_a : a < 256
  small_b : b < 256
  small_c : c < 256
  small_d : d < 256

small : (c : ℕ) → IsMark c → c < 256
small c (inl digit) = omega (arith, digit.0, digit.1)
small c (inr capital) = omega (arith, capital.0, capital.1)

four : (text : List ℕ) → length text ≡ 4 → All IsMark text → FourMarks text
four [] size marks = absurd (omega (arith, size))
four (a ∷ []) size marks = absurd (omega (arith, size))
four (a ∷ b ∷ []) size marks = absurd (omega (arith, size))
four (a ∷ b ∷ c ∷ []) size marks = absurd (omega (arith, size))
four (a ∷ b ∷ c ∷ d ∷ []) size marks = record {
  a = a;
  b = b;
  c = c;
  d = d;
  is = refl;
  small_a = small a (marks 0 0 (omega arith));
  small_b = small b (marks 1 0 (omega arith));
  small_c = small c (marks 2 0 (omega arith));
  small_d = small d (marks 3 0 (omega arith));
}
four (a ∷ b ∷ c ∷ d ∷ e ∷ text) size marks = absurd (omega (arith, size))

-- the ranks of four characters
rank_up : (a b c d x y z w : ℕ) → b < 256 → c < 256 → d < 256 → y < 256 → z < 256 → w < 256
    → ordering_then (nat_cmp a x) (ordering_then (nat_cmp b y) (ordering_then (nat_cmp c z) (ordering_then (nat_cmp d w) Equal))) ≡ Less
    → text_rank (a ∷ b ∷ c ∷ d ∷ []) < text_rank (x ∷ y ∷ z ∷ w ∷ [])
rank_up a b c d x y z w small_b small_c small_d small_y small_z small_w is = first (then_less a x _ is)
  where
    fourth : a ≡ x → b ≡ y → c ≡ z → (d < w) ⊎ ((d ≡ w) × (Equal ≡ Less)) → text_rank (a ∷ b ∷ c ∷ d ∷ []) < text_rank (x ∷ y ∷ z ∷ w ∷ [])
    fourth e f g (inl less) = omega (arith, e, f, g, less)
    fourth e f g (inr both) = let never = both.1 in cc

    third : a ≡ x → b ≡ y → (c < z) ⊎ ((c ≡ z) × (ordering_then (nat_cmp d w) Equal ≡ Less)) → text_rank (a ∷ b ∷ c ∷ d ∷ []) < text_rank (x ∷ y ∷ z ∷ w ∷ [])
    third e f (inl less) = omega (arith, e, f, less, small_d, small_w)
    third e f (inr both) = fourth e f both.0 (then_less d w Equal both.1)

    second : a ≡ x → (b < y) ⊎ ((b ≡ y) × (ordering_then (nat_cmp c z) (ordering_then (nat_cmp d w) Equal) ≡ Less)) → text_rank (a ∷ b ∷ c ∷ d ∷ []) < text_rank (x ∷ y ∷ z ∷ w ∷ [])
    second e (inl less) = omega (arith, e, less, small_c, small_d, small_z, small_w)
    second e (inr both) = third e both.0 (then_less c z _ both.1)

    first : (a < x) ⊎ ((a ≡ x) × (ordering_then (nat_cmp b y) (ordering_then (nat_cmp c z) (ordering_then (nat_cmp d w) Equal)) ≡ Less)) → text_rank (a ∷ b ∷ c ∷ d ∷ []) < text_rank (x ∷ y ∷ z ∷ w ∷ [])
    first (inl less) = omega (arith, less, small_b, small_c, small_d, small_y, small_z, small_w)
    first (inr both) = second both.0 (then_less b y _ both.1)

-- a number is below another, or the same, or above it
sided : (x y : ℕ) → (x < y) ⊎ ((x ≡ y) ⊎ (y < x))
sided x y = by_tests (nat_lt x y) (x == y) refl refl
  where
    by_tests : (a b : Bool) → nat_lt x y ≡ a → (x == y) ≡ b → (x < y) ⊎ ((x ≡ y) ⊎ (y < x))
    by_tests true b below same = inl (grind (arith, nat_tests, below))
    by_tests false true below same = inr (inl (grind (arith, nat_tests, same)))
    by_tests false false below same = inr (inr (grind (arith, nat_tests, below, same)))

-- and back
rank_down : (a b c d x y z w : ℕ) → b < 256 → c < 256 → d < 256 → y < 256 → z < 256 → w < 256
    → text_rank (a ∷ b ∷ c ∷ d ∷ []) < text_rank (x ∷ y ∷ z ∷ w ∷ [])
    → ordering_then (nat_cmp a x) (ordering_then (nat_cmp b y) (ordering_then (nat_cmp c z) (ordering_then (nat_cmp d w) Equal))) ≡ Less
rank_down a b c d x y z w small_b small_c small_d small_y small_z small_w up = less_then a x _ (first (sided a x))
  where
    fourth : a ≡ x → b ≡ y → c ≡ z → (d < w) ⊎ ((d ≡ w) ⊎ (w < d)) → (d < w) ⊎ ((d ≡ w) × (Equal ≡ Less))
    fourth e f g (inl less) = inl less
    fourth e f g (inr (inl same)) = absurd (omega (arith, e, f, g, same, up))
    fourth e f g (inr (inr more)) = absurd (omega (arith, e, f, g, more, up))

    third : a ≡ x → b ≡ y → (c < z) ⊎ ((c ≡ z) ⊎ (z < c)) → (c < z) ⊎ ((c ≡ z) × (ordering_then (nat_cmp d w) Equal ≡ Less))
    third e f (inl less) = inl less
    third e f (inr (inl same)) = inr (same, less_then d w Equal (fourth e f same (sided d w)))
    third e f (inr (inr more)) = absurd (omega (arith, e, f, more, up, small_d, small_w))

    second : a ≡ x → (b < y) ⊎ ((b ≡ y) ⊎ (y < b)) → (b < y) ⊎ ((b ≡ y) × (ordering_then (nat_cmp c z) (ordering_then (nat_cmp d w) Equal) ≡ Less))
    second e (inl less) = inl less
    second e (inr (inl same)) = inr (same, less_then c z _ (third e same (sided c z)))
    second e (inr (inr more)) = absurd (omega (arith, e, more, up, small_c, small_d, small_z, small_w))

    first : (a < x) ⊎ ((a ≡ x) ⊎ (x < a)) → (a < x) ⊎ ((a ≡ x) × (ordering_then (nat_cmp b y) (ordering_then (nat_cmp c z) (ordering_then (nat_cmp d w) Equal)) ≡ Less))
    first (inl less) = inl less
    first (inr (inl same)) = inr (same, less_then b y _ (second same (sided b y)))
    first (inr (inr more)) = absurd (omega (arith, more, up, small_b, small_c, small_d, small_y, small_z, small_w))

-- a code that stands before another has the lower rank
pub rank_below : (s t : List ℕ) → IsAccessCode s → IsAccessCode t → cmp s t ≡ Less → text_rank s < text_rank t
rank_below s t is_s is_t less =
    let p = four s is_s.size is_s.marks in
    let q = four t is_t.size is_t.marks in
    rw (p.is, q.is) (rank_up p.a p.b p.c p.d q.a q.b q.c q.d p.small_b p.small_c p.small_d q.small_b q.small_c q.small_d (rw (p.is, q.is) at less))

-- and the other way round
pub below_by_rank : (s t : List ℕ) → IsAccessCode s → IsAccessCode t → text_rank s < text_rank t → cmp s t ≡ Less
below_by_rank s t is_s is_t up =
    let p = four s is_s.size is_s.marks in
    let q = four t is_t.size is_t.marks in
    rw (p.is, q.is) (rank_down p.a p.b p.c p.d q.a q.b q.c q.d p.small_b p.small_c p.small_d q.small_b q.small_c q.small_d (rw (p.is, q.is) at up))

-- codes in ascending order have rising ranks
pub ranks_rise : (codes : List (List ℕ)) → AllByRecursion IsAccessCode codes → AreAscending codes → Rises text_rank 0 codes
unfolding IsStrictlySortedBy
ranks_rise [] form order = tt
ranks_rise (code ∷ codes) form order = (omega arith, above code codes form.0 form.1 order.0 (ranks_rise codes form.1 order.1))
  where
    above : (code : List ℕ) (codes : List (List ℕ)) → IsAccessCode code → AllByRecursion IsAccessCode codes → AllByRecursion (λ c. cmp code c ≡ Less) codes → Rises text_rank 0 codes → Rises text_rank (text_rank code + 1) codes
    above code [] is form less rise = tt
    above code (c ∷ codes) is form less rise = (let up = rank_below code c is form.0 less.0 in omega (arith, up), rise.1)

-- and the other way round
pub ranks_ascend : (low : ℕ) (codes : List (List ℕ)) → AllByRecursion IsAccessCode codes → Rises text_rank low codes → AreAscending codes
unfolding IsStrictlySortedBy
ranks_ascend low [] form rise = tt
ranks_ascend low (code ∷ codes) form rise = (
  all_both IsAccessCode (λ c. text_rank code + 1 ≤ text_rank c) (λ c. cmp code c ≡ Less) (λ c is above. below_by_rank code c form.0 is (omega (arith, above))) codes form.1 (rises_above text_rank (text_rank code + 1) codes rise.1),
  ranks_ascend (text_rank code + 1) codes form.1 rise.1,
)

-- codes of one rank are one code
pub one_rank : (s t : List ℕ) → IsAccessCode s → IsAccessCode t → text_rank s ≡ text_rank t → s ≡ t
one_rank s t is_s is_t same = by_order (cmp s t) refl
  where
    by_order : (o : Ordering) → cmp s t ≡ o → s ≡ t
    by_order Less is = absurd (let up = rank_below s t is_s is_t is in omega (arith, up, same))
    by_order Equal is = (bytes_eq-Decides s t).0 (sym (is_eq-slice_cmp s t) ∙ ap is_eq is)
    by_order Greater is =
        let back : cmp t s ≡ Less = nat_list_cmp_total.antisymm t s ∙ ap ordering_reverse is in
        absurd (let up = rank_below t s is_t is_s back in omega (arith, up, same))

-- codes compare as their ranks do
pub ranks_compare : (s t : List ℕ) → IsAccessCode s → IsAccessCode t → cmp s t ≡ nat_cmp (text_rank s) (text_rank t)
ranks_compare s t is_s is_t = by_order (cmp s t) refl
  where
    by_order : (o : Ordering) → cmp s t ≡ o → o ≡ nat_cmp (text_rank s) (text_rank t)
    by_order Less is = let up = rank_below s t is_s is_t is in grind (arith, nat_tests, up)
    by_order Equal is = let same = ap text_rank ((bytes_eq-Decides s t).0 (sym (is_eq-slice_cmp s t) ∙ ap is_eq is)) in grind (arith, nat_tests, same)
    by_order Greater is =
        let back : cmp t s ≡ Less = nat_list_cmp_total.antisymm t s ∙ ap ordering_reverse is in
        let down = rank_below t s is_t is_s back in grind (arith, nat_tests, down)

-- codes of which no two are one text have no rank twice
pub ranks_apart : (rows : List (Keyed (List ℕ))) → AllByRecursion (λ (c : Keyed (List ℕ)). IsAccessCode c.row) rows → IsTextApart (λ (c : Keyed (List ℕ)). c.row) rows → IsApart code_rank rows
ranks_apart rows form apart k = by_rows (of_key code_rank k rows) refl (of_key_has code_rank k rows) (all-filter (λ (c : Keyed (List ℕ)). IsAccessCode c.row) (λ r. code_rank r == k) rows form)
  where
    as_text : (x : Keyed (List ℕ)) → code_rank x ≡ k → IsAccessCode x.row → (r : Keyed (List ℕ)) → IsAccessCode r.row → (code_rank r == k) ≡ bytes_eq r.row x.row
    as_text x has is r is_r = both_ways (code_rank r == k) (bytes_eq r.row x.row)
        (λ same. (bytes_eq-Decides r.row x.row).1 (one_rank r.row x.row is_r is (let e : code_rank r ≡ k = grind (arith, nat_tests, same) in e ∙ sym has)))
        (λ same. let e : code_rank r ≡ k = ap text_rank ((bytes_eq-Decides r.row x.row).0 same) ∙ has in grind (arith, nat_tests, e))

    by_rows : (l : List (Keyed (List ℕ))) → of_key code_rank k rows ≡ l → AllByRecursion (λ r. code_rank r ≡ k) l → AllByRecursion (λ (c : Keyed (List ℕ)). IsAccessCode c.row) l → length (of_key code_rank k rows) ≤ 1
    by_rows [] none has is = omega (arith, ap length none)
    by_rows (x ∷ l) some has is =
        let same : of_key code_rank k rows ≡ filter (λ r. bytes_eq r.row x.row) rows =
        filter_same (λ r. code_rank r == k) (λ r. bytes_eq r.row x.row) rows (all_weaker (λ (c : Keyed (List ℕ)). IsAccessCode c.row) (λ r. (code_rank r == k) ≡ bytes_eq r.row x.row) (as_text x has.0 is.0) rows form) in
        omega (arith, ap length same, apart x.row)
