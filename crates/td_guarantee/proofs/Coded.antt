-- Codes with one more, and without one.
use Rattle.std.proofs.Common.{◌≡◌, ℕ, zero, suc, ◌+◌, ◌<◌, ◌≤◌, Bool, true, false, List, [], ◌∷◌, ◌++◌, length, get_or, cond, refl, sym, ◌∙◌, ap, ap₂, subst, arith, length-append}
use Rattle.std.specs.Prelude.{filter, insert, not, All}
use Rattle.std.specs.List.{AllByRecursion, list_any}
use Rattle.std.specs.List.Sorted.{IsStrictlySortedBy, IsPartitionPoint, IsNonDecreasingBy}
use Rattle.std.specs.Ordering.{nat_cmp, is_lt, is_eq, ordering_index, ordering_reverse}
use Rattle.std.specs.declared.cmp.Ordering.{Ordering}
use Rattle.std.specs.declared.cmp.Ordering.TheVariants.{Less, Equal, Greater}
use Rattle.std.specs.Str.{bytes_eq}
use Rattle.std.specs.Cmp.Lexicographic.{slice_cmp}
use Rattle.std.proofs.lemmas.Bool.{or_parts}
use Rattle.std.proofs.lemmas.Cmp.{nat_list_cmp_total, tied_itself}
use Rattle.std.proofs.lemmas.List.Elements.{All-filter, All-append, All-cons}
use Rattle.std.proofs.lemmas.List.Kept.{IsStrictlySortedBy-filter}
use Rattle.std.proofs.lemmas.Map.Text.{is_eq-slice_cmp}
use Rattle.std.proofs.lemmas.Slice.Eq.{bytes_eq-Decides}
use Rattle.td_guarantee.specs.Codes.{AreAscending, is_before, with_code, without_code}

-- the order of codes
abbrev cmp : List ℕ → List ℕ → Ordering
cmp = slice_cmp nat_cmp

-- codes that the order doesn't tell apart are one
same : (a b : List ℕ) → cmp a b ≡ Equal → a ≡ b
same a b tie = (bytes_eq-Decides a b).0 (sym (is_eq-slice_cmp a b) ∙ ap is_eq tie)

-- what the order says the other way round
turned : (a b : List ℕ) (o : Ordering) → cmp a b ≡ o → cmp b a ≡ ordering_reverse o
turned a b o is = nat_list_cmp_total.antisymm b a ∙ ap ordering_reverse is

is_less : (o : Ordering) → is_lt o ≡ true → o ≡ Less
is_less Less holds = refl
is_less Equal holds = (cc)
is_less Greater holds = (cc)

filter_all : {X : Type 0} (p : X → Bool) (xs : List X) → AllByRecursion (λ x. p x ≡ true) xs → filter p xs ≡ xs
filter_all p [] all = refl
filter_all p (x ∷ xs) all = let here = all.0 in rw here (ap (λ l. x ∷ l) (filter_all p xs all.1))

filter_none : {X : Type 0} (p : X → Bool) (xs : List X) → AllByRecursion (λ x. p x ≡ false) xs → filter p xs ≡ []
filter_none p [] all = refl
filter_none p (x ∷ xs) all = let here = all.0 in rw here (filter_none p xs all.1)

weaker : {X : Type 0} (P Q : X → Type 0) (imply : (x : X) → P x → Q x) (xs : List X) → AllByRecursion P xs → AllByRecursion Q xs
weaker P Q imply [] all = tt
weaker P Q imply (x ∷ xs) all = (imply x all.0, weaker P Q imply xs all.1)

-- a code before the one, and the others with it
front : (code c : List ℕ) (cs : List (List ℕ)) → cmp c code ≡ Less → with_code code (c ∷ cs) ≡ c ∷ with_code code cs
front code c cs less =
    let holds : is_before c code ≡ true = ap is_lt less in
    let fails : is_before code c ≡ false = ap is_lt (turned c code Less less) in
    rw (holds, fails) refl

-- the one before all others
ahead : (code : List ℕ) (cs : List (List ℕ)) → AllByRecursion (λ c. cmp c code ≡ Greater) cs → with_code code cs ≡ code ∷ cs
ahead code cs all =
    ap₂ (λ before behind. before ++ code ∷ behind)
    (filter_none (λ c. is_before c code) cs (weaker (λ c. cmp c code ≡ Greater) (λ c. is_before c code ≡ false) (λ c more. ap is_lt more) cs all))
    (filter_all (λ c. is_before code c) cs (weaker (λ c. cmp c code ≡ Greater) (λ c. is_before code c ≡ true) (λ c more. ap is_lt (turned c code Greater more)) cs all))

all_joined : {X : Type 0} (P : X → Type 0) (x : X) (xs ys : List X) → AllByRecursion P xs → P x → AllByRecursion P ys → AllByRecursion P (xs ++ x ∷ ys)
all_joined P x [] ys front here behind = (here, behind)
all_joined P x (f ∷ xs) ys front here behind = (front.0, all_joined P x xs ys front.1 here behind)

-- what passes a test passes it
kept_pass : {X : Type 0} (p : X → Bool) (x : X) (b : Bool) (xs : List X) → p x ≡ b → AllByRecursion (λ y. p y ≡ true) xs → AllByRecursion (λ y. p y ≡ true) (cond b (x ∷ xs) xs)
kept_pass p x true xs is all = (is, all)
kept_pass p x false xs is all = all

all_pass : {X : Type 0} (p : X → Bool) (xs : List X) → AllByRecursion (λ x. p x ≡ true) (filter p xs)
all_pass p [] = tt
all_pass p (x ∷ xs) = kept_pass p x (p x) (filter p xs) refl (all_pass p xs)

-- from each place to each
each_at : {X : Type 0} (P : X → Type 0) (xs : List X) → ((k : ℕ) (d : X) → 0 ≤ k → k < length xs → P (get_or xs k d)) → AllByRecursion P xs
each_at P [] each = tt
each_at P (x ∷ xs) each = (each 0 x (omega arith) (omega arith), each_at P xs (λ k d low high. each (suc k) d (omega arith) (omega (arith, high))))

at_each : {X : Type 0} (P : X → Type 0) (xs : List X) (k : ℕ) (d : X) → AllByRecursion P xs → k < length xs → P (get_or xs k d)
at_each P [] k d all within = absurd (omega (arith, within))
at_each P (x ∷ xs) zero d all within = all.0
at_each P (x ∷ xs) (suc k) d all within = at_each P xs k d all.1 (omega (arith, within))

-- a code that isn't there is put between those before it and those behind it
pub inserted : (code : List ℕ) (cs : List (List ℕ)) (i : ℕ) → i ≤ length cs → IsPartitionPoint (λ c. cmp c code ≡ Less) (λ c. cmp c code ≡ Greater) cs i → insert cs i code ≡ with_code code cs
inserted code [] zero within point = refl
inserted code [] (suc i) within point = absurd (omega (arith, within))
inserted code (c ∷ cs) zero within point = sym (ahead code (c ∷ cs) (each_at (λ k. cmp k code ≡ Greater) (c ∷ cs) point.1))
inserted code (c ∷ cs) (suc i) within point =
    ap (λ l. c ∷ l) (inserted code cs i (omega (arith, within)) (λ k d low high. point.0 (suc k) d (omega arith) (omega (arith, high)), λ k d low high. point.1 (suc k) d (omega (arith, low)) (omega (arith, high))))
    ∙ sym (front code c cs (point.0 0 c (omega arith) (omega arith)))

-- a code that is there stays, once
first : (c : List ℕ) (cs : List (List ℕ)) → AllByRecursion (λ z. cmp c z ≡ Less) cs → with_code c (c ∷ cs) ≡ c ∷ cs
first c cs behind =
    let fails : is_before c c ≡ false = ap is_lt (tied_itself nat_list_cmp_total c) in
    rw fails (ahead c cs (weaker (λ z. cmp c z ≡ Less) (λ z. cmp z c ≡ Greater) (λ z less. turned c z Less less) cs behind))

pub stayed : (code : List ℕ) (cs : List (List ℕ)) (k : ℕ) (d : List ℕ) → AreAscending cs → k < length cs → cmp (get_or cs k d) code ≡ Equal → with_code code cs ≡ cs
unfolding IsStrictlySortedBy
stayed code [] k d order within tie = absurd (omega (arith, within))
stayed code (c ∷ cs) zero d order within tie = subst (λ (x : List ℕ). with_code x (c ∷ cs) ≡ c ∷ cs) (same c code tie) (first c cs order.0)
stayed code (c ∷ cs) (suc k) d order within tie =
    let there : get_or cs k d ≡ code = same (get_or cs k d) code tie in
    let less : cmp c code ≡ Less = subst (λ (z : List ℕ). cmp c z ≡ Less) there (at_each (λ z. cmp c z ≡ Less) cs k d order.0 (omega (arith, within))) in
    front code c cs less ∙ ap (λ l. c ∷ l) (stayed code cs k d order.1 (omega (arith, within)) tie)

-- a code before another stands no further behind a third than that one does
at_most : (o : Ordering) → ordering_index o ≤ 2
at_most Less = omega arith
at_most Equal = omega arith
at_most Greater = omega arith

no_further : (a b code : List ℕ) (o : Ordering) → cmp b code ≡ o → cmp a b ≡ Less → ordering_index (cmp a code) ≤ ordering_index o
no_further a b code Less is less = omega (arith, ap ordering_index (nat_list_cmp_total.trans a b code less is))
no_further a b code Equal is less =
    let alike : cmp b a ≡ cmp code a = nat_list_cmp_total.congr b code a is in
    let back : cmp a code ≡ Less = turned code a Greater (sym alike ∙ turned a b Less less) in
    omega (arith, ap ordering_index back)
no_further a b code Greater is less = at_most (cmp a code)

-- codes in order are parted by any code
pub parted : (code : List ℕ) (cs : List (List ℕ)) → AreAscending cs → IsNonDecreasingBy (λ c. ordering_index (cmp c code)) cs
unfolding IsStrictlySortedBy
parted code [] order i j d before within = absurd (omega (arith, within))
parted code (c ∷ cs) order zero zero d before within = omega arith
parted code (c ∷ cs) order zero (suc j) d before within =
    no_further c (get_or cs j d) code (cmp (get_or cs j d) code) refl (at_each (λ z. cmp c z ≡ Less) cs j d order.0 (omega (arith, within)))
parted code (c ∷ cs) order (suc i) zero d before within = absurd (omega (arith, before))
parted code (c ∷ cs) order (suc i) (suc j) d before within = parted code cs order.1 i j d (omega (arith, before)) (omega (arith, within))

-- codes in order, one behind them, and codes in order behind that
joined : (code : List ℕ) (before behind : List (List ℕ)) → AreAscending before → AllByRecursion (λ c. cmp c code ≡ Less) before → AreAscending behind → AllByRecursion (λ c. cmp code c ≡ Less) behind → AreAscending (before ++ code ∷ behind)
unfolding IsStrictlySortedBy
joined code [] behind front_order less back_order more = (more, back_order)
joined code (c ∷ before) behind front_order less back_order more = (
  all_joined (λ z. cmp c z ≡ Less) code before behind front_order.0 less.0 (weaker (λ z. cmp code z ≡ Less) (λ z. cmp c z ≡ Less) (λ z later. nat_list_cmp_total.trans c code z less.0 later) behind more),
  joined code before behind front_order.1 less.1 back_order more,
)

-- the order stays with one more
pub ascending_with : (code : List ℕ) (codes : List (List ℕ)) → AreAscending codes → AreAscending (with_code code codes)
ascending_with code codes order =
    joined code (filter (λ c. is_before c code) codes) (filter (λ c. is_before code c) codes)
    (IsStrictlySortedBy-filter cmp (λ c. is_before c code) codes order)
    (weaker (λ c. is_before c code ≡ true) (λ c. cmp c code ≡ Less) (λ c holds. is_less (cmp c code) holds) (filter (λ c. is_before c code) codes) (all_pass (λ c. is_before c code) codes))
    (IsStrictlySortedBy-filter cmp (λ c. is_before code c) codes order)
    (weaker (λ c. is_before code c ≡ true) (λ c. cmp code c ≡ Less) (λ c holds. is_less (cmp code c) holds) (filter (λ c. is_before code c) codes) (all_pass (λ c. is_before code c) codes))

-- and without one
pub ascending_without : (code : List ℕ) (codes : List (List ℕ)) → AreAscending codes → AreAscending (without_code code codes)
ascending_without code codes order = IsStrictlySortedBy-filter cmp (λ c. not (bytes_eq c code)) codes order

-- what holds of each code and of the new one holds of each
pub all_with : (P : List ℕ → Type 0) (code : List ℕ) (codes : List (List ℕ)) → All P codes → P code → All P (with_code code codes)
all_with P code codes all here =
    All-append P (filter (λ c. is_before c code) codes) (code ∷ filter (λ c. is_before code c) codes)
    (All-filter (λ c. is_before c code) P codes all)
    (All-cons P code (filter (λ c. is_before code c) codes) here (All-filter (λ c. is_before code c) P codes all))

-- and of each that is left
pub all_without : (P : List ℕ → Type 0) (code : List ℕ) (codes : List (List ℕ)) → All P codes → All P (without_code code codes)
all_without P code codes all = All-filter (λ c. not (bytes_eq c code)) P codes all

-- a code is on one side of another that it isn't
sided : (c code : List ℕ) (o : Ordering) → cmp c code ≡ o → bytes_eq c code ≡ false → (before behind : ℕ) → cond (is_before c code) (before + 1) before + cond (is_before code c) (behind + 1) behind ≡ before + behind + 1
sided c code Less is other before behind = let holds : is_before c code ≡ true = ap is_lt is in let fails : is_before code c ≡ false = ap is_lt (turned c code Less is) in rw (holds, fails) (omega arith)
sided c code Equal is other before behind =
    let one : bytes_eq c code ≡ true = sym (is_eq-slice_cmp c code) ∙ ap is_eq is in cc
sided c code Greater is other before behind = let fails : is_before c code ≡ false = ap is_lt is in let holds : is_before code c ≡ true = ap is_lt (turned c code Greater is) in rw (fails, holds) (omega arith)

-- how many pass, with one more in front
length_kept : {X : Type 0} (b : Bool) (x : X) (xs : List X) → length (cond b (x ∷ xs) xs) ≡ cond b (length xs + 1) (length xs)
length_kept true x xs = omega arith
length_kept false x xs = refl

length_front : {X : Type 0} (p : X → Bool) (x : X) (xs : List X) → length (filter p (x ∷ xs)) ≡ cond (p x) (length (filter p xs) + 1) (length (filter p xs))
length_front p x xs = length_kept (p x) x (filter p xs)

-- both sides have them all
sides : (code : List ℕ) (codes : List (List ℕ)) → list_any (λ c. bytes_eq c code) codes ≡ false → length (filter (λ c. is_before c code) codes) + length (filter (λ c. is_before code c) codes) ≡ length codes
sides code [] none = refl
sides code (c ∷ cs) none =
    let parts = or_parts (bytes_eq c code) (list_any (λ x. bytes_eq x code) cs) none in
    omega (arith, length_front (λ x. is_before x code) c cs, length_front (λ x. is_before code x) c cs, sided c code (cmp c code) refl parts.0 (length (filter (λ x. is_before x code) cs)) (length (filter (λ x. is_before code x) cs)), sides code cs parts.1)

-- a code that isn't there makes one more
pub length_with : (code : List ℕ) (codes : List (List ℕ)) → list_any (λ c. bytes_eq c code) codes ≡ false → length (with_code code codes) ≡ length codes + 1
length_with code codes none =
    omega (arith, length-append (filter (λ c. is_before c code) codes) (code ∷ filter (λ c. is_before code c) codes), sides code codes none)

-- no more are left than there were, and one at least where there were two
kept_most : {X : Type 0} (b : Bool) (x : X) (xs : List X) (n : ℕ) → length xs ≤ n → length (cond b (x ∷ xs) xs) ≤ n + 1
kept_most true x xs n most = omega (arith, most)
kept_most false x xs n most = omega (arith, most)

length_kept_most : {X : Type 0} (p : X → Bool) (xs : List X) → length (filter p xs) ≤ length xs
length_kept_most p [] = omega arith
length_kept_most p (x ∷ xs) = omega (arith, kept_most (p x) x (filter p xs) (length xs) (length_kept_most p xs))

-- of two different codes one isn't the code
kept_one : (code a b : List ℕ) (at_a at_b : Bool) (cs : List (List ℕ)) → cmp a b ≡ Less → bytes_eq a code ≡ at_a → bytes_eq b code ≡ at_b → 1 ≤ length (cond (not at_a) (a ∷ cond (not at_b) (b ∷ cs) cs) (cond (not at_b) (b ∷ cs) cs))
kept_one code a b false at_b cs less is_a is_b = omega arith
kept_one code a b true false cs less is_a is_b = omega arith
kept_one code a b true true cs less is_a is_b =
    let one : a ≡ b = (bytes_eq-Decides a code).0 is_a ∙ sym ((bytes_eq-Decides b code).0 is_b) in
    let tie : cmp a b ≡ Equal = subst (λ (x : List ℕ). cmp a x ≡ Equal) one (tied_itself nat_list_cmp_total a) in
    cc

length_left : (code : List ℕ) (codes : List (List ℕ)) → AreAscending codes → 2 ≤ length codes → 1 ≤ length (without_code code codes)
unfolding IsStrictlySortedBy
length_left code [] order two = absurd (omega (arith, two))
length_left code (a ∷ []) order two = absurd (omega (arith, two))
length_left code (a ∷ b ∷ cs) order two = kept_one code a b (bytes_eq a code) (bytes_eq b code) (without_code code cs) order.0.0 refl refl

pub length_without : (code : List ℕ) (codes : List (List ℕ)) → AreAscending codes → 2 ≤ length codes → (1 ≤ length (without_code code codes)) × (length (without_code code codes) ≤ length codes)
length_without code codes order two = (length_left code codes order two, length_kept_most (λ c. not (bytes_eq c code)) codes)
