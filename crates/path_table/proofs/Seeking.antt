-- The row that a look-up of `matchit` finds fits the path, and it finds one where one fits.
use Rattle.std.proofs.Common.{◌≡◌, ℕ, zero, suc, ◌-◌, ◌<◌, ◌≤◌, List, [], ◌∷◌, ◌++◌, length, drop, Option, Some, None, Bool, true, false, cond, ◌⊎◌, inl, inr, refl, sym, ap, ◌∙◌, arith, rules, subst, ◌==◌}
use Rattle.std.proofs.lemmas.Bool.{and_parts, and_from}
use Rattle.std.proofs.lemmas.Bool.Decides.{nat_tests}
use Rattle.std.proofs.Math.Bool.{and-false}
use Rattle.std.proofs.Math.Seq.{drop-length}
use Rattle.std.proofs.lemmas.List.{drop_at, length-append, append-nil}
use Rattle.std.specs.Prelude.{⊤, ◌&&◌, nat_lt, nat_eq, is_some as is_found}
use Rattle.std.specs.Cmp.Lexicographic.{pointwise}
use Rattle.matchit.specs.Rows.{RowsOf, param_token, catch_all_token}
use Rattle.matchit.specs.Seek.{slash, segment, has_slash, same_text, cuts, own, step, or_else, longest_from, with_suffix, param_step, seek}
use Rattle.path_table.specs.Routers.{IsBytes}
use Rattle.path_table.specs.Segments.{is_some_text}
use Rattle.path_table.proofs.Tokens.{part, rest, begins, behind, token_fits, goes_on, is_strict, part-rest, has_slash-part, RestIs, at_end, at_slash, rest_is}

-- ---- the segment at the start of a path

segment-no_slash : (path : List ℕ) → has_slash path ≡ false → segment path ≡ path
segment-no_slash [] none = refl
segment-no_slash (b ∷ path) none = by (b == slash) none (segment-no_slash path)
  where
    by : (v : Bool) → cond v true (has_slash path) ≡ false → (has_slash path ≡ false → segment path ≡ path) → cond {A = List ℕ} v (b ∷ []) (b ∷ segment path) ≡ b ∷ path
    by true none more = absurd (let never : true ≡ false = none in search rules)
    by false none more = ap (λ p. b ∷ p) (more none)

pub segment-slash : (q more : List ℕ) → has_slash q ≡ false → segment (q ++ slash ∷ more) ≡ q ++ slash ∷ []
segment-slash [] more none = refl
segment-slash (b ∷ q) more none = by (b == slash) none (segment-slash q more)
  where
    by : (v : Bool) → cond v true (has_slash q) ≡ false → (has_slash q ≡ false → segment (q ++ slash ∷ more) ≡ q ++ slash ∷ [])
        → cond {A = List ℕ} v (b ∷ []) (b ∷ segment (q ++ slash ∷ more)) ≡ b ∷ (q ++ slash ∷ [])
    by true none more = absurd (let never : true ≡ false = none in search rules)
    by false none more = ap (λ p. b ∷ p) (more none)

-- a text that ends with a slash has one
ends_slash : (b : ℕ) (path : List ℕ) → pointwise nat_eq (slash ∷ []) (drop (length path) (b ∷ path)) ≡ true → has_slash (b ∷ path) ≡ true
ends_slash b [] ends =
    let same : (b == slash) ≡ true = grind (arith, nat_tests) in
    rw same refl
ends_slash b (c ∷ path) ends = by (b == slash) (ends_slash c path ends)
  where
    by : (v : Bool) → has_slash (c ∷ path) ≡ true → cond v true (has_slash (c ∷ path)) ≡ true
    by true has = refl
    by false has = has

-- no slash can be cut off where there is none
no_cut : (path : List ℕ) → has_slash path ≡ false → cuts path (slash ∷ []) ≡ false
no_cut [] none = refl
no_cut (b ∷ path) none = by (pointwise nat_eq (slash ∷ []) (drop (length path) (b ∷ path))) refl
  where
    by : (v : Bool) → pointwise nat_eq (slash ∷ []) (drop (length path) (b ∷ path)) ≡ v → cuts (b ∷ path) (slash ∷ []) ≡ false
    by true e = absurd (let never : true ≡ false = sym (ends_slash b path e) ∙ none in search rules)
    by false e =
        let one : length (b ∷ path) - 1 ≡ length path = omega arith in
        rw (one, e) (and-false _)

-- a slash can be cut off behind a part
cut : (b : ℕ) (q : List ℕ) → cuts ((b ∷ q) ++ slash ∷ []) (slash ∷ []) ≡ true
cut b q =
    let long = length-append (b ∷ q) (slash ∷ []) in
    let short : length ((b ∷ q) ++ slash ∷ []) - 1 ≡ length (b ∷ q) = omega (arith, long) in
    let some : nat_lt 1 (length ((b ∷ q) ++ slash ∷ [])) ≡ true = grind (arith, nat_tests, long) in
    rw (some, short, drop_at (b ∷ q) (slash ∷ []) (length (b ∷ q)) refl) refl

has_slash-append : (q more : List ℕ) → has_slash (q ++ slash ∷ more) ≡ true
has_slash-append [] more = refl
has_slash-append (b ∷ q) more = by (b == slash) (has_slash-append q more)
  where
    by : (v : Bool) → has_slash (q ++ slash ∷ more) ≡ true → cond v true (has_slash (q ++ slash ∷ more)) ≡ true
    by true has = refl
    by false has = has

drop_more_one : (m b : ℕ) (path : List ℕ) → 1 ≤ m → drop (m - 1) path ≡ drop m (b ∷ path)
drop_more_one m b path h =
    let same : suc (m - 1) ≡ m = omega arith in
    ap (λ n. drop n (b ∷ path)) same

IsBytes-rest : (path : List ℕ) → IsBytes path → IsBytes (rest path)
IsBytes-rest [] bytes = bytes
IsBytes-rest (b ∷ path) bytes = by (b == slash) (IsBytes-rest path (λ i. bytes (suc i)))
  where
    by : (v : Bool) → IsBytes (rest path) → IsBytes (cond v (b ∷ path) (rest path))
    by true more = bytes
    by false more = more

pub tail_strict : (x : ℕ) (t : List ℕ) → is_strict (x ∷ t) ≡ true → is_strict t ≡ true
tail_strict x t h = (and_parts (cond (x == param_token) (goes_on t) (nat_lt x 128)) (is_strict t) h).1

pub same_byte : (b : ℕ) → (b == b) ≡ true
same_byte b = grind (arith, nat_tests)

-- ---- rows

module _ {K : Type 0} where
  -- a fact of each row, and of some row
  abbrev pub AllRows : (List ℕ → K → Type 0) → RowsOf K → Type 0
  AllRows P [] = ⊤
  AllRows P ((t, k) ∷ rows) = P t k × AllRows P rows

  abbrev pub SomeRow : (List ℕ → Bool) → RowsOf K → Type 0
  SomeRow p [] = ⊥
  SomeRow p ((t, k) ∷ rows) = (p t ≡ true) ⊎ SomeRow p rows

  some_is : (a b : K) → Some a ≡ Some b → a ≡ b
  some_is a b e = search rules

  none_is_not : {P : Type 0} (k : K) → None ≡ Some k → P
  none_is_not k e = absurd (let never : None ≡ Some k = e in search rules)

  own_row : (P : List ℕ → K → Type 0) (rows : RowsOf K) (k : K) → AllRows P rows → own rows ≡ Some k → P [] k
  own_row P [] k all e = none_is_not k e
  own_row P (([], key) ∷ rows) k all e = rw (← (some_is key k e)) all.0
  own_row P ((x ∷ t, key) ∷ rows) k all e = own_row P rows k all.1 e

  some_own : (rows : RowsOf K) → SomeRow (λ t. token_fits t []) rows → is_found (own rows) ≡ true
  some_own [] some = elim some [ ]
  some_own (([], key) ∷ rows) some = refl
  some_own ((x ∷ t, key) ∷ rows) (inl fits) = absurd (no_token x t fits)
    where
      no_token : (x : ℕ) (t : List ℕ) → token_fits (x ∷ t) [] ≡ true → ⊥
      no_token x t fits = by (x == param_token) fits
        where
          by : (v : Bool) → cond v (false && token_fits t []) (false && token_fits t []) ≡ true → ⊥
          by true fits = let never : false ≡ true = fits in search rules
          by false fits = let never : false ≡ true = fits in search rules
  some_own ((x ∷ t, key) ∷ rows) (inr some) = some_own rows some

  pub all_weaker : (P Q : List ℕ → K → Type 0) → ((t : List ℕ) (k : K) → P t k → Q t k) → (rows : RowsOf K) → AllRows P rows → AllRows Q rows
  all_weaker P Q f [] all = tt
  all_weaker P Q f ((t, key) ∷ rows) all = (f t key all.0, all_weaker P Q f rows all.1)

  step_rows : (P : List ℕ → K → Type 0) (b : ℕ) (rows : RowsOf K) → AllRows P rows → AllRows (λ t k. P (b ∷ t) k) (step b rows)
  step_rows P b [] all = tt
  step_rows P b (([], key) ∷ rows) all = step_rows P b rows all.1
  step_rows P b ((x ∷ t, key) ∷ rows) all = by (x == b) refl (step_rows P b rows all.1)
    where
      by : (v : Bool) → (x == b) ≡ v → AllRows (λ t k. P (b ∷ t) k) (step b rows) → AllRows (λ t k. P (b ∷ t) k) (cond v ((t, key) ∷ step b rows) (step b rows))
      by true e more =
          let same : x ≡ b = grind (arith, nat_tests) in
          (rw (← same) all.0, more)
      by false e more = more

  slash_rows : (P : List ℕ → K → Type 0) (rows : RowsOf K) → AllRows P rows → AllRows P (with_suffix (slash ∷ []) rows)
  slash_rows P [] all = tt
  slash_rows P ((t, key) ∷ rows) all = by (same_text (segment t) (slash ∷ [])) (slash_rows P rows all.1)
    where
      by : (v : Bool) → AllRows P (with_suffix (slash ∷ []) rows) → AllRows P (cond v ((t, key) ∷ with_suffix (slash ∷ []) rows) (with_suffix (slash ∷ []) rows))
      by true more = (all.0, more)
      by false more = more

  -- ---- a parameter

  no_rows : (path : List ℕ) → (param_step {K = K} [] path).1 ≡ []
  unfolding param_step
  no_rows path =
      elim (has_slash path) as (λ v. (cond {A = ℕ × RowsOf K} v (0, []) (length path, [])).1 ≡ []) [
        | true ↦ refl
        | false ↦ refl
      ]

  seek_none : (n : ℕ) (path : List ℕ) → seek {K = K} n [] path ≡ None
  unfolding seek
  seek_none n [] = refl
  seek_none (suc n) (b ∷ path) = seek_none n path
  seek_none zero (b ∷ path) = simp (seek_none 0 path, no_rows (b ∷ path), seek_none (((param_step {K = K} [] (b ∷ path)).0) - 1) path)

  seek_skip : (n : ℕ) (rows : RowsOf K) (path : List ℕ) → seek n rows path ≡ seek 0 rows (drop n path)
  unfolding seek
  seek_skip zero rows path = refl
  seek_skip (suc n) rows [] = refl
  seek_skip (suc n) rows (b ∷ path) = seek_skip n rows path

  -- rows behind a parameter: they end, or go on with a slash
  abbrev pub GoOn : RowsOf K → Type 0
  GoOn rows = AllRows (λ t k. goes_on t ≡ true) rows

  longest_none : (seg : List ℕ) (rows : RowsOf K) → cuts seg (slash ∷ []) ≡ false → GoOn rows → longest_from seg [] rows ≡ []
  longest_none seg [] none all = refl
  longest_none seg (([], key) ∷ rows) none all = longest_none seg rows none all.1
  longest_none seg ((y ∷ t, key) ∷ rows) none all =
      let same : y ≡ slash = grind (arith, nat_tests, all.0) in
      rw (same, none) (longest_none seg rows none all.1)

  longest_slash : (seg : List ℕ) (rows : RowsOf K) → GoOn rows → longest_from seg (slash ∷ []) rows ≡ slash ∷ []
  longest_slash seg [] all = refl
  longest_slash seg (([], key) ∷ rows) all = longest_slash seg rows all.1
  longest_slash seg ((y ∷ t, key) ∷ rows) all =
      let same : y ≡ slash = grind (arith, nat_tests, all.0) in
      rw same (longest_slash seg rows all.1)

  -- of a segment with a slash behind it the slash is cut off, or no row goes on with one
  longest_is : (seg : List ℕ) (rows : RowsOf K) → cuts seg (slash ∷ []) ≡ true → GoOn rows
      → (longest_from seg [] rows ≡ slash ∷ []) ⊎ ((longest_from seg [] rows ≡ []) × (with_suffix (slash ∷ []) rows ≡ []))
  longest_is seg [] is all = inr (refl, refl)
  longest_is seg (([], key) ∷ rows) is all = longest_is seg rows is all.1
  longest_is seg ((y ∷ t, key) ∷ rows) is all =
      let same : y ≡ slash = grind (arith, nat_tests, all.0) in
      inl (rw (same, is) (longest_slash seg rows all.1))

  -- what a parameter finds that takes this part, and has this behind it
  abbrev pub behind_part : RowsOf K → List ℕ → List ℕ → Option K
  behind_part rows [] more = None
  behind_part rows (c ∷ q) [] = own rows
  behind_part rows (c ∷ q) (d ∷ more) = seek 0 (with_suffix (slash ∷ []) rows) (d ∷ more)

  -- what is found at a parameter
  abbrev pub at_param : RowsOf K → ℕ → List ℕ → Option K
  at_param rows b path = seek ((param_step rows (b ∷ path)).0 - 1) (param_step rows (b ∷ path)).1 path

  -- a parameter takes all where there is no slash
  takes_all : (rows : RowsOf K) (b : ℕ) (path : List ℕ) → has_slash (b ∷ path) ≡ false → GoOn rows → at_param rows b path ≡ own rows
  unfolding param_step seek
  takes_all rows b path none all =
      let longest = longest_none (b ∷ path) rows (no_cut (b ∷ path) none) all in
      let one : length (b ∷ path) - 1 ≡ length path = omega arith in
      rw (segment-no_slash (b ∷ path) none, longest, none, one) (seek_skip (length path) rows path ∙ ap (seek 0 rows) (drop-length path))

  -- a part that a slash follows is taken up to it, where a row goes on with a slash
  step_part : (rows : RowsOf K) (c : ℕ) (q more : List ℕ) → has_slash (c ∷ q) ≡ false → longest_from ((c ∷ q) ++ slash ∷ []) [] rows ≡ slash ∷ []
      → param_step rows ((c ∷ q) ++ slash ∷ more) ≡ (length (c ∷ q), with_suffix (slash ∷ []) rows)
  unfolding param_step
  step_part rows c q more none longest =
      let long : length ((c ∷ q) ++ slash ∷ []) - 1 ≡ length (c ∷ q) = omega (arith, length-append (c ∷ q) (slash ∷ [])) in
      rw (segment-slash (c ∷ q) more none, longest, long) refl

  -- where no row does, nothing is found
  step_none : (rows : RowsOf K) (c : ℕ) (q more : List ℕ) → has_slash (c ∷ q) ≡ false → longest_from ((c ∷ q) ++ slash ∷ []) [] rows ≡ []
      → param_step rows ((c ∷ q) ++ slash ∷ more) ≡ (0, [])
  unfolding param_step
  step_none rows c q more none longest =
      rw (segment-slash (c ∷ q) more none, longest, has_slash-append (c ∷ q) more) refl

  -- a parameter takes what stands before a slash
  takes_part : (rows : RowsOf K) (b c : ℕ) (path q more : List ℕ) → b ∷ path ≡ (c ∷ q) ++ slash ∷ more → has_slash (c ∷ q) ≡ false → GoOn rows
      → at_param rows b path ≡ seek 0 (with_suffix (slash ∷ []) rows) (slash ∷ more)
  takes_part rows b c path q more same none all = by (longest_is ((c ∷ q) ++ slash ∷ []) rows (cut c q) all)
    where
      by : (longest_from ((c ∷ q) ++ slash ∷ []) [] rows ≡ slash ∷ []) ⊎ ((longest_from ((c ∷ q) ++ slash ∷ []) [] rows ≡ []) × (with_suffix (slash ∷ []) rows ≡ []))
          → at_param rows b path ≡ seek 0 (with_suffix (slash ∷ []) rows) (slash ∷ more)
      by (inl longest) =
          ap (λ (s : ℕ × RowsOf K). seek (s.0 - 1) s.1 path) (ap (param_step rows) same ∙ step_part rows c q more none longest)
          ∙ (seek_skip (length (c ∷ q) - 1) (with_suffix (slash ∷ []) rows) path
          ∙ ap (seek 0 (with_suffix (slash ∷ []) rows)) (drop_more_one (length (c ∷ q)) b path (omega arith) ∙ (ap (drop (length (c ∷ q))) same ∙ drop_at (c ∷ q) (slash ∷ more) (length (c ∷ q)) refl)))
      by (inr longest) =
          ap (λ (s : ℕ × RowsOf K). seek (s.0 - 1) s.1 path) (ap (param_step rows) same ∙ step_none rows c q more none longest.0)
          ∙ (seek_none 0 path ∙ sym (rw longest.1 (seek_none 0 (slash ∷ more))))

  -- a parameter takes no empty part
  takes_nothing : (rows : RowsOf K) (b : ℕ) (path : List ℕ) → b ≡ slash → GoOn rows → at_param rows b path ≡ None
  unfolding param_step
  takes_nothing rows b path same all =
      let longest : longest_from (slash ∷ []) [] rows ≡ [] = longest_none (slash ∷ []) rows refl all in
      rw (same, longest) (seek_none 0 path)

  -- what is found at a parameter, by the part that it takes
  param_is : (rows : RowsOf K) (b : ℕ) (path : List ℕ) → GoOn rows → at_param rows b path ≡ behind_part rows (part (b ∷ path)) (rest (b ∷ path))
  param_is rows b path all = by (b == slash) refl (rest_is path)
    where
      by : (v : Bool) → (b == slash) ≡ v → RestIs path → at_param rows b path ≡ behind_part rows (cond v [] (b ∷ part path)) (cond v (b ∷ path) (rest path))
      by true e more = takes_nothing rows b path (grind (arith, nat_tests)) all
      by false e (at_end none) =
          let whole : part path ≡ path = sym (append-nil (part path)) ∙ (ap (λ r. part path ++ r) (sym none) ∙ part-rest path) in
          let free : has_slash (b ∷ path) ≡ false = rw e (subst (λ p. has_slash p ≡ false) whole (has_slash-part path)) in
          rw none (takes_all rows b path free all)
      by false e (at_slash more is) =
          let whole : b ∷ path ≡ (b ∷ part path) ++ slash ∷ more = ap (λ p. b ∷ p) (sym (part-rest path) ∙ ap (λ r. part path ++ r) is) in
          let free : has_slash (b ∷ part path) ≡ false = rw e (has_slash-part path) in
          rw is (takes_part rows b b path (part path) more whole free all)

  -- ---- the row that is found

  -- a row's tokens are strict, and a path that they fit has what is said of its key
  abbrev pub IsGood : (K → List ℕ → Type 0) → List ℕ → K → Type 0
  IsGood G t k = (is_strict t ≡ true) × ((path : List ℕ) → token_fits t path ≡ true → G k path)

  one_of : (a b : Option K) (k : K) → or_else a b ≡ Some k → (a ≡ Some k) ⊎ (b ≡ Some k)
  one_of None b k e = inr e
  one_of (Some x) b k e = inl e

  -- strict rows have no catch-all
  no_catch_all : (G : K → List ℕ → Type 0) (rows : RowsOf K) (k : K) → AllRows (IsGood G) rows → own (step catch_all_token rows) ≡ Some k → ⊥
  no_catch_all G rows k all e =
      let strict = (own_row (λ t k. IsGood G (catch_all_token ∷ t) k) (step catch_all_token rows) k (step_rows (IsGood G) catch_all_token rows all) e).0 in
      let never : false ≡ true = strict in search rules

  -- the rows that go on with a byte
  good_step : (G : K → List ℕ → Type 0) (b : ℕ) (rows : RowsOf K) → b < 256 → AllRows (IsGood G) rows → AllRows (IsGood (λ k path. G k (b ∷ path))) (step b rows)
  good_step G b rows small all = all_weaker (λ t k. IsGood G (b ∷ t) k) (IsGood (λ k path. G k (b ∷ path))) goes (step b rows) (step_rows (IsGood G) b rows all)
    where
      byte : (b == param_token) ≡ false
      byte = grind (arith, nat_tests)

      goes : (t : List ℕ) (k : K) → IsGood G (b ∷ t) k → IsGood (λ k path. G k (b ∷ path)) t k
      goes t k h =
          (tail_strict b t h.0, λ path fits. h.1 (b ∷ path) (rw (byte, same_byte b) fits))

  -- the rows that go on with a parameter go on with a slash behind it, or end
  good_param : (G : K → List ℕ → Type 0) (rows : RowsOf K) → AllRows (λ t k. IsGood G (param_token ∷ t) k) rows → GoOn rows
  good_param G rows all = all_weaker (λ t k. IsGood G (param_token ∷ t) k) (λ t k. goes_on t ≡ true) (λ t k h. (and_parts (goes_on t) (is_strict t) h.0).0) rows all

  -- what holds of shorter paths
  abbrev Shorter : ℕ → K → Type 1
  Shorter n k = (rows : RowsOf K) (path : List ℕ) (G : K → List ℕ → Type 0) → length path ≤ n → IsBytes path → AllRows (IsGood G) rows → seek 0 rows path ≡ Some k → G k path

  -- a parameter that takes this part, and has this behind it
  by_part : (n : ℕ) (k : K) → Shorter n k → (G : K → List ℕ → Type 0) (path q more : List ℕ) (rows : RowsOf K) → part path ≡ q → rest path ≡ more → length more ≤ n → IsBytes more
      → AllRows (λ t k. IsGood G (param_token ∷ t) k) rows → behind_part rows q more ≡ Some k → G k path
  by_part n k shorter G path [] more rows parted rested small bytes all e = none_is_not k e
  by_part n k shorter G path (c ∷ q) [] rows parted rested small bytes all e =
      (own_row (λ t k. IsGood G (param_token ∷ t) k) rows k all e).1 path (rw (parted, rested) refl)
  by_part n k shorter G path (c ∷ q) (d ∷ more) rows parted rested small bytes all e =
      shorter (with_suffix (slash ∷ []) rows) (d ∷ more) (λ k r. r ≡ d ∷ more → G k path) small bytes
      (all_weaker (λ t k. IsGood G (param_token ∷ t) k) (IsGood (λ k r. r ≡ d ∷ more → G k path)) goes (with_suffix (slash ∷ []) rows) (slash_rows (λ t k. IsGood G (param_token ∷ t) k) rows all)) e refl
    where
      goes : (t : List ℕ) (k : K) → IsGood G (param_token ∷ t) k → IsGood (λ k r. r ≡ d ∷ more → G k path) t k
      goes t k h = ((and_parts (goes_on t) (is_strict t) h.0).1, λ r fits same. h.1 path (rw (parted, rested, ← same) fits))

  -- a byte, or a parameter
  by_first : (n : ℕ) (k : K) → Shorter n k → (G : K → List ℕ → Type 0) (b : ℕ) (path : List ℕ) (rows : RowsOf K) → length path ≤ n → IsBytes (b ∷ path) → AllRows (IsGood G) rows
      → (seek 0 (step b rows) path ≡ Some k) ⊎ (or_else (at_param (step param_token rows) b path) (own (step catch_all_token rows)) ≡ Some k) → G k (b ∷ path)
  by_first n k shorter G b path rows small bytes all (inl e) =
      shorter (step b rows) path (λ k p. G k (b ∷ p)) small (λ i. bytes (suc i)) (good_step G b rows (bytes 0) all) e
  by_first n k shorter G b path rows small bytes all (inr e) = by (one_of _ _ k e)
    where
      params : AllRows (λ t k. IsGood G (param_token ∷ t) k) (step param_token rows)
      params = step_rows (IsGood G) param_token rows all

      by : (at_param (step param_token rows) b path ≡ Some k) ⊎ (own (step catch_all_token rows) ≡ Some k) → G k (b ∷ path)
      by (inl e) = by_some_part (b == slash) refl (sym (param_is (step param_token rows) b path (good_param G (step param_token rows) params)) ∙ e)
        where
          by_some_part : (v : Bool) → (b == slash) ≡ v → behind_part (step param_token rows) (cond v [] (b ∷ part path)) (cond v (b ∷ path) (rest path)) ≡ Some k → G k (b ∷ path)
          by_some_part true test e = none_is_not k e
          by_some_part false test e =
              let long = ap length (part-rest path) in
              by_part n k shorter G (b ∷ path) (b ∷ part path) (rest path) (step param_token rows) (rw test refl) (rw test refl)
              (omega (arith, small, long, length-append (part path) (rest path)))
              (IsBytes-rest path (λ i. bytes (suc i))) params e
      by (inr e) = absurd (no_catch_all G rows k all e)

  -- the row that a path finds has what each path that fits it has
  pub found_fits : (n : ℕ) (k : K) → Shorter n k
  unfolding seek
  found_fits n k rows [] G small bytes all e = (own_row (IsGood G) rows k all e).1 [] refl
  found_fits zero k rows (b ∷ path) G small bytes all e = absurd (omega (arith, small))
  found_fits (suc n) k rows (b ∷ path) G small bytes all e =
      by_first n k (found_fits n k) G b path rows (omega (arith, small)) bytes all (one_of _ _ k e)

  -- ---- a row is found

  abbrev pub AreStrict : RowsOf K → Type 0
  AreStrict rows = AllRows (λ t k. is_strict t ≡ true) rows

  some_weaker : (p q : List ℕ → Bool) → ((t : List ℕ) → p t ≡ true → q t ≡ true) → (rows : RowsOf K) → SomeRow p rows → SomeRow q rows
  some_weaker p q f [] some = elim some [ ]
  some_weaker p q f ((t, key) ∷ rows) (inl is) = inl (f t is)
  some_weaker p q f ((t, key) ∷ rows) (inr some) = inr (some_weaker p q f rows some)

  -- a row that goes on with a token is among those that do
  some_step : (p : List ℕ → Bool) (b : ℕ) (rows : RowsOf K) → SomeRow (λ t. begins b t && p (behind t)) rows → SomeRow p (step b rows)
  some_step p b [] some = elim some [ ]
  some_step p b (([], key) ∷ rows) (inl is) = absurd (let never : false ≡ true = is in search rules)
  some_step p b (([], key) ∷ rows) (inr some) = some_step p b rows some
  some_step p b ((x ∷ t, key) ∷ rows) (inl is) =
      let both = and_parts (b == x) (p t) is in
      let same : (x == b) ≡ true = grind (arith, nat_tests, both.0) in
      rw same (inl both.1)
  some_step p b ((x ∷ t, key) ∷ rows) (inr some) = by (x == b) (some_step p b rows some)
    where
      by : (v : Bool) → SomeRow p (step b rows) → SomeRow p (cond v ((t, key) ∷ step b rows) (step b rows))
      by true more = inr more
      by false more = more

  -- a row that fits behind a part goes on with a slash
  some_slash : (more : List ℕ) (rows : RowsOf K) → SomeRow (λ t. token_fits t (slash ∷ more)) rows → GoOn rows → SomeRow (λ t. token_fits t (slash ∷ more)) (with_suffix (slash ∷ []) rows)
  some_slash more [] some all = elim some [ ]
  some_slash more (([], key) ∷ rows) (inl is) all = absurd (let never : false ≡ true = is in search rules)
  some_slash more ((x ∷ t, key) ∷ rows) (inl is) all =
      let same : x ≡ slash = grind (arith, nat_tests, all.0) in
      rw same (inl (rw same at is))
  some_slash more ((t, key) ∷ rows) (inr some) all = by (same_text (segment t) (slash ∷ [])) (some_slash more rows some all.1)
    where
      by : (v : Bool) → SomeRow (λ t. token_fits t (slash ∷ more)) (with_suffix (slash ∷ []) rows)
          → SomeRow (λ t. token_fits t (slash ∷ more)) (cond v ((t, key) ∷ with_suffix (slash ∷ []) rows) (with_suffix (slash ∷ []) rows))
      by true more = inr more
      by false more = more

  or_else_left : (a b : Option K) → is_found a ≡ true → is_found (or_else a b) ≡ true
  or_else_left None b is = absurd (let never : false ≡ true = is in search rules)
  or_else_left (Some k) b is = refl

  or_else_right : (a b : Option K) → is_found b ≡ true → is_found (or_else a b) ≡ true
  or_else_right None b is = is
  or_else_right (Some k) b is = refl

  -- a row that fits goes on with the path's byte, or with a parameter
  some_first : (b : ℕ) (path : List ℕ) (rows : RowsOf K) → SomeRow (λ t. token_fits t (b ∷ path)) rows
      → SomeRow (λ t. begins b t && token_fits (behind t) path) rows ⊎ SomeRow (λ t. begins param_token t && (is_some_text (part (b ∷ path)) && token_fits (behind t) (rest (b ∷ path)))) rows
  some_first b path [] some = elim some [ ]
  some_first b path (([], key) ∷ rows) (inl is) = absurd (let never : false ≡ true = is in search rules)
  some_first b path ((x ∷ t, key) ∷ rows) (inl is) = by (x == param_token) refl is
    where
      by : (v : Bool) → (x == param_token) ≡ v → cond v (is_some_text (part (b ∷ path)) && token_fits t (rest (b ∷ path))) ((x == b) && token_fits t path) ≡ true
          → SomeRow (λ t. begins b t && token_fits (behind t) path) ((x ∷ t, key) ∷ rows) ⊎ SomeRow (λ t. begins param_token t && (is_some_text (part (b ∷ path)) && token_fits (behind t) (rest (b ∷ path)))) ((x ∷ t, key) ∷ rows)
      by true e is =
          let same : (param_token == x) ≡ true = grind (arith, nat_tests) in
          inr (inl (and_from _ _ same is))
      by false e is =
          let both = and_parts (x == b) (token_fits t path) is in
          let same : (b == x) ≡ true = grind (arith, nat_tests, both.0) in
          inl (inl (and_from _ _ same both.1))
  some_first b path ((t, key) ∷ rows) (inr some) = by (some_first b path rows some)
    where
      by : SomeRow (λ t. begins b t && token_fits (behind t) path) rows ⊎ SomeRow (λ t. begins param_token t && (is_some_text (part (b ∷ path)) && token_fits (behind t) (rest (b ∷ path)))) rows
          → SomeRow (λ t. begins b t && token_fits (behind t) path) ((t, key) ∷ rows) ⊎ SomeRow (λ t. begins param_token t && (is_some_text (part (b ∷ path)) && token_fits (behind t) (rest (b ∷ path)))) ((t, key) ∷ rows)
      by (inl some) = inl (inr some)
      by (inr some) = inr (inr some)

  no_some : (rows : RowsOf K) → SomeRow (λ t. false) rows → ⊥
  no_some [] some = elim some [ ]
  no_some (r ∷ rows) (inl is) = let never : false ≡ true = is in search rules
  no_some (r ∷ rows) (inr some) = no_some rows some

  -- a row that a path fits is found, where that is so of shorter paths
  fits_first : (n : ℕ) → ((rows : RowsOf K) (path : List ℕ) → length path ≤ n → AreStrict rows → SomeRow (λ t. token_fits t path) rows → is_found (seek 0 rows path) ≡ true)
      → (rows : RowsOf K) (b : ℕ) (path : List ℕ) → length path ≤ n → AreStrict rows → SomeRow (λ t. token_fits t (b ∷ path)) rows
      → is_found (or_else (seek 0 (step b rows) path) (or_else (at_param (step param_token rows) b path) (own (step catch_all_token rows)))) ≡ true
  fits_first n again rows b path small all some = by (some_first b path rows some)
    where
      go_on : GoOn (step param_token rows)
      go_on = all_weaker (λ t k. is_strict (param_token ∷ t) ≡ true) (λ t k. goes_on t ≡ true) (λ t k h. (and_parts (goes_on t) (is_strict t) h).0) (step param_token rows)
          (step_rows (λ t k. is_strict t ≡ true) param_token rows all)

      strict : (x : ℕ) → AreStrict (step x rows)
      strict x = all_weaker (λ t k. is_strict (x ∷ t) ≡ true) (λ t k. is_strict t ≡ true) (λ t k h. tail_strict x t h) (step x rows) (step_rows (λ t k. is_strict t ≡ true) x rows all)

      by_rest : RestIs path → SomeRow (λ t. token_fits t (rest path)) (step param_token rows) → is_found (behind_part (step param_token rows) (b ∷ part path) (rest path)) ≡ true
      by_rest (at_end none) some = rw none (some_own (step param_token rows) (rw none at some))
      by_rest (at_slash more is) some =
          let long = ap length (part-rest path) in
          let short = ap length is in
          let here = rw is at some in
          rw is (again (with_suffix (slash ∷ []) (step param_token rows)) (slash ∷ more) (omega (arith, small, long, short, length-append (part path) (rest path)))
          (slash_rows (λ t k. is_strict t ≡ true) (step param_token rows) (strict param_token)) (some_slash more (step param_token rows) here go_on))

      by_part_of : (v : Bool) → (b == slash) ≡ v → SomeRow (λ t. is_some_text (cond v [] (b ∷ part path)) && token_fits t (cond v (b ∷ path) (rest path))) (step param_token rows)
          → is_found (behind_part (step param_token rows) (cond v [] (b ∷ part path)) (cond v (b ∷ path) (rest path))) ≡ true
      by_part_of true test some = absurd (no_some (step param_token rows) some)
      by_part_of false test some = by_rest (rest_is path) some

      by : SomeRow (λ t. begins b t && token_fits (behind t) path) rows ⊎ SomeRow (λ t. begins param_token t && (is_some_text (part (b ∷ path)) && token_fits (behind t) (rest (b ∷ path)))) rows
          → is_found (or_else (seek 0 (step b rows) path) (or_else (at_param (step param_token rows) b path) (own (step catch_all_token rows)))) ≡ true
      by (inl some) = or_else_left _ _ (again (step b rows) path small (strict b) (some_step (λ t. token_fits t path) b rows some))
      by (inr some) =
          let params = some_step (λ t. is_some_text (part (b ∷ path)) && token_fits t (rest (b ∷ path))) param_token rows some in
          let found : is_found (at_param (step param_token rows) b path) ≡ true = rw (param_is (step param_token rows) b path go_on) (by_part_of (b == slash) refl params) in
          or_else_right (seek 0 (step b rows) path) _ (or_else_left (at_param (step param_token rows) b path) _ found)

  -- a row that a path fits is found
  pub fits_found : (n : ℕ) (rows : RowsOf K) (path : List ℕ) → length path ≤ n → AreStrict rows → SomeRow (λ t. token_fits t path) rows → is_found (seek 0 rows path) ≡ true
  unfolding seek
  fits_found n rows [] small all some = some_own rows some
  fits_found zero rows (b ∷ path) small all some = absurd (omega (arith, small))
  fits_found (suc n) rows (b ∷ path) small all some = fits_first n (fits_found n) rows b path (omega (arith, small)) all some
