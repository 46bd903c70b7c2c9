-- What `matchit` finds in the router of sound rows is the row whose pattern the path fits.
use Rattle.std.proofs.Common.{◌≡◌, ℕ, zero, suc, ◌≤◌, List, [], ◌∷◌, ◌++◌, length, map, find, Option, None, Some, Bool, true, false, cond, ◌⊎◌, inl, inr, refl, sym, ap, ◌∙◌, arith, rules, subst, append_assoc}
use Rattle.std.proofs.lemmas.Bool.{and_parts, and_from, or_cases, or_left, or_right}
use Rattle.std.proofs.lemmas.Bool.Decides.{nat_tests}
use Rattle.std.proofs.lemmas.List.{append-nil}
use Rattle.std.proofs.lemmas.Option.{MatchOption-at_some, MatchOption-at_none}
use Rattle.std.specs.Prelude.{◌||◌, nat_le, bytes_eq, ⊤, MatchOption}
use Rattle.std.specs.Cmp.Lexicographic.{pointwise, bytes_decides}
use Rattle.std.specs.List.{list_all, list_any, slice_get}
use Rattle.matchit.specs.Order.{placed}
use Rattle.matchit.specs.Route.{parse_route, Scan}
use Rattle.matchit.specs.Router.{RouteOf, route_from}
use Rattle.matchit.specs.Rows.{RowsOf, comes_before}
use Rattle.matchit.specs.Seek.{first}
use Rattle.path_table.specs.Routers.{with_read, router_behind, router_for, IsBytes, IsFound, FindsRow}
use Rattle.path_table.specs.Segments.{segments, is_some_text, is_part_name, segment_fits, fits}
use Rattle.path_table.specs.Sound.{is_plain_segment, is_plain, can_share, are_apart, is_sound}
use Rattle.path_table.proofs.Tokens.{token_fits, is_strict, param_count, token_parts}
use Rattle.path_table.proofs.Seeking.{AllRows, SomeRow, all_weaker, found_fits, fits_found}
use Rattle.path_table.proofs.Walking.{params_are}
use Rattle.path_table.proofs.Patterns.{tokens, tokens_fit, tokens_take, tokens_strict, some_segment}
use Rattle.path_table.proofs.Parsing.{IsRead, plain_read}

-- ---- two patterns that a path fits

same_bytes : (a : List ℕ) → bytes_eq a a ≡ true
same_bytes a = (bytes_decides a a).1 refl

bytes_turned : (a b : List ℕ) → bytes_eq a b ≡ bytes_eq b a
bytes_turned a b = by (bytes_eq a b) refl (bytes_eq b a) refl
  where
    by : (v : Bool) → bytes_eq a b ≡ v → (w : Bool) → bytes_eq b a ≡ w → v ≡ w
    by true e true h = refl
    by true e false h = sym ((bytes_decides b a).1 (sym ((bytes_decides a b).0 e))) ∙ h
    by false e true h = sym e ∙ (bytes_decides a b).1 (sym ((bytes_decides b a).0 h))
    by false e false h = refl

share : (a b s : List ℕ) → segment_fits a s ≡ true → segment_fits b s ≡ true → can_share a b ≡ true
share a b s fits_a fits_b = by (is_part_name a) (is_part_name b) fits_a fits_b
  where
    by : (v w : Bool) → cond v (is_some_text s) (bytes_eq a s) ≡ true → cond w (is_some_text s) (bytes_eq b s) ≡ true → (v || (w || bytes_eq a b)) ≡ true
    by true w fits_a fits_b = refl
    by false true fits_a fits_b = refl
    by false false fits_a fits_b =
        let is_a = (bytes_decides a s).0 fits_a in
        let is_b = (bytes_decides b s).0 fits_b in
        (bytes_decides a b).1 (is_a ∙ sym is_b)

-- one path fits both
meet : (xs ys path : List (List ℕ)) → pointwise segment_fits xs path ≡ true → pointwise segment_fits ys path ≡ true → pointwise can_share xs ys ≡ true
meet [] [] path fits_x fits_y = refl
meet [] (y ∷ ys) [] fits_x fits_y = fits_y
meet [] (y ∷ ys) (s ∷ path) fits_x fits_y = fits_x
meet (x ∷ xs) [] [] fits_x fits_y = fits_x
meet (x ∷ xs) [] (s ∷ path) fits_x fits_y = fits_y
meet (x ∷ xs) (y ∷ ys) [] fits_x fits_y = absurd (let never : false ≡ true = fits_x in search rules)
meet (x ∷ xs) (y ∷ ys) (s ∷ path) fits_x fits_y =
    let here = and_parts (segment_fits x s) (pointwise segment_fits xs path) fits_x in
    let there = and_parts (segment_fits y s) (pointwise segment_fits ys path) fits_y in
    and_from _ _ (share x y s here.0 there.0) (meet xs ys path here.1 there.1)

-- of patterns that are apart a path fits one, or they are the same
one_pattern : (a b path : List ℕ) → are_apart a b ≡ true → fits a path ≡ true → fits b path ≡ bytes_eq a b
one_pattern a b path apart fits_a = by (bytes_eq a b) refl (fits b path) refl
  where
    by : (v : Bool) → bytes_eq a b ≡ v → (w : Bool) → fits b path ≡ w → w ≡ v
    by true e true h = refl
    by true e false h =
        let same = (bytes_decides a b).0 e in
        let here : fits a path ≡ false = rw same h in
        absurd (let never : true ≡ false = sym fits_a ∙ here in search rules)
    by false e true h =
        let both = meet (segments a) (segments b) (segments path) fits_a h in
        absurd (let never : false ≡ true = rw (e, both) at apart in search rules)
    by false e false h = refl

-- ---- rows

module _ {R : Type 0} where
  -- what all pass, one passes
  all_at : (p : List ℕ → Bool) (f : R → List ℕ) (rows : List R) (i : ℕ) (row : R) → list_all p (map f rows) ≡ true → slice_get rows i ≡ Some row → p (f row) ≡ true
  all_at p f [] i row all at = absurd (let never : None ≡ Some row = at in search rules)
  all_at p f (x ∷ rows) zero row all at =
      let same : x ≡ row = search rules in
      rw (← same) (and_parts (p (f x)) (list_all p (map f rows)) all).0
  all_at p f (x ∷ rows) (suc i) row all at = all_at p f rows i row (and_parts (p (f x)) (list_all p (map f rows)) all).1 at

  -- tests that agree on each row
  abbrev AllSame : (R → Bool) → (R → Bool) → List R → Type 0
  AllSame p q [] = ⊤
  AllSame p q (x ∷ rows) = (p x ≡ q x) × AllSame p q rows

  find_same : (p q : R → Bool) (rows : List R) → AllSame p q rows → find p rows ≡ find q rows
  find_same p q [] same = refl
  find_same p q (x ∷ rows) same = rw (same.0, find_same p q rows same.1) refl

  -- a row behind others, none of which passes
  find_behind : (p : R → Bool) (earlier : List R) (row : R) (rows : List R) → list_any p earlier ≡ false → p row ≡ true → find p (earlier ++ row ∷ rows) ≡ Some row
  find_behind p [] row rows none is = rw is refl
  find_behind p (x ∷ earlier) row rows none is = by (p x) none (find_behind p earlier row rows)
    where
      by : (v : Bool) → (v || list_any p earlier) ≡ false → (list_any p earlier ≡ false → p row ≡ true → find p (earlier ++ row ∷ rows) ≡ Some row)
          → cond v (Some x) (find p (earlier ++ row ∷ rows)) ≡ Some row
      by true none more = absurd (let never : true ≡ false = none in search rules)
      by false none more = more none is

  get_behind : (earlier : List R) (row : R) (rows : List R) → slice_get (earlier ++ row ∷ rows) (length earlier) ≡ Some row
  get_behind [] row rows = refl
  get_behind (x ∷ earlier) row rows = get_behind earlier row rows

  find_none : (p : R → Bool) (rows : List R) → list_any p rows ≡ false → find p rows ≡ None
  find_none p [] none = refl
  find_none p (x ∷ rows) none = by (p x) none (find_none p rows)
    where
      by : (v : Bool) → (v || list_any p rows) ≡ false → (list_any p rows ≡ false → find p rows ≡ None) → cond v (Some x) (find p rows) ≡ None
      by true none more = absurd (let never : true ≡ false = none in search rules)
      by false none more = more none

module _ {R : Type 0} (pattern_of : R → List ℕ) where
  -- of rows that are apart, those with one pattern are those that a path fits which fits that pattern
  same_rows : (row : R) (path : List ℕ) (rows : List R) → fits (pattern_of row) path ≡ true → list_all (are_apart (pattern_of row)) (map pattern_of rows) ≡ true
      → AllSame (λ x. fits (pattern_of x) path) (λ x. bytes_eq (pattern_of x) (pattern_of row)) rows
  same_rows row path [] here apart = tt
  same_rows row path (x ∷ rows) here apart =
      let both = and_parts (are_apart (pattern_of row) (pattern_of x)) (list_all (are_apart (pattern_of row)) (map pattern_of rows)) apart in
      (one_pattern (pattern_of row) (pattern_of x) path both.0 here ∙ bytes_turned (pattern_of row) (pattern_of x), same_rows row path rows here both.1)

  -- a route of the router is that of the first row with its pattern
  pub record IsEntry (all : List R) (t : List ℕ) (r : RouteOf ℕ) : Type 0 where
    pub row : R
    pub at : slice_get all r.value ≡ Some row
    pub first_is : find (λ x. bytes_eq (pattern_of x) (pattern_of row)) all ≡ Some row
    pub tokens_are : t ≡ tokens (segments (pattern_of row))
    pub pattern_is : r.pattern ≡ t
    pub count : length r.names ≡ param_count t
    pub short : length t ≤ 1000

  placed_all : (P : List ℕ → RouteOf ℕ → Type 0) (t : List ℕ) (r : RouteOf ℕ) (router : RowsOf (RouteOf ℕ)) → P t r → AllRows P router → AllRows P (placed (t, r) router)
  placed_all P t r [] is all = (is, tt)
  placed_all P t r ((u, k) ∷ router) is all = by (comes_before t u) (placed_all P t r router is all.1)
    where
      by : (v : Bool) → AllRows P (placed (t, r) router) → AllRows P (cond v ((t, r) ∷ (u, k) ∷ router) ((u, k) ∷ placed (t, r) router))
      by true more = (is, (all.0, all.1))
      by false more = (all.0, more)

  placed_here : (p : List ℕ → Bool) (t : List ℕ) (r : RouteOf ℕ) (router : RowsOf (RouteOf ℕ)) → p t ≡ true → SomeRow p (placed (t, r) router)
  placed_here p t r [] is = inl is
  placed_here p t r ((u, k) ∷ router) is = by (comes_before t u) (placed_here p t r router is)
    where
      by : (v : Bool) → SomeRow p (placed (t, r) router) → SomeRow p (cond v ((t, r) ∷ (u, k) ∷ router) ((u, k) ∷ placed (t, r) router))
      by true more = inl is
      by false more = inr more

  placed_other : (p : List ℕ → Bool) (t : List ℕ) (r : RouteOf ℕ) (router : RowsOf (RouteOf ℕ)) → SomeRow p router → SomeRow p (placed (t, r) router)
  placed_other p t r [] some = elim some [ ]
  placed_other p t r ((u, k) ∷ router) some = by (comes_before t u) some (placed_other p t r router)
    where
      by : (v : Bool) → (p u ≡ true) ⊎ SomeRow p router → (SomeRow p router → SomeRow p (placed (t, r) router)) → SomeRow p (cond v ((t, r) ∷ (u, k) ∷ router) ((u, k) ∷ placed (t, r) router))
      by true some more = inr some
      by false (inl is) more = inl is
      by false (inr some) more = inr (more some)

  -- the scan of a plain pattern
  pub entry_of : (all earlier : List R) (row : R) (rows : List R) → all ≡ earlier ++ row ∷ rows → is_plain (pattern_of row) ≡ true
      → list_any (λ r. bytes_eq (pattern_of r) (pattern_of row)) earlier ≡ false → (s : Scan) × IsRead (pattern_of row) s × IsEntry all s.pattern (route_from s (length earlier))
  entry_of all earlier row rows whole plain new =
      let both = and_parts (nat_le (length (pattern_of row)) 1000) _ plain in
      let read = plain_read (pattern_of row) both.1 (some_segment (pattern_of row)) in
      let short : length (pattern_of row) ≤ 1000 = let test = both.0 in grind (arith, nat_tests) in (
        read.0,
        read.1,
        record {
          row = row;
          at = rw whole (get_behind earlier row rows);
          first_is = rw whole (find_behind (λ x. bytes_eq (pattern_of x) (pattern_of row)) earlier row rows new (same_bytes (pattern_of row)));
          tokens_are = read.1.pattern_is;
          pattern_is = refl;
          count = read.1.count ∙ ap param_count (sym read.1.pattern_is);
          short = omega (arith, short, read.1.short);
        },
      )

  -- each route of the router is an entry
  entries : (all earlier rows : List R) (router : RowsOf (RouteOf ℕ)) → all ≡ earlier ++ rows → list_all is_plain (map pattern_of rows) ≡ true → AllRows (IsEntry all) router
      → AllRows (IsEntry all) (router_behind pattern_of earlier rows router)
  unfolding router_behind
  entries all earlier [] router whole plain good = good
  entries all earlier (row ∷ rows) router whole plain good =
      let both = and_parts (is_plain (pattern_of row)) (list_all is_plain (map pattern_of rows)) plain in
      entries all (earlier ++ row ∷ []) rows _ (whole ∙ sym (append_assoc earlier (row ∷ []) rows)) both.1 (by (list_any (λ r. bytes_eq (pattern_of r) (pattern_of row)) earlier) refl both.0)
    where
      by : (v : Bool) → list_any (λ r. bytes_eq (pattern_of r) (pattern_of row)) earlier ≡ v → is_plain (pattern_of row) ≡ true
          → AllRows (IsEntry all) (cond v router (with_read (parse_route (pattern_of row)) (length earlier) router))
      by true e plain = good
      by false e plain =
          let entry = entry_of all earlier row rows whole plain e in
          rw entry.1.read (placed_all (IsEntry all) entry.0.pattern (route_from entry.0 (length earlier)) router entry.2 good)

  -- ---- a row that a path fits has a route

  any_append : (p : R → Bool) (xs ys : List R) → list_any p (xs ++ ys) ≡ true → (list_any p xs ≡ true) ⊎ (list_any p ys ≡ true)
  any_append p [] ys any = inr any
  any_append p (x ∷ xs) ys any = by (p x) any (any_append p xs ys)
    where
      by : (v : Bool) → (v || list_any p (xs ++ ys)) ≡ true → (list_any p (xs ++ ys) ≡ true → (list_any p xs ≡ true) ⊎ (list_any p ys ≡ true))
          → ((v || list_any p xs) ≡ true) ⊎ (list_any p ys ≡ true)
      by true any more = inl refl
      by false any more = more any

  -- a path that fits a pattern fits each row with it
  any_same : (row : R) (path : List ℕ) (rows : List R) → fits (pattern_of row) path ≡ true → list_any (λ r. bytes_eq (pattern_of r) (pattern_of row)) rows ≡ true
      → list_any (λ r. fits (pattern_of r) path) rows ≡ true
  any_same row path [] here any = any
  any_same row path (x ∷ rows) here any = by (or_cases (bytes_eq (pattern_of x) (pattern_of row)) _ any) (any_same row path rows here)
    where
      by : (bytes_eq (pattern_of x) (pattern_of row) ≡ true) ⊎ (list_any (λ r. bytes_eq (pattern_of r) (pattern_of row)) rows ≡ true)
          → (list_any (λ r. bytes_eq (pattern_of r) (pattern_of row)) rows ≡ true → list_any (λ r. fits (pattern_of r) path) rows ≡ true)
          → (fits (pattern_of x) path || list_any (λ r. fits (pattern_of r) path) rows) ≡ true
      by (inl same) more =
          let is = (bytes_decides (pattern_of x) (pattern_of row)).0 same in
          let fits_x : fits (pattern_of x) path ≡ true = rw is here in
          or_left _ _ fits_x
      by (inr any) more = or_right _ _ (more any)

  -- one row more
  row_kept : (path : List ℕ) (earlier : List R) (row : R) (router : RowsOf (RouteOf ℕ)) → is_plain (pattern_of row) ≡ true
      → (list_any (λ r. fits (pattern_of r) path) earlier ≡ true → SomeRow (λ t. token_fits t path) router)
      → list_any (λ r. fits (pattern_of r) path) (earlier ++ row ∷ []) ≡ true
      → SomeRow (λ t. token_fits t path) (cond (list_any (λ r. bytes_eq (pattern_of r) (pattern_of row)) earlier) router (with_read (parse_route (pattern_of row)) (length earlier) router))
  row_kept path earlier row router plain kept any = by (list_any (λ r. bytes_eq (pattern_of r) (pattern_of row)) earlier) refl (any_append (λ r. fits (pattern_of r) path) earlier (row ∷ []) any)
    where
      fits_row : (fits (pattern_of row) path || false) ≡ true → fits (pattern_of row) path ≡ true
      fits_row h = here (or_cases (fits (pattern_of row) path) false h)
        where
          here : (fits (pattern_of row) path ≡ true) ⊎ (false ≡ true) → fits (pattern_of row) path ≡ true
          here (inl is) = is
          here (inr never) = absurd (let h : false ≡ true = never in search rules)

      by : (v : Bool) → list_any (λ r. bytes_eq (pattern_of r) (pattern_of row)) earlier ≡ v
          → (list_any (λ r. fits (pattern_of r) path) earlier ≡ true) ⊎ (list_any (λ r. fits (pattern_of r) path) (row ∷ []) ≡ true)
          → SomeRow (λ t. token_fits t path) (cond v router (with_read (parse_route (pattern_of row)) (length earlier) router))
      by true e (inl any) = kept any
      by true e (inr here) = kept (any_same row path earlier (fits_row here) e)
      by false e which =
          let entry = entry_of (earlier ++ row ∷ []) earlier row [] refl plain e in
          rw entry.1.read (at which)
        where
          segment_plain : list_all is_plain_segment (segments (pattern_of row)) ≡ true
          segment_plain = (and_parts (nat_le (length (pattern_of row)) 1000) _ plain).1

          at : (list_any (λ r. fits (pattern_of r) path) earlier ≡ true) ⊎ (list_any (λ r. fits (pattern_of r) path) (row ∷ []) ≡ true)
              → SomeRow (λ t. token_fits t path) (placed ((entry_of (earlier ++ row ∷ []) earlier row [] refl plain e).0.pattern, route_from (entry_of (earlier ++ row ∷ []) earlier row [] refl plain e).0 (length earlier)) router)
          at (inl any) = placed_other (λ t. token_fits t path) _ _ router (kept any)
          at (inr here) =
              let entry = entry_of (earlier ++ row ∷ []) earlier row [] refl plain e in
              let is : token_fits entry.0.pattern path ≡ true = rw entry.1.pattern_is (tokens_fit (segments (pattern_of row)) path segment_plain (some_segment (pattern_of row)) ∙ fits_row here) in
              placed_here (λ t. token_fits t path) _ _ router is

  kept : (path : List ℕ) (earlier rows : List R) (router : RowsOf (RouteOf ℕ)) → list_all is_plain (map pattern_of rows) ≡ true
      → (list_any (λ r. fits (pattern_of r) path) earlier ≡ true → SomeRow (λ t. token_fits t path) router)
      → list_any (λ r. fits (pattern_of r) path) (earlier ++ rows) ≡ true → SomeRow (λ t. token_fits t path) (router_behind pattern_of earlier rows router)
  unfolding router_behind
  kept path earlier [] router plain some any = some (sym (ap (list_any (λ r. fits (pattern_of r) path)) (append-nil earlier)) ∙ any)
  kept path earlier (row ∷ rows) router plain some any =
      let both = and_parts (is_plain (pattern_of row)) (list_all is_plain (map pattern_of rows)) plain in
      kept path (earlier ++ row ∷ []) rows _ both.1 (row_kept path earlier row router both.0 some)
      (ap (list_any (λ r. fits (pattern_of r) path)) (append_assoc earlier (row ∷ []) rows) ∙ any)

  -- ---- the look-up

  abbrev Matches : List R → RouteOf ℕ → List ℕ → Type 0
  Matches rows r path = IsEntry rows r.pattern r × (token_fits r.pattern path ≡ true)

  good_entries : (rows : List R) → list_all is_plain (map pattern_of rows) ≡ true → (router : RowsOf (RouteOf ℕ)) → AllRows (IsEntry rows) router
      → AllRows (λ t r. (is_strict t ≡ true) × ((path : List ℕ) → token_fits t path ≡ true → Matches rows r path)) router
  good_entries rows plain router all = all_weaker (IsEntry rows) _ goes router all
    where
      goes : (t : List ℕ) (r : RouteOf ℕ) → IsEntry rows t r → (is_strict t ≡ true) × ((path : List ℕ) → token_fits t path ≡ true → Matches rows r path)
      goes t r h =
          let here = (and_parts (nat_le (length (pattern_of h.row)) 1000) _ (all_at is_plain pattern_of rows r.value h.row plain h.at)).1 in
          (rw h.tokens_are (tokens_strict (segments (pattern_of h.row)) here), λ path is. (subst (λ u. IsEntry rows u r) (sym h.pattern_is) h, rw h.pattern_is is))

  -- a route that was found is that of the row that the path fits
  is_found_row : (rows : List R) (path : List ℕ) (r : RouteOf ℕ) → is_sound (map pattern_of rows) ≡ true → Matches rows r path → IsFound pattern_of rows path r
  is_found_row rows path r sound h =
      let both = and_parts (list_all is_plain (map pattern_of rows)) _ sound in
      let row = h.0.row in
      let plain = (and_parts (nat_le (length (pattern_of row)) 1000) _ (all_at is_plain pattern_of rows r.value row both.0 h.0.at)).1 in
      let apart = all_at (λ a. list_all (are_apart a) (map pattern_of rows)) pattern_of rows r.value row both.1 h.0.at in
      let is : fits (pattern_of row) path ≡ true = sym (tokens_fit (segments (pattern_of row)) path plain (some_segment (pattern_of row))) ∙ rw h.0.tokens_are at h.1 in
      let strict : is_strict r.pattern ≡ true = rw h.0.tokens_are (tokens_strict (segments (pattern_of row)) plain) in
      let took = params_are r.pattern r.text path r.names h.0.short strict h.1 h.0.count in
      record {
        row = row;
        at = h.0.at;
        found = find_same (λ x. fits (pattern_of x) path) (λ x. bytes_eq (pattern_of x) (pattern_of row)) rows (same_rows row path rows is apart) ∙ h.0.first_is;
        parts = took ∙ (ap (λ t. token_parts t path) h.0.tokens_are ∙ tokens_take (segments (pattern_of row)) path plain is);
      }

  -- `matchit` finds the row whose pattern the path fits, and finds none where there is none
  pub look_up : (rows : List R) (path : List ℕ) → is_sound (map pattern_of rows) ≡ true → IsBytes path
      → FindsRow pattern_of rows path
  look_up rows path sound bytes = by (first (router_for pattern_of rows) path) refl
    where
      plain : list_all is_plain (map pattern_of rows) ≡ true
      plain = (and_parts (list_all is_plain (map pattern_of rows)) _ sound).0

      all : AllRows (IsEntry rows) (router_for pattern_of rows)
      all = entries rows [] rows [] refl plain tt

      none_fits : first (router_for pattern_of rows) path ≡ None → (v : Bool) → list_any (λ x. fits (pattern_of x) path) rows ≡ v → find (λ x. fits (pattern_of x) path) rows ≡ None
      none_fits none true e =
          let some = kept path [] rows [] plain (λ never. absurd (let h : false ≡ true = never in search rules)) e in
          let strict = all_weaker _ (λ t k. is_strict t ≡ true) (λ t k h. h.0) (router_for pattern_of rows) (good_entries rows plain (router_for pattern_of rows) all) in
          let is = fits_found (length path) (router_for pattern_of rows) path (omega arith) strict some in
          absurd (let never : false ≡ true = rw none at is in search rules)
      none_fits none false e = find_none (λ x. fits (pattern_of x) path) rows e

      by : (o : Option (RouteOf ℕ)) → first (router_for pattern_of rows) path ≡ o → MatchOption o (find (λ x. fits (pattern_of x) path) rows ≡ None) (IsFound pattern_of rows path)
      by None e = none_fits e (list_any (λ x. fits (pattern_of x) path) rows) refl
      by (Some r) e =
          is_found_row rows path r sound
          (found_fits (length path) r (router_for pattern_of rows) path (Matches rows) (omega arith) bytes (good_entries rows plain (router_for pattern_of rows) all) e)

  pub row_found : (rows : List R) (router : RowsOf (RouteOf ℕ)) (path : List ℕ) (r : RouteOf ℕ) → router ≡ router_for pattern_of rows → is_sound (map pattern_of rows) ≡ true → IsBytes path
      → first router path ≡ Some r → IsFound pattern_of rows path r
  row_found rows router path r is sound bytes found =
      let P : RowsOf (RouteOf ℕ) → Type 0 = λ router. MatchOption (first router path) (find (λ x. fits (pattern_of x) path) rows ≡ None) (IsFound pattern_of rows path) in
      MatchOption-at_some _ _ r found (subst P (sym is) (look_up rows path sound bytes))

  pub none_found : (rows : List R) (router : RowsOf (RouteOf ℕ)) (path : List ℕ) → router ≡ router_for pattern_of rows → is_sound (map pattern_of rows) ≡ true → IsBytes path
      → first router path ≡ None → find (λ x. fits (pattern_of x) path) rows ≡ None
  none_found rows router path is sound bytes none =
      let P : RowsOf (RouteOf ℕ) → Type 0 = λ router. MatchOption (first router path) (find (λ x. fits (pattern_of x) path) rows ≡ None) (IsFound pattern_of rows path) in
      MatchOption-at_none _ _ none (subst P (sym is) (look_up rows path sound bytes))
