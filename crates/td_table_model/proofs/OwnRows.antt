-- What a change makes of its holder's own rows in each table.
use Rattle.std.proofs.Common.{◌≡◌, ◌≢◌, ℕ, ◌+◌, ◌≤◌, Bool, true, false, cond, List, [], ◌∷◌, ◌++◌, length, map, filter, flat_map, Some, refl, sym, ◌∙◌, ap, ap₂, subst, arith, append-nil, IsPermutation}
use Rattle.std.specs.Prelude.{◌==◌, if◌then◌else◌, unwrap_or, not, ◌&&◌}
use Rattle.std.specs.Str.{bytes_eq}
use Rattle.std.proofs.lemmas.Bool.Decides.{nat_tests}
use Rattle.std.proofs.lemmas.List.{map-append}
use Rattle.std.proofs.lemmas.List.Concat.{flat_map-append}
use Rattle.std.proofs.lemmas.List.Sorted.{IsPermutation-sym, IsPermutation-map, IsPermutation-middle, IsPermutation-trans, IsPermutation-append_left, IsPermutation-append_right, IsPermutation-append_comm, IsPermutation-to_front}
use Rattle.std.proofs.lemmas.Slice.Eq.{bytes_eq-Decides}
use Rattle.sqlite_trees.proofs.ListLemmas.{filter-map, all_of, all-map, filter_all, filter_same, IsPermutation-same}
use Rattle.std.specs.Option.{is_some}
use Rattle.td_base.specs.Codes.{IsCountry, IsHolderNumber}
use Rattle.td_base.specs.References.{serial_of, greatest_grn_serial}
use Rattle.td_guarantee.specs.declared.guarantee.Guarantee.{Guarantee}
use Rattle.td_guarantee.specs.Codes.{with_code, without_code}
use Rattle.td_movement.specs.declared.movement.Movement.{Movement}
use Rattle.td_model.specs.declared.change.NewStatus.{NewStatus}
use Rattle.td_model.specs.declared.change.NewTerms.{NewTerms}
use Rattle.td_model.specs.Account.{at_grn, coded, uncoded, guarantee_by_grn}
use Rattle.td_model.specs.Changes.{with_terms, with_status, moved}
use Rattle.td_model.specs.Sound.{AllNumbered, IsGuaranteeRow}
use Rattle.td_model.specs.Table.{stands}
use Rattle.td_table_model.specs.Tables.{Keyed, numbered, guarantee_row, guarantee_no, code_row, code_rows, movement_row, line_rows}
use Rattle.td_table_model.specs.Changes.{with_status_of, with_terms_of, is_code_of}
use Rattle.td_table_model.proofs.Numbered.{numbered-append}
use Rattle.td_table_model.proofs.References.{place_of, serial_of_row}
use Rattle.td_table_model.proofs.WithCodes.{permuted_with}

-- one more stands behind the others
module _ {X Y : Type 0} (f : ℕ × X → Y) where
  pub one_more : (xs : List X) (x : X) (k : ℕ) → k ≡ length xs + 1 → IsPermutation (f (k, x) ∷ map f (numbered 0 xs)) (map f (numbered 0 (xs ++ x ∷ [])))
  one_more xs x k is =
      let e : map f (numbered 0 xs) ++ f (k, x) ∷ [] ≡ map f (numbered 0 (xs ++ x ∷ [])) =
      ap (λ n. map f (numbered 0 xs) ++ f (n, x) ∷ []) (omega (arith, is)) ∙ sym (map-append f (numbered 0 xs) (numbered (0 + length xs) (x ∷ []))) ∙ ap (map f) (sym (numbered-append 0 xs (x ∷ []))) in
      IsPermutation-trans _ _ _ (IsPermutation-sym _ _ (IsPermutation-to_front (map f (numbered 0 xs)) (f (k, x)))) (IsPermutation-same _ _ e)

module _ {X Y : Type 0} (f : ℕ × X → List Y) where
  pub some_more : (xs : List X) (x : X) (k : ℕ) → k ≡ length xs + 1 → IsPermutation (f (k, x) ++ flat_map f (numbered 0 xs)) (flat_map f (numbered 0 (xs ++ x ∷ [])))
  some_more xs x k is =
      let e : flat_map f (numbered 0 xs) ++ f (k, x) ≡ flat_map f (numbered 0 (xs ++ x ∷ [])) =
      ap (λ n. flat_map f (numbered 0 xs) ++ f (n, x)) (omega (arith, is)) ∙ ap (λ l. flat_map f (numbered 0 xs) ++ l) (sym (append-nil (f (0 + length xs + 1, x)))) ∙ sym (flat_map-append f (numbered 0 xs) (numbered (0 + length xs) (x ∷ []))) ∙ ap (flat_map f) (sym (numbered-append 0 xs (x ∷ []))) in
      IsPermutation-trans _ _ _ (IsPermutation-append_comm (f (k, x)) (flat_map f (numbered 0 xs))) (IsPermutation-same _ _ e)

-- a number is itself
pub itself : (H : ℕ) → (H == H) ≡ true
itself H = grind (arith, nat_tests)

-- movements of which one has moved
pub moved_rows : (H : ℕ) (status : NewStatus) (n : ℕ) (ms : List Movement) → map (with_status_of H status) (map (movement_row H) (numbered n ms)) ≡ map (movement_row H) (numbered n (map (moved status) ms))
moved_rows H status n [] = refl
moved_rows H status n (m ∷ ms) = ap₂ ◌∷◌ (here (H == H) (itself H) (bytes_eq m.mrn status.mrn)) (moved_rows H status (n + 1) ms)
  where
    here : (b : Bool) → b ≡ true → (d : Bool)
        → ◌≡◌ {A = Keyed Movement} (if b then (record { holder = H; serial = n + 1; row = if d then with_status status (record m { lines = [] }) else record m { lines = [] } }) else movement_row H (n + 1, m)) (movement_row H (n + 1, if d then with_status status m else m))
    here true is true = refl
    here true is false = refl
    here false is d = cc

-- their lines stay
pub moved_lines : (country : List ℕ) (H : ℕ) (status : NewStatus) (n : ℕ) (ms : List Movement) → flat_map (line_rows country H) (numbered n ms) ≡ flat_map (line_rows country H) (numbered n (map (moved status) ms))
moved_lines country H status n [] = refl
moved_lines country H status n (m ∷ ms) = ap₂ ◌++◌ (here (bytes_eq m.mrn status.mrn)) (moved_lines country H status (n + 1) ms)
  where
    here : (d : Bool) → line_rows country H (n + 1, m) ≡ line_rows country H (n + 1, if d then with_status status m else m)
    here true = refl
    here false = refl

-- guarantees of which the terms of one are said anew
pub terms_rows : (H : ℕ) (terms : NewTerms) (n : ℕ) (gs : List Guarantee) → map (with_terms_of H terms) (map (guarantee_row H) (numbered n gs)) ≡ map (guarantee_row H) (numbered n (map (at_grn terms.grn (with_terms terms)) gs))
terms_rows H terms n [] = refl
terms_rows H terms n (g ∷ gs) = ap₂ ◌∷◌ (here (H == H) (itself H) (bytes_eq g.grn terms.grn)) (terms_rows H terms (n + 1) gs)
  where
    here : (b : Bool) → b ≡ true → (d : Bool)
        → ◌≡◌ {A = Keyed Guarantee} (if b then (record { holder = H; serial = n + 1; row = if d then with_terms terms (record g { codes = [] }) else record g { codes = [] } }) else guarantee_row H (n + 1, g)) (guarantee_row H (n + 1, if d then with_terms terms g else g))
    here true is true = refl
    here true is false = refl
    here false is d = cc

-- what is said of a guarantee that leaves its codes
pub codes_stay : (H : ℕ) (grn : List ℕ) (made : Guarantee → Guarantee) → ((g : Guarantee) → (made g).codes ≡ g.codes) → (n : ℕ) (gs : List Guarantee) → flat_map (code_rows H) (numbered n gs) ≡ flat_map (code_rows H) (numbered n (map (at_grn grn made) gs))
codes_stay H grn made same n [] = refl
codes_stay H grn made same n (g ∷ gs) = ap₂ ◌++◌ (here (bytes_eq g.grn grn)) (codes_stay H grn made same (n + 1) gs)
  where
    here : (d : Bool) → code_rows H (n + 1, g) ≡ code_rows H (n + 1, if d then made g else g)
    here true = ap (map (code_row H (n + 1))) (sym (same g))
    here false = refl

-- and what is said of its codes alone leaves its row
pub guarantees_stay : (H : ℕ) (grn : List ℕ) (codes : Guarantee → List (List ℕ)) (n : ℕ) (gs : List Guarantee)
    → map (guarantee_row H) (numbered n gs) ≡ map (guarantee_row H) (numbered n (map (at_grn grn (λ g. record g { codes = codes g })) gs))
guarantees_stay H grn codes n [] = refl
guarantees_stay H grn codes n (g ∷ gs) = ap₂ ◌∷◌ (here (bytes_eq g.grn grn)) (guarantees_stay H grn codes (n + 1) gs)
  where
    here : (d : Bool) → guarantee_row H (n + 1, g) ≡ guarantee_row H (n + 1, if d then record g { codes = codes g } else g)
    here true = refl
    here false = refl

module _ (country : List ℕ) (H : ℕ) (form : IsCountry country) (number : IsHolderNumber H) (grn : List ℕ) where
  -- a GRN of a serial that has gone by is nobody's further on
  others : (made : Guarantee → Guarantee) (m n : ℕ) (gs : List Guarantee) → serial_of country grn ≡ Some m → m ≤ n → n + length gs ≤ greatest_grn_serial → AllNumbered (IsGuaranteeRow country H) n gs → map (at_grn grn made) gs ≡ gs
  others made m n [] is gone most all = refl
  others made m n (g ∷ gs) is gone most all = ap₂ ◌∷◌ (here (bytes_eq g.grn grn) refl) (others made m (n + 1) gs is (omega (arith, gone)) (omega (arith, most)) all.1)
    where
      here : (b : Bool) → bytes_eq g.grn grn ≡ b → (if b then made g else g) ≡ g
      here true same =
          let own : serial_of country grn ≡ Some (n + 1) = ap (serial_of country) (sym ((bytes_eq-Decides g.grn grn).0 same)) ∙ serial_of_row country H (n + 1) g form number (omega (arith, most)) all.0 in
          let one : m ≡ n + 1 = cc in
          absurd (omega (arith, one, gone))
      here false other = refl

  -- a code that the guarantee with the GRN hasn't got is put to its codes
  pub codes_with : (code : List ℕ) (n : ℕ) (gs : List Guarantee) (found : Guarantee) → guarantee_by_grn grn gs ≡ Some found → stands code found.codes ≡ false → n + length gs ≤ greatest_grn_serial → AllNumbered (IsGuaranteeRow country H) n gs
      → IsPermutation (code_row H (guarantee_no country grn) code ∷ flat_map (code_rows H) (numbered n gs)) (flat_map (code_rows H) (numbered n (map (at_grn grn (coded code)) gs)))
  codes_with code n [] found is new most all = cc
  codes_with code n (g ∷ gs) found is new most all = by_test (bytes_eq g.grn grn) refl is (λ is. codes_with code (n + 1) gs found is new (omega (arith, most)) all.1)
    where
      by_test : (b : Bool) → bytes_eq g.grn grn ≡ b → cond b (Some g) (guarantee_by_grn grn gs) ≡ Some found
          → (guarantee_by_grn grn gs ≡ Some found → IsPermutation (code_row H (guarantee_no country grn) code ∷ flat_map (code_rows H) (numbered (n + 1) gs)) (flat_map (code_rows H) (numbered (n + 1) (map (at_grn grn (coded code)) gs))))
          → IsPermutation (code_row H (guarantee_no country grn) code ∷ (code_rows H (n + 1, g) ++ flat_map (code_rows H) (numbered (n + 1) gs)))
          (code_rows H (n + 1, if b then coded code g else g) ++ flat_map (code_rows H) (numbered (n + 1) (map (at_grn grn (coded code)) gs)))
      by_test true same is later =
          let one : g ≡ found = cc in
          let own : serial_of country grn ≡ Some (n + 1) = ap (serial_of country) (sym ((bytes_eq-Decides g.grn grn).0 same)) ∙ serial_of_row country H (n + 1) g form number (omega (arith, most)) all.0 in
          let fresh : stands code g.codes ≡ false = subst (λ (g : Guarantee). stands code g.codes ≡ false) (sym one) new in
          let rest : map (at_grn grn (coded code)) gs ≡ gs = others (coded code) (n + 1) (n + 1) gs own (omega arith) (omega (arith, most)) all.1 in
          let here : IsPermutation (code_row H (n + 1) code ∷ code_rows H (n + 1, g)) (code_rows H (n + 1, coded code g)) = IsPermutation-map (code_row H (n + 1)) (code ∷ g.codes) (with_code code g.codes) (permuted_with code g.codes fresh) in
          rw (own, rest) (IsPermutation-append_left (flat_map (code_rows H) (numbered (n + 1) gs)) _ _ here)
      by_test false other is later =
          IsPermutation-trans _ _ _ (IsPermutation-sym _ _ (IsPermutation-middle (code_rows H (n + 1, g)) _ _)) (IsPermutation-append_right (code_rows H (n + 1, g)) _ _ (later is))

  -- the rows of another serial stay
  kept_rows : (m : ℕ) (code : List ℕ) (k : ℕ) (codes : List (List ℕ)) → k ≢ m → filter (λ r. not (is_code_of H m code r)) (map (code_row H k) codes) ≡ map (code_row H k) codes
  kept_rows m code k codes other = filter_all (λ r. not (is_code_of H m code r)) (map (code_row H k) codes) (all-map (λ r. not (is_code_of H m code r) ≡ true) (code_row H k) codes (all_of (λ c. not (is_code_of H m code (code_row H k c)) ≡ true) (λ c. spared (H == H) (k == m) (bytes_eq c code) (grind (arith, nat_tests, other))) codes))
    where
      spared : (a b d : Bool) → b ≡ false → not (a && (b && d)) ≡ true
      spared true true d is = cc
      spared true false d is = refl
      spared false b d is = refl

  -- and of its own those of other codes
  left_rows : (code : List ℕ) (k : ℕ) (codes : List (List ℕ)) → filter (λ r. not (is_code_of H k code r)) (map (code_row H k) codes) ≡ map (code_row H k) (without_code code codes)
  left_rows code k codes = filter-map (λ r. not (is_code_of H k code r)) (code_row H k) codes ∙ ap (map (code_row H k)) (filter_same (λ c. not (is_code_of H k code (code_row H k c))) (λ c. not (bytes_eq c code)) codes
      (all_of (λ c. not (is_code_of H k code (code_row H k c)) ≡ not (bytes_eq c code)) (λ c. alone (H == H) (k == k) (bytes_eq c code) (itself H) (itself k)) codes))
    where
      alone : (a b d : Bool) → a ≡ true → b ≡ true → not (a && (b && d)) ≡ not d
      alone true true d is_a is_b = refl
      alone true false d is_a is_b = cc
      alone false b d is_a is_b = cc

  filter-append : {X : Type 0} (p : X → Bool) (xs ys : List X) → filter p (xs ++ ys) ≡ filter p xs ++ filter p ys
  filter-append p [] ys = refl
  filter-append p (x ∷ xs) ys = by_test (p x) (filter-append p xs ys)
    where
      by_test : (b : Bool) → filter p (xs ++ ys) ≡ filter p xs ++ filter p ys → cond b (x ∷ filter p (xs ++ ys)) (filter p (xs ++ ys)) ≡ cond b (x ∷ filter p xs) (filter p xs) ++ filter p ys
      by_test true later = ap (λ l. x ∷ l) later
      by_test false later = later

  -- no row of a serial that has gone by stands further on
  kept_behind : (m : ℕ) (code : List ℕ) (n : ℕ) (gs : List Guarantee) → m ≤ n → filter (λ r. not (is_code_of H m code r)) (flat_map (code_rows H) (numbered n gs)) ≡ flat_map (code_rows H) (numbered n gs)
  kept_behind m code n [] gone = refl
  kept_behind m code n (g ∷ gs) gone =
      filter-append (λ r. not (is_code_of H m code r)) (code_rows H (n + 1, g)) (flat_map (code_rows H) (numbered (n + 1) gs))
      ∙ ap₂ ◌++◌ (kept_rows m code (n + 1) g.codes (λ e. omega (arith, e, gone))) (kept_behind m code (n + 1) gs (omega (arith, gone)))

  -- a code is taken from the guarantee with the GRN
  pub codes_without : (code : List ℕ) (n : ℕ) (gs : List Guarantee) (found : Guarantee) → guarantee_by_grn grn gs ≡ Some found → n + length gs ≤ greatest_grn_serial → AllNumbered (IsGuaranteeRow country H) n gs
      → filter (λ r. not (is_code_of H (guarantee_no country grn) code r)) (flat_map (code_rows H) (numbered n gs)) ≡ flat_map (code_rows H) (numbered n (map (at_grn grn (uncoded code)) gs))
  codes_without code n [] found is most all = cc
  codes_without code n (g ∷ gs) found is most all =
      filter-append (λ r. not (is_code_of H (guarantee_no country grn) code r)) (code_rows H (n + 1, g)) (flat_map (code_rows H) (numbered (n + 1) gs))
      ∙ by_test (bytes_eq g.grn grn) refl is (λ is. codes_without code (n + 1) gs found is (omega (arith, most)) all.1)
    where
      by_test : (b : Bool) → bytes_eq g.grn grn ≡ b → cond b (Some g) (guarantee_by_grn grn gs) ≡ Some found
          → (guarantee_by_grn grn gs ≡ Some found → filter (λ r. not (is_code_of H (guarantee_no country grn) code r)) (flat_map (code_rows H) (numbered (n + 1) gs)) ≡ flat_map (code_rows H) (numbered (n + 1) (map (at_grn grn (uncoded code)) gs)))
          → filter (λ r. not (is_code_of H (guarantee_no country grn) code r)) (code_rows H (n + 1, g)) ++ filter (λ r. not (is_code_of H (guarantee_no country grn) code r)) (flat_map (code_rows H) (numbered (n + 1) gs))
          ≡ code_rows H (n + 1, if b then uncoded code g else g) ++ flat_map (code_rows H) (numbered (n + 1) (map (at_grn grn (uncoded code)) gs))
      by_test true same is later =
          let own : serial_of country grn ≡ Some (n + 1) = ap (serial_of country) (sym ((bytes_eq-Decides g.grn grn).0 same)) ∙ serial_of_row country H (n + 1) g form number (omega (arith, most)) all.0 in
          let rest : map (at_grn grn (uncoded code)) gs ≡ gs = others (uncoded code) (n + 1) (n + 1) gs own (omega arith) (omega (arith, most)) all.1 in
          rw (own, rest) (ap₂ ◌++◌ (left_rows code (n + 1) g.codes) (kept_behind (n + 1) code (n + 1) gs (omega arith)))
      by_test false other is later =
          let p = place_of country H (n + 1) gs grn form number (omega (arith, most)) all.1 (ap is_some is) in
          let no_is : guarantee_no country grn ≡ p.serial = ap (λ o. unwrap_or o 0) p.is in
          ap₂ ◌++◌ (kept_rows (guarantee_no country grn) code (n + 1) g.codes (λ e. omega (arith, e, no_is, p.above))) (later is)
