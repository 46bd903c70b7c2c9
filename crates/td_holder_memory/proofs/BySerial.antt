-- Rows that stand at the places of their references' serials.
use Rattle.std.proofs.Common.{◌≡◌, ◌≢◌, ℕ, zero, suc, ◌+◌, ◌<◌, Bool, true, false, List, [], ◌∷◌, ◌++◌, length, map, take, drop, get_or, set, Option, Some, refl, sym, ◌∙◌, ap, subst, arith}
use Rattle.std.specs.Prelude.{All, find, if◌then◌else◌}
use Rattle.std.specs.Str.{bytes_eq}
use Rattle.std.proofs.Math.Seq.{take-length, take-append_seam}
use Rattle.std.proofs.lemmas.List.{length-append, length-map, take-append-le}
use Rattle.std.proofs.lemmas.Slice.Eq.{bytes_eq-Decides}
use Rattle.td_base.specs.References.{serial_of}
use Rattle.td_model.specs.Sound.{AllNumbered}
use Rattle.td_model.proofs.Joined.{AllNumbered-append}
use Rattle.td_holder_memory.specs.Places.{HaveSerials, IsOnlyPlace, ArePlaced}
use Rattle.td_holder_memory.proofs.PlaceOfLrn.{told_apart}

pub one_serial : (a b : ℕ) → Some a ≡ Some b → a ≡ b
one_serial a b e = cc

module _ {R : Type 0} (key : R → List ℕ) where
  -- the row of serial k, where n stand before
  abbrev HasSerial : List ℕ → ℕ → R → Type 0
  HasSerial country n r = serial_of country (key r) ≡ Some n

  -- the serial at a place
  serial_at : (country : List ℕ) (n : ℕ) (rows : List R) (k : ℕ) (d : R) → AllNumbered (HasSerial country) n rows → k < length rows → serial_of country (key (get_or rows k d)) ≡ Some (n + k + 1)
  serial_at country n [] k d all within = absurd (omega (arith, within))
  serial_at country n (r ∷ rows) zero d all within = all.0 ∙ ap (λ k. Some k) (omega arith)
  serial_at country n (r ∷ rows) (suc k) d all within = serial_at country (n + 1) rows k d all.1 (omega (arith, within)) ∙ ap (λ k. Some k) (omega arith)

  -- a row with a reference stands where the reference's serial says
  place_is : (country : List ℕ) (rows : List R) (reference : List ℕ) (k : ℕ) (d : R) → HaveSerials key country rows → k < length rows → key (get_or rows k d) ≡ reference → serial_of country reference ≡ Some (k + 1)
  place_is country rows reference k d all within is = sym (ap (serial_of country) is) ∙ serial_at country 0 rows k d all within ∙ ap (λ k. Some k) (omega arith)

  -- no row has a reference that isn't found at the place of its serial
  pub none_has : (country : List ℕ) (rows : List R) (reference : List ℕ) → HaveSerials key country rows → ((k : ℕ) (d : R) → k < length rows → serial_of country reference ≡ Some (k + 1) → key (get_or rows k d) ≢ reference) → All (λ r. key r ≢ reference) rows
  none_has country rows reference all others = λ k d within is. others k d within (place_is country rows reference k d all within is) is

  -- one that is found there stands there alone
  pub alone_at : (country : List ℕ) (rows : List R) (reference : List ℕ) (at : ℕ) → HaveSerials key country rows → at < length rows → serial_of country reference ≡ Some (at + 1) → ((d : R) → key (get_or rows at d) ≡ reference) → IsOnlyPlace key reference rows at
  alone_at country rows reference at all within serial there = record {
    within = within;
    there = there;
    only = λ k d inside other is. other (omega (arith, one_serial (k + 1) (at + 1) (sym (place_is country rows reference k d all inside is) ∙ serial)));
  }

  -- the first row with this reference
  abbrev with_reference : List ℕ → List R → Option R
  with_reference reference rows = find (λ r. bytes_eq (key r) reference) rows

  -- the row at the only place is found, whatever stands behind
  pub found_at : (reference : List ℕ) (rows others : List R) (at : ℕ) (d : R) → IsOnlyPlace key reference rows at → with_reference reference (rows ++ others) ≡ Some (get_or rows at d)
  found_at reference [] others at d is = absurd (omega (arith, is.within))
  found_at reference (r ∷ rows) others zero d is = rw ((bytes_eq-Decides (key r) reference).1 (is.there r)) refl
  found_at reference (r ∷ rows) others (suc at) d is =
      let differs : key r ≢ reference = is.only zero r (omega arith) (λ e. omega (arith, e)) in
      rw (told_apart (key r) reference differs) (found_at reference rows others at d (record {
        within = omega (arith, is.within);
        there = is.there;
        only = λ k d inside other. is.only (suc k) d (omega (arith, inside)) (λ e. other (omega (arith, e)));
      }))

  -- where none has the reference, the row is found behind
  pub found_behind : (reference : List ℕ) (rows others : List R) → All (λ r. key r ≢ reference) rows → with_reference reference (rows ++ others) ≡ with_reference reference others
  found_behind reference [] others none = refl
  found_behind reference (r ∷ rows) others none = rw (told_apart (key r) reference (none zero r (omega arith))) (found_behind reference rows others (λ k d within. none (suc k) d (omega (arith, within))))

  -- what is made of the rows with a reference
  abbrev pub at_reference : List ℕ → (R → R) → R → R
  at_reference reference made r = if bytes_eq (key r) reference then made r else r

  -- where none has the reference, all stay
  pub none_made : (reference : List ℕ) (made : R → R) (rows : List R) → All (λ r. key r ≢ reference) rows → map (at_reference reference made) rows ≡ rows
  none_made reference made [] none = refl
  none_made reference made (r ∷ rows) none = rw (told_apart (key r) reference (none zero r (omega arith))) (ap (λ l. r ∷ l) (none_made reference made rows (λ k d within. none (suc k) d (omega (arith, within)))))

  -- the row at the only place changes alone
  pub one_made : (reference : List ℕ) (made : R → R) (rows : List R) (at : ℕ) (d : R) → IsOnlyPlace key reference rows at → map (at_reference reference made) rows ≡ set rows at (made (get_or rows at d))
  one_made reference made [] at d is = absurd (omega (arith, is.within))
  one_made reference made (r ∷ rows) zero d is =
      rw ((bytes_eq-Decides (key r) reference).1 (is.there r)) (ap (λ l. made r ∷ l) (none_made reference made rows (λ k e within. is.only (suc k) e (omega (arith, within)) (λ e. omega (arith, e)))))
  one_made reference made (r ∷ rows) (suc at) d is =
      let differs : key r ≢ reference = is.only zero r (omega arith) (λ e. omega (arith, e)) in
      rw (told_apart (key r) reference differs) (ap (λ l. r ∷ l) (one_made reference made rows at d (record {
        within = omega (arith, is.within);
        there = is.there;
        only = λ k d inside other. is.only (suc k) d (omega (arith, inside)) (λ e. other (omega (arith, e)));
      })))

  -- rows that were lent are back where they stood
  pub back : (country : List ℕ) (old new : List R) (len placed : ℕ) → length new ≡ len → ArePlaced key country new placed → ArePlaced key country (take len (new ++ drop (length new) old)) placed
  back country old new len placed long is =
      subst (λ (rows : List R). ArePlaced key country rows placed) (sym (ap (λ n. take n (new ++ drop (length new) old)) (sym long) ∙ take-append_seam new (drop (length new) old))) is

  module _ (reference : List ℕ) (made : R → R) (keeps : (r : R) → key (made r) ≡ key r) where
    -- a row keeps its reference
    key_made : (r : R) → key (at_reference reference made r) ≡ key r
    key_made r = by_test (bytes_eq (key r) reference)
      where
        by_test : (b : Bool) → key (if b then made r else r) ≡ key r
        by_test true = keeps r
        by_test false = refl

    serials_made : (country : List ℕ) (n p : ℕ) (rows : List R) → AllNumbered (HasSerial country) n (take p rows) → AllNumbered (HasSerial country) n (take p (map (at_reference reference made) rows))
    serials_made country n zero rows all = tt
    serials_made country n (suc p) [] all = tt
    serials_made country n (suc p) (r ∷ rows) all = (ap (serial_of country) (key_made r) ∙ all.0, serials_made country (n + 1) p rows all.1)

    -- rows that change are placed as before
    pub placed_made : (country : List ℕ) (rows : List R) (placed : ℕ) → ArePlaced key country rows placed → ArePlaced key country (map (at_reference reference made) rows) placed
    placed_made country rows placed is = record {
      within = simp length-map is.within;
      serials = serials_made country 0 placed rows is.serials;
    }

    -- rows that were lent have changed, and are back where they stood
    pub placed_back : (country : List ℕ) (old lent new : List R) (len placed : ℕ) → ArePlaced key country old placed → lent ≡ old → length lent ≡ len → new ≡ map (at_reference reference made) lent
        → ArePlaced key country (take len (new ++ drop (length new) old)) placed
    placed_back country old lent new len placed is same long changed =
        back country old new len placed (ap length changed ∙ length-map lent (at_reference reference made) ∙ long)
        (subst (λ (rows : List R). ArePlaced key country rows placed) (sym (changed ∙ ap (map (at_reference reference made)) same)) (placed_made country old placed is))

  -- with one more behind them, as many stand in their places
  pub placed_more : (country : List ℕ) (rows : List R) (r : R) (placed : ℕ) → ArePlaced key country rows placed → ArePlaced key country (rows ++ r ∷ []) placed
  placed_more country rows r placed is = record {
    within = omega (arith, is.within, length-append rows (r ∷ []));
    serials = subst (λ (l : List R). HaveSerials key country l) (sym (take-append-le placed rows (r ∷ []) is.within)) is.serials;
  }

  -- with one more of the next serial behind them, all stand in their places
  pub placed_next : (country : List ℕ) (rows : List R) (r : R) (placed : ℕ) → ArePlaced key country rows placed → placed ≡ length rows → serial_of country (key r) ≡ Some (length rows + 1) → ArePlaced key country (rows ++ r ∷ []) (length rows + 1)
  placed_next country rows r placed is all next =
      let whole : take (length rows + 1) (rows ++ r ∷ []) ≡ rows ++ r ∷ [] = ap (λ n. take n (rows ++ r ∷ [])) (sym (length-append rows (r ∷ []))) ∙ take-length (rows ++ r ∷ []) in
      let before : HaveSerials key country rows = subst (λ (l : List R). HaveSerials key country l) (ap (λ n. take n rows) all ∙ take-length rows) is.serials in
      record {
        within = omega (arith, length-append rows (r ∷ []));
        serials = subst (λ (l : List R). HaveSerials key country l) (sym whole) (AllNumbered-append (HasSerial country) 0 rows r before (next ∙ ap (λ n. Some n) (omega arith)));
      }
