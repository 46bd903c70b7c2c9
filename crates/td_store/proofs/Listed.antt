-- Rows of movements and of guarantees that stand by holder and serial are all those that a content lists, in its order.
use Rattle.std.proofs.Common.{◌≡◌, ℕ, ◌+◌, ◌*◌, ◌<◌, ◌≤◌, List, [], ◌∷◌, ◌++◌, length, map, flat_map, refl, sym, subst, ◌∙◌, ap, ap₂, arith, IsPermutation}
use Rattle.std.proofs.lemmas.Bool.Decides.{nat_tests}
use Rattle.std.proofs.lemmas.List.{map-append}
use Rattle.std.proofs.lemmas.List.Sorted.{IsPermutation-trans}
use Rattle.std.specs.List.{AllByRecursion}
use Rattle.std.specs.List.Sorted.{IsSorted, IsSortedByKey}
use Rattle.std.specs.Ordering.{nat_cmp}
use Rattle.sqlite_trees.proofs.ListLemmas.{all_both, all_weaker, all-flat_map, all-map, all-permutation, map-map}
use Rattle.keyed_rows.specs.Rows.{Rises}
use Rattle.td_guarantee.specs.declared.guarantee.Guarantee.{Guarantee}
use Rattle.td_guarantee.specs.Usage.{used_on}
use Rattle.td_movement.specs.declared.movement.Movement.{Movement}
use Rattle.td_model.specs.Content.{Content, IsSound}
use Rattle.td_model.specs.Account.{HolderRows, holder_key}
use Rattle.td_model.specs.Sound.{AreHolderRows}
use Rattle.td_table_model.proofs.Orders.{in_order_same, rises-map, rises_apart, rises_lower, sorted_is_order}
use Rattle.td_table_model.proofs.Owned.{guarantees_rise, movements_rise, owned_kept, owned_movements}
use Rattle.td_table_model.specs.Gathering.{owner, place}
use Rattle.td_table_model.specs.Listed.{guarantees_listed, guarantees_of, movements_listed, movements_of, without_codes}
use Rattle.td_table_model.specs.Tables.{AreTablesOf, KeepAmounts, Keyed, Kept, Tables, guarantee_row, guarantees_in, kept_in, movement_row, movements_in, numbered, with_use}
use Rattle.td_store_rows.specs.MovementTable.{deadlines_of}
use Rattle.td_store_rows.specs.Places.{by_place}
use Rattle.td_store_rows.specs.declared.movements.stored.MovementDeadlines.{MovementDeadlines}
use Rattle.td_store.specs.Visits.{shown_of_movement}
use Rattle.typed_sql.proofs.Ordered.{sorted_alike}

-- No holder has so many movements or guarantees: so a holder's number and a serial are one number.
abbrev many : ℕ
many = 10000000

-- the numbers of elements are no more than there are
numbers_most : {X : Type 0} (n top : ℕ) (xs : List X) → n + length xs ≤ top → AllByRecursion (λ (p : ℕ × X). p.0 ≤ top) (numbered n xs)
numbers_most n top [] most = tt
numbers_most n top (x ∷ xs) most = (omega (arith, most), numbers_most (n + 1) top xs (omega (arith, most)))

-- rows that rise, and behind them others that rise above them
rises-append : {R : Type 0} (key : R → ℕ) (low mid : ℕ) (xs ys : List R) → low ≤ mid → Rises key low xs → AllByRecursion (λ x. key x < mid) xs
    → Rises key mid ys → Rises key low (xs ++ ys)
rises-append key low mid [] ys most rise below after = rises_lower key low mid ys most after
rises-append key low mid (x ∷ xs) ys most rise below after =
    (rise.0, rises-append key (key x + 1) mid xs ys (omega (arith, below.0)) rise.1 below.1 after)

module _ {R : Type 0} where
  rank : Keyed R → ℕ
  rank r = many * r.holder + r.serial

  abbrev IsLow : Keyed R → Type 0
  IsLow r = r.serial < many

  -- rows of low serials compare by their keys as by their ranks
  ranks_alike : (a b : Keyed R) → IsLow a → IsLow b → by_place a b ≡ nat_cmp (rank a) (rank b)
  unfolding rank
  ranks_alike a b low_a low_b = grind (arith, nat_tests, low_a, low_b)

  -- so those that are in order rise by rank
  ranks_sorted : (rows : List (Keyed R)) → AllByRecursion IsLow rows → IsSorted by_place rows → IsSortedByKey rank nat_cmp rows
  ranks_sorted rows low sorted = sorted_alike IsLow by_place (λ a b. nat_cmp (rank a) (rank b)) ranks_alike rows low sorted

  -- rows of one holder that rise by serial rise by rank
  ranks_rise : (H low : ℕ) (rows : List (Keyed R)) → AllByRecursion (λ r. owner r ≡ H) rows → Rises place low rows
      → Rises rank (many * H + low) rows
  unfolding rank
  ranks_rise H low [] own rise = tt
  ranks_rise H low (r ∷ rows) own rise =
      let is : r.holder ≡ H = own.0 in
      let next : many * H + (r.serial + 1) ≡ (many * r.holder + r.serial) + 1 = omega (arith, is) in
      (omega (arith, is, rise.0), subst (λ n. Rises rank n rows) next (ranks_rise H (r.serial + 1) rows own.1 rise.1))

  ranks_below : (H : ℕ) (rows : List (Keyed R)) → AllByRecursion (λ r. owner r ≡ H) rows → AllByRecursion IsLow rows
      → AllByRecursion (λ r. rank r < many * (H + 1)) rows
  unfolding rank
  ranks_below H rows own low =
      all_both (λ r. owner r ≡ H) IsLow (λ r. rank r < many * (H + 1)) (λ r is low. let same : r.holder ≡ H = is in omega (arith, same, low)) rows own low

  -- rows that are made of holders' rows
  module _ (f : HolderRows → List (Keyed R)) where
    -- those of a holder are the holder's own, rise by serial, and have low serials
    record AreOwn (h : HolderRows) : Type 0 where
      own : AllByRecursion (λ r. owner r ≡ holder_key h) (f h)
      rise : Rises place 0 (f h)
      low : AllByRecursion IsLow (f h)

    all_rise : (low : ℕ) (hs : List HolderRows) → Rises holder_key low hs → AllByRecursion AreOwn hs → Rises rank (many * low) (flat_map f hs)
    all_rise low [] rise are = tt
    all_rise low (h ∷ hs) rise are =
        rises-append rank (many * low) (many * (holder_key h + 1)) (f h) (flat_map f hs) (omega (arith, rise.0))
        (rises_lower rank (many * low) (many * holder_key h + 0) (f h) (omega (arith, rise.0)) (ranks_rise (holder_key h) 0 (f h) are.0.own are.0.rise))
        (ranks_below (holder_key h) (f h) are.0.own are.0.low) (all_rise (holder_key h + 1) hs rise.1 are.1)

    -- so rows that are all of them and stand by their keys are they
    ordered_are : (hs : List HolderRows) → Rises holder_key 0 hs → AllByRecursion AreOwn hs → (given rows : List (Keyed R))
        → IsPermutation (flat_map f hs) given → IsPermutation given rows → IsSorted by_place rows → rows ≡ flat_map f hs
    ordered_are hs order are given rows those same sorted =
        let all = flat_map f hs in
        let rise = all_rise 0 hs order are in
        let moved = IsPermutation-trans all given rows those same in
        let low = all-flat_map IsLow f hs (all_weaker AreOwn (λ h. AllByRecursion IsLow (f h)) (λ h own. own.low) hs are) in
        sorted_is_order rank rows all moved (ranks_sorted rows (all-permutation IsLow all rows moved low) sorted) (rises_apart rank (many * 0) all rise)
        ∙ in_order_same rank (many * 0) all rise

-- what each element of each part gives
map-flat_map : {X Y Z : Type 0} (g : Y → Z) (f : X → List Y) (k : X → List Z) → ((x : X) → map g (f x) ≡ k x) → (xs : List X)
    → map g (flat_map f xs) ≡ flat_map k xs
map-flat_map g f k is [] = refl
map-flat_map g f k is (x ∷ xs) = map-append g (f x) (flat_map f xs) ∙ ap₂ ◌++◌ (is x) (map-flat_map g f k is xs)

-- what a movement's row says of its deadlines, and what a guarantee's says
abbrev pub said_movement : Keyed Movement → MovementDeadlines
said_movement r = deadlines_of r.holder r.row

abbrev pub said_guarantee : Keyed Kept → ℕ × (Guarantee × ℕ)
said_guarantee r = (r.holder, (r.row.guarantee, r.row.used))

module _ (t : Tables) (c : Content) (sound : IsSound c) (are : AreTablesOf t c) where
  movements_own : (h : HolderRows) → AreHolderRows c.country h → AreOwn movements_in h
  movements_own h is = record {
    own = owned_movements h;
    rise = movements_rise h.row.holder 0 h.movements;
    low = all-map IsLow (movement_row h.row.holder) (numbered 0 h.movements)
        (all_weaker (λ (p : ℕ × Movement). p.0 ≤ 9999999) (λ p. IsLow (movement_row h.row.holder p)) (λ p most. omega (arith, most)) (numbered 0 h.movements)
        (numbers_most 0 9999999 h.movements (omega (arith, is.mrn_count, is.mrn_most))));
  }

  kept_own : (h : HolderRows) → AreHolderRows c.country h → AreOwn kept_in h
  kept_own h is = record {
    own = owned_kept h;
    rise = rises-map (with_use h.movements) place 0 (guarantees_in h) (guarantees_rise h.row.holder 0 h.guarantees);
    low = all-map IsLow (with_use h.movements) (guarantees_in h) (all-map (λ g. IsLow (with_use h.movements g)) (guarantee_row h.row.holder) (numbered 0 h.guarantees)
        (all_weaker (λ (p : ℕ × Guarantee). p.0 ≤ 999999) (λ p. IsLow (with_use h.movements (guarantee_row h.row.holder p))) (λ p most. omega (arith, most)) (numbered 0 h.guarantees)
        (numbers_most 0 999999 h.guarantees (omega (arith, is.grn_count, is.grn_most)))));
  }

  -- all movements by their keys say of their deadlines what the content lists
  movements_said : (h : HolderRows) → map said_movement (movements_in h) ≡ map shown_of_movement (movements_of h)
  movements_said h =
      map-map said_movement (movement_row h.row.holder) (numbered 0 h.movements)
      ∙ bare 0 h.movements
    where
      bare : (n : ℕ) (ms : List Movement) → map (λ p. said_movement (movement_row h.row.holder p)) (numbered n ms) ≡ map shown_of_movement (map (λ m. (h.row.holder, m)) ms)
      bare n [] = refl
      bare n (m ∷ ms) = ap (λ l. deadlines_of h.row.holder m ∷ l) (bare (n + 1) ms)

  pub listed_movements : (rows : List (Keyed Movement)) → IsPermutation t.movements rows → IsSorted by_place rows
      → map said_movement rows ≡ map shown_of_movement (movements_listed c)
  listed_movements rows same sorted =
      ap (map said_movement) (ordered_are movements_in c.holders sound.order (all_weaker (AreHolderRows c.country) (AreOwn movements_in) movements_own c.holders sound.holders) t.movements rows are.movements same sorted)
      ∙ map-flat_map said_movement movements_in (λ h. map shown_of_movement (movements_of h)) movements_said c.holders
      ∙ sym (map-flat_map shown_of_movement movements_of (λ h. map shown_of_movement (movements_of h)) (λ h. refl) c.holders)

  -- and so all guarantees that keep amounts, without their codes
  kept_said : (h : HolderRows) → map said_guarantee (kept_in h) ≡ map without_codes (guarantees_of h)
  kept_said h = bare 0 h.guarantees
    where
      bare : (n : ℕ) (gs : List Guarantee)
          → map said_guarantee (map (with_use h.movements) (map (guarantee_row h.row.holder) (numbered n gs)))
          ≡ map without_codes (map (λ g. (h.row.holder, (g, used_on g.grn h.movements))) gs)
      bare n [] = refl
      bare n (g ∷ gs) = ap (λ l. (h.row.holder, (record g { codes = [] }, used_on g.grn h.movements)) ∷ l) (bare (n + 1) gs)

  pub listed_guarantees : KeepAmounts t → (rows : List (Keyed Kept)) → IsPermutation t.kept rows → IsSorted by_place rows
      → map said_guarantee rows ≡ map without_codes (guarantees_listed c)
  listed_guarantees keep rows same sorted =
      ap (map said_guarantee) (ordered_are kept_in c.holders sound.order (all_weaker (AreHolderRows c.country) (AreOwn kept_in) kept_own c.holders sound.holders) t.kept rows (are.kept keep) same sorted)
      ∙ map-flat_map said_guarantee kept_in (λ h. map without_codes (guarantees_of h)) kept_said c.holders
      ∙ sym (map-flat_map without_codes guarantees_of (λ h. map without_codes (guarantees_of h)) (λ h. refl) c.holders)
