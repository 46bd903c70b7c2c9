-- Guarantees of lines, whose rows are read in ranges of serials: their GRNs, their terms and the amounts in use.
use Rattle.std.proofs.Common.{◌≡◌, ◌≢◌, ◌∙◌, ℕ, ◌<◌, ◌≤◌, Bool, true, false, cond, List, [], ◌∷◌, ◌++◌, filter, length, map, nat_le, nat_lt, None, Option, Some, refl, sym, ap, subst, arith, IsPermutation}
use Rattle.std.specs.Prelude.{◌==◌, ◌&&◌, IfSome, filter_map, find, if◌then◌else◌, unwrap_or}
use Rattle.std.specs.List.{AllByRecursion}
use Rattle.std.specs.Option.{is_some, option_map}
use Rattle.std.specs.Str.{bytes_eq}
use Rattle.std.proofs.lemmas.Bool.Decides.{nat_tests}
use Rattle.std.proofs.lemmas.Option.{same_Some}
use Rattle.std.proofs.lemmas.Slice.Eq.{bytes_eq-Decides}
use Rattle.sqlite_trees.proofs.ListLemmas.{IsPermutation-same, all-filter, all-permutation, all_from_map, all_weaker, filter_same, map-map}
use Rattle.keyed_rows.specs.Rows.{row_at}
use Rattle.keyed_rows.proofs.Putting.{All-row_at, row_at_has}
use Rattle.sqlite.specs.Effect.{Database}
use Rattle.sqlite.specs.State.{State}
use Rattle.td_base.specs.References.{owner_of, serial_of}
use Rattle.td_guarantee.specs.declared.guarantee.Guarantee.{Guarantee}
use Rattle.td_guarantee.specs.Terms.{without_codes}
use Rattle.td_guarantee.specs.Usage.{used_on}
use Rattle.td_movement.specs.declared.line.Line.{Line}
use Rattle.td_model.specs.Account.{Account, guarantee_by_grn}
use Rattle.td_model.specs.Content.{Content, account_in}
use Rattle.td_holder_memory.proofs.Loading.{one_more}
use Rattle.td_table_model.specs.Gathering.{IsApart, grn_by, line_from, lines_by, no_of, of_key, owner, part, place, with_codes, with_lines}
use Rattle.td_table_model.specs.Laws.{IsAmountOf}
use Rattle.td_table_model.specs.Rules.{KeepRules}
use Rattle.td_table_model.specs.Tables.{Keyed, Kept, LineCells, Tables, guarantee_no, without_amount}
use Rattle.td_table_model.proofs.Counting.{filter_both}
use Rattle.td_table_model.proofs.Grouped.{of_key_has}
use Rattle.td_table_model.proofs.KeepingRules.{keep_rules}
use Rattle.td_table_model.proofs.KeptAmounts.{amounts_are_use}
use Rattle.td_table_model.proofs.Looked.{are_found, find_first, first}
use Rattle.td_table_model.proofs.Numbered.{map_same}
use Rattle.td_table_model.proofs.Orders.{each_found, found_in_order, in_order_rises}
use Rattle.td_table_model.proofs.Rebuilt.{all_in_order}
use Rattle.td_table_model.proofs.Told.{references_tell}
use Rattle.typed_sql.proofs.Ordered.{both_pass}
use Rattle.td_store_rows.specs.KeptTable.{AreKeptBySerial, kept_row_of}
use Rattle.td_store_rows.specs.LineTable.{AreByNumber, line_row_of as row_of_line}
use Rattle.td_store_rows.specs.MovementTable.{IsTheMovement, has_mrn, movement_row_of as row_of_movement}
use Rattle.td_store_rows.specs.Places.{is_within}
use Rattle.td_store_rows.specs.Ranges.{rows_between}
use Rattle.td_store_rows.specs.StoreReads.{KeepsUse, OnlyReadNewest}
use Rattle.td_store_rows.specs.StoreTables.{HoldsContent, tables_in}
use Rattle.td_store_rows.specs.declared.guarantees.stored.KeptGuarantee.{KeptGuarantee}
use Rattle.td_store_rows.specs.declared.lines.stored.StoredLine.{StoredLine}
use Rattle.td_store_rows.specs.declared.movements.stored.StoredMovement.{StoredMovement}
use Rattle.td_store_rows.proofs.StoreReads.{newest_keeps, newest_more_lines}
use Rattle.td_store_rows.proofs.Turned.{plain_rows}
use Rattle.td_store_load.specs.Loaded.{IsOfTables, line_of}
use Rattle.td_store_load.specs.Needed.{AreKeptIn, AreTermsOf, HasKeptOf, IsKeptOf, kept_by, terms_in}
use Rattle.td_store_load.proofs.Found.{filtered}
use Rattle.td_store_load.proofs.InRanges.{kept_apart, kept_range}
use Rattle.td_store_load.proofs.Reading.{held_after, said_before}
use Rattle.td_store_load.proofs.Whole.{found_alone, grn_alone}
use Rattle.td_store_load.proofs.WithUse.{all_pass}

-- whether a row is a holder's, with a serial
abbrev is_at : {R : Type 0} → ℕ → ℕ → Keyed R → Bool
is_at H n r = r.holder == H && r.serial == n

-- a row of a guarantee that is the holder's only one with its serial
module _ (a : State) (H : ℕ) (k : KeptGuarantee) (content : Content) (holds : HoldsContent content a)
    (alone : filter (is_at H k.serial) (tables_in holds.trees.layout a.now.trees).kept ≡ kept_row_of k ∷ []) where
  abbrev t : Tables
  t = tables_in holds.trees.layout a.now.trees

  abbrev grn : List ℕ
  grn = k.guarantee.grn

  abbrev account : Account
  account = account_in H content

  -- whether a row is the holder's, with the serial; and whether a guarantee has the GRN
  abbrev asked : {R : Type 0} → Keyed R → Bool
  asked r = is_at H k.serial r

  abbrev has : Keyed Guarantee → Bool
  has g = bytes_eq g.row.grn grn

  abbrev plain : Keyed Guarantee
  plain = without_amount (kept_row_of k)

  keeps : KeepsUse holds.trees.layout
  keeps = newest_keeps holds.trees.layout holds.trees.newest

  plain_alone : filter asked t.guarantees ≡ plain ∷ []
  plain_alone = ap (filter asked) (plain_rows holds.trees.layout a.now.trees) ∙ filtered asked t.kept ∙ ap (map without_amount) alone

  serial_grn : grn ≡ grn_by H k.serial t
  serial_grn = sym (grn_alone t H k.serial plain (IsPermutation-same _ _ plain_alone))

  -- its GRN tells its serial
  told : serial_of t.country grn ≡ Some k.serial
  told =
      (subst (AllByRecursion (λ (g : Keyed Guarantee). (owner_of t.country g.row.grn ≡ Some g.holder) × (serial_of t.country g.row.grn ≡ Some g.serial))) plain_alone
      (all-filter (λ (g : Keyed Guarantee). (owner_of t.country g.row.grn ≡ Some g.holder) × (serial_of t.country g.row.grn ≡ Some g.serial)) asked t.guarantees
      (references_tell t content holds.trees.sound holds.trees.tables).0.grns)).0.1

  passes : asked (kept_row_of k) ≡ true
  passes = (subst (AllByRecursion (λ (x : Keyed Kept). asked x ≡ true)) alone (all_pass asked t.kept)).0

  own : k.holder ≡ H
  own = grind (arith, nat_tests, (both_pass (k.holder == H) _ passes).0)

  number : guarantee_no t.country grn ≡ k.serial
  number = ap (λ o. unwrap_or o 0) told

  -- so it is the one that has the GRN
  grn_is_asked : (g : Keyed Guarantee) → has g ≡ (g.serial == guarantee_no t.country grn && has g) → (g.holder == H && has g) ≡ (g.holder == H && (g.serial == k.serial && has g))
  grn_is_asked g same = ap (λ b. g.holder == H && b) (same ∙ ap (λ m. g.serial == m && has g) number)

  nested : filter (λ (g : Keyed Guarantee). g.holder == H && (g.serial == k.serial && has g)) t.guarantees ≡ filter has (filter asked t.guarantees)
  nested =
      filter_both (λ (g : Keyed Guarantee). g.serial == k.serial && has g) (λ (g : Keyed Guarantee). g.holder == H) t.guarantees ∙ filter_both has (λ (g : Keyed Guarantee). g.serial == k.serial) (part H t.guarantees)
      ∙ ap (filter has) (sym (filter_both (λ (g : Keyed Guarantee). g.serial == k.serial) (λ (g : Keyed Guarantee). g.holder == H) t.guarantees))

  has_alone : filter (λ (g : Keyed Guarantee). g.holder == H && has g) t.guarantees ≡ plain ∷ []
  has_alone =
      filter_same (λ (g : Keyed Guarantee). g.holder == H && has g) (λ (g : Keyed Guarantee). g.holder == H && (g.serial == k.serial && has g)) t.guarantees
      (all_weaker (λ (g : Keyed Guarantee). has g ≡ (g.serial == guarantee_no t.country grn && has g)) (λ (g : Keyed Guarantee). (g.holder == H && has g) ≡ (g.holder == H && (g.serial == k.serial && has g)))
      grn_is_asked t.guarantees ((references_tell t content holds.trees.sound holds.trees.tables).1.grns grn))
      ∙ nested ∙ ap (filter has) plain_alone ∙ itself (bytes_eq grn grn) ((bytes_eq-Decides grn grn).1 refl)
    where
      itself : (b : Bool) → b ≡ true → filter (λ (g : Keyed Guarantee). b) (plain ∷ []) ≡ plain ∷ []
      itself true is = refl
      itself false is = cc

  by_its_grn : guarantee_by_grn grn account.guarantees ≡ Some (with_codes t plain)
  by_its_grn =
      (are_found t content holds.trees.sound holds.trees.tables H).grns grn
      ∙ ap (option_map (with_codes t)) (found_alone (λ (g : Keyed Guarantee). g.holder == H && has g) t.guarantees (Some plain) (IsPermutation-same _ _ has_alone))

  -- the amount that it keeps is what is in use
  use_is : k.used ≡ used_on grn account.movements
  use_is =
      let uses : AllByRecursion (IsAmountOf content) t.kept = amounts_are_use t content holds.trees.sound holds.trees.tables keeps in
      let amount : IsAmountOf content (kept_row_of k) = (subst (AllByRecursion (IsAmountOf content)) alone (all-filter (IsAmountOf content) asked t.kept uses)).0 in
      subst (λ m. k.used ≡ used_on grn (account_in m content).movements) own amount

  serial_terms : Some (without_codes k.guarantee, k.used) ≡ terms_in account grn
  serial_terms =
      ap (λ u. Some (without_codes k.guarantee, u)) use_is
      ∙ ap (option_map (λ g. (without_codes g, used_on g.grn account.movements))) (sym by_its_grn)

  is_kept : IsKeptOf H t account k
  is_kept = (serial_grn, serial_terms)

-- the first of a list that has no second is all of it
all_is_first : {X : Type 0} (xs : List X) (x : X) → first xs ≡ Some x → length xs ≤ 1 → xs ≡ x ∷ []
all_is_first [] x is most = cc
all_is_first (y ∷ []) x is most = ap (λ z. z ∷ []) (same_Some y x is)
all_is_first (y ∷ z ∷ xs) x is most = absurd (omega (arith, most))

-- the holder's rows with serials in a range say what the holder's guarantees are
pub range_kept : (H low end : ℕ) (a : State) (found : List KeptGuarantee) → AreKeptBySerial (is_within H low end) a found
    → (c : Content) (holds : HoldsContent c a) → AreKeptIn H c holds found
range_kept H low end a found order c holds =
    let t : Tables = tables_in holds.trees.layout a.now.trees in
    let mine : List (Keyed Kept) = part H t.kept in
    let Found : Keyed Kept → Type 0 = λ r. row_at place (place r) (kept_by H t) ≡ Some r in
    let apart : IsApart place mine =
    kept_apart t c holds.trees.sound holds.trees.tables (newest_keeps holds.trees.layout holds.trees.newest) H in
    let all : AllByRecursion Found (kept_by H t) = each_found place 0 (kept_by H t) (in_order_rises place mine) in
    let there : AllByRecursion Found (map kept_row_of found) =
    subst (AllByRecursion Found) (sym (kept_range H low end a found order c holds)) (all-filter Found (λ r. nat_le low (place r) && nat_lt (place r) end) (kept_by H t) all) in
    all_weaker (λ (k : KeptGuarantee). Found (kept_row_of k)) (IsKeptOf H t (account_in H c))
    (λ k is. is_kept a H k c holds
    (filter_both (λ (r : Keyed Kept). r.serial == k.serial) (λ (r : Keyed Kept). r.holder == H) t.kept
    ∙ all_is_first (of_key place k.serial mine) (kept_row_of k)
    (sym (find_first (λ r. place r == k.serial) mine) ∙ sym (found_in_order place k.serial mine) ∙ is) (apart k.serial)))
    found (all_from_map Found kept_row_of found there)

-- a serial that no row of a range has, and that stands in it, is no guarantee's of the holder's
unfound : (n : ℕ) (found : List KeptGuarantee) → find (λ k. k.serial == n) found ≡ None → row_at place n (map kept_row_of found) ≡ None
unfound n [] none = refl
unfound n (k ∷ found) none = by_test (k.serial == n) none (unfound n found)
  where
    by_test : (b : Bool) → (if◌then◌else◌ {A = Option KeptGuarantee} b (Some k) (find (λ k. k.serial == n) found)) ≡ None
        → (find (λ k. k.serial == n) found ≡ None → row_at place n (map kept_row_of found) ≡ None)
        → (if◌then◌else◌ {A = Option (Keyed Kept)} b (Some (kept_row_of k)) (row_at place n (map kept_row_of found))) ≡ None
    by_test true none later = cc
    by_test false none later = later none

outside : (n end : ℕ) → n < end → (rows : List (Keyed Kept)) → row_at place n (rows_between n end rows) ≡ None → row_at place n rows ≡ None
outside n end within [] none = refl
outside n end within (r ∷ rows) none = by_place (place r == n) refl (nat_le n (place r) && nat_lt (place r) end) refl none (outside n end within rows)
  where
    by_place : (b : Bool) → (place r == n) ≡ b → (t : Bool) → (nat_le n (place r) && nat_lt (place r) end) ≡ t
        → row_at place n (cond t (r ∷ rows_between n end rows) (rows_between n end rows)) ≡ None
        → (row_at place n (rows_between n end rows) ≡ None → row_at place n rows ≡ None)
        → (if◌then◌else◌ {A = Option (Keyed Kept)} b (Some r) (row_at place n rows)) ≡ None
    by_place true is true inside none later = let some = (rw is at none) in cc
    by_place true is false inside none later = absurd (grind (arith, nat_tests, is, inside, within))
    by_place false is true inside none later = later (rw is at none)
    by_place false is false inside none later = later none

pub range_has : (H n end : ℕ) (a : State) (found : List KeptGuarantee) → AreKeptBySerial (is_within H n end) a found → n < end
    → (c : Content) (holds : HoldsContent c a) → HasKeptOf H n c holds found
range_has H n end a found order within c holds none =
    outside n end within (kept_by H (tables_in holds.trees.layout a.now.trees)) (ap (row_at place n) (sym (kept_range H n end a found order c holds)) ∙ unfound n found none)

-- what is found is among them
pub found_is_some : {X Y : Type 0} (f : X → Y) (found : Option X) (o : Option Y) → option_map f found ≡ o → is_some found ≡ true → o ≢ None
found_is_some f None o same some = cc
found_is_some f (Some x) o same some = λ none. cc

-- what a content's rows say is said after calls that only read, and was before them
pub kept_after : (a b : State) (H : ℕ) (kept : List KeptGuarantee) (read : OnlyReadNewest a b) (c : Content) (holds : HoldsContent c a)
    → AreKeptIn H c holds kept → AreKeptIn H c (held_after c a b read holds) kept
kept_after a b H kept read c holds are =
    subst (λ (d : Database). AllByRecursion (IsKeptOf H (tables_in holds.trees.layout d.trees) (account_in H c)) kept)
    (sym (read holds.trees.layout holds.trees.newest holds.schema).now_is) are

pub kept_before : (a b : State) (H : ℕ) (kept : List KeptGuarantee) (read : OnlyReadNewest a b) (c : Content) (holds : HoldsContent c a)
    → AreKeptIn H c (held_after c a b read holds) kept → AreKeptIn H c holds kept
kept_before a b H kept read c holds are =
    subst (λ (d : Database). AllByRecursion (IsKeptOf H (tables_in holds.trees.layout d.trees) (account_in H c)) kept)
    (read holds.trees.layout holds.trees.newest holds.schema).now_is are

-- what is found by a serial among rows that say what guarantees are says what the one with that serial is
pub kept_with_serial : (H : ℕ) (t : Tables) (account : Account) (kept : List KeptGuarantee) → AllByRecursion (IsKeptOf H t account) kept
    → (n : ℕ) (k : KeptGuarantee) → find (λ k. k.serial == n) kept ≡ Some k
    → (k.guarantee.grn ≡ grn_by H n t) × (Some (without_codes k.guarantee, k.used) ≡ terms_in account k.guarantee.grn)
kept_with_serial H t account kept are n k found =
    let says : IsKeptOf H t account k = subst (λ (o : Option KeptGuarantee). IfSome o (IsKeptOf H t account)) found (All-row_at (λ (k : KeptGuarantee). k.serial) (IsKeptOf H t account) n kept are) in
    let named : k.serial ≡ n = subst (λ (o : Option KeptGuarantee). IfSome o (λ k. k.serial ≡ n)) found (row_at_has (λ (k : KeptGuarantee). k.serial) n kept) in
    (says.0 ∙ ap (λ m. grn_by H m t) named, says.1)

-- one more line, and the terms of its guarantee
pub terms_more : (a b : State) (H : ℕ) → OnlyReadNewest a b → (lines : List Line) (terms : List (Guarantee × ℕ)) → AreTermsOf H a lines terms
    → (line : Line) (e : Guarantee × ℕ) → ((c : Content) → HoldsContent c b → Some e ≡ terms_in (account_in H c) line.grn)
    → (new : List (Guarantee × ℕ)) → new ≡ terms ++ e ∷ [] → AreTermsOf H a (lines ++ line ∷ []) new
terms_more a b H left lines terms are line e is new added c holds =
    one_more (λ (l : Line). terms_in (account_in H c) l.grn) lines line (Some e) terms new (sym (is c (held_after c a b left holds))) (are c holds) added

-- the lines in a holder's rows are those of the movement
pub movement_of : (a b : State) (stored : StoredMovement) (rows : List StoredLine) (lines : List Line) → AreByNumber stored.holder stored.serial a rows → OnlyReadNewest a b
    → IsOfTables (λ t. map (λ r. line_of stored.holder t (row_of_line r)) rows) b lines → IsOfTables (λ t. with_lines t (row_of_movement stored)) a (record stored.movement { lines = lines })
movement_of a b stored rows lines order still each content holds =
    let H : ℕ = stored.holder in
    let t : Tables = tables_in holds.trees.layout a.now.trees in
    let keep : KeepRules t = keep_rules t content holds.trees.sound holds.trees.tables in
    let found : map row_of_line rows ≡ lines_by H stored.serial t =
    order holds.trees.layout (newest_more_lines holds.trees.layout holds.trees.newest) holds.schema holds.trees.typed.lines
    (keep.stored.lines H stored.serial) in
    let own : AllByRecursion (λ (r : Keyed LineCells). owner r ≡ H) (lines_by H stored.serial t) =
    all_in_order no_of (λ (r : Keyed LineCells). owner r ≡ H) (of_key place stored.serial (part H t.lines))
    (all-filter (λ (r : Keyed LineCells). owner r ≡ H) (λ r. place r == stored.serial) (part H t.lines) (of_key_has owner H t.lines)) in
    ap (λ (l : List Line). record stored.movement { lines = l })
    (said_before (λ t. map (λ r. line_of H t (row_of_line r)) rows) a b lines still each content holds
    ∙ sym (map-map (line_of H t) row_of_line rows) ∙ ap (map (line_of H t)) found
    ∙ map_same (line_of H t) (line_from t) (lines_by H stored.serial t)
    (all_weaker (λ (r : Keyed LineCells). owner r ≡ H) (λ r. line_of H t r ≡ line_from t r)
    (λ r is. ap (λ (h : ℕ). line_of h t r) (sym is)) (lines_by H stored.serial t) own))

-- the terms of a movement's lines are of the holder's guarantees whose movement it is
pub terms_of_holder : (a : State) (H n : ℕ) (mrn : List ℕ) (stored : StoredMovement) → IsTheMovement (has_mrn H n mrn) a (Some stored)
    → (lines : List Line) (terms : List (Guarantee × ℕ)) → AreTermsOf stored.holder a lines terms → AreTermsOf H a lines terms
terms_of_holder a H n mrn stored found lines terms are c holds =
    let t : Tables = tables_in holds.trees.layout a.now.trees in
    let those : IsPermutation (filter (has_mrn H n mrn) t.movements) (row_of_movement stored ∷ []) = found holds.trees.layout holds.schema holds.trees.typed.movements in
    let passes : has_mrn H n mrn (row_of_movement stored) ≡ true =
    (all-permutation (λ x. has_mrn H n mrn x ≡ true) _ _ those (all_pass (has_mrn H n mrn) t.movements)).0 in
    let own : stored.holder ≡ H = grind (arith, nat_tests, (both_pass (stored.holder == H) _ passes).0) in
    subst (λ h. terms ≡ filter_map (λ l. terms_in (account_in h c) l.grn) lines) own (are c holds)
