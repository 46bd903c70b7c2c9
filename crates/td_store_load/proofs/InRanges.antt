-- A holder's movements and guarantees, read in ranges of their serials, are those that lists show.
use Rattle.std.proofs.Common.{◌≡◌, ◌∙◌, ℕ, ◌+◌, ◌<◌, ◌≤◌, List, [], ◌++◌, length, map, Option, Some, None, IsPermutation, refl, sym, ap, ap₂, subst, arith}
use Rattle.std.specs.Prelude.{◌==◌, IfSome}
use Rattle.std.specs.Option.{option_map_or}
use Rattle.std.specs.List.{AllByRecursion}
use Rattle.std.proofs.lemmas.List.{length-map, map-append}
use Rattle.std.proofs.lemmas.Option.{same_Some}
use Rattle.sqlite.specs.State.{State}
use Rattle.sqlite_trees.proofs.ListLemmas.{IsPermutation-filter, all_both, all_weaker, map-map}
use Rattle.keyed_rows.specs.Rows.{Rises}
use Rattle.keyed_rows.proofs.Putting.{All-row_at}
use Rattle.td_commands.specs.declared.lists.ListedMovement.{ListedMovement}
use Rattle.td_model.specs.Table.{listed}
use Rattle.td_movement.specs.declared.movement.Movement.{Movement}
use Rattle.td_guarantee.specs.Usage.{used_on}
use Rattle.td_guarantee.specs.declared.guarantee.Guarantee.{Guarantee}
use Rattle.td_model.specs.Account.{Account, HolderRows, account_with, holder_key}
use Rattle.td_model.specs.Sound.{AreHolderRows}
use Rattle.td_model.specs.declared.holder_row.HolderRow.{HolderRow}
use Rattle.td_model.specs.Content.{Content, IsSound, account_in, rows_of}
use Rattle.td_table_model.specs.Gathering.{IsApart, IsNumbered, holder_no, movements_by, owner, part, place, with_lines}
use Rattle.td_table_model.specs.Looking.{account_by}
use Rattle.td_table_model.specs.Rules.{KeepRules, KeepsRules}
use Rattle.td_table_model.specs.Tables.{AreTablesOf, KeepAmounts, Keyed, Kept, Tables, guarantee_row, guarantees_in, kept_in, numbered, with_use as put_use}
use Rattle.td_table_model.proofs.KeepingRules.{keep_rules}
use Rattle.td_table_model.proofs.Gathered.{HasParts, have_parts}
use Rattle.td_table_model.proofs.Grouped.{flat_of}
use Rattle.td_table_model.proofs.Looked.{account_is}
use Rattle.td_table_model.proofs.Numbered.{element, elements_are, length-numbered, numbered_made}
use Rattle.td_table_model.proofs.Orders.{apart_permuted, brought_to_order, in_order_rises, rises-map, rises_apart}
use Rattle.td_table_model.proofs.Owned.{guarantees_rise, owned_kept}
use Rattle.td_table_model.proofs.Rebuilt.{numbered_within}
use Rattle.td_store_rows.specs.KeptTable.{AreKeptBySerial, kept_row_of}
use Rattle.td_store_rows.specs.MovementTable.{AreListedBySerial, shown_in_list, shown_of}
use Rattle.td_store_rows.specs.Places.{is_within}
use Rattle.td_store_rows.specs.Ranges.{rows_below, rows_between}
use Rattle.td_store_rows.specs.StoreReads.{KeepsUse, OnlyReadNewest}
use Rattle.td_store_rows.specs.StoreTables.{HoldsContent, tables_in}
use Rattle.td_store_rows.specs.declared.guarantees.stored.KeptGuarantee.{KeptGuarantee}
use Rattle.td_store_rows.specs.declared.movements.stored.MovementInList.{MovementInList}
use Rattle.td_store_rows.proofs.StoreReads.{newest_keeps}
use Rattle.td_store_rows.proofs.RowRanges.{all_below, joined, none_below, within_apart, within_is}
use Rattle.td_store_load.specs.Loaded.{IsOfTables}
use Rattle.td_store_load.specs.Needed.{entry_from, kept_by, with_use}
use Rattle.td_store_load.specs.Placed.{kept_rows, keyed}
use Rattle.td_store_load.proofs.Behind.{own_entries}
use Rattle.td_store_load.proofs.Places.{rekeyed}
use Rattle.td_store_load.proofs.Reading.{said_before}

-- none has a serial below 0
pub none_below_first : (H : ℕ) (a : State) → IsOfTables (λ t. map shown_of (rows_below 0 (movements_by H t))) a []
none_below_first H a c holds =
    let t : Tables = tables_in holds.trees.layout a.now.trees in
    sym (ap (map shown_of) (none_below 0 0 (movements_by H t) (in_order_rises place (part H t.movements)) (omega arith)))

-- what a range shows is what a list shows of the rows with serials in it
range_is : (H first next : ℕ) (b : State) (found : List MovementInList) → AreListedBySerial (is_within H first next) b found
    → IsOfTables (λ t. map shown_of (rows_between first next (movements_by H t))) b (map shown_in_list found)
range_is H first next b found order c holds =
    let t : Tables = tables_in holds.trees.layout b.now.trees in
    let keep : KeepRules t = keep_rules t c holds.trees.sound holds.trees.tables in
    let apart : IsApart place (part H t.movements) = keep.stored.movements H in
    order holds.trees.layout holds.schema holds.trees.typed.movements (within_apart H t.movements apart first next)
    ∙ ap (map shown_of) (within_is H t.movements apart first next)

-- with them those below the range's end are gathered
pub range_more : (H first next : ℕ) → first ≤ next → (a b : State) → OnlyReadNewest a b → (before : List ListedMovement)
    → IsOfTables (λ t. map shown_of (rows_below first (movements_by H t))) a before
    → (found : List MovementInList) → AreListedBySerial (is_within H first next) b found
    → (after : List ListedMovement) → after ≡ before ++ map shown_in_list found
    → IsOfTables (λ t. map shown_of (rows_below next (movements_by H t))) a after
range_more H first next up a b read before is found order after pushed c holds =
    let t : Tables = tables_in holds.trees.layout a.now.trees in
    let mine : List (Keyed Movement) = movements_by H t in
    let here : map shown_in_list found ≡ map shown_of (rows_between first next mine) =
    said_before (λ t. map shown_of (rows_between first next (movements_by H t))) a b (map shown_in_list found) read (range_is H first next b found order) c holds in
    pushed
    ∙ ap₂ (λ x y. x ++ y) (is c holds) here
    ∙ sym (map-append shown_of (rows_below first mine) (rows_between first next mine))
    ∙ ap (map shown_of) (sym (joined first next 0 mine (in_order_rises place (part H t.movements)) up))

-- those up to the count in the holder's row are all
pub all_listed : (row : HolderRow) (a : State) (found : List ListedMovement)
    → IsOfTables (λ t. map shown_of (rows_below (row.mrn_count + 1) (movements_by row.holder t))) a found
    → (c : Content) → HoldsContent c a → (account_in row.holder c).holder ≡ Some row
    → found ≡ map listed (account_in row.holder c).movements
all_listed row a found is c holds has =
    let t : Tables = tables_in holds.trees.layout a.now.trees in
    let mine : List (Keyed Movement) = movements_by row.holder t in
    let same : account_in row.holder c ≡ account_by row.holder t = account_is t c holds.trees.sound holds.trees.tables row.holder in
    let keep : KeepRules t = keep_rules t c holds.trees.sound holds.trees.tables in
    let own : KeepsRules t row =
    subst (λ (o : Option HolderRow). IfSome o (KeepsRules t)) (sym (ap (λ (x : Account). x.holder) same) ∙ has) (All-row_at holder_no (KeepsRules t) row.holder t.holders keep.holders) in
    let low : AllByRecursion (λ r. place r < row.mrn_count + 1) mine =
    all_weaker (λ r. (0 < place r) × (place r ≤ 0 + length mine)) (λ r. place r < row.mrn_count + 1) (λ r within. omega (arith, within.1, own.movements.count)) mine
    (numbered_within place 0 mine own.movements.serials) in
    is c holds ∙ ap (map shown_of) (all_below (row.mrn_count + 1) mine low)
    ∙ sym (map-map listed (with_lines t) mine) ∙ ap (λ (x : Account). map listed x.movements) (sym same)

-- The rows of a holder's guarantees, as the content says them.
module _ (t : Tables) (c : Content) (sound : IsSound c) (are : AreTablesOf t c) (keep : KeepAmounts t) (H : ℕ) where
  abbrev mine : List (Keyed Kept)
  mine = part H (kept_rows c)

  mine_rise : Rises place 0 mine
  mine_rise = subst (Rises place 0) (sym (flat_of holder_key owner kept_in owned_kept H 0 c.holders sound.order)) (by_rows (rows_of H c))
    where
      by_rows : (o : Option HolderRows) → Rises place 0 (option_map_or kept_in o [])
      by_rows None = tt
      by_rows (Some h) = rises-map (put_use h.movements) place 0 (guarantees_in h) (guarantees_rise h.row.holder 0 h.guarantees)

  mine_there : IsPermutation mine (part H t.kept)
  mine_there = IsPermutation-filter (λ r. owner r == H) (kept_rows c) t.kept (are.kept keep)

  pub kept_apart : IsApart place (part H t.kept)
  kept_apart = apart_permuted place mine (part H t.kept) mine_there (rises_apart place 0 mine mine_rise)

  kept_are : kept_by H t ≡ mine
  kept_are = brought_to_order place 0 mine (part H t.kept) mine_rise mine_there

  -- what a holder's are, made whole; and none is behind the count in the holder's row
  own_whole : (h : HolderRows) → AreHolderRows c.country h → HasParts c.country t h → map (entry_from t) (kept_in h) ≡ map (λ g. (g, used_on g.grn h.movements)) h.guarantees
  own_whole h is parts =
      sym (map-map (λ (k : Keyed (Guarantee × ℕ)). k.row) (rekeyed (entry_from t)) (kept_in h))
      ∙ ap (map (λ (k : Keyed (Guarantee × ℕ)). k.row)) (own_entries t c sound are h is parts)
      ∙ map-map (λ (k : Keyed (Guarantee × ℕ)). k.row) (λ (p : ℕ × Guarantee). keyed h.row.holder (p.0, (p.1, used_on p.1.grn h.movements))) (numbered 0 h.guarantees)
      ∙ sym (map-map (λ g. (g, used_on g.grn h.movements)) element (numbered 0 h.guarantees))
      ∙ ap (map (λ g. (g, used_on g.grn h.movements))) (elements_are 0 h.guarantees)

  own_low : (h : HolderRows) → AreHolderRows c.country h → AllByRecursion (λ k. place k < h.row.grn_count + 1) (kept_in h)
  own_low h is =
      let made : ℕ × Guarantee → Keyed Kept = λ p. put_use h.movements (guarantee_row h.row.holder p) in
      let are_made : kept_in h ≡ map made (numbered 0 h.guarantees) = map-map (put_use h.movements) (guarantee_row h.row.holder) (numbered 0 h.guarantees) in
      let numbers : IsNumbered place 0 (kept_in h) = subst (IsNumbered place 0) (sym are_made) (numbered_made place made (λ p. refl) 0 h.guarantees) in
      let many : length (kept_in h) ≡ length h.guarantees = ap length are_made ∙ length-map (numbered 0 h.guarantees) made ∙ length-numbered 0 h.guarantees in
      all_weaker (λ k. (0 < place k) × (place k ≤ 0 + length (kept_in h))) (λ k. place k < h.row.grn_count + 1) (λ k within. omega (arith, within.1, is.grn_count, many)) (kept_in h)
      (numbered_within place 0 (kept_in h) numbers)

  -- so up to that count they are all that a list shows
  pub kept_listed : (row : HolderRow) → (account_in H c).holder ≡ Some row
      → map (entry_from t) (rows_below (row.grn_count + 1) (kept_by H t)) ≡ map (with_use (account_in H c)) (account_in H c).guarantees
  kept_listed row has = by_rows (rows_of H c) refl found has
    where
      Own : HolderRows → Type 0
      Own h = (map (entry_from t) (kept_in h) ≡ map (λ g. (g, used_on g.grn h.movements)) h.guarantees) × AllByRecursion (λ k. place k < h.row.grn_count + 1) (kept_in h)

      found : IfSome (rows_of H c) Own
      found = All-row_at holder_key Own H c.holders
          (all_both (AreHolderRows c.country) (HasParts c.country t) Own (λ h is parts. (own_whole h is parts, own_low h is)) c.holders sound.holders (have_parts t c sound are))

      by_rows : (o : Option HolderRows) → rows_of H c ≡ o → IfSome o Own → (account_with c.country o).holder ≡ Some row
          → map (entry_from t) (rows_below (row.grn_count + 1) (kept_by H t)) ≡ map (with_use (account_with c.country o)) (account_with c.country o).guarantees
      by_rows None is own has = cc
      by_rows (Some h) is own has =
          let same : h.row ≡ row = same_Some h.row row has in
          let mine_is : kept_by H t ≡ kept_in h = kept_are ∙ flat_of holder_key owner kept_in owned_kept H 0 c.holders sound.order ∙ ap (λ (o : Option HolderRows). option_map_or kept_in o []) is in
          ap (λ l. map (entry_from t) (rows_below (row.grn_count + 1) l)) mine_is
          ∙ ap (map (entry_from t)) (all_below (row.grn_count + 1) (kept_in h) (subst (λ (r : HolderRow). AllByRecursion (λ k. place k < r.grn_count + 1) (kept_in h)) same own.1))
          ∙ own.0

-- none has a serial below 0
pub no_kept_below_first : (H : ℕ) (a : State) → IsOfTables (λ t. map (entry_from t) (rows_below 0 (kept_by H t))) a []
no_kept_below_first H a c holds =
    let t : Tables = tables_in holds.trees.layout a.now.trees in
    sym (ap (map (entry_from t)) (none_below 0 0 (kept_by H t) (in_order_rises place (part H t.kept)) (omega arith)))

-- the rows that a range shows are those with serials in it
pub kept_range : (H first next : ℕ) (b : State) (found : List KeptGuarantee) → AreKeptBySerial (is_within H first next) b found
    → IsOfTables (λ t. rows_between first next (kept_by H t)) b (map kept_row_of found)
kept_range H first next b found order c holds =
    let t : Tables = tables_in holds.trees.layout b.now.trees in
    let keeps : KeepsUse holds.trees.layout = newest_keeps holds.trees.layout holds.trees.newest in
    let apart : IsApart place (part H t.kept) = kept_apart t c holds.trees.sound holds.trees.tables keeps H in
    order holds.trees.layout keeps holds.schema (holds.trees.typed.kept keeps) (within_apart H t.kept apart first next) ∙ within_is H t.kept apart first next

-- with them those below the range's end are gathered
pub kept_more : (H first next : ℕ) → first ≤ next → (a b d : State) → OnlyReadNewest a b → OnlyReadNewest b d → (before : List (Guarantee × ℕ))
    → IsOfTables (λ t. map (entry_from t) (rows_below first (kept_by H t))) a before
    → (found : List KeptGuarantee) → AreKeptBySerial (is_within H first next) b found
    → (more : List (Guarantee × ℕ)) → IsOfTables (λ t. map (λ r. entry_from t (kept_row_of r)) found) d more
    → (after : List (Guarantee × ℕ)) → after ≡ before ++ more
    → IsOfTables (λ t. map (entry_from t) (rows_below next (kept_by H t))) a after
kept_more H first next up a b d read still before is found order more whole after pushed c holds =
    let t : Tables = tables_in holds.trees.layout a.now.trees in
    let all : List (Keyed Kept) = kept_by H t in
    let here : map kept_row_of found ≡ rows_between first next all =
    said_before (λ t. rows_between first next (kept_by H t)) a b (map kept_row_of found) read (kept_range H first next b found order) c holds in
    let made : more ≡ map (λ r. entry_from t (kept_row_of r)) found =
    said_before (λ t. map (λ r. entry_from t (kept_row_of r)) found) a b more read (said_before (λ t. map (λ r. entry_from t (kept_row_of r)) found) b d more still whole) c holds in
    pushed
    ∙ ap₂ (λ x y. x ++ y) (is c holds) (made ∙ sym (map-map (entry_from t) kept_row_of found) ∙ ap (map (entry_from t)) here)
    ∙ sym (map-append (entry_from t) (rows_below first all) (rows_between first next all))
    ∙ ap (map (entry_from t)) (sym (joined first next 0 all (in_order_rises place (part H t.kept)) up))

-- those up to the count in the holder's row are all
pub all_kept_listed : (row : HolderRow) (a : State) (found : List (Guarantee × ℕ))
    → IsOfTables (λ t. map (entry_from t) (rows_below (row.grn_count + 1) (kept_by row.holder t))) a found
    → (c : Content) → HoldsContent c a → (account_in row.holder c).holder ≡ Some row
    → found ≡ map (with_use (account_in row.holder c)) (account_in row.holder c).guarantees
all_kept_listed row a found is c holds has =
    is c holds ∙ kept_listed (tables_in holds.trees.layout a.now.trees) c holds.trees.sound holds.trees.tables (newest_keeps holds.trees.layout holds.trees.newest) row.holder row has
