-- What stands next behind a place, as the content says it that the store holds.
use Rattle.std.proofs.Common.{◌≡◌, ◌∙◌, ℕ, ◌+◌, ◌≤◌, List, [], ◌∷◌, ◌++◌, map, flat_map, Option, Some, None, inl, inr, refl, sym, ap, ap₂, arith}
use Rattle.std.specs.List.{AllByRecursion}
use Rattle.std.specs.Option.{option_map}
use Rattle.std.specs.Prelude.{slice_get}
use Rattle.sqlite.specs.State.{State}
use Rattle.sqlite_trees.specs.Tree.{IsAscending}
use Rattle.sqlite_trees.proofs.ListLemmas.{all-append, all_both, all_weaker, ascending-append, map-flat_map, map-map}
use Rattle.keyed_rows.specs.Rows.{Rises}
use Rattle.td_guarantee.specs.Usage.{used_on}
use Rattle.td_guarantee.specs.declared.guarantee.Guarantee.{Guarantee}
use Rattle.td_movement.specs.declared.movement.Movement.{Movement}
use Rattle.td_model.specs.Account.{HolderRows, holder_key}
use Rattle.td_model.specs.Sound.{AreHolderRows}
use Rattle.td_model.specs.Content.{Content, IsSound}
use Rattle.td_table_model.specs.Tables.{AreTablesOf, Keyed, Kept, Tables, guarantee_row, guarantees_in, kept_in, movement_row, movements_in, numbered, with_use}
use Rattle.td_table_model.specs.Gathering.{owner, place, with_codes, with_lines}
use Rattle.td_table_model.proofs.Gathered.{HasParts, guarantees_are, guarantees_back, have_parts, movements_are, movements_back}
use Rattle.td_table_model.proofs.Numbered.{element, elements_are, map_same}
use Rattle.td_table_model.proofs.Orders.{rises-map, rises_above}
use Rattle.td_table_model.proofs.Owned.{guarantees_rise, movements_rise, owned_kept, owned_movements}
use Rattle.td_store_rows.specs.KeptTable.{IsFirstKept, kept_row_of}
use Rattle.td_store_rows.specs.MovementTable.{IsFirstMovement, movement_row_of}
use Rattle.td_store_rows.specs.Places.{is_above, is_after}
use Rattle.td_store_rows.specs.StoreReads.{KeepsUse, OnlyReadNewest}
use Rattle.td_store_rows.specs.StoreTables.{HoldsContent, tables_in}
use Rattle.td_store_rows.specs.declared.guarantees.stored.KeptGuarantee.{KeptGuarantee}
use Rattle.td_store_rows.specs.declared.movements.stored.StoredMovement.{StoredMovement}
use Rattle.td_store_rows.proofs.StoreReads.{newest_keeps}
use Rattle.td_store_load.specs.Loaded.{IsOfTables}
use Rattle.td_store_load.specs.Needed.{entry_from}
use Rattle.td_store_load.specs.Placed.{IsFirstBehind, behind, guarantees_at, guarantees_placed, kept_rows, keyed, movement_rows, movements_at, movements_placed}
use Rattle.td_store_load.proofs.Places.{IsBefore, above_is, after_is, made_first, rekeyed}
use Rattle.td_store_load.proofs.Reading.{held_after, said_before}

-- The rows of all holders stand in order, where each holder's are the holder's own and their serials rise.
module _ {R : Type 0} (f : HolderRows → List (Keyed R)) (owned : (h : HolderRows) → AllByRecursion (λ x. owner x ≡ holder_key h) (f h))
    (rise : (h : HolderRows) → Rises place 0 (f h)) where
  own_in_order : (H low : ℕ) (rows : List (Keyed R)) → AllByRecursion (λ x. owner x ≡ H) rows → Rises place low rows → IsAscending IsBefore rows
  own_in_order H low [] own rises = tt
  own_in_order H low (r ∷ rows) own rises = (
    all_both (λ x. owner x ≡ H) (λ x. place r + 1 ≤ place x) (IsBefore r) (λ x is above. inr (own.0 ∙ sym is, omega (arith, above))) rows own.1
        (rises_above place (place r + 1) rows rises.1),
    own_in_order H (place r + 1) rows own.1 rises.1,
  )

  all_from : (low : ℕ) (hs : List HolderRows) → Rises holder_key low hs → AllByRecursion (λ x. low ≤ owner x) (flat_map f hs)
  all_from low [] rises = tt
  all_from low (h ∷ hs) rises =
      all-append (λ x. low ≤ owner x) (f h) (flat_map f hs)
      (all_weaker (λ x. owner x ≡ holder_key h) (λ x. low ≤ owner x) (λ x is. omega (arith, is, rises.0)) (f h) (owned h))
      (all_weaker (λ x. holder_key h + 1 ≤ owner x) (λ x. low ≤ owner x) (λ x above. omega (arith, above, rises.0)) (flat_map f hs)
      (all_from (holder_key h + 1) hs rises.1))

  pub all_in_order : (low : ℕ) (hs : List HolderRows) → Rises holder_key low hs → IsAscending IsBefore (flat_map f hs)
  all_in_order low [] rises = tt
  all_in_order low (h ∷ hs) rises =
      ascending-append IsBefore (f h) (flat_map f hs) (own_in_order (holder_key h) 0 (f h) (owned h) (rise h)) (all_in_order (holder_key h + 1) hs rises.1)
      (all_weaker (λ x. owner x ≡ holder_key h) (λ x. AllByRecursion (IsBefore x) (flat_map f hs))
      (λ x is. all_weaker (λ y. holder_key h + 1 ≤ owner y) (IsBefore x) (λ y above. inl (omega (arith, is, above))) (flat_map f hs)
      (all_from (holder_key h + 1) hs rises.1)) (f h) (owned h))

pub movements_in_order : (c : Content) → IsSound c → IsAscending IsBefore (movement_rows c)
movements_in_order c sound = all_in_order movements_in owned_movements (λ h. movements_rise h.row.holder 0 h.movements) 0 c.holders sound.order

pub kept_in_order : (c : Content) → IsSound c → IsAscending IsBefore (kept_rows c)
kept_in_order c sound =
    all_in_order kept_in owned_kept (λ h. rises-map (with_use h.movements) place 0 (guarantees_in h) (guarantees_rise h.row.holder 0 h.guarantees)) 0
    c.holders sound.order

-- the row that was found behind the serial, and that of a greater holder where none was found there
module _ (a : State) (H n : ℕ) where
  pub movement_after : (row : StoredMovement) → IsFirstMovement (is_after H n) a (Some row) → IsFirstBehind movement_rows H n a (Some (movement_row_of row))
  movement_after row first c holds =
      after_is H n (movement_rows c) (tables_in holds.trees.layout a.now.trees).movements (movement_row_of row)
      (movements_in_order c holds.trees.sound) holds.trees.tables.movements
      (first holds.trees.layout holds.schema holds.trees.typed.movements)

  pub movement_above : (b : State) (found : Option StoredMovement) → IsFirstMovement (is_after H n) a None → OnlyReadNewest a b
      → IsFirstMovement (is_above H) b found → IsFirstBehind movement_rows H n a (option_map movement_row_of found)
  movement_above b found none read first c holds =
      let then : HoldsContent c b = held_after c a b read holds in
      above_is H n (movement_rows c) (tables_in holds.trees.layout a.now.trees).movements (tables_in then.trees.layout b.now.trees).movements
      (option_map movement_row_of found) (movements_in_order c holds.trees.sound) holds.trees.tables.movements then.trees.tables.movements
      (none holds.trees.layout holds.schema holds.trees.typed.movements) (first then.trees.layout then.schema then.trees.typed.movements)

  pub kept_after : (row : KeptGuarantee) → IsFirstKept (is_after H n) a (Some row) → IsFirstBehind kept_rows H n a (Some (kept_row_of row))
  kept_after row first c holds =
      let keeps : KeepsUse holds.trees.layout = newest_keeps holds.trees.layout holds.trees.newest in
      after_is H n (kept_rows c) (tables_in holds.trees.layout a.now.trees).kept (kept_row_of row)
      (kept_in_order c holds.trees.sound) (holds.trees.tables.kept keeps)
      (first holds.trees.layout keeps holds.schema (holds.trees.typed.kept keeps))

  pub kept_above : (b : State) (found : Option KeptGuarantee) → IsFirstKept (is_after H n) a None → OnlyReadNewest a b
      → IsFirstKept (is_above H) b found → IsFirstBehind kept_rows H n a (option_map kept_row_of found)
  kept_above b found none read first c holds =
      let then : HoldsContent c b = held_after c a b read holds in
      let keeps : KeepsUse holds.trees.layout = newest_keeps holds.trees.layout holds.trees.newest in
      let keeps_then : KeepsUse then.trees.layout = newest_keeps then.trees.layout then.trees.newest in
      above_is H n (kept_rows c) (tables_in holds.trees.layout a.now.trees).kept (tables_in then.trees.layout b.now.trees).kept
      (option_map kept_row_of found) (kept_in_order c holds.trees.sound) (holds.trees.tables.kept keeps) (then.trees.tables.kept keeps_then)
      (none holds.trees.layout keeps holds.schema (holds.trees.typed.kept keeps)) (first then.trees.layout keeps_then then.schema (then.trees.typed.kept keeps_then))

-- what two functions make of elements alike, they make of each
each_same : {X Y : Type 0} (f g : X → Y) (xs : List X) → map f xs ≡ map g xs → AllByRecursion (λ x. f x ≡ g x) xs
each_same f g [] same = tt
each_same {X} {Y} f g (x ∷ xs) same =
    let here : f x ≡ g x = cc in
    let behind : map f xs ≡ map g xs = cc in
    (here, each_same f g xs behind)

-- and what they make of all put together
pub flat_same : {X Y : Type 0} (f g : X → List Y) (xs : List X) → AllByRecursion (λ x. f x ≡ g x) xs → flat_map f xs ≡ flat_map g xs
flat_same f g [] same = refl
flat_same f g (x ∷ xs) same = ap₂ ◌++◌ same.0 (flat_same f g xs same.1)

-- The rows of a content, each made whole from the tables, are what stands at their places.
module _ (t : Tables) (c : Content) (sound : IsSound c) (are : AreTablesOf t c) where
  abbrev movement_of_row : Keyed Movement → Keyed Movement
  movement_of_row = rekeyed (with_lines t)

  abbrev entry_of_row : Keyed Kept → Keyed (Guarantee × ℕ)
  entry_of_row = rekeyed (entry_from t)

  own_movements : (h : HolderRows) → AreHolderRows c.country h → HasParts c.country t h → map movement_of_row (movements_in h) ≡ movements_at h
  own_movements h is parts =
      let back : map (λ p. with_lines t (movement_row h.row.holder p)) (numbered 0 h.movements) ≡ map element (numbered 0 h.movements) =
      sym (map-map (with_lines t) (movement_row h.row.holder) (numbered 0 h.movements))
      ∙ ap (map (with_lines t)) (sym (movements_are c.country t h sound.country is parts))
      ∙ movements_back c.country t h sound.country is parts ∙ sym (elements_are 0 h.movements) in
      map-map movement_of_row (movement_row h.row.holder) (numbered 0 h.movements)
      ∙ map_same (λ p. movement_of_row (movement_row h.row.holder p)) (keyed h.row.holder) (numbered 0 h.movements)
      (all_weaker (λ p. with_lines t (movement_row h.row.holder p) ≡ element p)
      (λ p. movement_of_row (movement_row h.row.holder p) ≡ keyed h.row.holder p)
      (λ p is. ap (λ m. keyed h.row.holder (p.0, m)) is) (numbered 0 h.movements)
      (each_same (λ p. with_lines t (movement_row h.row.holder p)) element (numbered 0 h.movements) back))

  pub own_entries : (h : HolderRows) → AreHolderRows c.country h → HasParts c.country t h → map entry_of_row (kept_in h) ≡ guarantees_at h
  own_entries h is parts =
      let back : map (λ p. with_codes t (guarantee_row h.row.holder p)) (numbered 0 h.guarantees) ≡ map element (numbered 0 h.guarantees) =
      sym (map-map (with_codes t) (guarantee_row h.row.holder) (numbered 0 h.guarantees))
      ∙ ap (map (with_codes t)) (sym (guarantees_are c.country t h sound.country is parts))
      ∙ guarantees_back c.country t h sound.country is parts ∙ sym (elements_are 0 h.guarantees) in
      map-map entry_of_row (with_use h.movements) (guarantees_in h)
      ∙ map-map (λ g. entry_of_row (with_use h.movements g)) (guarantee_row h.row.holder) (numbered 0 h.guarantees)
      ∙ map_same (λ p. entry_of_row (with_use h.movements (guarantee_row h.row.holder p))) (λ p. keyed h.row.holder (p.0, (p.1, used_on p.1.grn h.movements)))
      (numbered 0 h.guarantees)
      (all_weaker (λ p. with_codes t (guarantee_row h.row.holder p) ≡ element p)
      (λ p. entry_of_row (with_use h.movements (guarantee_row h.row.holder p)) ≡ keyed h.row.holder (p.0, (p.1, used_on p.1.grn h.movements)))
      (λ p is. ap (λ g. keyed h.row.holder (p.0, (g, used_on p.1.grn h.movements))) is) (numbered 0 h.guarantees)
      (each_same (λ p. with_codes t (guarantee_row h.row.holder p)) element (numbered 0 h.guarantees) back))

  pub all_movements_at : map movement_of_row (movement_rows c) ≡ movements_placed c
  all_movements_at =
      map-flat_map movement_of_row movements_in c.holders
      ∙ flat_same (λ h. map movement_of_row (movements_in h)) movements_at c.holders
      (all_both (AreHolderRows c.country) (HasParts c.country t) (λ h. map movement_of_row (movements_in h) ≡ movements_at h) own_movements c.holders
      sound.holders (have_parts t c sound are))

  pub all_entries_at : map entry_of_row (kept_rows c) ≡ guarantees_placed c
  all_entries_at =
      map-flat_map entry_of_row kept_in c.holders
      ∙ flat_same (λ h. map entry_of_row (kept_in h)) guarantees_at c.holders
      (all_both (AreHolderRows c.country) (HasParts c.country t) (λ h. map entry_of_row (kept_in h) ≡ guarantees_at h) own_entries c.holders
      sound.holders (have_parts t c sound are))

  -- so the first row behind a place, made whole, is the first of what stands behind it
  pub movement_made : (H n : ℕ) (row : Option (Keyed Movement)) → row ≡ slice_get (behind H n (movement_rows c)) 0
      → option_map movement_of_row row ≡ slice_get (behind H n (movements_placed c)) 0
  movement_made H n row is =
      ap (option_map movement_of_row) is
      ∙ made_first H n (with_lines t) (movement_rows c) (movements_placed c) all_movements_at

  pub entry_made : (H n : ℕ) (row : Option (Keyed Kept)) → row ≡ slice_get (behind H n (kept_rows c)) 0
      → option_map entry_of_row row ≡ slice_get (behind H n (guarantees_placed c)) 0
  entry_made H n row is =
      ap (option_map entry_of_row) is
      ∙ made_first H n (entry_from t) (kept_rows c) (guarantees_placed c) all_entries_at

module _ (a : State) (H n : ℕ) where
  pub no_movement : IsFirstBehind movement_rows H n a None → IsFirstBehind movements_placed H n a None
  no_movement none c holds =
      movement_made (tables_in holds.trees.layout a.now.trees) c holds.trees.sound holds.trees.tables H n None (none c holds)

  pub movement_is : (b : State) (row : StoredMovement) (m : Movement) → IsFirstBehind movement_rows H n a (Some (movement_row_of row)) → OnlyReadNewest a b
      → IsOfTables (λ t. with_lines t (movement_row_of row)) b m → IsFirstBehind movements_placed H n a (Some (keyed row.holder (row.serial, m)))
  movement_is b row m first read whole c holds =
      let t : Tables = tables_in holds.trees.layout a.now.trees in
      let said : m ≡ with_lines t (movement_row_of row) = said_before (λ t. with_lines t (movement_row_of row)) a b m read whole c holds in
      ap (λ (m : Movement). Some (keyed row.holder (row.serial, m))) said
      ∙ movement_made t c holds.trees.sound holds.trees.tables H n (Some (movement_row_of row)) (first c holds)

  pub no_guarantee : IsFirstBehind kept_rows H n a None → IsFirstBehind guarantees_placed H n a None
  no_guarantee none c holds =
      entry_made (tables_in holds.trees.layout a.now.trees) c holds.trees.sound holds.trees.tables H n None (none c holds)

  pub guarantee_is : (b : State) (row : KeptGuarantee) (entry : Guarantee × ℕ) → IsFirstBehind kept_rows H n a (Some (kept_row_of row)) → OnlyReadNewest a b
      → IsOfTables (λ t. entry_from t (kept_row_of row)) b entry → IsFirstBehind guarantees_placed H n a (Some (keyed row.holder (row.serial, entry)))
  guarantee_is b row entry first read whole c holds =
      let t : Tables = tables_in holds.trees.layout a.now.trees in
      let said : entry ≡ entry_from t (kept_row_of row) = said_before (λ t. entry_from t (kept_row_of row)) a b entry read whole c holds in
      ap (λ (e : Guarantee × ℕ). Some (keyed row.holder (row.serial, e))) said
      ∙ entry_made t c holds.trees.sound holds.trees.tables H n (Some (kept_row_of row)) (first c holds)
