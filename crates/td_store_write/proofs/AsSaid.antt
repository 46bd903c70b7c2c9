-- What the statements of each change did is what the change says.
use Rattle.std.proofs.Common.{◌≡◌, ◌∙◌, ℕ, Bool, true, false, List, [], ◌∷◌, ◌++◌, map, refl, ap, ap₂, sym, subst}
use Rattle.std.specs.Prelude.{◌==◌, ◌&&◌, if◌then◌else◌, not, filter}
use Rattle.std.specs.List.{AllByRecursion}
use Rattle.std.specs.Str.{bytes_eq}
use Rattle.sqlite_trees.proofs.ListLemmas.{all_weaker}
use Rattle.sqlite.specs.State.{State}
use Rattle.td_guarantee.specs.declared.guarantee.Guarantee.{Guarantee}
use Rattle.td_movement.specs.declared.movement.Movement.{Movement}
use Rattle.td_model.specs.declared.change.Change.TheVariants.{Registered, Declared, Moved, TermsSet, CodeAdded, CodeRemoved}
use Rattle.td_model.specs.declared.holder_row.HolderRow.{HolderRow}
use Rattle.td_model.specs.declared.change.NewStatus.{NewStatus}
use Rattle.td_model.specs.declared.change.NewTerms.{NewTerms}
use Rattle.td_model.specs.Changes.{with_status, with_terms}
use Rattle.td_table_model.specs.Tables.{Keyed, Kept, Tables, code_row, guarantee_no, line_rows, movement_row, with_amount, without_amount}
use Rattle.td_table_model.specs.Changes.{HaveSameRows, is_code_of, tables_after, with_kept_terms_of, with_row, with_status_of, with_terms_of, with_use_after}
use Rattle.td_table_model.specs.Looking.{movement_no}
use Rattle.td_schema.specs.declared.layout.Layout.{Layout}
use Rattle.td_store_rows.specs.HolderTable.{TurnsHolders}
use Rattle.td_store_rows.specs.KeptTable.{has_kept_grn, with_new_kept_terms, with_new_terms}
use Rattle.td_store_rows.proofs.Turned.{holders_turned, plain_rows}
use Rattle.td_store_rows.specs.StoreTables.{HasTables, TurnsTables, tables_in}
use Rattle.td_store_write.specs.InUse.{FitsMovement, TurnsFitting}
use Rattle.td_store_write.specs.Written.{WritesChange, kept_terms_by_key, status_by_key, terms_by_key, with_move}

-- tables are turned into others that are the same
has_as : (l : Layout) (f g : Tables → Tables) (old new : State) → f (tables_in l old.now.trees) ≡ g (tables_in l old.now.trees)
    → HasTables l f old new → HasTables l g old new
has_as l f g old new same has = record {
  same = subst (λ t. HaveSameRows t (tables_in l new.now.trees)) same has.same;
  office = has.office;
  typed = has.typed;
  listed = has.listed;
  schema = has.schema;
  unread = has.unread;
}

-- a row that is named by its key and its reference is named by its reference
named : {X : Type 0} (r : Keyed X) (x : X) (of by key : Bool) → by ≡ key
    → (if of && key then record r { row = x } else r) ≡ (if of then record r { row = if by then x else r.row } else r)
named r x false by key same = refl
named r x true true true same = refl
named r x true false false same = refl
named r x true true false same = cc
named r x true false true same = cc

map_as : {X Y : Type 0} (f g : X → Y) (xs : List X) → AllByRecursion (λ x. f x ≡ g x) xs → map f xs ≡ map g xs
map_as f g [] each = refl
map_as f g (x ∷ xs) each = ap₂ ◌∷◌ each.0 (map_as f g xs each.1)

status_put : (H n : ℕ) (status : NewStatus) (rows : List (Keyed Movement))
    → AllByRecursion (λ (m : Keyed Movement). bytes_eq m.row.mrn status.mrn ≡ (m.serial == n && bytes_eq m.row.mrn status.mrn)) rows
    → map (status_by_key H n status) rows ≡ map (with_status_of H status) rows
status_put H n status rows keys =
    map_as (status_by_key H n status) (with_status_of H status) rows
    (all_weaker (λ (m : Keyed Movement). bytes_eq m.row.mrn status.mrn ≡ (m.serial == n && bytes_eq m.row.mrn status.mrn))
    (λ m. status_by_key H n status m ≡ with_status_of H status m)
    (λ m key. named m (with_status status m.row) (m.holder == H) (bytes_eq m.row.mrn status.mrn) (m.serial == n && bytes_eq m.row.mrn status.mrn) key)
    rows keys)

terms_put : (H n : ℕ) (terms : NewTerms) (rows : List (Keyed Guarantee))
    → AllByRecursion (λ (g : Keyed Guarantee). bytes_eq g.row.grn terms.grn ≡ (g.serial == n && bytes_eq g.row.grn terms.grn)) rows
    → map (terms_by_key H n terms) rows ≡ map (with_terms_of H terms) rows
terms_put H n terms rows keys =
    map_as (terms_by_key H n terms) (with_terms_of H terms) rows
    (all_weaker (λ (g : Keyed Guarantee). bytes_eq g.row.grn terms.grn ≡ (g.serial == n && bytes_eq g.row.grn terms.grn))
    (λ g. terms_by_key H n terms g ≡ with_terms_of H terms g)
    (λ g key. named g (with_terms terms g.row) (g.holder == H) (bytes_eq g.row.grn terms.grn) (g.serial == n && bytes_eq g.row.grn terms.grn) key)
    rows keys)

-- each written as the change says
pub registered_written : (country : List ℕ) (row : HolderRow) (old new : State) → TurnsHolders (λ rows. row ∷ rows) old new
    → WritesChange country (Registered row) old new
registered_written country row old new turns l newest has typed same keys fits = holders_turned l old new has typed (λ rows. row ∷ rows) (turns l)

pub declared_written : (country : List ℕ) (row : HolderRow) (movement : Movement) (old new : State)
    → TurnsTables (λ t. record t {
      holders = map (with_row row) t.holders;
      movements = movement_row row.holder (row.mrn_count, movement) ∷ t.movements;
      lines = line_rows country row.holder (row.mrn_count, movement) ++ t.lines;
    }) old new → WritesChange country (Declared row movement) old new
declared_written country row movement old new turns l newest has typed same keys fits =
    has_as l _ (tables_after (Declared row movement)) old new
    (ap (λ k. let t = tables_in l old.now.trees in record t {
      holders = map (with_row row) t.holders;
      movements = movement_row row.holder (row.mrn_count, movement) ∷ t.movements;
      lines = line_rows k row.holder (row.mrn_count, movement) ++ t.lines;
    }) (sym same)) (turns l newest has typed)

pub moved_written : (country : List ℕ) (row : HolderRow) (status : NewStatus) (old new : State)
    → TurnsFitting (FitsMovement row.holder (movement_no country status.mrn) status.state) (with_move country row status) old new
    → WritesChange country (Moved row status) old new
moved_written country row status old new turns l newest has typed same keys fits =
    let t = tables_in l old.now.trees in
    let of_tables : TurnsFitting (FitsMovement row.holder (movement_no t.country status.mrn) status.state) (with_move t.country row status) old new =
    subst (λ k. TurnsFitting (FitsMovement row.holder (movement_no k status.mrn) status.state) (with_move k row status) old new) (sym same) turns in
    has_as l (with_move t.country row status) (tables_after (Moved row status)) old new
    (ap (λ rows. record t {
      holders = map (with_row row) t.holders;
      movements = rows;
      kept = map (with_use_after row.holder (movement_no t.country status.mrn) status.state t) t.kept;
    }) (status_put row.holder (movement_no t.country status.mrn) status t.movements (keys.mrns status.mrn))) (of_tables l newest has typed fits)

-- a row that keeps an amount is asked for as its guarantee is
kept_named : (H n : ℕ) (terms : NewTerms) (k : Keyed Kept) → terms_by_key H n terms (without_amount k) ≡ with_terms_of H terms (without_amount k)
    → kept_terms_by_key H n terms k ≡ with_kept_terms_of H terms k
kept_named H n terms k same = by_test (has_kept_grn H n terms.grn k) ∙ ap (with_amount k.row.used) same
  where
    by_test : (b : Bool) → ◌≡◌ {A = Keyed Kept} (if b then with_new_kept_terms terms k else k)
        (with_amount k.row.used (if b then with_new_terms terms (without_amount k) else without_amount k))
    by_test true = refl
    by_test false = refl

kept_put : (H n : ℕ) (terms : NewTerms) (ks : List (Keyed Kept))
    → AllByRecursion (λ (g : Keyed Guarantee). bytes_eq g.row.grn terms.grn ≡ (g.serial == n && bytes_eq g.row.grn terms.grn)) (map without_amount ks)
    → map (kept_terms_by_key H n terms) ks ≡ map (with_kept_terms_of H terms) ks
kept_put H n terms [] keys = refl
kept_put H n terms (k ∷ ks) keys =
    let g = without_amount k in
    ap₂ ◌∷◌ (kept_named H n terms k (named g (with_terms terms g.row) (g.holder == H) (bytes_eq g.row.grn terms.grn) (g.serial == n && bytes_eq g.row.grn terms.grn) keys.0))
    (kept_put H n terms ks keys.1)

pub terms_written : (country : List ℕ) (row : HolderRow) (terms : NewTerms) (old new : State)
    → TurnsTables (λ t. record t {
      holders = map (with_row row) t.holders;
      guarantees = map (terms_by_key row.holder (guarantee_no country terms.grn) terms) t.guarantees;
      kept = map (kept_terms_by_key row.holder (guarantee_no country terms.grn) terms) t.kept;
    }) old new → WritesChange country (TermsSet row terms) old new
terms_written country row terms old new turns l newest has typed same keys fits =
    let t = tables_in l old.now.trees in
    let n = guarantee_no country terms.grn in
    let asked : AllByRecursion (λ (g : Keyed Guarantee). bytes_eq g.row.grn terms.grn ≡ (g.serial == n && bytes_eq g.row.grn terms.grn)) t.guarantees =
    subst (λ k. AllByRecursion (λ (g : Keyed Guarantee). bytes_eq g.row.grn terms.grn
    ≡ (g.serial == guarantee_no k terms.grn && bytes_eq g.row.grn terms.grn)) t.guarantees) same (keys.grns terms.grn) in
    has_as l _ (tables_after (TermsSet row terms)) old new
    (ap₂ (λ gs ks. record t { holders = map (with_row row) t.holders; guarantees = gs; kept = ks })
    (terms_put row.holder n terms t.guarantees asked)
    (kept_put row.holder n terms t.kept (subst (AllByRecursion (λ (g : Keyed Guarantee). bytes_eq g.row.grn terms.grn ≡ (g.serial == n && bytes_eq g.row.grn terms.grn)))
    (plain_rows l old.now.trees) asked))) (turns l newest has typed)

pub added_written : (country : List ℕ) (row : HolderRow) (grn code : List ℕ) (old new : State)
    → TurnsTables (λ t. record t {
      holders = map (with_row row) t.holders;
      codes = code_row row.holder (guarantee_no country grn) code ∷ t.codes;
    }) old new → WritesChange country (CodeAdded row grn code) old new
added_written country row grn code old new turns l newest has typed same keys fits =
    has_as l _ (tables_after (CodeAdded row grn code)) old new
    (ap (λ k. let t = tables_in l old.now.trees in record t {
      holders = map (with_row row) t.holders;
      codes = code_row row.holder (guarantee_no k grn) code ∷ t.codes;
    }) (sym same)) (turns l newest has typed)

pub removed_written : (country : List ℕ) (row : HolderRow) (grn code : List ℕ) (old new : State)
    → TurnsTables (λ t. record t {
      holders = map (with_row row) t.holders;
      codes = filter (λ r. not (is_code_of row.holder (guarantee_no country grn) code r)) t.codes;
    }) old new → WritesChange country (CodeRemoved row grn code) old new
removed_written country row grn code old new turns l newest has typed same keys fits =
    has_as l _ (tables_after (CodeRemoved row grn code)) old new
    (ap (λ k. let t = tables_in l old.now.trees in record t {
      holders = map (with_row row) t.holders;
      codes = filter (λ r. not (is_code_of row.holder (guarantee_no k grn) code r)) t.codes;
    }) (sym same)) (turns l newest has typed)
