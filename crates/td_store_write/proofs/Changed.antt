-- What the statements of each change did, one after another, is what the change says.
use Rattle.std.proofs.Common.{◌≡◌, ◌∙◌, ℕ, Bool, true, false, List, [], ◌∷◌, ◌++◌, map, refl, ap, ap₂, sym, subst}
use Rattle.std.specs.Prelude.{filter, if◌then◌else◌}
use Rattle.sqlite.specs.Effect.{Database}
use Rattle.sqlite_trees.proofs.ListLemmas.{all-permutation, all_weaker}
use Rattle.td_movement.specs.declared.state.State.{State as MovementState}
use Rattle.td_movement.specs.declared.state.State.TheVariants.{Released, WrittenOff}
use Rattle.sqlite.specs.State.{State}
use Rattle.td_guarantee.specs.declared.guarantee.Guarantee.{Guarantee}
use Rattle.td_movement.specs.declared.movement.Movement.{Movement}
use Rattle.td_model.specs.declared.change.Change.TheVariants.{Opened}
use Rattle.td_model.specs.declared.holder_row.HolderRow.{HolderRow}
use Rattle.td_model.specs.declared.change.NewStatus.{NewStatus}
use Rattle.td_model.specs.declared.change.NewTerms.{NewTerms}
use Rattle.td_table_model.specs.Tables.{Keyed, Kept, Tables, code_row, guarantee_row, line_rows, movement_row, with_amount, without_amount}
use Rattle.td_table_model.specs.Changes.{HaveSameRows, tables_after, with_row, with_use_after}
use Rattle.td_table_model.specs.Looking.{amount_between, movement_no}
use Rattle.typed_sql.specs.Typed.{typed_rows}
use Rattle.typed_sql.specs.Writing.{HasSchema}
use Rattle.td_schema.specs.Layouts.{schema_of}
use Rattle.td_schema.specs.declared.layout.Layout.{Layout}
use Rattle.td_store_rows.specs.Columns.{meta_typing}
use Rattle.td_store_rows.specs.HolderTable.{TurnsHolders}
use Rattle.td_store_rows.specs.GuaranteeTable.{has_serial}
use Rattle.td_store_rows.specs.KeptTable.{HasInUse, HasRoom, MayChange, TurnsKept, TurnsWhere, has_kept_grn, with_less, with_more, with_new_kept_terms, with_new_terms}
use Rattle.td_store_rows.specs.LineTable.{AreLines, is_line_of}
use Rattle.td_store_rows.specs.declared.lines.stored.StoredLine.{StoredLine}
use Rattle.td_store_rows.specs.CodeTable.{TurnsCodes}
use Rattle.td_store_rows.specs.MovementTable.{TurnsMovements}
use Rattle.td_store_rows.specs.StoreReads.{OnlyReadNewest}
use Rattle.td_store_rows.specs.StoreTables.{AreAllTyped, AreStoreTrees, HasTables, TurnsTables, tables_in, AreUnreadKept}
use Rattle.td_store_rows.proofs.Chained.{RespectsRows, append_respects, codes_respect, cons_respects, filter_respects, has_as, has_then, kept_respect, lines_respect, map_respects, movements_respect, turned_then}
use Rattle.td_store_rows.proofs.StoreReads.{newest_keeps, newest_more_lines}
use Rattle.td_store_rows.proofs.Turned.{codes_turned, holders_turned, kept_now, kept_turned, movements_turned}
use Rattle.td_store_write.specs.InUse.{FitLines, FitsMovement, MayFollow, TurnsFitting, amount_on, change_at, changes_use, with_change, with_lines, is_of}
use Rattle.td_store_write.specs.Written.{kept_terms_by_key, status_by_key, terms_by_key, with_move, with_status_set}
use Rattle.td_store_write.proofs.Following.{left_as_was, lines_as_between, read_amount, same_as, set_kept, set_none, set_same}

-- the holder's row was set, and then something more was done
row_then : (row : HolderRow) (f : Tables → Tables) → RespectsRows f → (a b d : State)
    → TurnsHolders (map (with_row row)) a b → TurnsTables f b d
    → TurnsTables (λ t. f (record t { holders = map (with_row row) t.holders })) a d
row_then row f respects a b d set more =
    turned_then (λ t. record t { holders = map (with_row row) t.holders }) f respects a b d
    (λ l newest has typed. holders_turned l a b has typed (map (with_row row)) (set l)) more

-- a new guarantee, on which nothing is in use
pub opened : (row : HolderRow) (guarantee : Guarantee) (a b d e : State) → TurnsHolders (map (with_row row)) a b
    → TurnsKept (λ rows. with_amount 0 (guarantee_row row.holder (row.grn_count, guarantee)) ∷ rows) b d
    → TurnsTables (λ t. record t { codes = map (code_row row.holder row.grn_count) guarantee.codes ++ t.codes }) d e
    → TurnsTables (tables_after (Opened row guarantee)) a e
opened row guarantee a b d e set put codes =
    let one = guarantee_row row.holder (row.grn_count, guarantee) in
    let kept = with_amount 0 one in
    let these = map (code_row row.holder row.grn_count) guarantee.codes in
    turned_then
    (λ t. record t { holders = map (with_row row) t.holders; guarantees = one ∷ t.guarantees; kept = kept ∷ t.kept })
    (λ t. record t { codes = these ++ t.codes }) (codes_respect (λ rows. these ++ rows) (append_respects these)) a d e
    (row_then row (λ t. record t { guarantees = one ∷ t.guarantees; kept = kept ∷ t.kept })
    (kept_respect (λ rows. kept ∷ rows) (λ rows. one ∷ rows) (cons_respects kept) (cons_respects one)) a b d set
    (λ l newest has typed. kept_turned l b d has typed (newest_keeps l newest) (λ rows. kept ∷ rows) (λ rows. one ∷ rows) (λ ks. refl) (put l (newest_keeps l newest)))) codes

pub declared : (country : List ℕ) (row : HolderRow) (movement : Movement) (a b d e : State)
    → TurnsHolders (map (with_row row)) a b
    → TurnsMovements (λ rows. movement_row row.holder (row.mrn_count, movement) ∷ rows) b d
    → TurnsTables (λ t. record t { lines = line_rows country row.holder (row.mrn_count, movement) ++ t.lines }) d e
    → TurnsTables (λ t. record t {
      holders = map (with_row row) t.holders;
      movements = movement_row row.holder (row.mrn_count, movement) ∷ t.movements;
      lines = line_rows country row.holder (row.mrn_count, movement) ++ t.lines;
    }) a e
declared country row movement a b d e set put lines =
    let one = movement_row row.holder (row.mrn_count, movement) in
    let these = line_rows country row.holder (row.mrn_count, movement) in
    turned_then
    (λ t. record t { holders = map (with_row row) t.holders; movements = one ∷ t.movements })
    (λ t. record t { lines = these ++ t.lines }) (lines_respect (λ rows. these ++ rows) (append_respects these)) a d e
    (row_then row (λ t. record t { movements = one ∷ t.movements })
    (movements_respect (λ rows. one ∷ rows) (cons_respects one)) a b d set
    (λ l newest has typed. movements_turned l b d has typed (λ rows. one ∷ rows) (put l))) lines

pub moved_on : (country : List ℕ) (row : HolderRow) (status : NewStatus) (a b d : State) → TurnsHolders (map (with_row row)) a b
    → TurnsMovements (map (status_by_key row.holder (movement_no country status.mrn) status)) b d → TurnsTables (with_status_set country row status) a d
moved_on country row status a b d set put =
    let f = status_by_key row.holder (movement_no country status.mrn) status in
    row_then row (λ t. record t { movements = map f t.movements })
    (movements_respect (map f) (map_respects f)) a b d set
    (λ l newest has typed. movements_turned l b d has typed (map f) (put l))

-- where the state changes no amount in use, that is all
pub moved_without_use : (country : List ℕ) (row : HolderRow) (status : NewStatus) (a b : State) → changes_use status.state ≡ false → TurnsTables (with_status_set country row status) a b
    → TurnsFitting (FitsMovement row.holder (movement_no country status.mrn) status.state) (with_move country row status) a b
moved_without_use country row status a b none turns l newest has typed fits =
    let t = tables_in l a.now.trees in
    has_as l (with_status_set country row status) (with_move country row status) a b
    (same_as _ _ (sym (set_none (with_use_after row.holder (movement_no country status.mrn) status.state t) (left_as_was row.holder (movement_no country status.mrn) status.state t none) (with_status_set country row status t))))
    (turns l newest has typed)

-- And else it is by the lines that were read. What was done is told of the tables before they were read, too.
seen_before : (l : Layout) (f : Tables → Tables) (a b d : State) → b.now ≡ a.now → HasTables l f b d → HasTables l f a d
seen_before l f a b d is has = record {
  same = subst (λ (db : Database). HaveSameRows (f (tables_in l db.trees)) (tables_in l d.now.trees)) is has.same;
  office = has.office ∙ ap (λ (db : Database). typed_rows meta_typing db.trees) is;
  typed = has.typed;
  listed = λ was. has.listed (subst (λ (db : Database). AreStoreTrees l db.trees) (sym is) was);
  schema = has.schema;
  unread = subst (λ (db : Database). AreUnreadKept l db.trees d.now.trees) is has.unread;
}

pub moved_with_use : (country : List ℕ) (row : HolderRow) (status : NewStatus) (found : List StoredLine) (a b d e : State)
    → OnlyReadNewest a b → AreLines (is_line_of row.holder (movement_no country status.mrn)) a found
    → TurnsTables (with_status_set country row status) b d
    → TurnsFitting (FitLines row.holder status.state found) (set_kept (with_lines row.holder status.state found)) d e
    → TurnsFitting (FitsMovement row.holder (movement_no country status.mrn) status.state) (with_move country row status) a e
moved_with_use country row status found a b d e reads those set changed l newest has typed fits =
    let H = row.holder in
    let m = movement_no country status.mrn in
    let t = tables_in l a.now.trees in
    let read = reads l newest has in
    let has_b : HasSchema b (schema_of l) = λ is. ap (λ (db : Database). db.schema) read.now_is ∙ has (read.was_open is) in
    let typed_b : AreAllTyped l b.now.trees = subst (λ (db : Database). AreAllTyped l db.trees) (sym read.now_is) typed in
    let one = seen_before l (with_status_set country row status) a b d read.now_is (set l newest has_b typed_b) in
    let amounts : (n : ℕ) → amount_on n found ≡ amount_between H m n t = λ n. read_amount H m n t found (those l (newest_more_lines l newest) has typed.lines) in
    let fit : FitLines H status.state found (tables_in l d.now.trees) =
    all-permutation (λ k. is_of H k ≡ true → MayFollow status.state (amount_on k.serial found) k.row.used) _ _ (one.same.kept (newest_keeps l newest))
    (all_weaker (λ k. is_of H k ≡ true → MayFollow status.state (amount_between H m k.serial t) k.row.used)
    (λ k. is_of H k ≡ true → MayFollow status.state (amount_on k.serial found) k.row.used)
    (λ k may own. subst (λ cents. MayFollow status.state cents k.row.used) (sym (amounts k.serial)) (may own)) t.kept fits) in
    let two = changed l newest one.schema one.typed fit in
    let f = with_lines H status.state found in
    has_as l (λ t. set_kept f (with_status_set country row status t)) (with_move country row status) a e
    (same_as _ _ (set_same (with_use_after H m status.state t) f (lines_as_between H m status.state t found amounts) (with_status_set country row status t)))
    (has_then l (with_status_set country row status) (set_kept f) (kept_respect (map f) (λ gs. gs) (map_respects f) (λ xs ys same. same)) a d e one two)

-- new terms, which are the same without the amounts
terms_plainly : (H n : ℕ) (terms : NewTerms) (ks : List (Keyed Kept))
    → map (terms_by_key H n terms) (map without_amount ks) ≡ map without_amount (map (kept_terms_by_key H n terms) ks)
terms_plainly H n terms [] = refl
terms_plainly H n terms (k ∷ ks) = ap₂ ◌∷◌ (by_test (has_kept_grn H n terms.grn k)) (terms_plainly H n terms ks)
  where
    by_test : (b : Bool) → ◌≡◌ {A = Keyed Guarantee} (if b then with_new_terms terms (without_amount k) else without_amount k)
        (without_amount (if b then with_new_kept_terms terms k else k))
    by_test true = refl
    by_test false = refl

pub terms_were_set : (row : HolderRow) (n : ℕ) (terms : NewTerms) (a b d : State)
    → TurnsHolders (map (with_row row)) a b → TurnsKept (map (kept_terms_by_key row.holder n terms)) b d
    → TurnsTables (λ t. record t {
      holders = map (with_row row) t.holders;
      guarantees = map (terms_by_key row.holder n terms) t.guarantees;
      kept = map (kept_terms_by_key row.holder n terms) t.kept;
    }) a d
terms_were_set row n terms a b d set put =
    let f = kept_terms_by_key row.holder n terms in
    let g = terms_by_key row.holder n terms in
    row_then row (λ t. record t { guarantees = map g t.guarantees; kept = map f t.kept })
    (kept_respect (map f) (map g) (map_respects f) (map_respects g)) a b d set
    (λ l newest has typed. kept_turned l b d has typed (newest_keeps l newest) (map f) (map g) (terms_plainly row.holder n terms) (put l (newest_keeps l newest)))

-- an amount in use that is changed leaves the guarantee
change_plainly : (state : MovementState) (H n cents : ℕ) (ks : List (Keyed Kept)) → map without_amount ks ≡ map without_amount (map (change_at state H n cents) ks)
change_plainly state H n cents [] = refl
change_plainly state H n cents (k ∷ ks) = ap₂ ◌∷◌ (by_test (has_serial H n k)) (change_plainly state H n cents ks)
  where
    by_test : (b : Bool) → ◌≡◌ {A = Keyed Guarantee} (without_amount k) (without_amount (if b then with_change state cents k else k))
    by_test true = refl
    by_test false = refl

pub added_to : (H n cents : ℕ) (old new : State) → TurnsWhere (has_serial H n) (HasRoom cents) (with_more cents) old new
    → TurnsFitting (λ t. MayChange (has_serial H n) (λ k. MayFollow Released cents k.row.used) t.kept) (λ t. record t { kept = map (change_at Released H n cents) t.kept }) old new
added_to H n cents old new turns l newest has typed may =
    let keeps = newest_keeps l newest in
    kept_now l old new has typed (map (change_at Released H n cents)) (λ gs. gs) (change_plainly Released H n cents) (turns l keeps has (typed.kept keeps) may)

pub taken_off : (H n cents : ℕ) (old new : State) → TurnsWhere (has_serial H n) (HasInUse cents) (with_less cents) old new
    → TurnsFitting (λ t. MayChange (has_serial H n) (λ k. MayFollow WrittenOff cents k.row.used) t.kept) (λ t. record t { kept = map (change_at WrittenOff H n cents) t.kept }) old new
taken_off H n cents old new turns l newest has typed may =
    let keeps = newest_keeps l newest in
    kept_now l old new has typed (map (change_at WrittenOff H n cents)) (λ gs. gs) (change_plainly WrittenOff H n cents) (turns l keeps has (typed.kept keeps) may)

pub code_added : (row : HolderRow) (code : Keyed (List ℕ)) (a b d : State)
    → TurnsHolders (map (with_row row)) a b → TurnsCodes (λ rows. code ∷ rows) b d
    → TurnsTables (λ t. record t { holders = map (with_row row) t.holders; codes = code ∷ t.codes }) a d
code_added row code a b d set put =
    row_then row (λ t. record t { codes = code ∷ t.codes })
    (codes_respect (λ rows. code ∷ rows) (cons_respects code)) a b d set
    (λ l newest has typed. codes_turned l b d has typed (λ rows. code ∷ rows) (put l))

pub code_removed : (row : HolderRow) (p : Keyed (List ℕ) → Bool) (a b d : State)
    → TurnsHolders (map (with_row row)) a b → TurnsCodes (filter p) b d
    → TurnsTables (λ t. record t { holders = map (with_row row) t.holders; codes = filter p t.codes }) a d
code_removed row p a b d set put =
    row_then row (λ t. record t { codes = filter p t.codes }) (codes_respect (filter p) (filter_respects p)) a b d set
    (λ l newest has typed. codes_turned l b d has typed (filter p) (put l))
