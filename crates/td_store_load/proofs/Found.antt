-- What was found in the tables, put together, is what they say.
use Rattle.std.proofs.Common.{◌≡◌, ◌∙◌, ℕ, ◌+◌, ◌<◌, Bool, true, false, cond, List, [], ◌∷◌, ◌++◌, length, filter, map, take, get_or, Option, Some, None, refl, sym, ap, ap₂, subst, subst₂, arith, IsPermutation}
use Rattle.std.proofs.lemmas.List.Sorted.{IsPermutation-map}
use Rattle.std.specs.Prelude.{◌==◌, ◌&&◌, find, option_to_list}
use Rattle.std.specs.List.{AllByRecursion}
use Rattle.std.specs.Option.{option_map}
use Rattle.std.specs.Str.{bytes_eq}
use Rattle.std.proofs.lemmas.List.{take_more, take-map, get_or-map, length-map, map-append}
use Rattle.sqlite_trees.proofs.ListLemmas.{map-map, all_weaker, filter_same}
use Rattle.sqlite.specs.State.{State}
use Rattle.td_guarantee.specs.Codes.{AreAscending, with_code}
use Rattle.td_guarantee.specs.declared.guarantee.Guarantee.{Guarantee}
use Rattle.td_movement.specs.declared.line.Line.{Line}
use Rattle.td_movement.specs.declared.movement.Movement.{Movement}
use Rattle.td_model.specs.Account.{guarantee_by_grn, movement_by_lrn, movement_by_mrn}
use Rattle.td_model.specs.Content.{Content, account_in}
use Rattle.td_table_model.specs.Tables.{Keyed, Kept, Tables, guarantee_no, without_amount}
use Rattle.td_table_model.specs.Gathering.{codes_by, line_from, lines_by, with_codes, with_lines}
use Rattle.td_table_model.specs.Looking.{movement_no}
use Rattle.td_table_model.specs.Rules.{KeepRules}
use Rattle.td_table_model.proofs.KeepingRules.{keep_rules}
use Rattle.td_table_model.proofs.Looked.{are_found}
use Rattle.td_table_model.proofs.Told.{references_tell}
use Rattle.td_store_rows.specs.StoreReads.{OnlyReadNewest}
use Rattle.td_store_rows.specs.CodeTable.{AreByCode, code_row_of as row_of_code}
use Rattle.td_store_rows.specs.declared.codes.stored.StoredCode.{StoredCode}
use Rattle.td_store_rows.specs.GuaranteeTable.{IsTheGuarantee, has_grn, has_serial, guarantee_row_of as row_of_guarantee}
use Rattle.td_store_rows.specs.KeptTable.{IsTheKept, has_kept_grn, kept_row_of}
use Rattle.td_store_rows.specs.declared.guarantees.stored.KeptGuarantee.{KeptGuarantee}
use Rattle.td_store_rows.proofs.StoreReads.{newest_keeps, newest_more_lines}
use Rattle.td_store_rows.proofs.Turned.{plain_rows}
use Rattle.td_store_rows.specs.declared.guarantees.stored.StoredGuarantee.{StoredGuarantee}
use Rattle.td_store_rows.specs.LineTable.{AreByNumber, line_row_of as row_of_line}
use Rattle.td_store_rows.specs.declared.lines.stored.StoredLine.{StoredLine}
use Rattle.td_store_rows.specs.MovementTable.{IsTheMovement, has_lrn, has_mrn, movement_row_of as row_of_movement}
use Rattle.td_store_rows.specs.declared.movements.stored.StoredMovement.{StoredMovement}
use Rattle.td_store_rows.specs.StoreTables.{HoldsContent, tables_in}
use Rattle.td_store_load.specs.Loaded.{IsOfTables, code_of}
use Rattle.td_store_load.specs.Needed.{entry_from}
use Rattle.td_store_load.proofs.Reading.{said_before}
use Rattle.td_store_load.proofs.Whole.{code_forms, codes_ascend, found_alone, grn_alone, next_code}

-- the next of codes in ascending order
pub next_put : (rows : List StoredCode) (i : ℕ) (d row : StoredCode) → i < length rows → row ≡ get_or rows i d → AreAscending (map code_of rows)
    → (have new : List (List ℕ)) → have ≡ map code_of (take i rows) → new ≡ with_code row.code have → new ≡ map code_of (take (i + 1) rows)
next_put rows i d row within is order have new before added =
    added ∙ ap₂ (λ code codes. with_code code codes) (ap code_of is ∙ sym (get_or-map code_of rows i d (code_of d) within)) (before ∙ sym (take-map code_of i rows))
    ∙ next_code (map code_of rows) i (code_of d) order (omega (arith, within, length-map rows code_of))
    ∙ ap₂ (λ l c. l ++ c ∷ []) (take-map code_of i rows) (get_or-map code_of rows i d (code_of d) within)
    ∙ sym (map-append code_of (take i rows) (get_or rows i d ∷ [])) ∙ ap (map code_of) (sym (take_more rows i d within))

-- a guarantee with its codes, and the amount in use
pub whole_entry : (a : State) (row : KeptGuarantee) (rows : List StoredCode) (codes : List (List ℕ)) → AreByCode row.holder row.serial a rows
    → (AreAscending (map code_of rows) → codes ≡ map code_of rows) → IsOfTables (λ t. entry_from t (kept_row_of row)) a (record row.guarantee { codes = codes }, row.used)
whole_entry a row rows codes order gathered content holds =
    let t : Tables = tables_in holds.trees.layout a.now.trees in
    let keep : KeepRules t = keep_rules t content holds.trees.sound holds.trees.tables in
    let found : map row_of_code rows ≡ codes_by row.holder row.serial t =
    order holds.trees.layout holds.schema holds.trees.typed.codes (code_forms t keep row.holder row.serial) (keep.stored.codes row.holder row.serial) in
    let same : map code_of rows ≡ map (λ (c : Keyed (List ℕ)). c.row) (codes_by row.holder row.serial t) =
    sym (map-map (λ (c : Keyed (List ℕ)). c.row) row_of_code rows) ∙ ap (map (λ (c : Keyed (List ℕ)). c.row)) found in
    ap (λ (l : List (List ℕ)). (record row.guarantee { codes = l }, row.used)) (gathered (subst AreAscending (sym same) (codes_ascend t keep row.holder row.serial)) ∙ same)

-- a line on the guarantee that its row names
pub line_loaded : (a : State) (row : StoredLine) (g : StoredGuarantee) → IsTheGuarantee (has_serial row.holder row.guarantee) a (Some g)
    → IsOfTables (λ t. line_from t (row_of_line row)) a (record { grn = g.guarantee.grn; cents = row.cents })
line_loaded a row g found content holds =
    ap (λ (grn : List ℕ). record { grn = grn; cents = row.cents })
    (sym (grn_alone (tables_in holds.trees.layout a.now.trees) row.holder row.guarantee (row_of_guarantee g) (found holds.trees.layout holds.trees.newest holds.schema holds.trees.typed.guarantees)))

-- one more of what rows say
pub next_of : {R X : Type 0} (f : Tables → R → X) (a b : State) (rows : List R) (i : ℕ) (d row : R) (found : List X) (x : X) → i < length rows → row ≡ get_or rows i d → OnlyReadNewest a b
    → IsOfTables (λ t. map (f t) (take i rows)) a found → IsOfTables (λ t. f t row) b x → IsOfTables (λ t. map (f t) (take (i + 1) rows)) a (found ++ x ∷ [])
next_of f a b rows i d row found x within is left before next content holds =
    let t : Tables = tables_in holds.trees.layout a.now.trees in
    ap₂ (λ l e. l ++ e ∷ []) (before content holds) (said_before (λ t. f t row) a b x left next content holds ∙ ap (f t) is)
    ∙ sym (map-append (f t) (take i rows) (get_or rows i d ∷ [])) ∙ ap (map (f t)) (sym (take_more rows i d within))

-- a movement with its lines
pub whole_movement : (a b : State) (stored : StoredMovement) (rows : List StoredLine) (lines : List Line) → AreByNumber stored.holder stored.serial a rows → OnlyReadNewest a b
    → IsOfTables (λ t. map (λ r. line_from t (row_of_line r)) rows) b lines → IsOfTables (λ t. with_lines t (row_of_movement stored)) a (record stored.movement { lines = lines })
whole_movement a b stored rows lines order still each content holds =
    let t : Tables = tables_in holds.trees.layout a.now.trees in
    let keep : KeepRules t = keep_rules t content holds.trees.sound holds.trees.tables in
    let found : map row_of_line rows ≡ lines_by stored.holder stored.serial t =
    order holds.trees.layout (newest_more_lines holds.trees.layout holds.trees.newest) holds.schema holds.trees.typed.lines
    (keep.stored.lines stored.holder stored.serial) in
    ap (λ (l : List Line). record stored.movement { lines = l })
    (said_before (λ t. map (λ r. line_from t (row_of_line r)) rows) a b lines still each content holds
    ∙ sym (map-map (line_from t) row_of_line rows) ∙ ap (map (line_from t)) found)

listed : {X Y : Type 0} (f : X → Y) (o : Option X) → map f (option_to_list o) ≡ option_to_list (option_map f o)
listed f None = refl
listed f (Some x) = refl

-- those that pass without the amounts, and with them
pub filtered : (p : Keyed Guarantee → Bool) (ks : List (Keyed Kept)) → filter p (map without_amount ks) ≡ map without_amount (filter (λ k. p (without_amount k)) ks)
filtered p [] = refl
filtered p (k ∷ ks) = by_test (p (without_amount k)) (filtered p ks)
  where
    by_test : (b : Bool) → filter p (map without_amount ks) ≡ map without_amount (filter (λ k. p (without_amount k)) ks)
        → cond b (without_amount k ∷ filter p (map without_amount ks)) (filter p (map without_amount ks))
        ≡ map without_amount (cond b (k ∷ filter (λ k. p (without_amount k)) ks) (filter (λ k. p (without_amount k)) ks))
    by_test true later = ap (λ l. without_amount k ∷ l) later
    by_test false later = later

-- what was asked for by its key and its reference is what is found by the reference
asked_by_key : {X : Type 0} (H n : ℕ) (told : Keyed X → Bool) (rows : List (Keyed X)) (o : Option (Keyed X)) → AllByRecursion (λ r. told r ≡ (r.serial == n && told r)) rows
    → IsPermutation (filter (λ r. r.holder == H && (r.serial == n && told r)) rows) (option_to_list o) → find (λ r. r.holder == H && told r) rows ≡ o
asked_by_key H n told rows o tells found =
    found_alone (λ r. r.holder == H && told r) rows o
    (subst (λ l. IsPermutation l (option_to_list o)) (sym (filter_same (λ r. r.holder == H && told r) (λ r. r.holder == H && (r.serial == n && told r)) rows
    (all_weaker (λ r. told r ≡ (r.serial == n && told r)) (λ r. (r.holder == H && told r) ≡ (r.holder == H && (r.serial == n && told r))) (λ r same. ap (λ b. r.holder == H && b) same) rows tells))) found)

module _ (a : State) (H : ℕ) (content : Content) (holds : HoldsContent content a) where
  abbrev t : Tables
  t = tables_in holds.trees.layout a.now.trees

  pub by_mrn : (country mrn : List ℕ) → content.country ≡ country → (found : Option StoredMovement) → IsTheMovement (has_mrn H (movement_no country mrn) mrn) a found
      → movement_by_mrn mrn (account_in H content).movements ≡ option_map (with_lines t) (option_map row_of_movement found)
  by_mrn country mrn at found is =
      (are_found t content holds.trees.sound holds.trees.tables H).mrns mrn
      ∙ ap (option_map (with_lines t)) (asked_by_key H (movement_no country mrn) (λ (m : Keyed Movement). bytes_eq m.row.mrn mrn) t.movements (option_map row_of_movement found)
      (subst (λ k. AllByRecursion (λ (m : Keyed Movement). bytes_eq m.row.mrn mrn ≡ (m.serial == movement_no k mrn && bytes_eq m.row.mrn mrn)) t.movements) (holds.trees.tables.country ∙ at) ((references_tell t content holds.trees.sound holds.trees.tables).1.mrns mrn))
      (subst (λ l. IsPermutation (filter (has_mrn H (movement_no country mrn) mrn) t.movements) l) (listed row_of_movement found) (is holds.trees.layout holds.schema holds.trees.typed.movements)))

  pub by_lrn : (lrn : List ℕ) (found : Option StoredMovement) → IsTheMovement (has_lrn H lrn) a found
      → movement_by_lrn lrn (account_in H content).movements ≡ option_map (with_lines t) (option_map row_of_movement found)
  by_lrn lrn found is =
      (are_found t content holds.trees.sound holds.trees.tables H).lrns lrn
      ∙ ap (option_map (with_lines t)) (found_alone (λ (m : Keyed Movement). m.holder == H && bytes_eq m.row.lrn lrn) t.movements (option_map row_of_movement found)
      (subst (λ l. IsPermutation (filter (has_lrn H lrn) t.movements) l) (listed row_of_movement found) (is holds.trees.layout holds.schema holds.trees.typed.movements)))

  pub by_grn : (country grn : List ℕ) → content.country ≡ country → (found : Option KeptGuarantee) → IsTheKept (has_kept_grn H (guarantee_no country grn) grn) a found
      → guarantee_by_grn grn (account_in H content).guarantees ≡ option_map (with_codes t) (option_map (λ k. without_amount (kept_row_of k)) found)
  by_grn country grn at found is =
      let n = guarantee_no country grn in
      let l = holds.trees.layout in
      let keeps = newest_keeps l holds.trees.newest in
      let plain : List (Keyed Guarantee) = option_to_list (option_map (λ k. without_amount (kept_row_of k)) found) in
      let rows : map without_amount (map kept_row_of (option_to_list found)) ≡ plain = map-map without_amount kept_row_of (option_to_list found) ∙ listed (λ k. without_amount (kept_row_of k)) found in
      let asked : filter (has_grn H n grn) t.guarantees ≡ map without_amount (filter (has_kept_grn H n grn) t.kept) =
      ap (filter (has_grn H n grn)) (plain_rows l a.now.trees) ∙ filtered (has_grn H n grn) t.kept in
      let those : IsPermutation (filter (has_grn H n grn) t.guarantees) plain =
      subst₂ IsPermutation (sym asked) rows (IsPermutation-map without_amount _ _ (is l keeps holds.schema (holds.trees.typed.kept keeps))) in
      (are_found t content holds.trees.sound holds.trees.tables H).grns grn
      ∙ ap (option_map (with_codes t)) (asked_by_key H n (λ (g : Keyed Guarantee). bytes_eq g.row.grn grn) t.guarantees (option_map (λ k. without_amount (kept_row_of k)) found)
      (subst (λ k. AllByRecursion (λ (g : Keyed Guarantee). bytes_eq g.row.grn grn ≡ (g.serial == guarantee_no k grn && bytes_eq g.row.grn grn)) t.guarantees) (holds.trees.tables.country ∙ at) ((references_tell t content holds.trees.sound holds.trees.tables).1.grns grn))
      those)
