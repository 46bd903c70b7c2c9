-- A guarantee with the amount in use on it, as the tables say it.
use Rattle.std.proofs.Common.{◌≡◌, ◌∙◌, ℕ, Bool, true, false, cond, List, [], ◌∷◌, map, Option, Some, None, refl, sym, ap, subst, arith, IsPermutation}
use Rattle.std.specs.Prelude.{◌==◌, filter, filter_map, option_map}
use Rattle.std.specs.List.{AllByRecursion, cons_option}
use Rattle.std.proofs.lemmas.Bool.Decides.{nat_tests}
use Rattle.sqlite_trees.proofs.ListLemmas.{all-filter, all-permutation}
use Rattle.sqlite.specs.State.{State}
use Rattle.td_guarantee.specs.declared.guarantee.Guarantee.{Guarantee}
use Rattle.td_guarantee.specs.Usage.{used_on}
use Rattle.td_movement.specs.declared.line.Line.{Line}
use Rattle.td_model.specs.Account.{Account, entry_in, guarantee_by_grn}
use Rattle.td_model.specs.Content.{Content, account_in}
use Rattle.td_table_model.specs.Tables.{Tables, guarantee_no, without_amount}
use Rattle.td_table_model.specs.Gathering.{with_codes}
use Rattle.td_table_model.specs.Laws.{IsAmountOf}
use Rattle.td_table_model.proofs.KeptAmounts.{amounts_are_use}
use Rattle.typed_sql.proofs.Ordered.{both_pass}
use Rattle.td_store_rows.specs.StoreReads.{KeepsUse}
use Rattle.td_store_rows.specs.KeptTable.{IsTheKept, has_kept_grn, kept_row_of}
use Rattle.td_store_rows.specs.declared.guarantees.stored.KeptGuarantee.{KeptGuarantee}
use Rattle.td_store_rows.specs.StoreTables.{HoldsContent, tables_in}
use Rattle.td_store_rows.proofs.StoreReads.{newest_keeps}
use Rattle.td_store_load.specs.Needed.{entry_from, with_use}
use Rattle.td_store_load.proofs.Found.{by_grn}

-- the guarantees of entries are those that the lines name
pub entries_of_lines : (account : Account) (lines : List (Line × List ℕ))
    → map (λ e. e.0) (filter_map (λ l. entry_in account l.0.grn) lines) ≡ filter_map (λ l. guarantee_by_grn l.0.grn account.guarantees) lines
entries_of_lines account [] = refl
entries_of_lines account (l ∷ lines) = by_found (guarantee_by_grn l.0.grn account.guarantees) (entries_of_lines account lines)
  where
    by_found : (o : Option Guarantee) → map (λ e. e.0) (filter_map (λ l. entry_in account l.0.grn) lines) ≡ filter_map (λ l. guarantee_by_grn l.0.grn account.guarantees) lines
        → map (λ e. e.0) (cons_option (option_map (with_use account) o) (filter_map (λ l. entry_in account l.0.grn) lines))
        ≡ cons_option o (filter_map (λ l. guarantee_by_grn l.0.grn account.guarantees) lines)
    by_found None later = later
    by_found (Some g) later = ap (λ gs. g ∷ gs) later

-- those that pass pass
pub all_pass : {X : Type 0} (p : X → Bool) (xs : List X) → AllByRecursion (λ x. p x ≡ true) (filter p xs)
all_pass p [] = tt
all_pass {X} p (x ∷ xs) = by_test (p x) refl (all_pass p xs)
  where
    by_test : (b : Bool) → p x ≡ b → AllByRecursion (λ x. p x ≡ true) (filter p xs) → AllByRecursion (λ x. p x ≡ true) (cond b (x ∷ filter p xs) (filter p xs))
    by_test true is later = (is, later)
    by_test false is later = later

module _ (a : State) (H : ℕ) (content : Content) (holds : HoldsContent content a) where
  abbrev t : Tables
  t = tables_in holds.trees.layout a.now.trees

  abbrev account : Account
  account = account_in H content

  keeps : KeepsUse holds.trees.layout
  keeps = newest_keeps holds.trees.layout holds.trees.newest

  uses : AllByRecursion (IsAmountOf content) t.kept
  uses = amounts_are_use t content holds.trees.sound holds.trees.tables keeps

  -- no guarantee has the GRN
  pub no_entry : (country grn : List ℕ) → content.country ≡ country → IsTheKept (has_kept_grn H (guarantee_no country grn) grn) a None → None ≡ entry_in account grn
  no_entry country grn at found = ap (option_map (with_use account)) (sym (by_grn a H content holds country grn at None found))

  -- the amount that the row with a GRN keeps is what is in use
  kept_use : (country grn : List ℕ) → (k : KeptGuarantee) → IsTheKept (has_kept_grn H (guarantee_no country grn) grn) a (Some k)
      → k.used ≡ used_on k.guarantee.grn account.movements
  kept_use country grn k found =
      let p = has_kept_grn H (guarantee_no country grn) grn in
      let those : IsPermutation (filter p t.kept) (kept_row_of k ∷ []) = found holds.trees.layout keeps holds.schema (holds.trees.typed.kept keeps) in
      let amount : IsAmountOf content (kept_row_of k) = (all-permutation (IsAmountOf content) _ _ those (all-filter (IsAmountOf content) p t.kept uses)).0 in
      let passes : p (kept_row_of k) ≡ true = (all-permutation (λ x. p x ≡ true) _ _ those (all_pass p t.kept)).0 in
      let own : k.holder ≡ H = grind (arith, nat_tests, (both_pass (k.holder == H) _ passes).0) in
      subst (λ n. k.used ≡ used_on k.guarantee.grn (account_in n content).movements) own amount

  -- the guarantee with a GRN, and the amount in use on it
  pub entry_is : (country grn : List ℕ) → content.country ≡ country → (k : KeptGuarantee) → IsTheKept (has_kept_grn H (guarantee_no country grn) grn) a (Some k)
      → Some (entry_from t (kept_row_of k)) ≡ entry_in account grn
  entry_is country grn at k found =
      ap (λ n. Some (with_codes t (without_amount (kept_row_of k)), n)) (kept_use country grn k found)
      ∙ ap (option_map (with_use account)) (sym (by_grn a H content holds country grn at (Some k) found))
