-- The rows of all holders of one content, put into the tables of another that has none of these holders.
use Rattle.std.proofs.Common.{◌≡◌, ◌∙◌, true, List, ◌++◌, map, flat_map, Some, None, sym, ap, subst, IsPermutation}
use Rattle.std.specs.Prelude.{filter, is_some}
use Rattle.std.specs.List.{AllByRecursion}
use Rattle.std.proofs.lemmas.List.{map-append}
use Rattle.std.proofs.lemmas.List.Concat.{flat_map-append}
use Rattle.std.proofs.lemmas.List.Sorted.{IsPermutation-append, IsPermutation-map, IsPermutation-sym, IsPermutation-trans}
use Rattle.sqlite_trees.proofs.ListLemmas.{IsPermutation-flat_map, all-flat_map, all-map, all-permutation, all_weaker, filter_all}
use Rattle.keyed_rows.specs.Rows.{row_at}
use Rattle.td_model.specs.declared.holder_row.HolderRow.{HolderRow}
use Rattle.td_model.specs.Account.{HolderRows, holder_key}
use Rattle.td_model.specs.Content.{Content, IsSound}
use Rattle.td_table_model.specs.Gathering.{owner}
use Rattle.td_table_model.specs.Tables.{AreTablesOf, KeepAmounts, Keyed, Tables, code_rows_of, guarantees_in, kept_in, line_rows_of, movements_in, without_amount}
use Rattle.td_table_model.proofs.Orders.{each_found}
use Rattle.td_table_model.proofs.Owned.{owned_codes, owned_kept, owned_lines, owned_movements}
use Rattle.td_extract.specs.Between.{is_between}
use Rattle.td_extract.specs.Copied.{of_holders, with_rows}
use Rattle.td_join.specs.Joined.{AreApart, joined}
use Rattle.td_join.proofs.Contents.{numbers}
use Rattle.td_join.proofs.Put.{put_permuted}

-- the rows of the holders with the numbers that a holder may have are all rows
module _ (c : Content) (sound : IsSound c) where
  all_holders : (rows : List HolderRow) → IsPermutation (map (λ (h : HolderRows). h.row) c.holders) rows
      → filter (λ (h : HolderRow). is_between 1 999999 h.holder) rows ≡ rows
  all_holders rows are =
      filter_all (λ (h : HolderRow). is_between 1 999999 h.holder) rows
      (all-permutation (λ (h : HolderRow). is_between 1 999999 h.holder ≡ true) (map (λ (h : HolderRows). h.row) c.holders) rows are
      (all-map (λ (h : HolderRow). is_between 1 999999 h.holder ≡ true) (λ (h : HolderRows). h.row) c.holders (numbers c sound)))

  all_rows : {X : Type 0} (f : HolderRows → List (Keyed X)) → ((h : HolderRows) → AllByRecursion (λ x. owner x ≡ holder_key h) (f h)) → (rows : List (Keyed X))
      → IsPermutation (flat_map f c.holders) rows → filter (λ r. is_between 1 999999 (owner r)) rows ≡ rows
  all_rows f owned rows are =
      filter_all (λ r. is_between 1 999999 (owner r)) rows
      (all-permutation (λ r. is_between 1 999999 (owner r) ≡ true) (flat_map f c.holders) rows are
      (all-flat_map (λ r. is_between 1 999999 (owner r) ≡ true) f c.holders
      (all_weaker (λ h. is_between 1 999999 (holder_key h) ≡ true) (λ h. AllByRecursion (λ r. is_between 1 999999 (owner r) ≡ true) (f h))
      (λ h is. all_weaker (λ r. owner r ≡ holder_key h) (λ r. is_between 1 999999 (owner r) ≡ true) (λ r own. ap (is_between 1 999999) own ∙ is) (f h) (owned h)) c.holders (numbers c sound))))

module _ (c d : Content) (country : c.country ≡ d.country) (sound : IsSound c) (apart : AreApart c d) where
  -- the holders of both are those of the first and those of the second
  both_permuted : IsPermutation (c.holders ++ d.holders) (joined c d).holders
  both_permuted =
      put_permuted 0 c.holders d.holders sound.order
      (all_weaker (λ h. row_at holder_key (holder_key h) c.holders ≡ Some h) (λ h. row_at holder_key (holder_key h) d.holders ≡ None)
      (λ h found. apart (holder_key h) (ap is_some found)) c.holders (each_found holder_key 0 c.holders sound.order))

  -- so are the rows that they have in a table
  in_table : {X : Type 0} (f : HolderRows → List X) (xs ys : List X) → IsPermutation (flat_map f c.holders) xs → IsPermutation (flat_map f d.holders) ys
      → IsPermutation (flat_map f (joined c d).holders) (xs ++ ys)
  in_table f xs ys first second =
      IsPermutation-trans _ _ _ (IsPermutation-sym _ _ (IsPermutation-flat_map f (c.holders ++ d.holders) (joined c d).holders both_permuted))
      (subst (λ l. IsPermutation l (xs ++ ys)) (sym (flat_map-append f c.holders d.holders))
      (IsPermutation-append (flat_map f c.holders) xs (flat_map f d.holders) ys first second))

  in_holders : (xs ys : List HolderRow) → IsPermutation (map (λ (h : HolderRows). h.row) c.holders) xs → IsPermutation (map (λ (h : HolderRows). h.row) d.holders) ys
      → IsPermutation (map (λ (h : HolderRows). h.row) (joined c d).holders) (xs ++ ys)
  in_holders xs ys first second =
      IsPermutation-trans _ _ _ (IsPermutation-sym _ _ (IsPermutation-map (λ (h : HolderRows). h.row) (c.holders ++ d.holders) (joined c d).holders both_permuted))
      (subst (λ l. IsPermutation l (xs ++ ys)) (sym (map-append (λ (h : HolderRows). h.row) c.holders d.holders))
      (IsPermutation-append (map (λ (h : HolderRows). h.row) c.holders) xs (map (λ (h : HolderRows). h.row) d.holders) ys first second))

  -- the rows of tables of the first, put into tables of the second, make tables of both
  module _ (t u : Tables) (first : AreTablesOf t c) (keeps : KeepAmounts t) (plain : t.guarantees ≡ map without_amount t.kept) (second : AreTablesOf u d) where
    all_kept : (of_holders 1 999999 t).kept ≡ t.kept
    all_kept = all_rows c sound kept_in owned_kept t.kept (first.kept keeps)

    pub beside : AreTablesOf (with_rows (of_holders 1 999999 t) u) (joined c d)
    beside = record {
      country = second.country;
      holders = in_holders (of_holders 1 999999 t).holders u.holders
          (subst (IsPermutation (map (λ (h : HolderRows). h.row) c.holders)) (sym (all_holders c sound t.holders first.holders)) first.holders) second.holders;
      guarantees = in_table guarantees_in (map without_amount (of_holders 1 999999 t).kept) u.guarantees
          (subst (IsPermutation (flat_map guarantees_in c.holders)) (plain ∙ sym (ap (map without_amount) all_kept)) first.guarantees) second.guarantees;
      kept = λ keep. in_table kept_in (of_holders 1 999999 t).kept u.kept
          (subst (IsPermutation (flat_map kept_in c.holders)) (sym all_kept) (first.kept keeps)) (second.kept keep);
      codes = in_table code_rows_of (of_holders 1 999999 t).codes u.codes
          (subst (IsPermutation (flat_map code_rows_of c.holders)) (sym (all_rows c sound code_rows_of owned_codes t.codes first.codes)) first.codes) second.codes;
      movements = in_table movements_in (of_holders 1 999999 t).movements u.movements
          (subst (IsPermutation (flat_map movements_in c.holders)) (sym (all_rows c sound movements_in owned_movements t.movements first.movements)) first.movements) second.movements;
      lines = in_table (line_rows_of d.country) (of_holders 1 999999 t).lines u.lines
          (subst (λ k. IsPermutation (flat_map (line_rows_of k) c.holders) (of_holders 1 999999 t).lines) country
          (subst (IsPermutation (flat_map (line_rows_of c.country) c.holders))
          (sym (all_rows c sound (line_rows_of c.country) (owned_lines c.country) t.lines first.lines)) first.lines)) second.lines;
    }
