-- A table after a change of one holder's rows: the rows that the content has in it afterwards.
use Rattle.std.proofs.Common.{◌≡◌, ◌≢◌, ℕ, Bool, true, cond, List, [], ◌∷◌, ◌++◌, map, filter, flat_map, Option, refl, sym, ◌∙◌, ap, subst, IsPermutation}
use Rattle.std.specs.List.{AllByRecursion}
use Rattle.std.specs.Option.{option_map_or}
use Rattle.std.proofs.lemmas.List.Concat.{flat_map_single}
use Rattle.std.proofs.lemmas.List.Sorted.{IsPermutation-sym, IsPermutation-map, IsPermutation-trans, IsPermutation-append_right}
use Rattle.sqlite_trees.proofs.ListLemmas.{filter_as_flat_map, flat_map-one, IsPermutation-same, IsPermutation-filter}
use Rattle.keyed_rows.specs.Rows.{row_at, Rises, put_row}
use Rattle.td_model.specs.Account.{HolderRows, holder_key}
use Rattle.td_model.specs.Content.{Content}
use Rattle.td_table_model.specs.Tables.{Tables, AreTablesOf, KeepAmounts}
use Rattle.td_table_model.specs.Changes.{HaveSameRows}
use Rattle.td_table_model.proofs.Edits.{put_in_table}

-- tables with the same rows are tables of the same content
pub same_tables : (t new : Tables) (c : Content) → AreTablesOf t c → HaveSameRows t new → AreTablesOf new c
same_tables t new c are same = record {
  country = same.country ∙ are.country;
  holders = IsPermutation-trans _ _ _ are.holders same.holders;
  guarantees = IsPermutation-trans _ _ _ are.guarantees same.guarantees;
  kept = λ keep. let kept : KeepAmounts t = rw (← same.version) keep in IsPermutation-trans _ _ _ (are.kept kept) (same.kept kept);
  codes = IsPermutation-trans _ _ _ are.codes same.codes;
  movements = IsPermutation-trans _ _ _ are.movements same.movements;
  lines = IsPermutation-trans _ _ _ are.lines same.lines;
}

-- rows w of the number H in the place of what stood there
module _ {X : Type 0} (own : X → ℕ) (f : HolderRows → List X) (owned : (h : HolderRows) → AllByRecursion (λ x. own x ≡ holder_key h) (f h))
    (hs : List HolderRows) (order : Rises holder_key 0 hs) (H : ℕ) (before : Option HolderRows) (found : row_at holder_key H hs ≡ before) (w : HolderRows) (number : holder_key w ≡ H)
    (old : List X) (are : IsPermutation (flat_map f hs) old) where
  -- the rows of H in the table
  abbrev pub mine : List X
  mine = option_map_or f before []

  mine_is : option_map_or f (row_at holder_key (holder_key w) hs) [] ≡ mine
  mine_is = ap (λ n. option_map_or f (row_at holder_key n hs) []) number ∙ ap (λ o. option_map_or f o []) found

  -- where rows are put to the table
  pub rows_put : (e : List X) → IsPermutation (e ++ mine) (f w) → IsPermutation (flat_map f (put_row holder_key w hs)) (e ++ old)
  rows_put e same =
      let go : IsPermutation (e ++ flat_map (λ x. x ∷ []) (flat_map f hs)) (flat_map f (put_row holder_key w hs)) =
      put_in_table holder_key own f owned (λ x. x ∷ []) w (λ x other. refl) e 0 hs order (subst (λ l. IsPermutation (e ++ l) (f w)) (sym (flat_map-one (option_map_or f (row_at holder_key (holder_key w) hs) []) ∙ mine_is)) same) in
      IsPermutation-trans _ _ _ (IsPermutation-sym _ _ (rw (flat_map-one (flat_map f hs)) at go)) (IsPermutation-append_right e _ _ are)

  -- where they stay as they are
  pub rows_stay : mine ≡ f w → IsPermutation (flat_map f (put_row holder_key w hs)) old
  rows_stay same = rows_put [] (IsPermutation-same _ _ same)

  -- where some are set anew
  pub rows_set : (u : X → X) → ((x : X) → own x ≢ H → u x ≡ x) → map u mine ≡ f w → IsPermutation (flat_map f (put_row holder_key w hs)) (map u old)
  rows_set u spares same =
      let go : IsPermutation (flat_map (λ x. u x ∷ []) (flat_map f hs)) (flat_map f (put_row holder_key w hs)) =
      put_in_table holder_key own f owned (λ x. u x ∷ []) w (λ x other. ap (λ y. y ∷ []) (spares x (λ e. other (e ∙ sym number)))) [] 0 hs order
      (IsPermutation-same _ _ (flat_map_single u (option_map_or f (row_at holder_key (holder_key w) hs) []) ∙ ap (map u) mine_is ∙ same)) in
      IsPermutation-trans _ _ _ (IsPermutation-sym _ _ (rw (flat_map_single u (flat_map f hs)) at go)) (IsPermutation-map u _ _ are)

  -- where some are taken from the table
  pub rows_left : (p : X → Bool) → ((x : X) → own x ≢ H → p x ≡ true) → filter p mine ≡ f w → IsPermutation (flat_map f (put_row holder_key w hs)) (filter p old)
  rows_left p spares same =
      let go : IsPermutation (flat_map (λ x. cond (p x) (x ∷ []) []) (flat_map f hs)) (flat_map f (put_row holder_key w hs)) =
      put_in_table holder_key own f owned (λ x. cond (p x) (x ∷ []) []) w (λ x other. ap (λ b. cond b (x ∷ []) []) (spares x (λ e. other (e ∙ sym number)))) [] 0 hs order
      (IsPermutation-same _ _ (sym (filter_as_flat_map p (option_map_or f (row_at holder_key (holder_key w) hs) [])) ∙ ap (filter p) mine_is ∙ same)) in
      IsPermutation-trans _ _ _ (IsPermutation-sym _ _ (rw (← filter_as_flat_map p (flat_map f hs)) at go)) (IsPermutation-filter p _ _ are)
