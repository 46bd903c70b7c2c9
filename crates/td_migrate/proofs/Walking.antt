-- The rows of a table of the older layout put into the one that a step made: a holder's range by range, and holder by holder.
use Rattle.std.proofs.Common.{◌≡◌, ◌∙◌, ◌<◌, ◌≤◌, ℕ, List, [], ◌++◌, map, Option, Some, None, refl, sym, ap, subst, arith, true, IsPermutation}
use Rattle.std.specs.Prelude.{filter}
use Rattle.std.specs.List.{AllByRecursion}
use Rattle.std.proofs.lemmas.List.{map-append}
use Rattle.std.proofs.lemmas.List.Sorted.{IsPermutation-append_right, IsPermutation-map, IsPermutation-sym, IsPermutation-trans}
use Rattle.sqlite_trees.specs.Tree.{Trees}
use Rattle.sqlite.specs.Effect.{Database}
use Rattle.sqlite.specs.State.{State, HasCleanDisk}
use Rattle.td_table_model.specs.Tables.{Keyed}
use Rattle.td_schema.specs.Layouts.{grown, schema_of}
use Rattle.td_schema.specs.declared.layout.Layout.{Layout}
use Rattle.typed_sql.proofs.OnlyRead.{stays_on}
use Rattle.typed_sql.specs.Reading.{HasOnlyRead, StaysInside}
use Rattle.typed_sql.specs.Typed.{AreTyped, Typing, row_of, typed_rows}
use Rattle.typed_sql.specs.Writing.{AreOthersKept}
use Rattle.td_store_rows.specs.Columns.{holder_typing}
use Rattle.td_store_rows.specs.Places.{is_within}
use Rattle.td_store_rows.specs.StoreReads.{ReadsIn, ReadsStore}
use Rattle.td_store_audit_rows.specs.NextHolder.{ComesNext, HasLeastAbove, IsNextHolder, is_above}
use Rattle.td_store_audit_rows.specs.declared.holders.RawHolder.{RawHolder}
use Rattle.td_migrate.specs.Put.{AreOlderWithin, ArePut, IsAnyFile, IsGrownFrom, KeepTheRules, Puts}
use Rattle.td_migrate.proofs.Placed.{numbers_there, rows_in}
use Rattle.td_migrate.proofs.Putting.{HasPut, put_both, put_permuted, typed_still}
use Rattle.td_migrate.proofs.Split.{IsPlacedBy, holders_join, is_upto, ranges_join}

-- the trees of the table that is read, and of the holders, are others than the one that is written
pub record AreBeside {R : Type 0} (src : Typing R) (a b : Trees) : Type 0 where
  pub source : b src.table.tree ≡ a src.table.tree
  pub holders : b holder_typing.table.tree ≡ a holder_typing.table.tree

module _ {R Made : Type 0} (At : Layout → Type 0) (src : Layout → Typing (Keyed R)) (ty : Layout → Typing Made)
    (beside : (l : Layout) → At l → (x y : Trees) → AreOthersKept (schema_of (grown l)) (ty (grown l)).table.tree x y → AreBeside (src l) x y) where
  -- one range more of a holder's rows
  module _ (f : Keyed R → Made) (H : ℕ) where
    abbrev pub IsRead : Layout → Trees → Type 0
    IsRead l x = AreTyped (src l) x

    abbrev pub below : ℕ → Layout → Trees → List Made
    below end l x = map f (filter (is_within H 0 end) (typed_rows (src l) x))

    pub range_put : (first next : ℕ) → first ≤ next → (found : List (Keyed R)) (a b m d : State) → HasPut At ty IsRead (below first) a b
        → ReadsIn (IsGrownFrom At) true b m → (HasCleanDisk m → AreOlderWithin At src H first next b found) → StaysInside true m d
        → (HasCleanDisk d → Puts At ty IsAnyFile (λ l x. map f found) m d) → HasPut At ty IsRead (below next) a d
    range_put first next up found a b m d put reads finds within puts = record {
      within = stays_on put.within (stays_on reads.within within);
      put = λ clean l at has typed read_typed.
          let clean_m : HasCleanDisk m = omega (arith, clean, within.survives.clean) in
          let clean_b : HasCleanDisk b = omega (arith, clean_m, reads.within.survives.clean) in
          let s = schema_of (grown l) in
          let one : ArePut (ty (grown l)) s (below first l a.now.trees) a.now b.now = put.put clean_b l at has typed read_typed in
          let read : HasOnlyRead b m = reads.still clean_m refl (grown l) (l, at, refl) (λ _. one.schema) in
          let tree = (beside l at a.now.trees b.now.trees one.others).source in
          let rows : List (Keyed R) = typed_rows (src l) a.now.trees in
          let those : IsPermutation (filter (is_within H first next) (typed_rows (src l) b.now.trees)) found =
          finds clean_m l at (λ _. one.schema) (typed_still (src l) a.now.trees b.now.trees tree read_typed) in
          let here : IsPermutation (filter (is_within H first next) rows) found =
          subst (λ k. IsPermutation (filter (is_within H first next) (map (row_of (src l)) k)) found) tree those in
          let two : ArePut (ty (grown l)) s (map f found) b.now d.now =
          subst (λ (x : Database). ArePut (ty (grown l)) s (map f found) x d.now) read.now_is
          (puts clean l at (ap (λ (x : Database). x.schema) read.now_is ∙ one.schema) (subst (λ (x : Database). AreTyped (ty (grown l)) x.trees) (sym read.now_is) one.typed) tt) in
          let before : List (Keyed R) = filter (is_within H 0 first) rows in
          let joined : IsPermutation (before ++ found) (filter (is_within H 0 next) rows) =
          IsPermutation-trans _ _ _ (IsPermutation-append_right before found (filter (is_within H first next) rows) (IsPermutation-sym _ _ here)) (ranges_join H first next up rows) in
          put_permuted (ty (grown l)) s (map f before ++ map f found) (below next l a.now.trees) a.now d.now
          (subst (λ k. IsPermutation k (below next l a.now.trees)) (map-append f before found) (IsPermutation-map f (before ++ found) (filter (is_within H 0 next) rows) joined))
          (put_both (ty (grown l)) s (map f before) (map f found) a.now b.now d.now one two);
    }

  -- the holders one after another
  module _ (f : Trees → Keyed R → Made)
      (f_still : (l : Layout) → At l → (x y : Trees) → AreOthersKept (schema_of (grown l)) (ty (grown l)).table.tree x y → (rows : List (Keyed R)) → map (f y) rows ≡ map (f x) rows) where
    abbrev pub upto : ℕ → Layout → Trees → List Made
    upto number l x = map (f x) (filter (is_upto number) (typed_rows (src l) x))

    abbrev pub of_holder : ℕ → ℕ → Layout → Trees → List Made
    of_holder H end l x = map (f x) (filter (is_within H 0 end) (typed_rows (src l) x))

    -- the next holder is found
    next_there : (number : ℕ) (found : Option RawHolder) (a b m : State) (l : Layout) → At l → HasPut At ty KeepTheRules (upto number) a b
        → HasCleanDisk b → a.now.schema ≡ schema_of (grown l) → AreTyped (ty (grown l)) a.now.trees → KeepTheRules l a.now.trees
        → IsNextHolder number b found → ComesNext number (rows_in a.now.trees) found
    next_there number found a b m l at put clean has typed keep next =
        let one = put.put clean l at has typed keep in
        let tree = (beside l at a.now.trees b.now.trees one.others).holders in
        subst (λ rows. ComesNext number rows found) tree
        (next (grown l) (λ _. one.schema) (numbers_there b.now.trees (typed_still holder_typing a.now.trees b.now.trees tree keep.typed.holders)))

    -- and the holder's rows are put
    pub holder_put : (Q : Layout → Trees → Type 0) (number end : ℕ) (raw : RawHolder) → number < raw.holder → (a b m d : State)
        → ((l : Layout) → At l → (x y : Trees) → AreOthersKept (schema_of (grown l)) (ty (grown l)).table.tree x y → KeepTheRules l x
        → HasLeastAbove number (rows_in x) raw → Q l y × AllByRecursion (IsPlacedBy number raw.holder end) (typed_rows (src l) x))
        → HasPut At ty KeepTheRules (upto number) a b → ReadsStore true b m → (HasCleanDisk m → IsNextHolder number b (Some raw)) → StaysInside true m d
        → (HasCleanDisk d → Puts At ty Q (of_holder raw.holder end) m d) → HasPut At ty KeepTheRules (upto raw.holder) a d
    holder_put Q number end raw above a b m d asks put reads finds within puts = record {
      within = stays_on put.within (stays_on reads.within within);
      put = λ clean l at has typed keep.
          let clean_m : HasCleanDisk m = omega (arith, clean, within.survives.clean) in
          let clean_b : HasCleanDisk b = omega (arith, clean_m, reads.within.survives.clean) in
          let s = schema_of (grown l) in
          let one : ArePut (ty (grown l)) s (upto number l a.now.trees) a.now b.now = put.put clean_b l at has typed keep in
          let read : HasOnlyRead b m = reads.still clean_m refl (grown l) tt (λ _. one.schema) in
          let rows : List (Keyed R) = typed_rows (src l) a.now.trees in
          let next : HasLeastAbove number (rows_in a.now.trees) raw = next_there number (Some raw) a b m l at put clean_b has typed keep (finds clean_m) in
          let asked = asks l at a.now.trees b.now.trees one.others keep next in
          let here : List (Keyed R) = filter (is_within raw.holder 0 end) rows in
          let same : of_holder raw.holder end l b.now.trees ≡ map (f a.now.trees) here =
          f_still l at a.now.trees b.now.trees one.others (filter (is_within raw.holder 0 end) (typed_rows (src l) b.now.trees))
          ∙ ap (λ k. map (f a.now.trees) (filter (is_within raw.holder 0 end) (map (row_of (src l)) k))) (beside l at a.now.trees b.now.trees one.others).source in
          let two : ArePut (ty (grown l)) s (map (f a.now.trees) here) b.now d.now =
          subst (λ k. ArePut (ty (grown l)) s k b.now d.now) same
          (subst (λ (x : Database). ArePut (ty (grown l)) s (of_holder raw.holder end l x.trees) x d.now) read.now_is
          (puts clean l at (ap (λ (x : Database). x.schema) read.now_is ∙ one.schema) (subst (λ (x : Database). AreTyped (ty (grown l)) x.trees) (sym read.now_is) one.typed)
          (subst (λ (x : Database). Q l x.trees) (sym read.now_is) asked.0))) in
          let before : List (Keyed R) = filter (is_upto number) rows in
          put_permuted (ty (grown l)) s (map (f a.now.trees) before ++ map (f a.now.trees) here) (upto raw.holder l a.now.trees) a.now d.now
          (subst (λ k. IsPermutation k (upto raw.holder l a.now.trees)) (map-append (f a.now.trees) before here)
          (IsPermutation-map (f a.now.trees) (before ++ here) (filter (is_upto raw.holder) rows) (holders_join number raw.holder end above rows asked.1)))
          (put_both (ty (grown l)) s (map (f a.now.trees) before) (map (f a.now.trees) here) a.now b.now d.now one two);
    }

    -- there is none more
    pub all_put : (number : ℕ) (a b m : State)
        → ((l : Layout) → At l → (x : Trees) → KeepTheRules l x → filter (is_above number) (rows_in x) ≡ [] → filter (is_upto number) (typed_rows (src l) x) ≡ typed_rows (src l) x)
        → HasPut At ty KeepTheRules (upto number) a b → ReadsStore true b m → (HasCleanDisk m → IsNextHolder number b None)
        → HasCleanDisk m → Puts At ty KeepTheRules (λ l x. map (f x) (typed_rows (src l) x)) a m
    all_put number a b m all put reads finds clean l at has typed keep =
        let clean_b : HasCleanDisk b = omega (arith, clean, reads.within.survives.clean) in
        let s = schema_of (grown l) in
        let one : ArePut (ty (grown l)) s (upto number l a.now.trees) a.now b.now = put.put clean_b l at has typed keep in
        let read : HasOnlyRead b m = reads.still clean refl (grown l) tt (λ _. one.schema) in
        let none : filter (is_above number) (rows_in a.now.trees) ≡ [] = next_there number None a b m l at put clean_b has typed keep (finds clean) in
        subst (λ (x : Database). ArePut (ty (grown l)) s (map (f a.now.trees) (typed_rows (src l) a.now.trees)) a.now x) (sym read.now_is)
        (subst (λ k. ArePut (ty (grown l)) s (map (f a.now.trees) k) a.now b.now) (all l at a.now.trees keep none) one)
