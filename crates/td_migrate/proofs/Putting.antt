-- Rows put one after another into the table that a step makes.
use Rattle.std.proofs.Common.{◌≡◌, ◌≢◌, ◌∙◌, List, [], ◌∷◌, ◌++◌, refl, sym, subst, arith, true, IsPermutation}
use Rattle.std.proofs.lemmas.List.{append_assoc}
use Rattle.std.proofs.lemmas.List.Sorted.{IsPermutation-append_comm, IsPermutation-append_left, IsPermutation-append_right, IsPermutation-refl, IsPermutation-sym, IsPermutation-trans}
use Rattle.std.specs.List.{AllByRecursion}
use Rattle.std.specs.Prelude.{ℕ}
use Rattle.sqlite.specs.Effect.{Database}
use Rattle.sqlite.specs.State.{State, HasCleanDisk}
use Rattle.sqlite_schema.specs.declared.schema.Schema.{Schema}
use Rattle.sqlite_schema.specs.declared.schema.Table.{Table}
use Rattle.sqlite_trees.specs.Tree.{Trees}
use Rattle.td_schema.specs.Layouts.{grown, schema_of}
use Rattle.td_schema.specs.declared.layout.Layout.{Layout}
use Rattle.typed_sql.proofs.OnlyRead.{stays_nothing, stays_on}
use Rattle.typed_sql.specs.Reading.{HasOnlyRead, StaysInside}
use Rattle.typed_sql.specs.Typed.{AreTyped, HasNow, IsTypedRow, Typing, typed_rows}
use Rattle.typed_sql.specs.Writing.{AreOthersKept, HaveIds}
use Rattle.td_store_rows.specs.StoreReads.{ReadsIn}
use Rattle.td_migrate.specs.Put.{ArePut, IsGrownFrom, Puts}

-- a table whose tree is as it was is typed as before
pub typed_still : {R : Type 0} (ty : Typing R) (old new : Trees) → new ty.table.tree ≡ old ty.table.tree → AreTyped ty old → AreTyped ty new
typed_still ty old new is typed = record {
  ids = subst HaveIds (sym is) typed.ids;
  cells = subst (AllByRecursion (IsTypedRow ty)) (sym is) typed.cells;
}

others_kept : (tables : List Table) (tree : ℕ) (a b d : Trees) → AllByRecursion (λ u. u.tree ≢ tree → b u.tree ≡ a u.tree) tables
    → AllByRecursion (λ u. u.tree ≢ tree → d u.tree ≡ b u.tree) tables → AllByRecursion (λ u. u.tree ≢ tree → d u.tree ≡ a u.tree) tables
others_kept [] tree a b d one two = tt
others_kept (u ∷ tables) tree a b d one two = (λ other. two.0 other ∙ one.0 other, others_kept tables tree a b d one.1 two.1)

others_same : (tables : List Table) (tree : ℕ) (a : Trees) → AllByRecursion (λ u. u.tree ≢ tree → a u.tree ≡ a u.tree) tables
others_same [] tree a = tt
others_same (u ∷ tables) tree a = (λ other. refl, others_same tables tree a)

module _ {R : Type 0} (ty : Typing R) (s : Schema) where
  -- nothing was put
  pub none_put : (a : Database) → a.schema ≡ s → AreTyped ty a.trees → ArePut ty s [] a a
  none_put a has typed = record {
    same = IsPermutation-refl (typed_rows ty a.trees);
    typed = typed;
    others = others_same s.tables ty.table.tree a.trees;
    schema = has;
  }

  -- those rows, in any order
  pub put_permuted : (rows other : List R) (a b : Database) → IsPermutation rows other → ArePut ty s rows a b → ArePut ty s other a b
  put_permuted rows other a b same put = record {
    same = IsPermutation-trans _ _ _ (IsPermutation-append_left (typed_rows ty a.trees) other rows (IsPermutation-sym rows other same)) put.same;
    typed = put.typed;
    others = put.others;
    schema = put.schema;
  }

  -- rows, and then others
  pub put_both : (first second : List R) (a b d : Database) → ArePut ty s first a b → ArePut ty s second b d → ArePut ty s (first ++ second) a d
  put_both first second a b d one two =
      let there : List R = typed_rows ty a.trees in
      let turned : IsPermutation ((first ++ second) ++ there) ((second ++ first) ++ there) =
      IsPermutation-append_left there (first ++ second) (second ++ first) (IsPermutation-append_comm first second) in
      let behind : IsPermutation ((first ++ second) ++ there) (second ++ (first ++ there)) =
      subst (IsPermutation ((first ++ second) ++ there)) (append_assoc second first there) turned in
      record {
        same = IsPermutation-trans _ _ _ behind (IsPermutation-trans _ _ _ (IsPermutation-append_right second (first ++ there) (typed_rows ty b.trees) one.same) two.same);
        typed = two.typed;
        others = others_kept s.tables ty.table.tree a.trees b.trees d.trees one.others two.others;
        schema = two.schema;
      }

  -- one, by a statement
  pub one_put : (row : R) (a d : Database) → HasNow ty s (row ∷ typed_rows ty a.trees) a d → ArePut ty s (row ∷ []) a d
  one_put row a d now = record { same = now.same; typed = now.typed; others = now.others; schema = now.schema }

module _ {R : Type 0} (At : Layout → Type 0) (ty : Layout → Typing R) where
  -- calls of one transaction that put those rows
  pub record HasPut (Q : Layout → Trees → Type 0) (rows : Layout → Trees → List R) (old new : State) : Type 0 where
    pub within : StaysInside true old new
    pub put : HasCleanDisk new → Puts At ty Q rows old new

  -- no call
  pub nothing_put : (Q : Layout → Trees → Type 0) (rows : Layout → Trees → List R) (a : State)
      → ((l : Layout) → At l → (x : Trees) → Q l x → rows l x ≡ []) → HasPut Q rows a a
  nothing_put Q rows a none = record {
    within = stays_nothing;
    put = λ clean l at has typed q.
        subst (λ k. ArePut (ty (grown l)) (schema_of (grown l)) k a.now a.now) (sym (none l at a.now.trees q)) (none_put (ty (grown l)) (schema_of (grown l)) a.now has typed);
  }

  -- calls that only read
  pub put_read : (Q : Layout → Trees → Type 0) (rows : Layout → Trees → List R) (a b d : State) → HasPut Q rows a b → ReadsIn (IsGrownFrom At) true b d → HasPut Q rows a d
  put_read Q rows a b d first reads = record {
    within = stays_on first.within reads.within;
    put = λ clean l at has typed q.
        let clean_b : HasCleanDisk b = omega (arith, clean, reads.within.survives.clean) in
        let one = first.put clean_b l at has typed q in
        let read : HasOnlyRead b d = reads.still clean refl (grown l) (l, at, refl) (λ _. one.schema) in
        subst (λ (x : Database). ArePut (ty (grown l)) (schema_of (grown l)) (rows l a.now.trees) a.now x) (sym read.now_is) one;
  }

  -- calls that put others
  pub put_then : (Q Q2 : Layout → Trees → Type 0) (rows more : Layout → Trees → List R) (a b d : State)
      → ((l : Layout) → At l → (x y : Trees) → AreOthersKept (schema_of (grown l)) (ty (grown l)).table.tree x y → Q l x → Q2 l y × (more l y ≡ more l x))
      → HasPut Q rows a b → StaysInside true b d → (HasCleanDisk d → Puts At ty Q2 more b d) → HasPut Q (λ l x. rows l x ++ more l x) a d
  put_then Q Q2 rows more a b d still first within puts = record {
    within = stays_on first.within within;
    put = λ clean l at has typed q.
        let clean_b : HasCleanDisk b = omega (arith, clean, within.survives.clean) in
        let one = first.put clean_b l at has typed q in
        let there = still l at a.now.trees b.now.trees one.others q in
        put_both (ty (grown l)) (schema_of (grown l)) (rows l a.now.trees) (more l a.now.trees) a.now b.now d.now one
        (subst (λ k. ArePut (ty (grown l)) (schema_of (grown l)) k b.now d.now) there.1 (puts clean l at one.schema one.typed there.0));
  }

  -- the rows said otherwise
  pub put_as : (Q Q2 : Layout → Trees → Type 0) (rows other : Layout → Trees → List R) (a b : State)
      → ((l : Layout) → At l → (x : Trees) → Q2 l x → Q l x × IsPermutation (rows l x) (other l x)) → HasPut Q rows a b → HasPut Q2 other a b
  put_as Q Q2 rows other a b so put = record {
    within = put.within;
    put = λ clean l at has typed q.
        let it = so l at a.now.trees q in
        put_permuted (ty (grown l)) (schema_of (grown l)) (rows l a.now.trees) (other l a.now.trees) a.now b.now it.1 (put.put clean l at has typed it.0);
  }
