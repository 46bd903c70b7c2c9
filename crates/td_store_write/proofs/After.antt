-- What the statements of a change wrote inside a transaction, and what is there when it is committed.
use Rattle.std.proofs.Common.{◌≡◌, ◌∙◌, ℕ, List, [], ◌∷◌, Option, Some, None, ap, refl, sym, subst}
use Rattle.std.specs.Prelude.{IsTrue}
use Rattle.sqlite_trees.specs.Tree.{Trees}
use Rattle.sqlite.specs.Effect.{Database}
use Rattle.sqlite.specs.State.{State}
use Rattle.td_model.specs.declared.holder_row.HolderRow.{HolderRow}
use Rattle.td_model.specs.declared.change.Change.{Change}
use Rattle.td_model.specs.Changes.{row_in}
use Rattle.td_model.specs.Content.{Content, content_after, content_after_row, IsSound}
use Rattle.td_table_model.specs.Tables.{AreTablesOf}
use Rattle.td_table_model.specs.Changes.{HaveSameRows, tables_after}
use Rattle.td_store_write.proofs.Decided.{decisions_are_written}
use Rattle.td_table_model.proofs.Told.{references_tell}
use Rattle.td_schema.specs.Layouts.{newest_version}
use Rattle.td_schema.specs.declared.layout.Layout.{Layout}
use Rattle.td_store_rows.specs.Columns.{meta_row}
use Rattle.td_store_rows.specs.StoreTables.{AreTreesOf, AreUnreadKept, HoldsContent, tables_in}
use Rattle.td_store_rows.proofs.Holding.{holds_still}
use Rattle.td_store_rows.proofs.StoreReads.{newest_keeps}
use Rattle.td_store_write.specs.InUse.{FitsChange}
use Rattle.td_store_write.specs.Written.{WritesChange}
use Rattle.td_store_write.specs.Carried.{CarriesChange, MayLeave}
use Rattle.td_store_write.proofs.Fitting.{decisions_fit, sound_after}

-- a change keeps the country
after_row : (row : Option HolderRow) (change : Change) (c : Content) → (content_after_row row change c).country ≡ c.country
after_row None change c = refl
after_row (Some row) change c = refl

pub after_country : (change : Change) (c : Content) → (content_after change c).country ≡ c.country
after_country change c = after_row (row_in change) change c

-- inside the transaction the content is that after the change
pub inside : (country : List ℕ) (change : Change) (a b : State) → WritesChange country change a b
    → CarriesChange country change a b
inside country change a b writes c d =
    let l : Layout = d.holds.trees.layout in
    let t = tables_in l a.now.trees in
    let wrote = writes l d.holds.trees.newest d.holds.schema d.holds.trees.typed (d.holds.trees.tables.country ∙ d.country)
    (references_tell t c d.holds.trees.sound d.holds.trees.tables).1
    (subst (λ made. FitsChange made t) d.change (decisions_fit d.verdict t c d.holds.trees.sound d.decision d.holds.trees.tables (newest_keeps l d.holds.trees.newest))) in
    let same : HaveSameRows (tables_after d.verdict.change t) (tables_in l b.now.trees) =
    subst (λ made. HaveSameRows (tables_after made t) (tables_in l b.now.trees)) (sym d.change) wrote.same in
    let holds : HoldsContent (content_after change c) b = record {
      schema = wrote.schema;
      trees = record {
        layout = l;
        newest = d.holds.trees.newest;
        listed = wrote.listed d.holds.trees.listed;
        typed = wrote.typed;
        sound = subst (λ made. IsSound (content_after made c)) d.change (sound_after c d.verdict d.holds.trees.sound d.decision);
        tables = subst (λ made. AreTablesOf (tables_in l b.now.trees) (content_after made c)) d.change
            (decisions_are_written d.verdict t (tables_in l b.now.trees) c d.holds.trees.sound d.decision d.holds.trees.tables same).0;
        office = wrote.office ∙ d.holds.trees.office ∙ ap (λ k. meta_row newest_version k ∷ []) (sym (after_country change c));
      };
    } in
    (holds, wrote.unread)

-- what the change carries is carried from a connection that sees the same, and to one
pub carried_as : (country : List ℕ) (change : Change) (o a b e : State) → a.now ≡ o.now → o.is_open ≡ a.is_open
    → e.now ≡ b.now → b.is_open ≡ e.is_open → CarriesChange country change a b → CarriesChange country change o e
carried_as country change o a b e begins opens ends closes carries c d =
    let made = carries c (record {
      holds = holds_still c o a begins (λ is. opens ∙ is) d.holds;
      country = d.country;
      verdict = d.verdict;
      change = d.change;
      decision = d.decision;
    }) in
    let l : Layout = d.holds.trees.layout in
    let unread = subst (λ (db : Database). AreUnreadKept l db.trees b.now.trees) begins made.1 in (
      holds_still (content_after change c) b e ends (λ is. closes ∙ is) made.0,
      subst (λ (db : Database). AreUnreadKept l o.now.trees db.trees) (sym ends) unread,
    )

-- and a crash that leaves what was written leaves the file of a desk of that content
pub left : (country : List ℕ) (change : Change) (o b : State) (trees : Trees) → IsTrue o.is_open → trees ≡ b.now.trees
    → CarriesChange country change o b → MayLeave country change o trees
left country change o b trees was_open is carries = (
  was_open,
  λ c d. (
    subst (AreTreesOf (content_after change c)) (sym is) (carries c d).0.trees,
    subst (AreUnreadKept d.holds.trees.layout o.now.trees) (sym is) (carries c d).1,
  ),
)
