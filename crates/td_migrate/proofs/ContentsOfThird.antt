-- The content of a file that became one of version 3 is the same.
use Rattle.std.proofs.Common.{◌≡◌, ◌∙◌, map, IsPermutation, refl, sym, ap, arith, subst}
use Rattle.std.specs.List.{AllByRecursion}
use Rattle.sqlite_trees.proofs.ListLemmas.{IsPermutation-same}
use Rattle.sqlite.proofs.Callers.{one_permutation}
use Rattle.sqlite.specs.Effect.{Database}
use Rattle.sqlite.specs.State.{State}
use Rattle.td_model.specs.Content.{Content}
use Rattle.td_table_model.specs.Changes.{HaveSameRows}
use Rattle.td_table_model.specs.Tables.{AreTablesOf, Tables, version_with_amounts}
use Rattle.td_table_model.proofs.Following.{same_tables}
use Rattle.td_schema.specs.Layouts.{grown, guarantees_tree, version_of, version_with_more_lines}
use Rattle.td_schema.specs.declared.layout.Layout.{Layout}
use Rattle.td_schema.specs.declared.layout.Layout.TheVariants.{Made1}
use Rattle.typed_sql.specs.Typed.{IsTypedRow, row_of, typed_rows}
use Rattle.typed_sql.specs.Writing.{HaveIds}
use Rattle.td_store_rows.specs.Columns.{code_typing, guarantee_typing, holder_typing, kept_typing, meta_row, meta_typing, movement_typing}
use Rattle.td_store_rows.specs.MetaTable.{with_version}
use Rattle.td_store_rows.specs.StoreReads.{KeepsUse}
use Rattle.td_store_rows.specs.StoreTables.{AreAllTyped, HasOfficeRow, country_in, tables_in}
use Rattle.td_store_rows.proofs.Turned.{listed_there}
use Rattle.td_migrate.specs.Grown.{AreGrown, GrowsFrom, HaveContent, HoldsVersion, LeavesEmpty}
use Rattle.td_migrate.specs.LinesMoved.{BecomesThird, IsThird}
use Rattle.td_migrate.proofs.Contents.{rows_still, rules_kept}
use Rattle.td_migrate.proofs.Putting.{typed_still}
use Rattle.td_migrate.proofs.Second.{of_second, second_layout}

module _ (l : Layout) (is : version_of l ≡ version_with_amounts) (c : Content) (a b : Database) (held : HoldsVersion l c a) (now : IsThird l a b) where
  keeps : KeepsUse l
  keeps = omega (arith, is)

  -- the tables with the version that they get are of the same content
  abbrev u : Tables
  u = record (tables_in l a.trees) { version = version_with_more_lines }

  are : AreTablesOf u c
  are =
      let those = held.content.tables in
      record {
        country = those.country;
        holders = those.holders;
        guarantees = those.guarantees;
        kept = λ keep. those.kept keeps;
        codes = those.codes;
        movements = those.movements;
        lines = those.lines;
      }

  -- the guarantees stand where they stood
  there : b.trees (guarantees_tree (grown l)) ≡ a.trees (guarantees_tree l)
  there = subst (λ tree. b.trees tree ≡ a.trees (guarantees_tree l)) (sym (second_layout l is).guarantees) now.others.guarantees

  office : HasOfficeRow version_with_more_lines c.country b.trees
  office =
      one_permutation (meta_row version_with_more_lines c.country) (typed_rows meta_typing b.trees)
      (subst (λ k. IsPermutation (map (with_version version_with_more_lines) k) (typed_rows meta_typing b.trees)) held.content.office now.office)

  same_rows : HaveSameRows u (tables_in (grown l) b.trees)
  same_rows = record {
    version = (second_layout l is).version;
    country = ap country_in office ∙ sym (ap country_in held.content.office);
    holders = rows_still holder_typing a.trees b.trees now.others.holders;
    guarantees = IsPermutation-same _ _ (ap (map (row_of (guarantee_typing Made1))) (sym there));
    kept = λ keep. IsPermutation-same _ _ (ap (map (row_of (kept_typing Made1))) (sym there));
    codes = rows_still code_typing a.trees b.trees now.others.codes;
    movements = rows_still movement_typing a.trees b.trees now.others.movements;
    lines = now.lines;
  }

  typed : AreAllTyped (grown l) b.trees
  typed =
      let was = held.content.typed in
      record {
        meta = now.office_typed;
        holders = typed_still holder_typing a.trees b.trees now.others.holders was.holders;
        guarantees = record {
          ids = subst HaveIds (sym there) was.guarantees.ids;
          cells = subst (AllByRecursion (IsTypedRow (guarantee_typing Made1))) (sym there) was.guarantees.cells;
        };
        kept = λ keep. record {
          ids = subst HaveIds (sym there) (was.kept keeps).ids;
          cells = subst (AllByRecursion (IsTypedRow (kept_typing Made1))) (sym there) (was.kept keeps).cells;
        };
        codes = typed_still code_typing a.trees b.trees now.others.codes was.codes;
        movements = typed_still movement_typing a.trees b.trees now.others.movements was.movements;
        lines = now.typed;
      }

  content : HaveContent (grown l) c b.trees
  content = record {
    typed = typed;
    sound = held.content.sound;
    tables = same_tables u (tables_in (grown l) b.trees) c are same_rows;
    office = subst (λ version. HasOfficeRow version c.country b.trees) (sym (second_layout l is).version) office;
  }

-- the old table of lines is empty, and that of guarantees of version 1 is as it was
emptied : (l : Layout) → version_of l ≡ version_with_amounts → (a b : Database) → IsThird l a b → LeavesEmpty l a.trees b.trees
emptied l is a b = of_second (λ l. IsThird l a b → LeavesEmpty l a.trees b.trees) (λ now. now.emptied) (λ now. (now.emptied, now.others.first refl)) l is

-- whatever content the file held
pub third_grows : (a b : State) → BecomesThird a b → GrowsFrom version_with_amounts a.now b.now
third_grows a b becomes l is c held =
    let now : IsThird l a.now b.now = becomes l is (λ _. held.schema) (rules_kept l c a.now held) in
    let grows : AreGrown l c a.now.trees b.now.trees = record {
      listed = listed_there (grown l) b.now now.schema now.sound;
      content = content l is c a.now b.now held now;
      left = emptied l is a.now b.now now;
    } in
    record { schema = now.schema; trees = grows }
