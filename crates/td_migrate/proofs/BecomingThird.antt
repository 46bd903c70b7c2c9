-- What the statements of the step from version 2 to version 3 made of a file.
use Rattle.std.proofs.Common.{◌≡◌, ◌∙◌, List, [], ◌++◌, map, IsPermutation, append-nil, ap, sym, subst}
use Rattle.sqlite_trees.specs.Tree.{Trees}
use Rattle.sqlite.specs.State.{State}
use Rattle.td_table_model.specs.Rules.{KeepRules}
use Rattle.td_table_model.specs.Tables.{Keyed, LineCells, version_with_amounts}
use Rattle.td_schema.specs.Layouts.{grown, lines_tree, schema_of, version_of, version_with_more_lines}
use Rattle.td_schema.specs.Making.{IsMade}
use Rattle.td_schema.specs.Tables.{lines3}
use Rattle.td_schema.specs.declared.layout.Layout.{Layout}
use Rattle.typed_sql.specs.Typed.{HasNow, row_of, typed_rows}
use Rattle.typed_sql.specs.Writing.{HasSchema, HaveIds, IsEmptied}
use Rattle.td_store_rows.specs.Columns.{code_typing, guarantee_typing, holder_typing, kept_typing, line_typing, meta_typing, movement_typing}
use Rattle.td_store_rows.specs.LineTable.{EmptiesFirstLines, first_lines}
use Rattle.td_store_rows.specs.MetaTable.{TurnsMeta, with_version}
use Rattle.td_store_rows.specs.StoreTables.{country_in, tables_in}
use Rattle.td_migrate.specs.LinesMoved.{AreBesideLines, BecomesThird, MovesLines, PutsAllLines}
use Rattle.td_migrate.specs.Put.{KeepTheRules}
use Rattle.td_migrate.proofs.Becoming.{none_typed}
use Rattle.td_migrate.proofs.Putting.{typed_still}
use Rattle.td_migrate.proofs.Second.{BesideNewer, beside_made, beside_meta, beside_newer, beside_older, second_layout}

still_then : (l : Layout) (a b d : Trees) → AreBesideLines l a b → AreBesideLines l b d → AreBesideLines l a d
still_then l a b d one two = record {
  holders = two.holders ∙ one.holders;
  codes = two.codes ∙ one.codes;
  movements = two.movements ∙ one.movements;
  guarantees = two.guarantees ∙ one.guarantees;
  first = λ is. two.first is ∙ one.first is;
}

-- the rows of version 2 keep the rules as before
module _ (l : Layout) (is : version_of l ≡ version_with_amounts) (a b : Trees) (beside : BesideNewer l a b) where
  lines_are : b (lines_tree l) ≡ a (lines_tree l)
  lines_are = subst (λ tree. b tree ≡ a tree) (sym (second_layout l is).older) beside.older

  tables_still : tables_in l b ≡ tables_in l a
  tables_still = λ i. record {
    version = version_of l;
    country = country_in (map (row_of meta_typing) (beside.meta i));
    holders = map (row_of holder_typing) (beside.rest.holders i);
    guarantees = map (row_of (guarantee_typing l)) (beside.rest.guarantees i);
    kept = map (row_of (kept_typing l)) (beside.rest.guarantees i);
    codes = map (row_of code_typing) (beside.rest.codes i);
    movements = map (row_of movement_typing) (beside.rest.movements i);
    lines = map (row_of (line_typing l)) (lines_are i);
  }

  rules_still : KeepTheRules l a → KeepTheRules l b
  rules_still keep =
      let was = keep.typed in
      record {
        typed = record {
          meta = typed_still meta_typing a b beside.meta was.meta;
          holders = typed_still holder_typing a b beside.rest.holders was.holders;
          guarantees = typed_still (guarantee_typing l) a b beside.rest.guarantees was.guarantees;
          kept = λ keeps. typed_still (kept_typing l) a b beside.rest.guarantees (was.kept keeps);
          codes = typed_still code_typing a b beside.rest.codes was.codes;
          movements = typed_still movement_typing a b beside.rest.movements was.movements;
          lines = typed_still (line_typing l) a b lines_are was.lines;
        };
        rules = subst KeepRules (sym tables_still) keep.rules;
      }

-- made, filled, and the old one emptied
pub lines_moved : (a b d e : State)
    → ((l : Layout) → version_of l ≡ version_with_amounts → HasSchema a (schema_of l) → IsMade (schema_of l) lines3 a.now b.now)
    → PutsAllLines b d → EmptiesFirstLines d e → MovesLines a e
lines_moved a b d e makes puts empties l is has keep =
    let at = second_layout l is in
    let made = makes l is has in
    let none : b.now.trees (lines_tree (grown l)) ≡ [] = subst (λ tree. b.now.trees tree ≡ []) at.tree made.empty in
    let first = beside_made l is a.now.trees b.now.trees made.others in
    let put = puts l is (made.schema ∙ at.schema) (none_typed (line_typing (grown l)) b.now.trees none) (rules_still l is a.now.trees b.now.trees first keep) in
    let second = beside_newer l is b.now.trees d.now.trees put.others in
    let ids : HaveIds (a.now.trees first_lines.tree) = subst (λ tree. HaveIds (a.now.trees tree)) at.older keep.typed.lines.ids in
    let gone : IsEmptied (schema_of (grown l)) first_lines d.now e.now = empties l is (λ _. put.schema) (subst HaveIds (sym (second.older ∙ first.older)) ids) in
    let third = beside_older l is d.now.trees e.now.trees gone.others in
    let lines : List (Keyed LineCells) = typed_rows (line_typing l) a.now.trees in
    let these : List (Keyed LineCells) = typed_rows (line_typing l) b.now.trees in
    let alone : IsPermutation these (typed_rows (line_typing (grown l)) d.now.trees) =
    subst (λ k. IsPermutation k (typed_rows (line_typing (grown l)) d.now.trees)) (ap (λ k. these ++ map (row_of (line_typing (grown l))) k) none ∙ append-nil these) put.same in
    let there : IsPermutation lines (typed_rows (line_typing (grown l)) d.now.trees) =
    subst (λ k. IsPermutation (map (row_of (line_typing l)) k) (typed_rows (line_typing (grown l)) d.now.trees)) (lines_are l is a.now.trees b.now.trees first) alone in
    record {
      schema = gone.schema;
      rows = subst (λ k. IsPermutation lines (map (row_of (line_typing (grown l))) k)) (sym third.newer) there;
      typed = typed_still (line_typing (grown l)) d.now.trees e.now.trees third.newer put.typed;
      emptied = subst (λ tree. e.now.trees tree ≡ []) (sym at.older) gone.rows;
      meta = third.meta ∙ second.meta ∙ first.meta;
      others = still_then l _ _ _ first.rest (still_then l _ _ _ second.rest third.rest);
    }

-- and the office's row says so
pub becomes_third : (a b d : State) → MovesLines a b → TurnsMeta (map (with_version version_with_more_lines)) b d → BecomesThird a d
becomes_third a b d moves sets l is has keep =
    let at = second_layout l is in
    let was = moves l is has keep in
    let set : HasNow meta_typing (schema_of (grown l)) (map (with_version version_with_more_lines) (typed_rows meta_typing b.now.trees)) b.now d.now =
    sets (grown l) (λ _. was.schema) (typed_still meta_typing a.now.trees b.now.trees was.meta keep.typed.meta) in
    let beside = beside_meta l is b.now.trees d.now.trees set.others in
    let older : d.now.trees (lines_tree l) ≡ b.now.trees (lines_tree l) =
    subst (λ tree. d.now.trees tree ≡ b.now.trees tree) (sym at.older) beside.older in
    record {
      schema = set.schema;
      lines = subst (λ k. IsPermutation (typed_rows (line_typing l) a.now.trees) (map (row_of (line_typing (grown l))) k)) (sym beside.newer) was.rows;
      typed = typed_still (line_typing (grown l)) b.now.trees d.now.trees beside.newer was.typed;
      emptied = older ∙ was.emptied;
      office = subst (λ k. IsPermutation (map (with_version version_with_more_lines) (map (row_of meta_typing) k)) (typed_rows meta_typing d.now.trees)) was.meta set.same;
      office_typed = set.typed;
      others = still_then l _ _ _ was.others beside.rest;
      sound = set.sound;
    }
