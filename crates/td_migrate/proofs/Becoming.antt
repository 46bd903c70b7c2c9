-- What the statements of the step from version 1 to version 2 made of a file.
use Rattle.std.proofs.Common.{◌≡◌, ◌∙◌, List, [], ◌++◌, map, IsPermutation, append-nil, ap, refl, sym, subst, arith}
use Rattle.std.specs.List.{AllByRecursion}
use Rattle.sqlite_catalog.specs.Change.{KeepsRows}
use Rattle.sqlite_trees.specs.Tree.{Trees}
use Rattle.sqlite.specs.State.{State}
use Rattle.td_guarantee.specs.declared.guarantee.Guarantee.{Guarantee}
use Rattle.td_table_model.specs.Rules.{KeepRules}
use Rattle.td_table_model.specs.Tables.{Keyed, Kept, first_version, version_with_amounts}
use Rattle.td_schema.specs.Layouts.{schema_of}
use Rattle.td_schema.specs.Making.{IsMade}
use Rattle.td_schema.specs.Tables.{guarantees2}
use Rattle.td_schema.specs.declared.layout.Layout.TheVariants.{Made1, Grown2}
use Rattle.typed_sql.specs.Typed.{AreTyped, HasNow, IsTypedRow, Typing, row_of, typed_rows}
use Rattle.typed_sql.specs.Writing.{AreOthersKept, HasSchema, HaveIds, IsEmptied}
use Rattle.td_store_rows.specs.Columns.{code_typing, guarantee_typing, holder_typing, kept_typing, line_typing, meta_typing, movement_typing}
use Rattle.td_store_rows.specs.KeptTable.{EmptiesFirst, first_guarantees}
use Rattle.td_store_rows.specs.MetaTable.{TurnsMeta, with_version}
use Rattle.td_store_rows.specs.StoreTables.{country_in, tables_in}
use Rattle.td_migrate.specs.Filled.{FillsAll, with_its_use}
use Rattle.td_migrate.specs.Moved.{AreOthersSame, BecomesSecond, MovesTo2}
use Rattle.td_migrate.specs.Put.{KeepTheRules}
use Rattle.td_migrate.proofs.Putting.{typed_still}
use Rattle.td_migrate.proofs.Used.{all_still}

-- a table without rows is typed
pub none_typed : {R : Type 0} (ty : Typing R) (trees : Trees) → trees ty.table.tree ≡ [] → AreTyped ty trees
none_typed ty trees none = record {
  ids = subst HaveIds (sym none) (record { ints = tt; apart = λ id. omega arith });
  cells = subst (AllByRecursion (IsTypedRow ty)) (sym none) tt;
}

still_then : (a b d : Trees) → AreOthersSame a b → AreOthersSame b d → AreOthersSame a d
still_then a b d one two = record {
  holders = two.holders ∙ one.holders;
  codes = two.codes ∙ one.codes;
  movements = two.movements ∙ one.movements;
  lines = two.lines ∙ one.lines;
}

-- the trees that a statement on one of the tables left as they were
record BesideMeta (a b : Trees) : Type 0 where
  old : b 8 ≡ a 8
  new : b 14 ≡ a 14
  rest : AreOthersSame a b

record BesideOld (a b : Trees) : Type 0 where
  meta : b 0 ≡ a 0
  new : b 14 ≡ a 14
  rest : AreOthersSame a b

pub record BesideNew (a b : Trees) : Type 0 where
  pub meta : b 0 ≡ a 0
  pub old : b 8 ≡ a 8
  pub rest : AreOthersSame a b

beside_meta : (a b : Trees) → AreOthersKept (schema_of Grown2) 0 a b → BesideMeta a b
beside_meta a b others = record {
  old = others.1.1.1.1.0 (λ e. cc);
  new = others.1.1.1.1.1.1.0 (λ e. cc);
  rest = record { holders = others.1.0 (λ e. cc); codes = others.1.1.0 (λ e. cc); movements = others.1.1.1.0 (λ e. cc); lines = others.1.1.1.1.1.0 (λ e. cc) };
}

beside_old : (a b : Trees) → AreOthersKept (schema_of Grown2) 8 a b → BesideOld a b
beside_old a b others = record {
  meta = others.0 (λ e. cc);
  new = others.1.1.1.1.1.1.0 (λ e. cc);
  rest = record { holders = others.1.0 (λ e. cc); codes = others.1.1.0 (λ e. cc); movements = others.1.1.1.0 (λ e. cc); lines = others.1.1.1.1.1.0 (λ e. cc) };
}

pub beside_new : (a b : Trees) → AreOthersKept (schema_of Grown2) 14 a b → BesideNew a b
beside_new a b others = record {
  meta = others.0 (λ e. cc);
  old = others.1.1.1.1.0 (λ e. cc);
  rest = record { holders = others.1.0 (λ e. cc); codes = others.1.1.0 (λ e. cc); movements = others.1.1.1.0 (λ e. cc); lines = others.1.1.1.1.1.0 (λ e. cc) };
}

beside_made : (a b : Trees) → KeepsRows (schema_of Made1).tables a b → BesideNew a b
beside_made a b others = record {
  meta = others.0;
  old = others.1.1.1.1.0;
  rest = record { holders = others.1.0; codes = others.1.1.0; movements = others.1.1.1.0; lines = others.1.1.1.1.1.0 };
}

-- the rows of version 1 keep the rules as before, and what is in use is as before
tables_still : (a b : Trees) → BesideNew a b → tables_in Made1 b ≡ tables_in Made1 a
tables_still a b beside = λ i. record {
  version = first_version;
  country = country_in (map (row_of meta_typing) (beside.meta i));
  holders = map (row_of holder_typing) (beside.rest.holders i);
  guarantees = map (row_of (guarantee_typing Made1)) (beside.old i);
  kept = map (row_of (kept_typing Made1)) (beside.old i);
  codes = map (row_of code_typing) (beside.rest.codes i);
  movements = map (row_of movement_typing) (beside.rest.movements i);
  lines = map (row_of (line_typing Made1)) (beside.rest.lines i);
}

rules_still : (a b : Trees) → BesideNew a b → KeepTheRules Made1 a → KeepTheRules Made1 b
rules_still a b beside keep =
    let was = keep.typed in
    record {
      typed = record {
        meta = typed_still meta_typing a b beside.meta was.meta;
        holders = typed_still holder_typing a b beside.rest.holders was.holders;
        guarantees = typed_still (guarantee_typing Made1) a b beside.old was.guarantees;
        kept = λ keeps. typed_still (kept_typing Made1) a b beside.old (was.kept keeps);
        codes = typed_still code_typing a b beside.rest.codes was.codes;
        movements = typed_still movement_typing a b beside.rest.movements was.movements;
        lines = typed_still (line_typing Made1) a b beside.rest.lines was.lines;
      };
      rules = subst KeepRules (sym (tables_still a b beside)) keep.rules;
    }

-- made, filled, and the old one emptied
pub moved : (a b d e : State) → (HasSchema a (schema_of Made1) → IsMade (schema_of Made1) guarantees2 a.now b.now)
    → FillsAll b d → EmptiesFirst d e → MovesTo2 a e
moved a b d e makes fills empties has keep =
    let made = makes has in
    let none : b.now.trees 14 ≡ [] = made.empty in
    let first = beside_made a.now.trees b.now.trees made.others in
    let there : KeepTheRules Made1 b.now.trees = rules_still a.now.trees b.now.trees first keep in
    let put = fills Made1 refl made.schema (none_typed (kept_typing Grown2) b.now.trees none) there in
    let second = beside_new b.now.trees d.now.trees put.others in
    let gone : IsEmptied (schema_of Grown2) first_guarantees d.now e.now = empties (λ is. put.schema) (subst HaveIds (sym (second.old ∙ first.old)) keep.typed.guarantees.ids) in
    let third = beside_old d.now.trees e.now.trees gone.others in
    let rows : List (Keyed Guarantee) = typed_rows (guarantee_typing Made1) a.now.trees in
    let these : List (Keyed Kept) = map (with_its_use b.now.trees) (typed_rows (guarantee_typing Made1) b.now.trees) in
    let alone : IsPermutation these (typed_rows (kept_typing Grown2) d.now.trees) =
    subst (λ l. IsPermutation l (typed_rows (kept_typing Grown2) d.now.trees)) (ap (λ l. these ++ map (row_of (kept_typing Grown2)) l) none ∙ append-nil these) put.same in
    let same : these ≡ map (with_its_use a.now.trees) rows =
    all_still a.now.trees b.now.trees first.rest.movements first.rest.lines (typed_rows (guarantee_typing Made1) b.now.trees)
    ∙ ap (λ l. map (with_its_use a.now.trees) (map (row_of (guarantee_typing Made1)) l)) first.old in
    let as_before : IsPermutation (map (with_its_use a.now.trees) rows) (typed_rows (kept_typing Grown2) d.now.trees) =
    subst (λ l. IsPermutation l (typed_rows (kept_typing Grown2) d.now.trees)) same alone in
    record {
      schema = gone.schema;
      kept = subst (λ l. IsPermutation (map (with_its_use a.now.trees) rows) (map (row_of (kept_typing Grown2)) l)) (sym third.new) as_before;
      typed = typed_still (kept_typing Grown2) d.now.trees e.now.trees third.new put.typed;
      emptied = gone.rows;
      meta = third.meta ∙ second.meta ∙ first.meta;
      others = still_then _ _ _ first.rest (still_then _ _ _ second.rest third.rest);
    }

-- and the office's row says so
pub becomes : (a b d : State) → MovesTo2 a b → TurnsMeta (map (with_version version_with_amounts)) b d → BecomesSecond a d
becomes a b d moves sets has keep =
    let was = moves has keep in
    let set : HasNow meta_typing (schema_of Grown2) (map (with_version version_with_amounts) (typed_rows meta_typing b.now.trees)) b.now d.now =
    sets Grown2 (λ is. was.schema) (typed_still meta_typing a.now.trees b.now.trees was.meta keep.typed.meta) in
    let beside = beside_meta b.now.trees d.now.trees set.others in
    let rows : List (Keyed Guarantee) = typed_rows (guarantee_typing Made1) a.now.trees in
    record {
      schema = set.schema;
      kept = subst (λ l. IsPermutation (map (with_its_use a.now.trees) rows) (map (row_of (kept_typing Grown2)) l)) (sym beside.new) was.kept;
      typed = typed_still (kept_typing Grown2) b.now.trees d.now.trees beside.new was.typed;
      emptied = beside.old ∙ was.emptied;
      office = subst (λ l. IsPermutation (map (with_version version_with_amounts) (map (row_of meta_typing) l)) (typed_rows meta_typing d.now.trees)) was.meta set.same;
      office_typed = set.typed;
      others = still_then _ _ _ was.others beside.rest;
      sound = set.sound;
    }
