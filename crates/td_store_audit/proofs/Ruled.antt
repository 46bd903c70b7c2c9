-- The rules of a store's schema, table by table.
use Rattle.std.proofs.Common.{◌≡◌, ℕ, Bool, true, false, true≢false, List, [], ◌∷◌, refl, sym}
use Rattle.std.specs.Prelude.{pos, not, ◌&&◌, ◌||◌}
use Rattle.std.specs.List.{AllByRecursion, list_any}
use Rattle.sqlite_value.specs.Keys.{joined, plain}
use Rattle.sqlite_value.specs.declared.keys.Collation.TheVariants.{Binary}
use Rattle.sqlite_value.specs.declared.value.Value.TheVariants.{Int}
use Rattle.sqlite_value.specs.Order.{Row}
use Rattle.sqlite_sql.specs.declared.ops.BinaryOp.TheVariants.{And, Compare}
use Rattle.sqlite_sql.specs.declared.ops.CompareOp.TheVariants.{Ge, Le}
use Rattle.sqlite_sql.specs.Ops.{binary}
use Rattle.sqlite_typed.proofs.TestLemmas.{truth_or}
use Rattle.sqlite_trees.specs.Tree.{Trees, rowid}
use Rattle.sqlite_trees.proofs.ListLemmas.{all_weaker}
use Rattle.sqlite_schema.specs.declared.schema.Constraint.TheVariants.{Check, ForeignKey, Unique}
use Rattle.sqlite_schema.specs.declared.schema.Table.{Table}
use Rattle.sqlite_schema.specs.Names.{same_name}
use Rattle.sqlite_schema.specs.Rules.{Obeys, agree, clashes, has_null, passes}
use Rattle.sqlite_schema.specs.declared.schema.Schema.{Schema}
use Rattle.td_schema.specs.Layouts.{guarantees_tree, lines_tree, schema_of}
use Rattle.td_schema.specs.declared.layout.Layout.{Layout}
use Rattle.td_schema.specs.declared.layout.Layout.TheVariants.{Made1, Made2, Grown2, Made3, Grown3From2, Grown3From1}
use Rattle.td_store_rows.specs.Columns.{guarantees_table, holders_table, lines_table, movements_table, stored_table}
use Rattle.td_store_audit.proofs.Unique.{HaveKey}

-- both of two tests pass
pub both : (a b : Bool) → (a && b) ≡ true → (a ≡ true) × (b ≡ true)
both true b is = (refl, is)
both false b is = absurd (true≢false (sym is))

pub never : (a : Bool) → not a ≡ true → a ≡ false
never true is = absurd (true≢false (sym is))
never false is = refl

-- of the columns at these places the row names a row in the tree, by the columns there that come first, unless one is NULL
abbrev pub HasParent : Trees → List ℕ → ℕ → List ℕ → Row → Type 0
HasParent trees places tree key row =
    (has_null places row || list_any (λ parent. agree plain key parent places row) (trees tree)) ≡ true

-- the CHECK of the table of holders holds of the row
abbrev pub IsChecked : Row → Type 0
IsChecked row =
    (not (not (truth_or true (binary And (binary (Compare Ge Binary) (rowid row) (Int (pos 1))) (binary (Compare Le Binary) (rowid row) (Int (pos 999999)))))) && true) ≡ true

-- one key, the first and the second of two, and the second and the third of three, of the rows in a tree
module _ (rows : List Row) (one two three : List ℕ) (row : Row) where
  abbrev free : List ℕ → Bool
  free places = not (clashes plain places rows row)

  alone : (free one && true) ≡ true → clashes plain one rows row ≡ false
  alone is = never (clashes plain one rows row) (both (free one) true is).0

  first : (free one && (free two && true)) ≡ true → clashes plain one rows row ≡ false
  first is = never (clashes plain one rows row) (both (free one) (free two && true) is).0

  second : (free one && (free two && true)) ≡ true → clashes plain two rows row ≡ false
  second is = never (clashes plain two rows row) (both (free two) true (both (free one) (free two && true) is).1).0

  middle : (free one && (free two && (free three && true))) ≡ true → clashes plain two rows row ≡ false
  middle is = never (clashes plain two rows row) (both (free two) (free three && true) (both (free one) (free two && (free three && true)) is).1).0

  third : (free one && (free two && (free three && true))) ≡ true → clashes plain three rows row ≡ false
  third is =
      never (clashes plain three rows row)
      (both (free three) true (both (free two) (free three && true) (both (free one) (free two && (free three && true)) is).1).1).0

-- the row that is named is there
there : (trees : Trees) (places : List ℕ) (tree : ℕ) (key : List ℕ) (row : Row)
    → ((has_null places row || list_any (λ parent. agree plain key parent places row) (trees tree)) && true) ≡ true → HasParent trees places tree key row
there trees places tree key row is =
    (both (has_null places row || list_any (λ parent. agree plain key parent places row) (trees tree)) true is).0

-- What a layout's schema keeps: the CHECK of the holders, the keys of each other table, and what its rows name.
pub record AreRuled (l : Layout) (trees : Trees) : Type 0 where
  pub holders_checked : AllByRecursion IsChecked (trees 1)
  pub code_keys : HaveKey (1 ∷ 2 ∷ 3 ∷ []) (trees 2)
  pub movement_keys : HaveKey (1 ∷ 2 ∷ []) (trees 4)
  pub lrn_keys : HaveKey (1 ∷ 4 ∷ []) (trees 4)
  pub guarantee_keys : HaveKey (1 ∷ 2 ∷ []) (trees (guarantees_tree l))
  pub line_keys : HaveKey (1 ∷ 2 ∷ 3 ∷ []) (trees (lines_tree l))
  pub codes_named : AllByRecursion (HasParent trees (1 ∷ []) 1 (0 ∷ [])) (trees 2)
  pub movements_named : AllByRecursion (HasParent trees (1 ∷ []) 1 (0 ∷ [])) (trees 4)
  pub guarantees_named : AllByRecursion (HasParent trees (1 ∷ []) 1 (0 ∷ [])) (trees (guarantees_tree l))
  pub lines_named : AllByRecursion (HasParent trees (1 ∷ 2 ∷ []) 4 (1 ∷ 2 ∷ [])) (trees (lines_tree l))

-- the rules of a schema, of the rows in a tree, taken to mean what follows of each row
module _ (s : Schema) (trees : Trees) where
  checks : (t : Table) → AllByRecursion (λ row. passes Check s trees t row ≡ true) (trees t.tree)
      → ((row : Row) → passes Check s trees t row ≡ true → IsChecked row) → AllByRecursion IsChecked (trees t.tree)
  checks t each tells = all_weaker (λ row. passes Check s trees t row ≡ true) IsChecked tells (trees t.tree) each

  keyed : (t : Table) (places : List ℕ) → AllByRecursion (λ row. passes Unique s trees t row ≡ true) (trees t.tree)
      → ((row : Row) → passes Unique s trees t row ≡ true → clashes plain places (trees t.tree) row ≡ false) → HaveKey places (trees t.tree)
  keyed t places each tells = all_weaker (λ row. passes Unique s trees t row ≡ true) (λ row. clashes plain places (trees t.tree) row ≡ false) tells (trees t.tree) each

  child : (t : Table) (places : List ℕ) (tree : ℕ) (key : List ℕ) → AllByRecursion (λ row. passes ForeignKey s trees t row ≡ true) (trees t.tree)
      → ((row : Row) → passes ForeignKey s trees t row ≡ true → HasParent trees places tree key row) → AllByRecursion (HasParent trees places tree key) (trees t.tree)
  child t places tree key each tells =
      all_weaker (λ row. passes ForeignKey s trees t row ≡ true) (HasParent trees places tree key) tells (trees t.tree) each

pub ruled : (l : Layout) (trees : Trees) → Obeys (schema_of l) trees → AreRuled l trees
unfolding joined same_name
ruled Made1 trees obeys = record {
  holders_checked = checks (schema_of Made1) trees holders_table (obeys.rules Check).1.0 (λ row is. is);
  code_keys = keyed (schema_of Made1) trees stored_table (1 ∷ 2 ∷ 3 ∷ []) (obeys.rules Unique).1.1.0 (alone (trees 2) (1 ∷ 2 ∷ 3 ∷ []) [] []);
  movement_keys = keyed (schema_of Made1) trees movements_table (1 ∷ 2 ∷ []) (obeys.rules Unique).1.1.1.0 (middle (trees 4) (3 ∷ []) (1 ∷ 2 ∷ []) (1 ∷ 4 ∷ []));
  lrn_keys = keyed (schema_of Made1) trees movements_table (1 ∷ 4 ∷ []) (obeys.rules Unique).1.1.1.0 (third (trees 4) (3 ∷ []) (1 ∷ 2 ∷ []) (1 ∷ 4 ∷ []));
  guarantee_keys = keyed (schema_of Made1) trees (guarantees_table Made1) (1 ∷ 2 ∷ []) (obeys.rules Unique).1.1.1.1.0
      (second (trees (guarantees_tree Made1)) (3 ∷ []) (1 ∷ 2 ∷ []) []);
  line_keys = keyed (schema_of Made1) trees (lines_table Made1) (1 ∷ 2 ∷ 3 ∷ []) (obeys.rules Unique).1.1.1.1.1.0 (first (trees (lines_tree Made1)) (1 ∷ 2 ∷ 3 ∷ []) (1 ∷ 2 ∷ 4 ∷ []) []);
  codes_named = child (schema_of Made1) trees stored_table (1 ∷ []) 1 (0 ∷ []) (obeys.rules ForeignKey).1.1.0 (there trees (1 ∷ []) 1 (0 ∷ []));
  movements_named = child (schema_of Made1) trees movements_table (1 ∷ []) 1 (0 ∷ []) (obeys.rules ForeignKey).1.1.1.0 (there trees (1 ∷ []) 1 (0 ∷ []));
  guarantees_named = child (schema_of Made1) trees (guarantees_table Made1) (1 ∷ []) 1 (0 ∷ []) (obeys.rules ForeignKey).1.1.1.1.0 (there trees (1 ∷ []) 1 (0 ∷ []));
  lines_named = child (schema_of Made1) trees (lines_table Made1) (1 ∷ 2 ∷ []) 4 (1 ∷ 2 ∷ []) (obeys.rules ForeignKey).1.1.1.1.1.0 (there trees (1 ∷ 2 ∷ []) 4 (1 ∷ 2 ∷ []));
}
ruled Made2 trees obeys = record {
  holders_checked = checks (schema_of Made2) trees holders_table (obeys.rules Check).1.0 (λ row is. is);
  code_keys = keyed (schema_of Made2) trees stored_table (1 ∷ 2 ∷ 3 ∷ []) (obeys.rules Unique).1.1.0 (alone (trees 2) (1 ∷ 2 ∷ 3 ∷ []) [] []);
  movement_keys = keyed (schema_of Made2) trees movements_table (1 ∷ 2 ∷ []) (obeys.rules Unique).1.1.1.0 (middle (trees 4) (3 ∷ []) (1 ∷ 2 ∷ []) (1 ∷ 4 ∷ []));
  lrn_keys = keyed (schema_of Made2) trees movements_table (1 ∷ 4 ∷ []) (obeys.rules Unique).1.1.1.0 (third (trees 4) (3 ∷ []) (1 ∷ 2 ∷ []) (1 ∷ 4 ∷ []));
  guarantee_keys = keyed (schema_of Made2) trees (guarantees_table Made2) (1 ∷ 2 ∷ []) (obeys.rules Unique).1.1.1.1.0
      (second (trees (guarantees_tree Made2)) (3 ∷ []) (1 ∷ 2 ∷ []) []);
  line_keys = keyed (schema_of Made2) trees (lines_table Made2) (1 ∷ 2 ∷ 3 ∷ []) (obeys.rules Unique).1.1.1.1.1.0 (first (trees (lines_tree Made2)) (1 ∷ 2 ∷ 3 ∷ []) (1 ∷ 2 ∷ 4 ∷ []) []);
  codes_named = child (schema_of Made2) trees stored_table (1 ∷ []) 1 (0 ∷ []) (obeys.rules ForeignKey).1.1.0 (there trees (1 ∷ []) 1 (0 ∷ []));
  movements_named = child (schema_of Made2) trees movements_table (1 ∷ []) 1 (0 ∷ []) (obeys.rules ForeignKey).1.1.1.0 (there trees (1 ∷ []) 1 (0 ∷ []));
  guarantees_named = child (schema_of Made2) trees (guarantees_table Made2) (1 ∷ []) 1 (0 ∷ []) (obeys.rules ForeignKey).1.1.1.1.0 (there trees (1 ∷ []) 1 (0 ∷ []));
  lines_named = child (schema_of Made2) trees (lines_table Made2) (1 ∷ 2 ∷ []) 4 (1 ∷ 2 ∷ []) (obeys.rules ForeignKey).1.1.1.1.1.0 (there trees (1 ∷ 2 ∷ []) 4 (1 ∷ 2 ∷ []));
}
ruled Grown2 trees obeys = record {
  holders_checked = checks (schema_of Grown2) trees holders_table (obeys.rules Check).1.0 (λ row is. is);
  code_keys = keyed (schema_of Grown2) trees stored_table (1 ∷ 2 ∷ 3 ∷ []) (obeys.rules Unique).1.1.0 (alone (trees 2) (1 ∷ 2 ∷ 3 ∷ []) [] []);
  movement_keys = keyed (schema_of Grown2) trees movements_table (1 ∷ 2 ∷ []) (obeys.rules Unique).1.1.1.0 (middle (trees 4) (3 ∷ []) (1 ∷ 2 ∷ []) (1 ∷ 4 ∷ []));
  lrn_keys = keyed (schema_of Grown2) trees movements_table (1 ∷ 4 ∷ []) (obeys.rules Unique).1.1.1.0 (third (trees 4) (3 ∷ []) (1 ∷ 2 ∷ []) (1 ∷ 4 ∷ []));
  guarantee_keys = keyed (schema_of Grown2) trees (guarantees_table Grown2) (1 ∷ 2 ∷ []) (obeys.rules Unique).1.1.1.1.1.1.0
      (second (trees (guarantees_tree Grown2)) (3 ∷ []) (1 ∷ 2 ∷ []) []);
  line_keys = keyed (schema_of Grown2) trees (lines_table Grown2) (1 ∷ 2 ∷ 3 ∷ []) (obeys.rules Unique).1.1.1.1.1.0 (first (trees (lines_tree Grown2)) (1 ∷ 2 ∷ 3 ∷ []) (1 ∷ 2 ∷ 4 ∷ []) []);
  codes_named = child (schema_of Grown2) trees stored_table (1 ∷ []) 1 (0 ∷ []) (obeys.rules ForeignKey).1.1.0 (there trees (1 ∷ []) 1 (0 ∷ []));
  movements_named = child (schema_of Grown2) trees movements_table (1 ∷ []) 1 (0 ∷ []) (obeys.rules ForeignKey).1.1.1.0 (there trees (1 ∷ []) 1 (0 ∷ []));
  guarantees_named = child (schema_of Grown2) trees (guarantees_table Grown2) (1 ∷ []) 1 (0 ∷ []) (obeys.rules ForeignKey).1.1.1.1.1.1.0 (there trees (1 ∷ []) 1 (0 ∷ []));
  lines_named = child (schema_of Grown2) trees (lines_table Grown2) (1 ∷ 2 ∷ []) 4 (1 ∷ 2 ∷ []) (obeys.rules ForeignKey).1.1.1.1.1.0 (there trees (1 ∷ 2 ∷ []) 4 (1 ∷ 2 ∷ []));
}
ruled Made3 trees obeys = record {
  holders_checked = checks (schema_of Made3) trees holders_table (obeys.rules Check).1.0 (λ row is. is);
  code_keys = keyed (schema_of Made3) trees stored_table (1 ∷ 2 ∷ 3 ∷ []) (obeys.rules Unique).1.1.0 (alone (trees 2) (1 ∷ 2 ∷ 3 ∷ []) [] []);
  movement_keys = keyed (schema_of Made3) trees movements_table (1 ∷ 2 ∷ []) (obeys.rules Unique).1.1.1.0 (middle (trees 4) (3 ∷ []) (1 ∷ 2 ∷ []) (1 ∷ 4 ∷ []));
  lrn_keys = keyed (schema_of Made3) trees movements_table (1 ∷ 4 ∷ []) (obeys.rules Unique).1.1.1.0 (third (trees 4) (3 ∷ []) (1 ∷ 2 ∷ []) (1 ∷ 4 ∷ []));
  guarantee_keys = keyed (schema_of Made3) trees (guarantees_table Made3) (1 ∷ 2 ∷ []) (obeys.rules Unique).1.1.1.1.0
      (second (trees (guarantees_tree Made3)) (3 ∷ []) (1 ∷ 2 ∷ []) []);
  line_keys = keyed (schema_of Made3) trees (lines_table Made3) (1 ∷ 2 ∷ 3 ∷ []) (obeys.rules Unique).1.1.1.1.1.0 (first (trees (lines_tree Made3)) (1 ∷ 2 ∷ 3 ∷ []) (1 ∷ 2 ∷ 4 ∷ []) []);
  codes_named = child (schema_of Made3) trees stored_table (1 ∷ []) 1 (0 ∷ []) (obeys.rules ForeignKey).1.1.0 (there trees (1 ∷ []) 1 (0 ∷ []));
  movements_named = child (schema_of Made3) trees movements_table (1 ∷ []) 1 (0 ∷ []) (obeys.rules ForeignKey).1.1.1.0 (there trees (1 ∷ []) 1 (0 ∷ []));
  guarantees_named = child (schema_of Made3) trees (guarantees_table Made3) (1 ∷ []) 1 (0 ∷ []) (obeys.rules ForeignKey).1.1.1.1.0 (there trees (1 ∷ []) 1 (0 ∷ []));
  lines_named = child (schema_of Made3) trees (lines_table Made3) (1 ∷ 2 ∷ []) 4 (1 ∷ 2 ∷ []) (obeys.rules ForeignKey).1.1.1.1.1.0 (there trees (1 ∷ 2 ∷ []) 4 (1 ∷ 2 ∷ []));
}
ruled Grown3From2 trees obeys = record {
  holders_checked = checks (schema_of Grown3From2) trees holders_table (obeys.rules Check).1.0 (λ row is. is);
  code_keys = keyed (schema_of Grown3From2) trees stored_table (1 ∷ 2 ∷ 3 ∷ []) (obeys.rules Unique).1.1.0 (alone (trees 2) (1 ∷ 2 ∷ 3 ∷ []) [] []);
  movement_keys = keyed (schema_of Grown3From2) trees movements_table (1 ∷ 2 ∷ []) (obeys.rules Unique).1.1.1.0 (middle (trees 4) (3 ∷ []) (1 ∷ 2 ∷ []) (1 ∷ 4 ∷ []));
  lrn_keys = keyed (schema_of Grown3From2) trees movements_table (1 ∷ 4 ∷ []) (obeys.rules Unique).1.1.1.0 (third (trees 4) (3 ∷ []) (1 ∷ 2 ∷ []) (1 ∷ 4 ∷ []));
  guarantee_keys = keyed (schema_of Grown3From2) trees (guarantees_table Grown3From2) (1 ∷ 2 ∷ []) (obeys.rules Unique).1.1.1.1.0
      (second (trees (guarantees_tree Grown3From2)) (3 ∷ []) (1 ∷ 2 ∷ []) []);
  line_keys = keyed (schema_of Grown3From2) trees (lines_table Grown3From2) (1 ∷ 2 ∷ 3 ∷ []) (obeys.rules Unique).1.1.1.1.1.1.0 (first (trees (lines_tree Grown3From2)) (1 ∷ 2 ∷ 3 ∷ []) (1 ∷ 2 ∷ 4 ∷ []) []);
  codes_named = child (schema_of Grown3From2) trees stored_table (1 ∷ []) 1 (0 ∷ []) (obeys.rules ForeignKey).1.1.0 (there trees (1 ∷ []) 1 (0 ∷ []));
  movements_named = child (schema_of Grown3From2) trees movements_table (1 ∷ []) 1 (0 ∷ []) (obeys.rules ForeignKey).1.1.1.0 (there trees (1 ∷ []) 1 (0 ∷ []));
  guarantees_named = child (schema_of Grown3From2) trees (guarantees_table Grown3From2) (1 ∷ []) 1 (0 ∷ []) (obeys.rules ForeignKey).1.1.1.1.0 (there trees (1 ∷ []) 1 (0 ∷ []));
  lines_named = child (schema_of Grown3From2) trees (lines_table Grown3From2) (1 ∷ 2 ∷ []) 4 (1 ∷ 2 ∷ []) (obeys.rules ForeignKey).1.1.1.1.1.1.0 (there trees (1 ∷ 2 ∷ []) 4 (1 ∷ 2 ∷ []));
}
ruled Grown3From1 trees obeys = record {
  holders_checked = checks (schema_of Grown3From1) trees holders_table (obeys.rules Check).1.0 (λ row is. is);
  code_keys = keyed (schema_of Grown3From1) trees stored_table (1 ∷ 2 ∷ 3 ∷ []) (obeys.rules Unique).1.1.0 (alone (trees 2) (1 ∷ 2 ∷ 3 ∷ []) [] []);
  movement_keys = keyed (schema_of Grown3From1) trees movements_table (1 ∷ 2 ∷ []) (obeys.rules Unique).1.1.1.0 (middle (trees 4) (3 ∷ []) (1 ∷ 2 ∷ []) (1 ∷ 4 ∷ []));
  lrn_keys = keyed (schema_of Grown3From1) trees movements_table (1 ∷ 4 ∷ []) (obeys.rules Unique).1.1.1.0 (third (trees 4) (3 ∷ []) (1 ∷ 2 ∷ []) (1 ∷ 4 ∷ []));
  guarantee_keys = keyed (schema_of Grown3From1) trees (guarantees_table Grown3From1) (1 ∷ 2 ∷ []) (obeys.rules Unique).1.1.1.1.1.1.0
      (second (trees (guarantees_tree Grown3From1)) (3 ∷ []) (1 ∷ 2 ∷ []) []);
  line_keys = keyed (schema_of Grown3From1) trees (lines_table Grown3From1) (1 ∷ 2 ∷ 3 ∷ []) (obeys.rules Unique).1.1.1.1.1.1.1.0 (first (trees (lines_tree Grown3From1)) (1 ∷ 2 ∷ 3 ∷ []) (1 ∷ 2 ∷ 4 ∷ []) []);
  codes_named = child (schema_of Grown3From1) trees stored_table (1 ∷ []) 1 (0 ∷ []) (obeys.rules ForeignKey).1.1.0 (there trees (1 ∷ []) 1 (0 ∷ []));
  movements_named = child (schema_of Grown3From1) trees movements_table (1 ∷ []) 1 (0 ∷ []) (obeys.rules ForeignKey).1.1.1.0 (there trees (1 ∷ []) 1 (0 ∷ []));
  guarantees_named = child (schema_of Grown3From1) trees (guarantees_table Grown3From1) (1 ∷ []) 1 (0 ∷ []) (obeys.rules ForeignKey).1.1.1.1.1.1.0 (there trees (1 ∷ []) 1 (0 ∷ []));
  lines_named = child (schema_of Grown3From1) trees (lines_table Grown3From1) (1 ∷ 2 ∷ []) 4 (1 ∷ 2 ∷ []) (obeys.rules ForeignKey).1.1.1.1.1.1.1.0 (there trees (1 ∷ 2 ∷ []) 4 (1 ∷ 2 ∷ []));
}
