-- The layouts of version 2, and what they grow to.
use Rattle.std.proofs.Common.{◌≡◌, ◌≢◌, ◌∙◌, ℕ, false, true, refl, sym, arith}
use Rattle.std.specs.Prelude.{◌==◌}
use Rattle.std.proofs.lemmas.Bool.{false≢true}
use Rattle.std.proofs.lemmas.Bool.Decides.{nat_tests}
use Rattle.sqlite_catalog.specs.Change.{KeepsRows, created, next_tree}
use Rattle.sqlite_trees.specs.Tree.{Trees}
use Rattle.td_table_model.specs.Tables.{version_with_amounts}
use Rattle.td_schema.specs.Layouts.{HasMoreLines, IsNewest, grown, guarantees_tree, lines_tree, schema_of, version_of, version_with_more_lines}
use Rattle.td_schema.specs.Tables.{lines3}
use Rattle.td_schema.specs.declared.layout.Layout.{Layout}
use Rattle.td_schema.specs.declared.layout.Layout.TheVariants.{Made1, Made2, Grown2, Made3, Grown3From2, Grown3From1}
use Rattle.typed_sql.specs.Writing.{AreOthersKept}
use Rattle.td_store_rows.specs.LineTable.{first_lines}
use Rattle.td_migrate.specs.LinesMoved.{AreBesideLines}

-- what is so of both of them is so of each of that version
pub of_second : (P : Layout → Type 0) → P Made2 → P Grown2 → (l : Layout) → version_of l ≡ version_with_amounts → P l
of_second P made grown_from Made1 is = absurd cc
of_second P made grown_from Made2 is = made
of_second P made grown_from Grown2 is = grown_from
of_second P made grown_from Made3 is = absurd cc
of_second P made grown_from Grown3From2 is = absurd cc
of_second P made grown_from Grown3From1 is = absurd cc

-- the layout that one grows to has the table of lines of version 3 behind its tables, and guarantees where it has them
pub record IsSecondLayout (l : Layout) : Type 0 where
  pub schema : created (schema_of l) lines3 ≡ schema_of (grown l)
  pub tree : next_tree (schema_of l) ≡ lines_tree (grown l)
  pub older : lines_tree l ≡ first_lines.tree
  pub guarantees : guarantees_tree (grown l) ≡ guarantees_tree l
  pub version : version_of (grown l) ≡ version_with_more_lines
  pub more : HasMoreLines (grown l)
  pub newest : IsNewest (grown l)
  pub last : grown l ≡ grown (grown l)

pub second_layout : (l : Layout) → version_of l ≡ version_with_amounts → IsSecondLayout l
second_layout = of_second IsSecondLayout
    (record { schema = refl; tree = refl; older = refl; guarantees = refl; version = refl; more = omega arith; newest = refl; last = refl })
    (record { schema = refl; tree = refl; older = refl; guarantees = refl; version = refl; more = omega arith; newest = refl; last = refl })

-- the trees that a statement on one of its tables left as they were: on the office's own row, on the older table of
-- lines, and on the newer one
pub record BesideMeta (l : Layout) (a b : Trees) : Type 0 where
  pub older : b first_lines.tree ≡ a first_lines.tree
  pub newer : b (lines_tree (grown l)) ≡ a (lines_tree (grown l))
  pub rest : AreBesideLines l a b

pub record BesideOlder (l : Layout) (a b : Trees) : Type 0 where
  pub meta : b 0 ≡ a 0
  pub newer : b (lines_tree (grown l)) ≡ a (lines_tree (grown l))
  pub rest : AreBesideLines l a b

pub record BesideNewer (l : Layout) (a b : Trees) : Type 0 where
  pub meta : b 0 ≡ a 0
  pub older : b first_lines.tree ≡ a first_lines.tree
  pub rest : AreBesideLines l a b

other : {m n : ℕ} → (m == n) ≡ false → m ≢ n
other {m} {n} is same = let alike : (m == n) ≡ true = grind (arith, nat_tests, same) in absurd (false≢true (sym is ∙ alike))

not_grown : (P : Type 0) → Made2 ≡ Grown2 → P
not_grown P is = absurd cc

pub beside_meta : (l : Layout) → version_of l ≡ version_with_amounts → (a b : Trees) → AreOthersKept (schema_of (grown l)) 0 a b → BesideMeta l a b
beside_meta l is a b = of_second (λ l. AreOthersKept (schema_of (grown l)) 0 a b → BesideMeta l a b)
    (λ others. record {
      older = others.1.1.1.1.1.0 (other refl);
      newer = others.1.1.1.1.1.1.0 (other refl);
      rest = record {
        holders = others.1.0 (other refl);
        codes = others.1.1.0 (other refl);
        movements = others.1.1.1.0 (other refl);
        guarantees = others.1.1.1.1.0 (other refl);
        first = not_grown (b 8 ≡ a 8);
      };
    })
    (λ others. record {
      older = others.1.1.1.1.1.0 (other refl);
      newer = others.1.1.1.1.1.1.1.0 (other refl);
      rest = record {
        holders = others.1.0 (other refl);
        codes = others.1.1.0 (other refl);
        movements = others.1.1.1.0 (other refl);
        guarantees = others.1.1.1.1.1.1.0 (other refl);
        first = λ _. others.1.1.1.1.0 (other refl);
      };
    })
    l is

pub beside_older : (l : Layout) → version_of l ≡ version_with_amounts → (a b : Trees) → AreOthersKept (schema_of (grown l)) first_lines.tree a b → BesideOlder l a b
beside_older l is a b = of_second (λ l. AreOthersKept (schema_of (grown l)) first_lines.tree a b → BesideOlder l a b)
    (λ others. record {
      meta = others.0 (other refl);
      newer = others.1.1.1.1.1.1.0 (other refl);
      rest = record {
        holders = others.1.0 (other refl);
        codes = others.1.1.0 (other refl);
        movements = others.1.1.1.0 (other refl);
        guarantees = others.1.1.1.1.0 (other refl);
        first = not_grown (b 8 ≡ a 8);
      };
    })
    (λ others. record {
      meta = others.0 (other refl);
      newer = others.1.1.1.1.1.1.1.0 (other refl);
      rest = record {
        holders = others.1.0 (other refl);
        codes = others.1.1.0 (other refl);
        movements = others.1.1.1.0 (other refl);
        guarantees = others.1.1.1.1.1.1.0 (other refl);
        first = λ _. others.1.1.1.1.0 (other refl);
      };
    })
    l is

pub beside_newer : (l : Layout) → version_of l ≡ version_with_amounts → (a b : Trees)
    → AreOthersKept (schema_of (grown l)) (lines_tree (grown l)) a b → BesideNewer l a b
beside_newer l is a b = of_second (λ l. AreOthersKept (schema_of (grown l)) (lines_tree (grown l)) a b → BesideNewer l a b)
    (λ others. record {
      meta = others.0 (other refl);
      older = others.1.1.1.1.1.0 (other refl);
      rest = record {
        holders = others.1.0 (other refl);
        codes = others.1.1.0 (other refl);
        movements = others.1.1.1.0 (other refl);
        guarantees = others.1.1.1.1.0 (other refl);
        first = not_grown (b 8 ≡ a 8);
      };
    })
    (λ others. record {
      meta = others.0 (other refl);
      older = others.1.1.1.1.1.0 (other refl);
      rest = record {
        holders = others.1.0 (other refl);
        codes = others.1.1.0 (other refl);
        movements = others.1.1.1.0 (other refl);
        guarantees = others.1.1.1.1.1.1.0 (other refl);
        first = λ _. others.1.1.1.1.0 (other refl);
      };
    })
    l is

-- and those that stood before a table was made
pub beside_made : (l : Layout) → version_of l ≡ version_with_amounts → (a b : Trees) → KeepsRows (schema_of l).tables a b → BesideNewer l a b
beside_made l is a b = of_second (λ l. KeepsRows (schema_of l).tables a b → BesideNewer l a b)
    (λ others. record {
      meta = others.0;
      older = others.1.1.1.1.1.0;
      rest = record {
        holders = others.1.0;
        codes = others.1.1.0;
        movements = others.1.1.1.0;
        guarantees = others.1.1.1.1.0;
        first = not_grown (b 8 ≡ a 8);
      };
    })
    (λ others. record {
      meta = others.0;
      older = others.1.1.1.1.1.0;
      rest = record {
        holders = others.1.0;
        codes = others.1.1.0;
        movements = others.1.1.1.0;
        guarantees = others.1.1.1.1.1.1.0;
        first = λ _. others.1.1.1.1.0;
      };
    })
    l is
