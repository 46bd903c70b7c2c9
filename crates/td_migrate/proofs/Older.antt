-- What the statements mean that ask for a holder's rows of an older table, while the file has the tables of the next version too; and that
-- the table which is written meanwhile is another.
use Rattle.std.proofs.Common.{◌≡◌, ℕ, List, [], ◌∷◌, ap, arith, refl, subst, sym}
use Rattle.std.specs.Prelude.{codes}
use Rattle.sqlite_tied.specs.Compute.{everything}
use Rattle.sqlite.specs.Given.{IsPlain}
use Rattle.sqlite.specs.Listing.{understood}
use Rattle.sqlite_sql.specs.Term.{Term, col}
use Rattle.sqlite_trees.specs.Tree.{Trees}
use Rattle.sqlite_value.specs.Order.{Row, column}
use Rattle.td_table_model.specs.Tables.{version_with_amounts}
use Rattle.td_schema.specs.Layouts.{grown, guarantees_tree, lines_tree, schema_of, version_of}
use Rattle.td_schema.specs.declared.layout.Layout.{Layout}
use Rattle.td_schema.specs.declared.layout.Layout.TheVariants.{Made1, Grown2}
use Rattle.typed_sql.specs.Meanings.{MeansSelect}
use Rattle.typed_sql.specs.Typed.{IsTypedRow, row_of}
use Rattle.typed_sql.specs.Values.{number_value}
use Rattle.typed_sql.specs.Writing.{AreOthersKept, passes}
use Rattle.td_store_rows.specs.Columns.{guarantee_typing, kept_typing, line_typing}
use Rattle.td_store_rows.specs.Places.{is_within}
use Rattle.td_store_rows.specs.StoreReads.{IsOfVersion, KeepsUse}
use Rattle.td_store_rows.proofs.RangeTests.{within_passes, within_tests}
use Rattle.td_migrate.specs.Filled.{IsFirst}
use Rattle.td_migrate.specs.Put.{IsGrownFrom}
use Rattle.td_migrate.specs.declared.filling.TheConstants.{FIRST_WITHIN}
use Rattle.td_migrate.specs.declared.lines.TheConstants.{OLDER_WITHIN}
use Rattle.td_migrate.proofs.Becoming.{beside_new}
use Rattle.td_migrate.proofs.Second.{beside_newer, of_second, second_layout}
use Rattle.td_migrate.proofs.Walking.{AreBeside}

-- what is so of the layout that files of version 1 were made with
pub of_first : (P : Layout → Type 0) → P Made1 → (l : Layout) → IsFirst l → P l
of_first P made l is = subst P (sym is) made

-- the columns that are shown of a guarantee
abbrev pub guarantee_terms : List Term
guarantee_terms = col 1 1 ∷ col 1 2 ∷ col 1 3 ∷ col 1 4 ∷ col 1 5 ∷ col 1 6 ∷ []

abbrev guarantee_names : List (List ℕ)
guarantee_names = codes "holder" ∷ codes "serial" ∷ codes "grn" ∷ codes "reference" ∷ codes "cover" ∷ codes "ends" ∷ []

first_means : MeansSelect (schema_of Grown2) FIRST_WITHIN.now (guarantees_tree Made1) within_tests guarantee_terms []
unfolding understood everything
first_means = record { names = guarantee_names; command = refl; plain = (refl, refl); unlisted = refl }

pub first_mean : (l : Layout) → IsFirst l → MeansSelect (schema_of (grown l)) FIRST_WITHIN.now (guarantees_tree l) within_tests guarantee_terms []
first_mean = of_first (λ l. MeansSelect (schema_of (grown l)) FIRST_WITHIN.now (guarantees_tree l) within_tests guarantee_terms []) first_means

pub first_plain : (l : Layout) → IsGrownFrom IsFirst l → IsPlain (understood (schema_of l) FIRST_WITHIN.now)
first_plain l is = subst (λ k. IsPlain (understood (schema_of k) FIRST_WITHIN.now)) (sym is.2) (first_mean is.0 is.1).plain

-- a row of a guarantee passes where it is of the holder, with a serial in the range
pub first_pass : (l : Layout) (H first end : ℕ) (r : Row) → IsTypedRow (guarantee_typing l) r
    → passes (number_value H ∷ number_value first ∷ number_value end ∷ []) within_tests r ≡ is_within H first end (row_of (guarantee_typing l) r)
first_pass l H first end r is =
    within_passes (row_of (guarantee_typing l) r) r (ap (λ k. column k 0) is) (ap (λ k. column k 1) is) H first end

-- and those of a line
abbrev pub line_terms : List Term
line_terms = col 1 1 ∷ col 1 2 ∷ col 1 3 ∷ col 1 4 ∷ col 1 5 ∷ []

abbrev line_names : List (List ℕ)
line_names = codes "holder" ∷ codes "serial" ∷ codes "no" ∷ codes "guarantee" ∷ codes "cents" ∷ []

pub older_mean : (l : Layout) → version_of l ≡ version_with_amounts → MeansSelect (schema_of (grown l)) OLDER_WITHIN.now (lines_tree l) within_tests line_terms []
unfolding understood everything
older_mean = of_second (λ l. MeansSelect (schema_of (grown l)) OLDER_WITHIN.now (lines_tree l) within_tests line_terms [])
    (record { names = line_names; command = refl; plain = (refl, refl); unlisted = refl })
    (record { names = line_names; command = refl; plain = (refl, refl); unlisted = refl })

pub older_plain : (l : Layout) → IsGrownFrom (IsOfVersion version_with_amounts) l → IsPlain (understood (schema_of l) OLDER_WITHIN.now)
older_plain l is = subst (λ k. IsPlain (understood (schema_of k) OLDER_WITHIN.now)) (sym is.2) (older_mean is.0 is.1).plain

pub older_pass : (l : Layout) (H first end : ℕ) (r : Row) → IsTypedRow (line_typing l) r
    → passes (number_value H ∷ number_value first ∷ number_value end ∷ []) within_tests r ≡ is_within H first end (row_of (line_typing l) r)
older_pass l H first end r is = within_passes (row_of (line_typing l) r) r (ap (λ k. column k 0) is) (ap (λ k. column k 1) is) H first end

-- guarantees of version 2 are put beside those of version 1, and lines of version 3 beside those of version 2
pub first_beside : (l : Layout) → IsFirst l → (x y : Trees) → AreOthersKept (schema_of (grown l)) (kept_typing (grown l)).table.tree x y → AreBeside (guarantee_typing l) x y
first_beside l is x y =
    of_first (λ l. AreOthersKept (schema_of (grown l)) (kept_typing (grown l)).table.tree x y → AreBeside (guarantee_typing l) x y)
    (λ others. let it = beside_new x y others in record { source = it.old; holders = it.rest.holders }) l is

pub lines_beside : (l : Layout) → version_of l ≡ version_with_amounts → (x y : Trees) → AreOthersKept (schema_of (grown l)) (line_typing (grown l)).table.tree x y
    → AreBeside (line_typing l) x y
lines_beside l is x y others =
    let it = beside_newer l is x y others in
    record { source = subst (λ tree. y tree ≡ x tree) (sym (second_layout l is).older) it.older; holders = it.rest.holders }

-- the layout that the first grows to keeps the amounts in use
pub first_keeps : (l : Layout) → IsFirst l → KeepsUse (grown l)
first_keeps = of_first (λ l. KeepsUse (grown l)) (omega arith)
