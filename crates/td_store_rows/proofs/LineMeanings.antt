-- What the statements on the table of lines mean, in a store's file of each layout.
use Rattle.std.proofs.Common.{arith, refl, ◌≡◌}
use Rattle.std.specs.Prelude.{ℕ, List, [], ◌∷◌, codes}
use Rattle.sqlite_tied.specs.Compute.{everything}
use Rattle.sqlite.specs.Listing.{understood}
use Rattle.sqlite_value.specs.declared.keys.Collation.TheVariants.{Binary}
use Rattle.sqlite_value.specs.declared.keys.Key.{Key}
use Rattle.sqlite_value.specs.declared.value.Value.TheVariants.{Null}
use Rattle.sqlite_value.specs.Keys.{ascending}
use Rattle.sqlite_sql.specs.Term.{Term, lit, col, op2}
use Rattle.sqlite_sql.specs.declared.ops.BinaryOp.TheVariants.{Compare}
use Rattle.sqlite_sql.specs.declared.ops.CompareOp.TheVariants.{Eq}
use Rattle.td_schema.proofs.Still.{none_act}
use Rattle.td_schema.specs.Layouts.{HasFewLines, HasMoreLines, grown, lines_place, lines_tree, schema_of, version_of}
use Rattle.td_schema.specs.declared.layout.Layout.{Layout}
use Rattle.td_schema.specs.declared.layout.Layout.TheVariants.{Made1, Made2, Grown2, Made3, Grown3From2, Grown3From1}
use Rattle.typed_sql.specs.Meanings.{HasTable, MeansDelete, MeansInsert, MeansSelect}
use Rattle.td_store_rows.specs.Columns.{lines_table}
use Rattle.td_store_rows.specs.LineTable.{first_lines}
use Rattle.td_store_rows.specs.declared.lines.texts.TheConstants.{ALL_FIRST, EMPTY_FIRST, INSERT, OF_MOVEMENT, ON_GUARANTEE}

lines_there : (l : Layout) → HasTable (schema_of l) (lines_place l) (lines_table l)
lines_there Made1 = record { there = refl; free = none_act (schema_of Made1) refl (lines_tree Made1) }
lines_there Made2 = record { there = refl; free = none_act (schema_of Made2) refl (lines_tree Made2) }
lines_there Grown2 = record { there = refl; free = none_act (schema_of Grown2) refl (lines_tree Grown2) }
lines_there Made3 = record { there = refl; free = none_act (schema_of Made3) refl (lines_tree Made3) }
lines_there Grown3From2 = record { there = refl; free = none_act (schema_of Grown3From2) refl (lines_tree Grown3From2) }
lines_there Grown3From1 = record { there = refl; free = none_act (schema_of Grown3From1) refl (lines_tree Grown3From1) }

-- the holder and the serial are those that were given
abbrev pub key_tests : List Term
key_tests = op2 (Compare Eq Binary) (col 1 1) (col 0 0) ∷ op2 (Compare Eq Binary) (col 1 2) (col 0 1) ∷ []

-- so are the holder and the guarantee
abbrev pub guarantee_tests : List Term
guarantee_tests = op2 (Compare Eq Binary) (col 1 1) (col 0 0) ∷ op2 (Compare Eq Binary) (col 1 4) (col 0 1) ∷ []

-- the columns of a new row, and of one that is shown
abbrev pub new_row : List Term
new_row = lit Null ∷ col 0 0 ∷ col 0 1 ∷ col 0 2 ∷ col 0 3 ∷ col 0 4 ∷ []

abbrev pub all_columns : List Term
all_columns = col 1 1 ∷ col 1 2 ∷ col 1 3 ∷ col 1 4 ∷ col 1 5 ∷ []

abbrev pub by_number : List (Term × Key)
by_number = (col 1 1, ascending Binary) ∷ (col 1 2, ascending Binary) ∷ (col 1 3, ascending Binary) ∷ []

abbrev names : List (List ℕ)
names = codes "holder" ∷ codes "serial" ∷ codes "no" ∷ codes "guarantee" ∷ codes "cents" ∷ []

pub insert_means : (l : Layout) → HasMoreLines l → MeansInsert (schema_of l) INSERT.now (lines_table l) new_row
unfolding understood everything
insert_means Made1 more = absurd (omega (arith, more))
insert_means Made2 more = absurd (omega (arith, more))
insert_means Grown2 more = absurd (omega (arith, more))
insert_means Made3 more = record { place = lines_place Made3; width = 6; table = lines_there Made3; command = refl; plain = (refl, refl); one = λ values. refl }
insert_means Grown3From2 more = record { place = lines_place Grown3From2; width = 6; table = lines_there Grown3From2; command = refl; plain = (refl, refl); one = λ values. refl }
insert_means Grown3From1 more = record { place = lines_place Grown3From1; width = 6; table = lines_there Grown3From1; command = refl; plain = (refl, refl); one = λ values. refl }

pub of_movement_means : (l : Layout) → HasMoreLines l → MeansSelect (schema_of l) OF_MOVEMENT.now (lines_tree l) key_tests all_columns by_number
unfolding understood everything
of_movement_means Made1 more = absurd (omega (arith, more))
of_movement_means Made2 more = absurd (omega (arith, more))
of_movement_means Grown2 more = absurd (omega (arith, more))
of_movement_means Made3 more = record { names = names; command = refl; plain = (refl, refl); unlisted = refl }
of_movement_means Grown3From2 more = record { names = names; command = refl; plain = (refl, refl); unlisted = refl }
of_movement_means Grown3From1 more = record { names = names; command = refl; plain = (refl, refl); unlisted = refl }

pub on_guarantee_means : (l : Layout) → HasFewLines l → MeansSelect (schema_of l) ON_GUARANTEE.now (lines_tree l) guarantee_tests all_columns []
unfolding understood everything
on_guarantee_means Made1 few = record { names = names; command = refl; plain = (refl, refl); unlisted = refl }
on_guarantee_means Made2 few = record { names = names; command = refl; plain = (refl, refl); unlisted = refl }
on_guarantee_means Grown2 few = record { names = names; command = refl; plain = (refl, refl); unlisted = refl }
on_guarantee_means Made3 few = absurd (omega (arith, few))
on_guarantee_means Grown3From2 few = absurd (omega (arith, few))
on_guarantee_means Grown3From1 few = absurd (omega (arith, few))

pub all_first_means : (l : Layout) → HasFewLines l → MeansSelect (schema_of l) ALL_FIRST.now (lines_tree l) [] all_columns []
unfolding understood everything
all_first_means Made1 few = record { names = names; command = refl; plain = (refl, refl); unlisted = refl }
all_first_means Made2 few = record { names = names; command = refl; plain = (refl, refl); unlisted = refl }
all_first_means Grown2 few = record { names = names; command = refl; plain = (refl, refl); unlisted = refl }
all_first_means Made3 few = absurd (omega (arith, few))
all_first_means Grown3From2 few = absurd (omega (arith, few))
all_first_means Grown3From1 few = absurd (omega (arith, few))

pub empty_means : (l : Layout) → version_of l ≡ 2 → MeansDelete (schema_of (grown l)) EMPTY_FIRST.now first_lines []
unfolding understood everything
empty_means Made1 is = absurd cc
empty_means Made2 is = record { place = 5; table = record { there = refl; free = none_act (schema_of Grown3From2) refl 11 }; command = refl; plain = (refl, refl) }
empty_means Grown2 is = record { place = 5; table = record { there = refl; free = none_act (schema_of Grown3From1) refl 11 }; command = refl; plain = (refl, refl) }
empty_means Made3 is = absurd cc
empty_means Grown3From2 is = absurd cc
empty_means Grown3From1 is = absurd cc
