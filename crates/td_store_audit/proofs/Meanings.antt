-- What the statements on a holder's codes and lines mean, in a store's file of each layout: on lines by its version.
use Rattle.std.proofs.Common.{◌≡◌, true, refl, subst}
use Rattle.std.specs.Prelude.{ℕ, List, [], ◌∷◌, codes}
use Rattle.sqlite_schema.specs.declared.schema.Index.{Index}
use Rattle.sqlite_schema.specs.declared.schema.Table.{Table}
use Rattle.sqlite_schema.specs.declared.schema.View.{View}
use Rattle.sqlite_tied.specs.Compute.{everything}
use Rattle.sqlite.specs.Listing.{understood}
use Rattle.sqlite_value.specs.declared.keys.Collation.TheVariants.{Binary}
use Rattle.sqlite_value.specs.declared.keys.Key.{Key}
use Rattle.sqlite_value.specs.Keys.{ascending}
use Rattle.sqlite_sql.specs.Term.{Term, col}
use Rattle.typed_sql.specs.Meanings.{MeansSelect}
use Rattle.td_schema.proofs.InEach.{in_each}
use Rattle.td_schema.proofs.Wider.{are_still, wider}
use Rattle.td_schema.specs.Layouts.{lines_tree, schema_of, version_of}
use Rattle.td_schema.specs.declared.layout.Layout.{Layout}
use Rattle.td_schema.specs.declared.layout.Layout.TheVariants.{Made1, Made2, Grown2, Made3, Grown3From2, Grown3From1}
use Rattle.td_store_rows.specs.StoreReads.{IsOfVersion}
use Rattle.td_store_rows.proofs.MovementMeanings.{after_tests}
use Rattle.td_store_rows.proofs.RangeTests.{within_tests}
use Rattle.td_store_audit.specs.LineTexts.{lines_behind_text, lines_within_text}
use Rattle.td_store_audit.specs.declared.texts.TheConstants.{CODES_BEHIND, CODES_WITHIN}

-- the columns that are shown of a code
abbrev pub code_terms : List Term
code_terms = col 1 1 ∷ col 1 2 ∷ col 1 3 ∷ []

-- by the first three columns
abbrev pub by_three : List (Term × Key)
by_three = (col 1 1, ascending Binary) ∷ (col 1 2, ascending Binary) ∷ (col 1 3, ascending Binary) ∷ []

abbrev code_names : List (List ℕ)
code_names = codes "holder" ∷ codes "serial" ∷ codes "code" ∷ []

codes_within_mean_in : (more : List Table) (indexes : List Index) (views : List View) → are_still more ≡ true → MeansSelect (wider more indexes views) CODES_WITHIN.now 2 within_tests code_terms by_three
unfolding understood everything
codes_within_mean_in more indexes views still = record { names = code_names; command = refl; plain = (refl, refl); unlisted = refl }

pub codes_within_mean : (l : Layout) → MeansSelect (schema_of l) CODES_WITHIN.now 2 within_tests code_terms by_three
codes_within_mean = in_each (λ s. MeansSelect s CODES_WITHIN.now 2 within_tests code_terms by_three) codes_within_mean_in

codes_behind_mean_in : (more : List Table) (indexes : List Index) (views : List View) → are_still more ≡ true → MeansSelect (wider more indexes views) CODES_BEHIND.now 2 after_tests code_terms by_three
unfolding understood everything
codes_behind_mean_in more indexes views still = record { names = code_names; command = refl; plain = (refl, refl); unlisted = refl }

pub codes_behind_mean : (l : Layout) → MeansSelect (schema_of l) CODES_BEHIND.now 2 after_tests code_terms by_three
codes_behind_mean = in_each (λ s. MeansSelect s CODES_BEHIND.now 2 after_tests code_terms by_three) codes_behind_mean_in

-- and of a line
abbrev pub line_terms : List Term
line_terms = col 1 1 ∷ col 1 2 ∷ col 1 3 ∷ col 1 4 ∷ col 1 5 ∷ []

abbrev line_names : List (List ℕ)
line_names = codes "holder" ∷ codes "serial" ∷ codes "no" ∷ codes "guarantee" ∷ codes "cents" ∷ []

-- what those of a layout's version mean
abbrev ShowWithin : Layout → ℕ → Type 0
ShowWithin l version = MeansSelect (schema_of l) (lines_within_text version) (lines_tree l) within_tests line_terms by_three

own_within_mean : (l : Layout) → ShowWithin l (version_of l)
unfolding understood everything
own_within_mean Made1 = record { names = line_names; command = refl; plain = (refl, refl); unlisted = refl }
own_within_mean Made2 = record { names = line_names; command = refl; plain = (refl, refl); unlisted = refl }
own_within_mean Grown2 = record { names = line_names; command = refl; plain = (refl, refl); unlisted = refl }
own_within_mean Made3 = record { names = line_names; command = refl; plain = (refl, refl); unlisted = refl }
own_within_mean Grown3From2 = record { names = line_names; command = refl; plain = (refl, refl); unlisted = refl }
own_within_mean Grown3From1 = record { names = line_names; command = refl; plain = (refl, refl); unlisted = refl }

pub within_mean : (version : ℕ) (l : Layout) → IsOfVersion version l → ShowWithin l version
within_mean version l own = subst (ShowWithin l) own (own_within_mean l)

abbrev ShowBehind : Layout → ℕ → Type 0
ShowBehind l version = MeansSelect (schema_of l) (lines_behind_text version) (lines_tree l) after_tests line_terms by_three

own_behind_mean : (l : Layout) → ShowBehind l (version_of l)
unfolding understood everything
own_behind_mean Made1 = record { names = line_names; command = refl; plain = (refl, refl); unlisted = refl }
own_behind_mean Made2 = record { names = line_names; command = refl; plain = (refl, refl); unlisted = refl }
own_behind_mean Grown2 = record { names = line_names; command = refl; plain = (refl, refl); unlisted = refl }
own_behind_mean Made3 = record { names = line_names; command = refl; plain = (refl, refl); unlisted = refl }
own_behind_mean Grown3From2 = record { names = line_names; command = refl; plain = (refl, refl); unlisted = refl }
own_behind_mean Grown3From1 = record { names = line_names; command = refl; plain = (refl, refl); unlisted = refl }

pub behind_mean : (version : ℕ) (l : Layout) → IsOfVersion version l → ShowBehind l version
behind_mean version l own = subst (ShowBehind l) own (own_behind_mean l)
