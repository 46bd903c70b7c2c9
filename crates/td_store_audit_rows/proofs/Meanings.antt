-- What the statements of the audit mean, in a store's file of each layout: on guarantees and on lines by its version.
use Rattle.std.proofs.Common.{◌≡◌, true, refl, subst}
use Rattle.std.specs.Prelude.{ℕ, List, [], ◌∷◌, codes}
use Rattle.sqlite_schema.specs.declared.schema.Index.{Index}
use Rattle.sqlite_schema.specs.declared.schema.Table.{Table}
use Rattle.sqlite_schema.specs.declared.schema.View.{View}
use Rattle.sqlite_tied.specs.Compute.{everything}
use Rattle.sqlite.specs.Listing.{understood}
use Rattle.sqlite_value.specs.declared.keys.Collation.TheVariants.{Binary}
use Rattle.sqlite_value.specs.declared.keys.Key.{Key}
use Rattle.sqlite_value.specs.Keys.{ascending}
use Rattle.sqlite_sql.specs.Term.{Term, col, op2}
use Rattle.sqlite_sql.specs.declared.ops.BinaryOp.TheVariants.{Compare}
use Rattle.sqlite_sql.specs.declared.ops.CompareOp.TheVariants.{Gt}
use Rattle.typed_sql.specs.Meanings.{MeansSelect}
use Rattle.td_schema.proofs.InEach.{in_each}
use Rattle.td_schema.proofs.Wider.{are_still, wider}
use Rattle.td_schema.specs.Layouts.{guarantees_tree, lines_tree, schema_of, version_of}
use Rattle.td_schema.specs.declared.layout.Layout.{Layout}
use Rattle.td_schema.specs.declared.layout.Layout.TheVariants.{Made1, Made2, Grown2, Made3, Grown3From2, Grown3From1}
use Rattle.td_store_rows.specs.StoreReads.{IsOfVersion}
use Rattle.td_store_audit_rows.specs.Versions.{guarantees_text, lines_text}
use Rattle.td_store_audit_rows.specs.declared.texts.TheConstants.{CODES, HOLDERS_ABOVE, HOLDER_IDS, META_IDS, MOVEMENTS}

-- by the rowid
abbrev pub by_rowid : List (Term × Key)
by_rowid = (col 1 0, ascending Binary) ∷ []

-- the columns that are shown, of the last four after the rowid
abbrev pub rowid_alone : List Term
rowid_alone = col 1 0 ∷ []

abbrev pub holder_terms : List Term
holder_terms = col 1 0 ∷ col 1 2 ∷ col 1 3 ∷ col 1 4 ∷ col 1 5 ∷ []

abbrev pub guarantee_terms : List Term
guarantee_terms = col 1 1 ∷ col 1 2 ∷ col 1 3 ∷ col 1 4 ∷ col 1 5 ∷ col 1 6 ∷ []

abbrev pub code_terms : List Term
code_terms = col 1 1 ∷ col 1 2 ∷ col 1 3 ∷ []

abbrev pub movement_terms : List Term
movement_terms =
    col 1 1 ∷ col 1 2 ∷ col 1 3 ∷ col 1 4 ∷ col 1 5 ∷ col 1 6 ∷ col 1 7 ∷ col 1 8 ∷ col 1 9 ∷ col 1 10 ∷ col 1 11 ∷ []

abbrev pub line_terms : List Term
line_terms = col 1 1 ∷ col 1 2 ∷ col 1 3 ∷ col 1 4 ∷ col 1 5 ∷ []

meta_ids_mean_in : (more : List Table) (indexes : List Index) (views : List View) → are_still more ≡ true → MeansSelect (wider more indexes views) META_IDS.now 0 [] rowid_alone by_rowid
unfolding understood everything
meta_ids_mean_in more indexes views still = record { names = codes "one" ∷ []; command = refl; plain = (refl, refl); unlisted = refl }

pub meta_ids_mean : (l : Layout) → MeansSelect (schema_of l) META_IDS.now 0 [] rowid_alone by_rowid
meta_ids_mean = in_each (λ s. MeansSelect s META_IDS.now 0 [] rowid_alone by_rowid) meta_ids_mean_in

holder_ids_mean_in : (more : List Table) (indexes : List Index) (views : List View) → are_still more ≡ true → MeansSelect (wider more indexes views) HOLDER_IDS.now 1 [] rowid_alone by_rowid
unfolding understood everything
holder_ids_mean_in more indexes views still = record { names = codes "holder" ∷ []; command = refl; plain = (refl, refl); unlisted = refl }

pub holder_ids_mean : (l : Layout) → MeansSelect (schema_of l) HOLDER_IDS.now 1 [] rowid_alone by_rowid
holder_ids_mean = in_each (λ s. MeansSelect s HOLDER_IDS.now 1 [] rowid_alone by_rowid) holder_ids_mean_in

-- the holder's number is above the value that was given
abbrev pub above_tests : List Term
above_tests = op2 (Compare Gt Binary) (col 1 0) (col 0 0) ∷ []

abbrev holder_names : List (List ℕ)
holder_names = codes "holder" ∷ codes "eori" ∷ codes "last_at" ∷ codes "grn_count" ∷ codes "mrn_count" ∷ []

holders_above_mean_in : (more : List Table) (indexes : List Index) (views : List View) → are_still more ≡ true → MeansSelect (wider more indexes views) HOLDERS_ABOVE.now 1 above_tests holder_terms by_rowid
unfolding understood everything
holders_above_mean_in more indexes views still = record { names = holder_names; command = refl; plain = (refl, refl); unlisted = refl }

pub holders_above_mean : (l : Layout) → MeansSelect (schema_of l) HOLDERS_ABOVE.now 1 above_tests holder_terms by_rowid
holders_above_mean = in_each (λ s. MeansSelect s HOLDERS_ABOVE.now 1 above_tests holder_terms by_rowid) holders_above_mean_in

abbrev guarantee_names : List (List ℕ)
guarantee_names = codes "rowid" ∷ codes "holder" ∷ codes "serial" ∷ codes "grn" ∷ codes "reference" ∷ codes "cover" ∷ codes "ends" ∷ []

-- what that of a layout's version means
abbrev ShowGuarantees : Layout → ℕ → Type 0
ShowGuarantees l version = MeansSelect (schema_of l) (guarantees_text version) (guarantees_tree l) [] (col 1 0 ∷ guarantee_terms) by_rowid

own_guarantees_mean : (l : Layout) → ShowGuarantees l (version_of l)
unfolding understood everything
own_guarantees_mean Made1 = record { names = guarantee_names; command = refl; plain = (refl, refl); unlisted = refl }
own_guarantees_mean Made2 = record { names = guarantee_names; command = refl; plain = (refl, refl); unlisted = refl }
own_guarantees_mean Grown2 = record { names = guarantee_names; command = refl; plain = (refl, refl); unlisted = refl }
own_guarantees_mean Made3 = record { names = guarantee_names; command = refl; plain = (refl, refl); unlisted = refl }
own_guarantees_mean Grown3From2 = record { names = guarantee_names; command = refl; plain = (refl, refl); unlisted = refl }
own_guarantees_mean Grown3From1 = record { names = guarantee_names; command = refl; plain = (refl, refl); unlisted = refl }

pub guarantees_mean : (version : ℕ) (l : Layout) → IsOfVersion version l → ShowGuarantees l version
guarantees_mean version l own = subst (ShowGuarantees l) own (own_guarantees_mean l)

abbrev code_names : List (List ℕ)
code_names = codes "rowid" ∷ codes "holder" ∷ codes "serial" ∷ codes "code" ∷ []

codes_mean_in : (more : List Table) (indexes : List Index) (views : List View) → are_still more ≡ true → MeansSelect (wider more indexes views) CODES.now 2 [] (col 1 0 ∷ code_terms) by_rowid
unfolding understood everything
codes_mean_in more indexes views still = record { names = code_names; command = refl; plain = (refl, refl); unlisted = refl }

pub codes_mean : (l : Layout) → MeansSelect (schema_of l) CODES.now 2 [] (col 1 0 ∷ code_terms) by_rowid
codes_mean = in_each (λ s. MeansSelect s CODES.now 2 [] (col 1 0 ∷ code_terms) by_rowid) codes_mean_in

abbrev movement_names : List (List ℕ)
movement_names =
    codes "rowid" ∷ codes "holder" ∷ codes "serial" ∷ codes "mrn" ∷ codes "lrn" ∷ codes "departure"
    ∷ codes "destination" ∷ codes "accepted" ∷ codes "state" ∷ codes "limit_day" ∷ codes "arrival" ∷ codes "actual" ∷ []

movements_mean_in : (more : List Table) (indexes : List Index) (views : List View) → are_still more ≡ true → MeansSelect (wider more indexes views) MOVEMENTS.now 4 [] (col 1 0 ∷ movement_terms) by_rowid
unfolding understood everything
movements_mean_in more indexes views still = record { names = movement_names; command = refl; plain = (refl, refl); unlisted = refl }

pub movements_mean : (l : Layout) → MeansSelect (schema_of l) MOVEMENTS.now 4 [] (col 1 0 ∷ movement_terms) by_rowid
movements_mean = in_each (λ s. MeansSelect s MOVEMENTS.now 4 [] (col 1 0 ∷ movement_terms) by_rowid) movements_mean_in

abbrev line_names : List (List ℕ)
line_names = codes "rowid" ∷ codes "holder" ∷ codes "serial" ∷ codes "no" ∷ codes "guarantee" ∷ codes "cents" ∷ []

-- what that of a layout's version means
abbrev ShowLines : Layout → ℕ → Type 0
ShowLines l version = MeansSelect (schema_of l) (lines_text version) (lines_tree l) [] (col 1 0 ∷ line_terms) by_rowid

own_lines_mean : (l : Layout) → ShowLines l (version_of l)
unfolding understood everything
own_lines_mean Made1 = record { names = line_names; command = refl; plain = (refl, refl); unlisted = refl }
own_lines_mean Made2 = record { names = line_names; command = refl; plain = (refl, refl); unlisted = refl }
own_lines_mean Grown2 = record { names = line_names; command = refl; plain = (refl, refl); unlisted = refl }
own_lines_mean Made3 = record { names = line_names; command = refl; plain = (refl, refl); unlisted = refl }
own_lines_mean Grown3From2 = record { names = line_names; command = refl; plain = (refl, refl); unlisted = refl }
own_lines_mean Grown3From1 = record { names = line_names; command = refl; plain = (refl, refl); unlisted = refl }

pub lines_mean : (version : ℕ) (l : Layout) → IsOfVersion version l → ShowLines l version
lines_mean version l own = subst (ShowLines l) own (own_lines_mean l)
