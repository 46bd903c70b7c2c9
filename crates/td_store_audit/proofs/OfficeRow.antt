-- What the office's own row, as it is shown, tells of S1.
use Rattle.std.proofs.Common.{◌≡◌, ◌∙◌, ℕ, ℤ, List, [], ◌∷◌, Ok, Err, Option, Some, None, Result, IsPermutation, length, map, refl, sym, ap, subst, true, arith}
use Rattle.std.specs.Prelude.{IfOk, codes, pos, unwrap_or}
use Rattle.std.specs.List.{AllByRecursion}
use Rattle.std.proofs.lemmas.List.{length-map}
use Rattle.std.proofs.lemmas.List.Sorted.{IsPermutation-sym, length_permutation}
use Rattle.sqlite_tied.specs.Compute.{everything}
use Rattle.sqlite.specs.Listing.{understood}
use Rattle.sqlite.specs.State.{State}
use Rattle.sqlite.specs.declared.error.Error.{Error}
use Rattle.sqlite_sql.specs.Term.{Term, col}
use Rattle.sqlite_trees.specs.Tree.{Trees}
use Rattle.sqlite_trees.proofs.ListLemmas.{all-map, all-permutation, all_from_map, all_of, all_weaker, filter_all}
use Rattle.sqlite_typed.proofs.TestLemmas.{then_value}
use Rattle.sqlite_value.specs.declared.value.Value.{Value}
use Rattle.sqlite_value.specs.declared.value.Value.TheVariants.{Int, Text}
use Rattle.sqlite_value.specs.Order.{Row, column}
use Rattle.typed_sql.specs.Meanings.{MeansSelect}
use Rattle.typed_sql.specs.Reading.{IsAnswerOf, Selects, row_order, shown_by}
use Rattle.typed_sql.specs.Typed.{IsTypedRow, row_of}
use Rattle.typed_sql.specs.Values.{as_integer, text_in}
use Rattle.typed_sql.specs.Writing.{passes}
use Rattle.td_base.specs.Codes.{IsCountry}
use Rattle.td_schema.specs.Layouts.{schema_of}
use Rattle.td_schema.specs.declared.layout.Layout.{Layout}
use Rattle.td_schema.specs.declared.layout.Layout.TheVariants.{Made1, Made2, Grown2, Made3, Grown3From2, Grown3From1}
use Rattle.td_store_rows.specs.Columns.{meta_typing}
use Rattle.td_store_rows.specs.StoreTables.{country_in, tables_in}
use Rattle.td_store_audit.specs.Broken.{IsOffice, ShowsCountry, TellsCountry, TellsCountryIn}
use Rattle.td_store_audit.specs.declared.texts.TheConstants.{OFFICE}

-- the columns that are shown
abbrev pub office_terms : List Term
office_terms = col 1 2 ∷ col 1 3 ∷ []

pub office_means : (l : Layout) → MeansSelect (schema_of l) OFFICE.now 0 [] office_terms []
unfolding understood everything
office_means Made1 = record { names = codes "version" ∷ codes "country" ∷ []; command = refl; plain = (refl, refl); unlisted = refl }
office_means Made2 = record { names = codes "version" ∷ codes "country" ∷ []; command = refl; plain = (refl, refl); unlisted = refl }
office_means Grown2 = record { names = codes "version" ∷ codes "country" ∷ []; command = refl; plain = (refl, refl); unlisted = refl }
office_means Made3 = record { names = codes "version" ∷ codes "country" ∷ []; command = refl; plain = (refl, refl); unlisted = refl }
office_means Grown3From2 = record { names = codes "version" ∷ codes "country" ∷ []; command = refl; plain = (refl, refl); unlisted = refl }
office_means Grown3From1 = record { names = codes "version" ∷ codes "country" ∷ []; command = refl; plain = (refl, refl); unlisted = refl }

abbrev show : Row → Row
show = shown_by office_terms []

-- a list of one
single : {X : Type 0} (xs : List X) → length xs ≡ 1 → (x : X) × (xs ≡ x ∷ [])
single [] is = absurd (omega (arith, is))
single (x ∷ []) is = (x, refl)
single (x ∷ y ∷ xs) is = absurd (omega (arith, is))

integer_read : (v : Value) (n : ℤ) → v ≡ Int n → v ≡ Int (unwrap_or (as_integer v) (pos 0))
integer_read v n is = subst (λ w. w ≡ Int (unwrap_or (as_integer w) (pos 0))) (sym is) refl

text_read : (v : Value) (t : List ℕ) → v ≡ Text t → v ≡ Text (text_in v)
text_read v t is = subst (λ w. w ≡ Text (text_in w)) (sym is) refl

-- what is shown of a row is an integer and this text
record IsShown (text : List ℕ) (cells : Row) : Type 0 where
  pub version : ℤ
  pub version_is : column cells 0 ≡ Int version
  pub text_is : column cells 1 ≡ Text text

-- so it is exactly where the row is typed, and has this country
shown_typed : (text : List ℕ) (r : Row) → IsShown text (show r) → IsTypedRow meta_typing r
shown_typed text r is =
    then_value (integer_read (column r 2) is.version is.version_is) (then_value (text_read (column r 3) text is.text_is) refl)

shown_text : (text : List ℕ) (r : Row) → IsShown text (show r) → (row_of meta_typing r).country ≡ text
shown_text text r is = ap text_in is.text_is

typed_shown : (r : Row) → IsTypedRow meta_typing r → IsShown (row_of meta_typing r).country (show r)
typed_shown r is = record {
  version = (row_of meta_typing r).version;
  version_is = ap (λ l. column l 0) is;
  text_is = ap (λ l. column l 1) is;
}

module _ (rows answer : List Row) (a : IsAnswerOf rows (passes [] []) show (row_order [] []) answer) where
  same : IsPermutation rows a.found
  same = subst (λ l. IsPermutation l a.found) (filter_all (passes [] []) rows (all_of (λ r. passes [] [] r ≡ true) (λ r. refl) rows)) a.all

  as_many : length answer ≡ length rows
  as_many = omega (arith, ap length a.shown, length-map a.found show, length_permutation rows a.found same)

  -- what is so of all that is shown is so of each row that shows it, and the other way round
  of_rows : (P : Row → Type 0) → AllByRecursion P answer → AllByRecursion (λ r. P (show r)) rows
  of_rows P all =
      all-permutation (λ r. P (show r)) a.found rows (IsPermutation-sym rows a.found same)
      (all_from_map P show a.found (subst (AllByRecursion P) a.shown all))

  of_shown : (P : Row → Type 0) → AllByRecursion (λ r. P (show r)) rows → AllByRecursion P answer
  of_shown P all = subst (AllByRecursion P) (sym a.shown) (all-map P show a.found (all-permutation (λ r. P (show r)) rows a.found same all))

  typed_rows : (text : List ℕ) → IsOffice answer text → AllByRecursion (IsTypedRow meta_typing) rows
  typed_rows text is =
      all_weaker (λ r. IsShown text (show r)) (IsTypedRow meta_typing) (shown_typed text) rows
      (of_rows (IsShown text) (subst (AllByRecursion (IsShown text)) (sym is.alone) (record { version = is.version; version_is = is.version_is; text_is = is.text_is }, tt)))

  country_of : (text : List ℕ) → IsOffice answer text → country_in (map (row_of meta_typing) rows) ≡ text
  country_of text is =
      let one = single rows (sym as_many ∙ ap length is.alone) in
      let shown : AllByRecursion (λ r. IsShown text (show r)) rows =
      of_rows (IsShown text) (subst (AllByRecursion (IsShown text)) (sym is.alone) (record { version = is.version; version_is = is.version_is; text_is = is.text_is }, tt)) in
      ap (λ l. country_in (map (row_of meta_typing) l)) one.1
      ∙ shown_text text one.0 (subst (AllByRecursion (λ r. IsShown text (show r))) one.1 shown).0

  office_of : length rows ≡ 1 → AllByRecursion (IsTypedRow meta_typing) rows → IsOffice answer (country_in (map (row_of meta_typing) rows))
  office_of is typed =
      let one = single rows is in
      let alone = single answer (as_many ∙ is) in
      let text : List ℕ = country_in (map (row_of meta_typing) rows) in
      let here : IsShown (row_of meta_typing one.0).country (show one.0) = typed_shown one.0 (subst (AllByRecursion (IsTypedRow meta_typing)) one.1 typed).0 in
      let mine : IsShown text (show one.0) = subst (λ l. IsShown (country_in (map (row_of meta_typing) l)) (show one.0)) (sym one.1) here in
      let each : AllByRecursion (IsShown text) answer = of_shown (IsShown text) (subst (AllByRecursion (λ r. IsShown text (show r))) (sym one.1) (mine, tt)) in
      let shown : IsShown text alone.0 = (subst (AllByRecursion (IsShown text)) alone.1 each).0 in
      record { row = alone.0; alone = alone.1; version = shown.version; version_is = shown.version_is; text_is = shown.text_is }

-- so the country that is shown tells of S1
told : (layout : Layout) (trees : Trees) (answer : List Row) → IsAnswerOf (trees 0) (passes [] []) show (row_order [] []) answer
    → (country : Option (List ℕ)) → ShowsCountry answer country → TellsCountry layout trees country
told layout trees answer a None none = λ keeps. none (tables_in layout trees).country (office_of (trees 0) answer a keeps.0.0 keeps.0.1) keeps.1
told layout trees answer a (Some country) shows =
    let is = country_of (trees 0) answer a country shows.0 in
    (((sym (as_many (trees 0) answer a) ∙ ap length shows.0.alone, typed_rows (trees 0) answer a country shows.0), subst IsCountry (sym is) shows.1), is)

pub told_country : (old : State) (answer : List Row) → Selects OFFICE.now [] old answer → (result : Result (Option (List ℕ)) Error)
    → IfOk result (ShowsCountry answer) → IfOk result (TellsCountryIn old)
told_country old answer selects (Err e) shows = shows
told_country old answer selects (Ok country) shows = λ layout has.
    told layout old.now.trees answer (selects (schema_of layout) 0 [] office_terms [] has (office_means layout)) country shows
