-- What the office's own row and the rules tell of a store's tables.
use Rattle.std.proofs.Common.{◌≡◌, ◌∙◌, ◌⊎◌, ℕ, Bool, inl, inr, true, false, if◌then◌else◌, List, [], ◌∷◌, Option, Some, None, Err, Ok, Result, ap, length, map, refl, subst, sym}
use Rattle.std.specs.Prelude.{pos, is_some, option_map, IfOk, IfSome, IsTrue}
use Rattle.std.specs.Bool.{Decides}
use Rattle.std.specs.Option.{option_to_list}
use Rattle.std.proofs.lemmas.Bool.Decides.{Decides-and, Decides-eqb, Decides-like}
use Rattle.sqlite.specs.declared.error.Error.{Error}
use Rattle.sqlite.specs.Effect.{Database}
use Rattle.sqlite_trees.specs.Tree.{Trees}
use Rattle.td_base.specs.Codes.{IsCountry, country_read, is_country}
use Rattle.td_base.proofs.Decided.{capitals_decided, some_where}
use Rattle.td_table_model.specs.declared.rule.Rule.{Rule}
use Rattle.typed_sql.specs.Typed.{AreTyped, typed_rows}
use Rattle.sqlite.specs.State.{State}
use Rattle.td_store_audit_rows.specs.declared.tables.Readable.{Readable}
use Rattle.td_store_audit_rows.specs.Scans.{TellReadable}
use Rattle.td_store_audit.specs.Keeping.{KeepsTables}
use Rattle.td_store_audit.specs.InFile.{IsSoWhere}
use Rattle.td_store_rows.specs.StoreReads.{IsOfVersion}
use Rattle.td_store_rows.specs.Columns.{MetaIsFirst, MetaRow, meta_row, meta_typing}
use Rattle.td_schema.specs.Layouts.{IsNewest, newest_version, schema_of, version_of}
use Rattle.td_schema.specs.declared.layout.Layout.{Layout}
use Rattle.td_store_rows.specs.MetaTable.{stored_of}
use Rattle.td_store_rows.specs.StoreTables.{HasOfficeRow}
use Rattle.td_store_rows.specs.declared.meta.stored.StoredMeta.{StoredMeta}
use Rattle.td_store_audit_rows.specs.Laws.{AreKept, KeptRulesMeanContent}
use Rattle.td_store_audit.specs.Broken.{TellsBroken}
use Rattle.td_store_check.specs.declared.fault.OpenFault.{OpenFault}
use Rattle.td_store_check.specs.declared.fault.OpenFault.TheVariants.{UnknownVersion, NeedsMigration, OtherCountry, Damaged, Store, NoMemory}
use Rattle.td_store_check.proofs.Begins.{store_begins}
use Rattle.td_store_check.specs.Opened.{IsDamage, IsOfAnother, IsOfEarlier, IsOfficeIn, IsOfKnownVersion, MaySay, TellsByOffice, TellsDatabase, TellsFileVersion, TellsKnown, TellsOffice, TellsRows, TellsRules, TellsTables}

country_decided : (text : List ℕ) → Decides (is_country text) (IsCountry text)
country_decided text =
    Decides-like (is_country text)
    (λ h. record { size = h.0; letters = h.1 })
    (λ h. (h.size, h.letters))
    (Decides-and _ _ (Decides-eqb (length text) 2) (capitals_decided text))

-- a country is read as itself, and what is read as a country is that
read_country : (text : List ℕ) → IsCountry text → country_read text ≡ Some text
read_country text is = sym (some_where (is_country text) (Some text) text (country_decided text) (is, refl))

same_country : (text country : List ℕ) → country_read text ≡ Some country → text ≡ country
same_country text country is = go (is_country text) is
  where
    go : (b : Bool) → (if b then Some text else None) ≡ Some country → text ≡ country
    go true it = cc
    go false it = absurd cc

only_one : {X : Type 0} (x : X) (o : Option X) → x ∷ [] ≡ option_to_list o → o ≡ Some x
only_one x None is = absurd cc
only_one x (Some y) is = cc

one_row : (rows : List MetaRow) (m : StoredMeta) → map stored_of rows ≡ m ∷ []
    → (row : MetaRow) × (rows ≡ row ∷ []) × (stored_of row ≡ m)
one_row [] m is = absurd cc
one_row (r ∷ []) m is = let same : stored_of r ≡ m = cc in (r, refl, same)
one_row (r ∷ s ∷ rows) m is = absurd cc

made_of : (row : MetaRow) (version : ℕ) (country : List ℕ) → row.version ≡ pos version → row.country ≡ country → row ≡ meta_row version country
made_of row version country at text =
    ap (λ v. record { version = v; country = row.country }) at ∙ ap (meta_row version) text

module _ (trees : Trees) (office : Option StoredMeta) (found : IsOfficeIn trees office) where
  -- no version that is known
  pub of_no_version : TellsKnown office None → ¬ IsOfKnownVersion trees
  of_no_version none is =
      let row = stored_of (meta_row is.0 is.2.country) in
      let one : row ∷ [] ≡ option_to_list office = ap (map stored_of) (sym is.2.row) ∙ found is.2.typed in
      none row (only_one _ office one) (is.0, is.1, refl)

  pub row_there : (m : StoredMeta) → office ≡ Some m → AreTyped meta_typing trees
      → (row : MetaRow) × (typed_rows meta_typing trees ≡ row ∷ []) × (stored_of row ≡ m)
  row_there m is typed = one_row (typed_rows meta_typing trees) m (found typed ∙ ap option_to_list is)

  -- this version
  pub says : (version : ℕ) (m : StoredMeta) → office ≡ Some m → m.version ≡ pos version → MaySay version trees
  says version m is at typed =
      let r = row_there m is typed in
      (r.0.country, r.1 ∙ ap (λ row. row ∷ []) (made_of r.0 version r.0.country (ap (λ (k : StoredMeta). k.version) r.2 ∙ at) refl))

-- what is told of the version by the office's own row, in a store's file
pub version_told : (db : Database) (layout : Layout) → db.schema ≡ schema_of layout → (office : Option StoredMeta) → IsOfficeIn db.trees office
    → (told : Result ℕ OpenFault) → TellsByOffice (version_of layout) office told → TellsFileVersion db told
version_told db layout has office found (Ok version) said =
    ((layout, sym said.0, has), said.1.3, says db.trees office found version said.1.0 said.1.1 said.1.2)
version_told db layout has office found (Err UnknownVersion) none = inr (store_begins layout db.schema has, of_no_version db.trees office found none)
version_told db layout has office found (Err Store) said = tt
version_told db layout has office found (Err NoMemory) wrong = absurd wrong
version_told db layout has office found (Err (NeedsMigration version)) wrong = absurd wrong
version_told db layout has office found (Err OtherCountry) wrong = absurd wrong
version_told db layout has office found (Err (Damaged rule)) wrong = absurd wrong

-- and where only the first table is a store's
pub other_version_told : (db : Database) → MetaIsFirst db.schema → (office : Option StoredMeta) → IsOfficeIn db.trees office
    → (why : OpenFault) → (why ≡ Store) ⊎ ((why ≡ UnknownVersion) × TellsKnown office None) → TellsFileVersion db (Err why)
other_version_told db first office found why (inl is) = subst (λ w. TellsFileVersion db (Err w)) (sym is) tt
other_version_told db first office found why (inr none) =
    subst (λ w. TellsFileVersion db (Err w)) (sym none.0) (inr (first, of_no_version db.trees office found none.1))

pub other_refused : (country : List ℕ) (db : Database) → MetaIsFirst db.schema → (office : Option StoredMeta) → IsOfficeIn db.trees office
    → (why : OpenFault) → (why ≡ Store) ⊎ ((why ≡ UnknownVersion) × TellsKnown office None) → TellsDatabase country db (Some why)
other_refused country db first office found why (inl is) = inl (inl (ap Some is))
other_refused country db first office found why (inr none) = inr (inl (ap Some none.0, inr (first, of_no_version db.trees office found none.1)))

module _ (country : List ℕ) (layout : Layout) (trees : Trees) (office : Option StoredMeta) (found : IsOfficeIn trees office) where
  of_this : TellsOffice country office None → AreTyped meta_typing trees → HasOfficeRow newest_version country trees
  of_this is typed =
      let r = row_there trees office found (record { version = pos newest_version; country = Some country }) is typed in
      r.1 ∙ ap (λ row. row ∷ []) (made_of r.0 newest_version country (ap (λ (m : StoredMeta). m.version) r.2)
      (same_country r.0.country country (ap (λ (m : StoredMeta). m.country) r.2)))

  of_earlier : (version : ℕ) → TellsOffice country office (Some (NeedsMigration version)) → IsOfEarlier version trees
  of_earlier version said = (said.3, says trees office found version said.0 said.1 said.2)

  of_another : IsCountry country → TellsOffice country office (Some OtherCountry) → IsOfAnother country trees
  of_another letters said typed =
      let r = row_there trees office found said.0 said.1 typed in (
        r.0.country,
        r.1 ∙ ap (λ row. row ∷ []) (made_of r.0 newest_version r.0.country (ap (λ (m : StoredMeta). m.version) r.2 ∙ said.2) refl),
        λ same. said.3 (sym (ap (λ (m : StoredMeta). m.country) r.2) ∙ ap country_read same ∙ read_country country letters),
      )

  -- what the office's own row is refused for
  pub judged : (fault : Option OpenFault) → IsCountry country → TellsOffice country office fault → is_some fault ≡ true
      → TellsTables country layout trees fault
  judged None letters said some = absurd cc
  judged (Some UnknownVersion) letters said some = of_no_version trees office found said
  judged (Some (NeedsMigration version)) letters said some = of_earlier version said
  judged (Some OtherCountry) letters said some = of_another letters said
  judged (Some (Damaged rule)) letters said some = absurd said
  judged (Some Store) letters said some = absurd said
  judged (Some NoMemory) letters said some = said

  -- and where it isn't refused, what the rows are
  audited : IsNewest layout → TellsOffice country office None → (fault : Option OpenFault) → TellsRows layout trees fault
      → TellsTables country layout trees fault
  audited newest said None content = record { newest = newest; content = content; office = of_this said content.typed.meta }
  audited newest said (Some (Damaged rule)) first = record { newest = newest; first = first; office = of_this said }
  audited newest said (Some UnknownVersion) none = absurd none
  audited newest said (Some (NeedsMigration version)) none = absurd none
  audited newest said (Some OtherCountry) none = absurd none
  audited newest said (Some Store) none = absurd none
  audited newest said (Some NoMemory) none = absurd none

  pub rows_judged : IsNewest layout → TellsOffice country office None → (result : Result (Option OpenFault) Error)
      → IfOk result (TellsRows layout trees) → IfOk result (TellsTables country layout trees)
  rows_judged newest said (Ok fault) rows = audited newest said fault rows
  rows_judged newest said (Err error) rows = rows

-- what the rules tell of the rows
pub rows_told : (layout : Layout) (trees : Trees) → KeptRulesMeanContent → AreKept layout trees → (broken : Option Rule)
    → TellsBroken layout trees broken → TellsRows layout trees (option_map Damaged broken)
rows_told layout trees law kept None all = law layout trees kept all
rows_told layout trees law kept (Some rule) first = first

-- what the first rule that is broken, or none, tells of tables of which an open connection tells what the database keeps
pub rules_told : (s : State) (layout : Layout) → KeepsTables s → IsTrue s.is_open → s.now.schema ≡ schema_of layout
    → (readable : Readable) (broken : Option Rule)
    → IsSoWhere (IsOfVersion (version_of layout)) AreKept (λ l trees. TellReadable l readable trees → TellsBroken l trees broken) s
    → TellsRules layout readable s.now.trees broken
rules_told s layout keeps is_open has readable broken told ids read =
    let kept = keeps layout is_open (λ _. has) ids in
    (kept, told layout refl (λ _. has) kept read)

-- what a broken rule is told as
pub damage_is : (broken : Option Rule) → IfSome (option_map Damaged broken) IsDamage
damage_is None = tt
damage_is (Some rule) = (rule, refl)

-- of rows that is the only fault, beside the store's
pub store_or_damage : (result : Result (Option OpenFault) Error) → IfOk result (λ told. IfSome told IsDamage)
    → IfOk result (λ told. IfSome told (λ why. (why ≡ Store) ⊎ IsDamage why))
store_or_damage (Ok None) is = tt
store_or_damage (Ok (Some why)) is = inr is
store_or_damage (Err error) is = tt
