-- What is told of a store's file when a desk is to be opened over it, or its rows are audited.
use Rattle.std.specs.Prelude.{◌≡◌, ◌≢◌, ◌⊎◌, ◌≤◌, ◌<◌, ℕ, ℤ, pos, List, Option, Some, None, codes, length, map, Result, Ok, Err}
use Rattle.std.specs.Option.{option_to_list}
use Rattle.sqlite_schema.specs.Names.{table_named}
use Rattle.sqlite_schema.specs.declared.schema.Schema.{Schema}
use Rattle.sqlite_trees.specs.Tree.{Trees}
use Rattle.sqlite.specs.Effect.{Database}
use Rattle.td_model.specs.Content.{Content, IsSound}
use Rattle.td_table_model.specs.Tables.{AreTablesOf, first_version}
use Rattle.td_table_model.specs.declared.rule.Rule.{Rule}
use Rattle.td_schema.specs.Layouts.{IsNewest, newest_version, schema_of, version_of}
use Rattle.td_schema.specs.declared.layout.Layout.{Layout}
use Rattle.typed_sql.specs.Typed.{AreTyped, typed_rows}
use Rattle.td_store_rows.specs.Columns.{MetaIsFirst, meta_typing}
use Rattle.td_store_rows.specs.MetaTable.{stored_of}
use Rattle.td_store_rows.specs.declared.meta.stored.StoredMeta.{StoredMeta}
use Rattle.td_store_audit_rows.specs.Untyped.{IsFirstBrokenUntyped}
use Rattle.td_store_audit_rows.specs.Ids.{HaveAllIds}
use Rattle.td_store_audit_rows.specs.Laws.{AreKept}
use Rattle.td_store_audit_rows.specs.Versions.{IsSchemaOf}
use Rattle.td_store_rows.specs.StoreTables.{AreAllTyped, HasOfficeRow, HoldSoundContent, tables_in}
use Rattle.td_store_audit_rows.specs.Scans.{TellReadable}
use Rattle.td_store_audit_rows.specs.declared.tables.Readable.{Readable}
use Rattle.td_store_audit.specs.Broken.{TellsBroken}
use Rattle.td_store_check.specs.declared.fault.OpenFault.{OpenFault}
use Rattle.td_store_check.specs.declared.schema.Tables.{Tables}
use Rattle.td_store_check.specs.declared.schema.Tables.TheVariants as tables
use Rattle.td_store_check.specs.declared.fault.OpenFault.TheVariants.{UnknownVersion, NeedsMigration, OtherCountry, Damaged, Store, NoMemory}

-- there is no table `meta`
abbrev pub LacksMeta : Schema → Type 0
LacksMeta s = table_named s (codes "meta") ≡ None

-- the tables are a store's, of any layout
abbrev pub IsStoreSchema : Schema → Type 0
IsStoreSchema s = (l : Layout) × (s ≡ schema_of l)

-- what is told of a database's tables
abbrev pub AreTold : Schema → Tables → Type 0
AreTold s (tables.Store layout) = s ≡ schema_of layout
AreTold s tables.OtherVersion = MetaIsFirst s
AreTold s tables.Unknown = Unit {0}

-- a version that is known: from the first to the newest; and an earlier one than that
abbrev pub IsKnown : ℕ → Type 0
IsKnown version = (first_version ≤ version) × (version ≤ newest_version)

abbrev pub IsEarlier : ℕ → Type 0
IsEarlier version = (first_version ≤ version) × (version < newest_version)

-- it is typed, and says this version
pub record SaysVersion (version : ℕ) (trees : Trees) : Type 0 where
  pub typed : AreTyped meta_typing trees
  pub country : List ℕ
  pub row : HasOfficeRow version country trees

-- it says a version that is known
abbrev pub IsOfKnownVersion : Trees → Type 0
IsOfKnownVersion trees = (version : ℕ) × IsKnown version × SaysVersion version trees

-- where the office's own row is typed, it says this version
abbrev pub MaySay : ℕ → Trees → Type 0
MaySay version trees = AreTyped meta_typing trees → (country : List ℕ) × HasOfficeRow version country trees

-- that is an earlier one
abbrev pub IsOfEarlier : ℕ → Trees → Type 0
IsOfEarlier version trees = IsEarlier version × MaySay version trees

-- where it is typed, it says the newest version and another country than this
abbrev pub IsOfAnother : List ℕ → Trees → Type 0
IsOfAnother country trees =
    AreTyped meta_typing trees → (other : List ℕ) × HasOfficeRow newest_version other trees × (other ≢ country)

-- the tables, which are of the newest version, break this rule first; where the office's own row is typed, it says that version and
-- this country
pub record AreDamaged (country : List ℕ) (rule : Rule) (layout : Layout) (trees : Trees) : Type 0 where
  pub newest : IsNewest layout
  pub first : IsFirstBrokenUntyped layout trees rule
  pub office : AreTyped meta_typing trees → HasOfficeRow newest_version country trees

-- they are of the newest version and hold sound content, and the office's own row says that version and this country
pub record AreOfDesk (country : List ℕ) (layout : Layout) (trees : Trees) : Type 0 where
  pub newest : IsNewest layout
  pub content : HoldSoundContent layout trees
  pub office : HasOfficeRow newest_version country trees

-- What a fault, or none, says of a store's tables, of a layout. (`Store`: the office's own row says the newest version, and they
-- are of another.)
abbrev pub TellsTables : List ℕ → Layout → Trees → Option OpenFault → Type 0
TellsTables country layout trees None = AreOfDesk country layout trees
TellsTables country layout trees (Some UnknownVersion) = ¬ IsOfKnownVersion trees
TellsTables country layout trees (Some (NeedsMigration version)) = IsOfEarlier version trees
TellsTables country layout trees (Some OtherCountry) = IsOfAnother country trees
TellsTables country layout trees (Some (Damaged rule)) = AreDamaged country rule layout trees
TellsTables country layout trees (Some Store) = ¬ IsNewest layout
TellsTables country layout trees (Some NoMemory) = ⊥

-- there is no table `meta`; or it is the first, and where it is typed says no version that is known, whatever other tables there are
abbrev pub IsOfUnknownVersion : Database → Type 0
IsOfUnknownVersion db = LacksMeta db.schema ⊎ (MetaIsFirst db.schema × (¬ IsOfKnownVersion db.trees))

-- what it says of a database: `Store` and `NoMemory` say nothing
abbrev pub TellsDatabase : List ℕ → Database → Option OpenFault → Type 0
TellsDatabase country db fault =
    ((fault ≡ Some Store) ⊎ (fault ≡ Some NoMemory))
    ⊎ (((fault ≡ Some UnknownVersion) × IsOfUnknownVersion db)
    ⊎ ((layout : Layout) × (db.schema ≡ schema_of layout) × TellsTables country layout db.trees fault))

-- a number is a version that is known
abbrev pub IsKnownNumber : ℤ → Type 0
IsKnownNumber number = (version : ℕ) × IsKnown version × (number ≡ pos version)

-- what the office's own row, as it was read, is refused for
abbrev pub TellsOffice : List ℕ → Option StoredMeta → Option OpenFault → Type 0
TellsOffice country meta None = meta ≡ Some (record { version = pos newest_version; country = Some country })
TellsOffice country meta (Some UnknownVersion) = (m : StoredMeta) → meta ≡ Some m → ¬ IsKnownNumber m.version
TellsOffice country meta (Some (NeedsMigration version)) =
    (m : StoredMeta) × (meta ≡ Some m) × (m.version ≡ pos version) × IsEarlier version
TellsOffice country meta (Some OtherCountry) =
    (m : StoredMeta) × (meta ≡ Some m) × (m.version ≡ pos newest_version) × (m.country ≢ Some country)
TellsOffice country meta (Some _) = ⊥

-- where it is typed, it is that one row, or there is none
abbrev pub IsOfficeIn : Trees → Option StoredMeta → Type 0
IsOfficeIn trees meta = AreTyped meta_typing trees → map stored_of (typed_rows meta_typing trees) ≡ option_to_list meta

-- the version that is known that a row says, or none
abbrev pub TellsKnown : Option StoredMeta → Option ℕ → Type 0
TellsKnown meta None = (m : StoredMeta) → meta ≡ Some m → ¬ IsKnownNumber m.version
TellsKnown meta (Some version) = (m : StoredMeta) × (meta ≡ Some m) × (m.version ≡ pos version) × IsKnown version

-- what the office's own row, as it was read, says of tables of that version: it says that version, or another, or none that is known
abbrev pub TellsByOffice : ℕ → Option StoredMeta → Result ℕ OpenFault → Type 0
TellsByOffice tables meta (Ok version) = (version ≡ tables) × TellsKnown meta (Some version)
TellsByOffice tables meta (Err UnknownVersion) = TellsKnown meta None
TellsByOffice tables meta (Err Store) = (version : ℕ) × (version ≢ tables) × TellsKnown meta (Some version)
TellsByOffice tables meta (Err _) = ⊥

-- What is said of the version of the tables in a database: they are a store's of this version, and the office's own row says it; or it
-- isn't known. `Store` and `NoMemory` say nothing, and no other fault comes.
abbrev pub TellsFileVersion : Database → Result ℕ OpenFault → Type 0
TellsFileVersion db (Ok version) = IsSchemaOf version db.schema × IsKnown version × MaySay version db.trees
TellsFileVersion db (Err UnknownVersion) = IsOfUnknownVersion db
TellsFileVersion db (Err Store) = Unit {0}
TellsFileVersion db (Err NoMemory) = Unit {0}
TellsFileVersion db (Err _) = ⊥

-- the fault is damage, by some rule
abbrev pub IsDamage : OpenFault → Type 0
IsDamage why = (rule : Rule) × (why ≡ Damaged rule)

-- where the rowids are integers, no two the same, and these tables can be read, it is told what the rules say of the tables
abbrev pub TellsRules : Layout → Readable → Trees → Option Rule → Type 0
TellsRules layout readable trees broken =
    HaveAllIds layout trees → TellReadable layout readable trees → AreKept layout trees × TellsBroken layout trees broken

-- what a fault, or none, says of the rows of a store's tables: the first rule that they break, or that they hold sound content
abbrev pub TellsRows : Layout → Trees → Option OpenFault → Type 0
TellsRows layout trees None = HoldSoundContent layout trees
TellsRows layout trees (Some (Damaged rule)) = IsFirstBrokenUntyped layout trees rule
TellsRows layout trees (Some _) = ⊥

-- What an audit of a file's rows as those of a version says of a database: it has the tables of a layout of that version, and what
-- their rows are refused for. `Store` and `NoMemory` say nothing, and no other fault comes.
abbrev pub TellsAudit : ℕ → Database → Option OpenFault → Type 0
TellsAudit version db fault =
    ((fault ≡ Some Store) ⊎ (fault ≡ Some NoMemory))
    ⊎ ((layout : Layout) × (version_of layout ≡ version) × (db.schema ≡ schema_of layout) × TellsRows layout db.trees fault)

-- the fault that an answer has
abbrev pub fault_in : Result (Unit {0}) OpenFault → Option OpenFault
fault_in (Ok done) = None
fault_in (Err fault) = Some fault

-- the rows of a layout of that version hold this content, which is sound, and the office has one row at most
pub record HoldsAtVersion (version : ℕ) (c : Content) (db : Database) : Type 0 where
  pub layout : Layout
  pub version_is : version_of layout ≡ version
  pub schema : db.schema ≡ schema_of layout
  pub typed : AreAllTyped layout db.trees
  pub office : length (db.trees meta_typing.table.tree) ≤ 1
  pub sound : IsSound c
  pub tables : AreTablesOf (tables_in layout db.trees) c
