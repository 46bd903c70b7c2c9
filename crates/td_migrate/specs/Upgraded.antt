-- What is told of a file's version, and what an upgrade makes of a file.
use Rattle.std.specs.Prelude.{◌≡◌, ◌⊎◌, ◌<◌, ℕ, [], Result, Ok, Err}
use Rattle.sqlite_trees.specs.Tree.{Trees}
use Rattle.sqlite.specs.Effect.{Database}
use Rattle.sqlite.specs.State.{State}
use Rattle.td_model.specs.Content.{Content}
use Rattle.td_table_model.specs.Tables.{first_version, version_with_amounts}
use Rattle.td_table_model.specs.declared.rule.Rule.{Rule}
use Rattle.td_schema.specs.Layouts.{grown, guarantees_tree, lines_tree, newest_version, schema_of, version_of}
use Rattle.td_schema.specs.declared.layout.Layout.{Layout}
use Rattle.td_schema.specs.declared.layout.Layout.TheVariants.{Made1}
use Rattle.td_store_rows.specs.StoreTables.{AreTreesOf, HoldsContent}
use Rattle.td_store_audit_rows.specs.Untyped.{IsFirstBrokenUntyped}
use Rattle.td_store_audit_rows.specs.Versions.{IsSchemaOf}
use Rattle.td_store_check.specs.declared.fault.OpenFault.{OpenFault}
use Rattle.td_store_check.specs.declared.fault.OpenFault.TheVariants as open_fault
use Rattle.td_store_check.specs.Opened.{IsKnown, IsOfEarlier, IsOfUnknownVersion, MaySay}
use Rattle.td_migrate.specs.declared.fault.MigrateFault.{MigrateFault}
use Rattle.td_migrate.specs.declared.fault.MigrateFault.TheVariants.{Damaged, NoMemory, Store, UnknownVersion}
use Rattle.td_migrate.specs.Grown.{AreGrown, GrowsFrom, HoldsVersion, LeavesEmpty, MayLeaveGrown}

-- the fault is of the kind of what an opening is refused for
abbrev pub IsKindOf : OpenFault → MigrateFault → Type 0
IsKindOf open_fault.UnknownVersion fault = fault ≡ UnknownVersion
IsKindOf (open_fault.NeedsMigration version) fault = fault ≡ Store
IsKindOf open_fault.OtherCountry fault = fault ≡ Store
IsKindOf (open_fault.Damaged rule) fault = fault ≡ Damaged rule
IsKindOf open_fault.Store fault = fault ≡ Store
IsKindOf open_fault.NoMemory fault = fault ≡ NoMemory

-- a fault that says nothing of the file
abbrev pub SaysNothing : MigrateFault → Type 0
SaysNothing fault = (fault ≡ Store) ⊎ (fault ≡ NoMemory)

-- what an answer says of the version of the tables in a database
abbrev pub TellsVersion : Database → Result ℕ MigrateFault → Type 0
TellsVersion db (Ok version) = IsSchemaOf version db.schema × IsKnown version × MaySay version db.trees
TellsVersion db (Err UnknownVersion) = IsOfUnknownVersion db
TellsVersion db (Err (Damaged rule)) = ⊥
TellsVersion db (Err Store) = Unit {0}
TellsVersion db (Err NoMemory) = Unit {0}

-- a file of that version breaks this rule first
pub record IsDamagedAt (version : ℕ) (rule : Rule) (db : Database) : Type 0 where
  pub layout : Layout
  pub version_is : version_of layout ≡ version
  pub schema : db.schema ≡ schema_of layout
  pub first : IsFirstBrokenUntyped layout db.trees rule

-- a file of that version held a content
abbrev pub HeldVersion : ℕ → Database → Type 0
HeldVersion version old = (l : Layout) × (version_of l ≡ version) × (c : Content) × HoldsVersion l c old

-- it did, and whatever content it held, it is of the next version now with the same
abbrev pub WasGrown : ℕ → Database → Database → Type 0
WasGrown version old new = HeldVersion version old × GrowsFrom version old new

-- what came of a step from that version to the next
abbrev pub TellsStep : ℕ → Database → State → Result (Unit {0}) MigrateFault → Type 0
TellsStep version old new (Ok done) = WasGrown version old new.now
TellsStep version old new (Err (Damaged rule)) = IsDamagedAt version rule old
TellsStep version old new (Err UnknownVersion) = ⊥
TellsStep version old new (Err Store) = Unit {0}
TellsStep version old new (Err NoMemory) = Unit {0}

-- and what a crash may leave beside what it could leave before: the file of the next version alone
abbrev pub MayLeaveStep : ℕ → Database → Trees → Type 0
MayLeaveStep version old trees = HeldVersion version old × MayLeaveGrown version old trees

-- The tables that the steps to the newest version leave have no row, and one that an earlier upgrade left is as it was.
abbrev pub LeavesAllEmpty : Layout → Trees → Trees → Type 0
LeavesAllEmpty Made1 old new = (new (guarantees_tree Made1) ≡ []) × (new (lines_tree Made1) ≡ [])
LeavesAllEmpty l old new = LeavesEmpty l old new

-- Trees are a desk's of this content, that were brought from a layout of an earlier version.
pub record AreUpgraded (l : Layout) (c : Content) (old new : Trees) : Type 0 where
  pub desk : AreTreesOf c new
  pub layout : desk.layout ≡ grown (grown l)
  pub left : LeavesAllEmpty l old new

-- a file of an earlier version held this content
pub record HeldEarlier (l : Layout) (c : Content) (db : Database) : Type 0 where
  pub earlier : version_of l < newest_version
  pub held : HoldsVersion l c db

-- and it is of the newest version now with the same content
pub record WasUpgraded (old : Database) (new : State) : Type 0 where
  pub layout : Layout
  pub content : Content
  pub held : HeldEarlier layout content old
  pub holds : HoldsContent content new
  pub upgraded : AreUpgraded layout content old.trees new.now.trees

-- What came of an upgrade. It answers the newest version: the tables were of that, as the office's own row said, and nothing is changed,
-- or the file was of an earlier one. Or a fault: no version is known, or the rows of that earlier version break this rule first.
abbrev pub TellsUpgrade : Database → State → Result ℕ MigrateFault → Type 0
TellsUpgrade old new (Ok version) =
    (version ≡ newest_version)
    × (((new.now ≡ old) × IsSchemaOf newest_version old.schema × MaySay newest_version old.trees) ⊎ WasUpgraded old new)
TellsUpgrade old new (Err UnknownVersion) = IsOfUnknownVersion old
TellsUpgrade old new (Err (Damaged rule)) = (version : ℕ) × IsOfEarlier version old.trees × IsDamagedAt version rule old
TellsUpgrade old new (Err Store) = Unit {0}
TellsUpgrade old new (Err NoMemory) = Unit {0}

-- What a fault leaves: the file as it was; or, where the store failed or memory was missed in the step after it, a file of version 1 is
-- of version 2 with the same content.
abbrev pub LeavesWithFault : Database → Database → MigrateFault → Type 0
LeavesWithFault old new UnknownVersion = new ≡ old
LeavesWithFault old new (Damaged rule) = new ≡ old
LeavesWithFault old new Store = (new ≡ old) ⊎ WasGrown first_version old new
LeavesWithFault old new NoMemory = (new ≡ old) ⊎ WasGrown first_version old new

-- what a crash may leave beside what it could leave before: the file of the next version alone, or of the newest, that the file of an
-- earlier version becomes
abbrev pub MayLeaveUpgraded : Database → Trees → Type 0
MayLeaveUpgraded old trees =
    (l : Layout) × (c : Content) × HeldEarlier l c old × (AreGrown l c old.trees trees ⊎ AreUpgraded l c old.trees trees)

-- what a crash may leave at this moment is what is shown there, or what the step from that version makes of it
abbrev pub LeavesStep : ℕ → Database → (Trees → Type 0) → Type 0
LeavesStep version shown may_leave =
    (trees : Trees) → may_leave trees → (trees ≡ shown.trees) ⊎ MayLeaveStep version shown trees

-- What a crash may leave once an upgrade has ended, also where a fault has shut the connection. It is the file as it was, or of the next
-- version; or, where the step from version 1 stood, the file of version 2, or of the newest: a version that was reached stays.
abbrev pub LeavesReached : Database → (Trees → Type 0) → Type 0
LeavesReached old may_leave =
    ((version : ℕ) × LeavesStep version old may_leave)
    ⊎ ((mid : Database) × WasGrown first_version old mid × LeavesStep version_with_amounts mid may_leave)

-- what a crash may leave is what the connection shows
abbrev pub LeavesShown : State → Type 0
LeavesShown s = (trees : Trees) → s.may_leave trees → trees ≡ s.now.trees
