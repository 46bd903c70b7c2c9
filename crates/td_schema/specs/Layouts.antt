-- The layouts of a store's file: which tables stand in it, and where.
use Rattle.std.specs.Prelude.{◌≡◌, ◌≤◌, ◌<◌, ℕ}
use Rattle.sqlite_catalog.specs.Change.{created}
use Rattle.sqlite_schema.specs.declared.schema.Schema.{Schema}
use Rattle.sqlite_schema.specs.declared.schema.Table.{Table}
use Rattle.td_schema.specs.declared.layout.Layout.{Layout}
use Rattle.td_schema.specs.declared.layout.Layout.TheVariants.{Made1, Made2, Grown2, Made3, Grown3From2, Grown3From1}
use Rattle.td_schema.specs.declared.layout.TheConstants.{NEWEST_LAYOUT, NEWEST_VERSION}
use Rattle.td_schema.specs.Tables.{no_schema, meta, holders, codes_table, movements, guarantees, guarantees2, lines, lines3}

-- the tables that no version changes: they are made first, so that they have the same places in each layout
abbrev pub base_schema : Schema
base_schema = created (created (created (created no_schema meta) holders) codes_table) movements

-- the tables of a layout, in the order in which they were made, each with the indexes of its keys
abbrev pub schema_of : Layout → Schema
schema_of Made1 = created (created base_schema guarantees) lines
schema_of Made2 = created (created base_schema guarantees2) lines
schema_of Grown2 = created (created (created base_schema guarantees) lines) guarantees2
schema_of Made3 = created (created base_schema guarantees2) lines3
schema_of Grown3From2 = created (created (created base_schema guarantees2) lines) lines3
schema_of Grown3From1 = created (created (created (created base_schema guarantees) lines) guarantees2) lines3

-- the version of a file of this layout
abbrev pub version_of : Layout → ℕ
version_of Made1 = 1
version_of Made2 = 2
version_of Grown2 = 2
version_of Made3 = 3
version_of Grown3From2 = 3
version_of Grown3From1 = 3

-- the version from which on a movement may have more than nine lines, and that a file of this layout is of it or of a
-- later one, or of an earlier one
abbrev pub version_with_more_lines : ℕ
version_with_more_lines = 3

abbrev pub HasMoreLines : Layout → Type 0
HasMoreLines l = version_with_more_lines ≤ version_of l

abbrev pub HasFewLines : Layout → Type 0
HasFewLines l = version_of l < version_with_more_lines

-- the layout of a file of this one after it was migrated to the version behind its own
abbrev pub grown : Layout → Layout
grown Made1 = Grown2
grown Made2 = Grown3From2
grown Grown2 = Grown3From1
grown Made3 = Made3
grown Grown3From2 = Grown3From2
grown Grown3From1 = Grown3From1

-- the table in which such a file has its guarantees: what it is, its place among the tables, and its tree
abbrev pub guarantees_shape : Layout → Table
guarantees_shape Made1 = guarantees
guarantees_shape Made2 = guarantees2
guarantees_shape Grown2 = guarantees2
guarantees_shape Made3 = guarantees2
guarantees_shape Grown3From2 = guarantees2
guarantees_shape Grown3From1 = guarantees2

abbrev pub guarantees_place : Layout → ℕ
guarantees_place Made1 = 4
guarantees_place Made2 = 4
guarantees_place Grown2 = 6
guarantees_place Made3 = 4
guarantees_place Grown3From2 = 4
guarantees_place Grown3From1 = 6

abbrev pub guarantees_tree : Layout → ℕ
guarantees_tree Made1 = 8
guarantees_tree Made2 = 8
guarantees_tree Grown2 = 14
guarantees_tree Made3 = 8
guarantees_tree Grown3From2 = 8
guarantees_tree Grown3From1 = 14

-- likewise the table in which it has its lines
abbrev pub lines_shape : Layout → Table
lines_shape Made1 = lines
lines_shape Made2 = lines
lines_shape Grown2 = lines
lines_shape Made3 = lines3
lines_shape Grown3From2 = lines3
lines_shape Grown3From1 = lines3

abbrev pub lines_place : Layout → ℕ
lines_place Made1 = 5
lines_place Made2 = 5
lines_place Grown2 = 5
lines_place Made3 = 5
lines_place Grown3From2 = 6
lines_place Grown3From1 = 7

abbrev pub lines_tree : Layout → ℕ
lines_tree Made1 = 11
lines_tree Made2 = 11
lines_tree Grown2 = 11
lines_tree Made3 = 11
lines_tree Grown3From2 = 14
lines_tree Grown3From1 = 17

-- the newest version, and that a file of this layout is of it
abbrev pub newest_version : ℕ
newest_version = NEWEST_VERSION

abbrev pub IsNewest : Layout → Type 0
IsNewest l = version_of l ≡ newest_version

-- the tables are those of a layout of it
abbrev pub IsNewestSchema : Schema → Type 0
IsNewestSchema s = (l : Layout) × IsNewest l × (s ≡ schema_of l)

-- the layout of a file that is made at it
abbrev pub newest_layout : Layout
newest_layout = NEWEST_LAYOUT

-- the tables of such a file
abbrev pub desk_schema : Schema
desk_schema = schema_of newest_layout
