-- What the texts mean.
use Rattle.std.proofs.Common.{refl, ◌≡◌}
use Rattle.sqlite_catalog.specs.Change.{created}
use Rattle.sqlite_schema.specs.declared.schema.Schema.{Schema}
use Rattle.sqlite_tied.specs.Compute.{everything}
use Rattle.sqlite.specs.Listing.{understood}
use Rattle.td_schema.specs.declared.texts.TheConstants.{META, HOLDERS, CODES, MOVEMENTS, GUARANTEES, GUARANTEES2, LINES, LINES3}
use Rattle.td_schema.specs.declared.layout.Layout.{Layout}
use Rattle.td_schema.specs.declared.layout.Layout.TheVariants.{Made1, Made2, Grown2, Made3, Grown3From2, Grown3From1}
use Rattle.td_schema.specs.Layouts.{base_schema, grown, schema_of, version_of}
use Rattle.td_schema.specs.Making.{MakesOne}
use Rattle.td_schema.specs.Tables.{no_schema, meta, holders, codes_table, movements, guarantees, guarantees2, lines, lines3}

-- the tables as each text finds them
abbrev pub with_meta : Schema
with_meta = created no_schema meta

abbrev pub with_holders : Schema
with_holders = created with_meta holders

abbrev pub with_codes : Schema
with_codes = created with_holders codes_table

pub meta_made : MakesOne no_schema META.now meta
unfolding understood everything
meta_made = record { command = refl; plain = (refl, refl); whole = refl; table = refl; uncounted = refl }

pub holders_made : MakesOne with_meta HOLDERS.now holders
unfolding understood everything
holders_made = record { command = refl; plain = (refl, refl); whole = refl; table = refl; uncounted = refl }

pub codes_made : MakesOne with_holders CODES.now codes_table
unfolding understood everything
codes_made = record { command = refl; plain = (refl, refl); whole = refl; table = refl; uncounted = refl }

pub movements_made : MakesOne with_codes MOVEMENTS.now movements
unfolding understood everything
movements_made = record { command = refl; plain = (refl, refl); whole = refl; table = refl; uncounted = refl }

pub guarantees_made : MakesOne base_schema GUARANTEES.now guarantees
unfolding understood everything
guarantees_made = record { command = refl; plain = (refl, refl); whole = refl; table = refl; uncounted = refl }

pub lines_made : MakesOne (created base_schema guarantees) LINES.now lines
unfolding understood everything
lines_made = record { command = refl; plain = (refl, refl); whole = refl; table = refl; uncounted = refl }

pub guarantees2_made : MakesOne base_schema GUARANTEES2.now guarantees2
unfolding understood everything
guarantees2_made = record { command = refl; plain = (refl, refl); whole = refl; table = refl; uncounted = refl }

pub lines_made_at_2 : MakesOne (created base_schema guarantees2) LINES.now lines
unfolding understood everything
lines_made_at_2 = record { command = refl; plain = (refl, refl); whole = refl; table = refl; uncounted = refl }

pub guarantees2_grown : MakesOne (schema_of Made1) GUARANTEES2.now guarantees2
unfolding understood everything
guarantees2_grown = record { command = refl; plain = (refl, refl); whole = refl; table = refl; uncounted = refl }

pub lines3_made : MakesOne (created base_schema guarantees2) LINES3.now lines3
unfolding understood everything
lines3_made = record { command = refl; plain = (refl, refl); whole = refl; table = refl; uncounted = refl }

pub lines3_grown_from_2 : MakesOne (schema_of Made2) LINES3.now lines3
unfolding understood everything
lines3_grown_from_2 = record { command = refl; plain = (refl, refl); whole = refl; table = refl; uncounted = refl }

pub lines3_grown_from_1 : MakesOne (schema_of Grown2) LINES3.now lines3
unfolding understood everything
lines3_grown_from_1 = record { command = refl; plain = (refl, refl); whole = refl; table = refl; uncounted = refl }

-- so it is in a file of version 2, whichever its layout
pub lines3_grown : (l : Layout) → version_of l ≡ 2 → MakesOne (schema_of l) LINES3.now lines3
lines3_grown Made1 is = absurd cc
lines3_grown Made2 is = lines3_grown_from_2
lines3_grown Grown2 is = lines3_grown_from_1
lines3_grown Made3 is = absurd cc
lines3_grown Grown3From2 is = absurd cc
lines3_grown Grown3From1 is = absurd cc

-- and the layout is then the one that it grows to
pub lines3_layout : (l : Layout) → version_of l ≡ 2 → created (schema_of l) lines3 ≡ schema_of (grown l)
lines3_layout Made1 is = absurd cc
lines3_layout Made2 is = refl
lines3_layout Grown2 is = refl
lines3_layout Made3 is = absurd cc
lines3_layout Grown3From2 is = absurd cc
lines3_layout Grown3From1 is = absurd cc
