-- Which layout a file has by the names of its tables.
use Rattle.std.specs.Prelude.{Bool, true, false}
use Rattle.td_schema.specs.declared.layout.Layout.{Layout}
use Rattle.td_schema.specs.declared.layout.Layout.TheVariants.{Grown2, Grown3From1, Grown3From2, Made1, Made2, Made3}

-- the layout of a store's file, by whether it has the guarantees of version 1 and those from version 2 on, and by whether it has
-- the lines below version 3 and those from version 3 on
abbrev pub layout_by : Bool → Bool → Bool → Bool → Layout
layout_by true true few true = Grown3From1
layout_by true true few false = Grown2
layout_by true false few more = Made1
layout_by false kept true true = Grown3From2
layout_by false kept true false = Made2
layout_by false kept false more = Made3
