-- The texts on the table of guarantees that differ by version.
use Rattle.std.specs.Prelude.{ℕ, List, nat_lt, if◌then◌else◌}
use Rattle.td_table_model.specs.Tables.{version_with_amounts}
use Rattle.td_store_rows.specs.declared.guarantees.texts.TheConstants.{NEXT_OF_HOLDER1, NEXT_OF_HOLDER2, WITHIN1, WITHIN2}

-- the one that asks for the guarantees of a holder with serials in a range; for those behind a serial
abbrev pub within_text : ℕ → List ℕ
within_text version = if nat_lt version version_with_amounts then WITHIN1.now else WITHIN2.now

abbrev pub next_of_holder_text : ℕ → List ℕ
next_of_holder_text version = if nat_lt version version_with_amounts then NEXT_OF_HOLDER1.now else NEXT_OF_HOLDER2.now
