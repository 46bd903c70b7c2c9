-- The texts on the lines of a holder, which differ by version.
use Rattle.std.specs.Prelude.{ℕ, List, nat_lt, if◌then◌else◌}
use Rattle.td_schema.specs.Layouts.{version_with_more_lines}
use Rattle.td_store_audit.specs.declared.texts.TheConstants.{LINES1_BEHIND, LINES1_WITHIN, LINES3_BEHIND, LINES3_WITHIN}

-- the one that asks for those of the movements in a range, and the one that asks for those of the movements behind a serial
abbrev pub lines_within_text : ℕ → List ℕ
lines_within_text version = if nat_lt version version_with_more_lines then LINES1_WITHIN.now else LINES3_WITHIN.now

abbrev pub lines_behind_text : ℕ → List ℕ
lines_behind_text version = if nat_lt version version_with_more_lines then LINES1_BEHIND.now else LINES3_BEHIND.now
