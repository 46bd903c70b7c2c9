-- The law of what a desk decides.
use Rattle.std.specs.Prelude.{◌≡◌}
use Rattle.td_acts.specs.Weighing.{IsDecision}
use Rattle.td_acts.specs.declared.rows.Verdict.{Verdict}
use Rattle.td_model.specs.Content.{Content, IsSound, content_after}
use Rattle.td_table_model.specs.Changes.{HaveSameRows, tables_after}
use Rattle.td_table_model.specs.Gathering.{content_of}
use Rattle.td_table_model.specs.Tables.{AreTablesOf, Tables}

-- The statements of what a desk decides on a command over a content turn tables of that content into tables of the content after the
-- decision, and the new tables have that content.
abbrev pub DecisionsAreWritten : Type 0
DecisionsAreWritten =
    (v : Verdict) (old new : Tables) (c : Content) → IsSound c → IsDecision c v → AreTablesOf old c
    → HaveSameRows (tables_after v.change old) new
    → AreTablesOf new (content_after v.change c) × (content_of new ≡ content_after v.change c)
