use Rattle.std.proofs.Common.{◌≡◌, map, take}
use Rattle.td_guarantee.specs.Codes.{AreAscending}
use Rattle.td_store_load.specs.Loaded.{code_of}
use Rattle.td_store_load.proofs.entries.gather_codes.Given as goal

abbrev pub invariant-rows : goal.invariant-rows
invariant-rows l = AreAscending (map code_of l.rows) → l.codes ≡ map code_of (take l.row-index l.rows)
