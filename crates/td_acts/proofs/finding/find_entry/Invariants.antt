use Rattle.std.proofs.Common.{◌≡◌, drop, map}
use Rattle.td_model.specs.Account.{guarantee_by_grn}
use Rattle.td_acts.specs.Deciding.{entry_by_grn}
use Rattle.td_acts.proofs.finding.find_entry.Given as goal

-- the entry, and its guarantee, are among those that are left
abbrev pub invariant-loop-entry : goal.invariant-loop-entry
invariant-loop-entry l = record {
  entry : entry_by_grn l.grn (drop l.entry-index l.entries) ≡ entry_by_grn l.grn l.entries;
  guarantee : guarantee_by_grn l.grn (map (λ e. e.0) (drop l.entry-index l.entries)) ≡ guarantee_by_grn l.grn (map (λ e. e.0) l.entries);
}
