-- All rules are kept exactly where each is.
use Rattle.std.proofs.Common.{List, [], ◌∷◌}
use Rattle.std.specs.List.{AllByRecursion}
use Rattle.sqlite_trees.proofs.ListLemmas.{all_weaker}
use Rattle.td_model.specs.declared.holder_row.HolderRow.{HolderRow}
use Rattle.td_table_model.specs.declared.rule.Rule.{Rule}
use Rattle.td_table_model.specs.declared.rule.Rule.TheVariants.{S1, S2, S3, S4, S5, S6, S7, S8}
use Rattle.td_table_model.specs.Tables.{Tables}
use Rattle.td_table_model.specs.Rules.{IsHolderInRange, HasGuarantees, HasCodes, HasMovements, HasLines, HasAmounts, IsHolderCovered, KeepsRules, KeepRules, Keeps, RulesAreKeptEach}

each_kept : (t : Tables) → KeepRules t → (rule : Rule) → Keeps t rule
each_kept t keep S1 = keep.country
each_kept t keep S2 = all_weaker (KeepsRules t) IsHolderInRange (λ row keeps. keeps.holder) t.holders keep.holders
each_kept t keep S3 = all_weaker (KeepsRules t) (HasGuarantees t) (λ row keeps. keeps.guarantees) t.holders keep.holders
each_kept t keep S4 = all_weaker (KeepsRules t) (HasCodes t) (λ row keeps. keeps.codes) t.holders keep.holders
each_kept t keep S5 = all_weaker (KeepsRules t) (HasMovements t) (λ row keeps. keeps.movements) t.holders keep.holders
each_kept t keep S6 = all_weaker (KeepsRules t) (HasLines t) (λ row keeps. keeps.lines) t.holders keep.holders
each_kept t keep S7 = all_weaker (KeepsRules t) (HasAmounts t) (λ row keeps. keeps.amounts) t.holders keep.holders
each_kept t keep S8 = all_weaker (KeepsRules t) (IsHolderCovered t) (λ row keeps. keeps.cover) t.holders keep.holders

holders_keep : (t : Tables) (rows : List HolderRow) → AllByRecursion IsHolderInRange rows → AllByRecursion (HasGuarantees t) rows → AllByRecursion (HasCodes t) rows → AllByRecursion (HasMovements t) rows
    → AllByRecursion (HasLines t) rows → AllByRecursion (HasAmounts t) rows → AllByRecursion (IsHolderCovered t) rows → AllByRecursion (KeepsRules t) rows
holders_keep t [] holder guarantees codes movements lines amounts cover = tt
holders_keep t (row ∷ rows) holder guarantees codes movements lines amounts cover = (
  record { holder = holder.0; guarantees = guarantees.0; codes = codes.0; movements = movements.0; lines = lines.0; amounts = amounts.0; cover = cover.0 },
  holders_keep t rows holder.1 guarantees.1 codes.1 movements.1 lines.1 amounts.1 cover.1,
)

pub kept_each : RulesAreKeptEach
kept_each t stored = (
  each_kept t,
  λ keeps. record { stored = stored; country = keeps S1; holders = holders_keep t t.holders (keeps S2) (keeps S3) (keeps S4) (keeps S5) (keeps S6) (keeps S7) (keeps S8) },
)
