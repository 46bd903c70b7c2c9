-- What is known of a store's file before it is asked whether its rows keep a rule, and the answer.
use Rattle.std.specs.Prelude.{◌≡◌, ℕ, ◌<◌, List}
use Rattle.sqlite_trees.specs.Tree.{Trees}
use Rattle.td_table_model.specs.declared.rule.Rule.{Rule}
use Rattle.td_table_model.specs.Rules.{rule_no}
use Rattle.td_schema.specs.declared.layout.Layout.{Layout}
use Rattle.td_store_rows.specs.StoreTables.{tables_in}
use Rattle.td_store_audit_rows.specs.Holders.{AreHoldersIn, NumbersRise}
use Rattle.td_store_audit_rows.specs.Untyped.{KeepsUntyped}
use Rattle.td_store_audit_rows.specs.Laws.{AreKept}
use Rattle.td_store_audit_rows.specs.declared.holders.RawHolder.{RawHolder}

-- what the database keeps of the tables, the country, and all holders, each once
pub record IsAuditable (layout : Layout) (trees : Trees) (country : List ℕ) (holders : List RawHolder) : Type 0 where
  pub kept : AreKept layout trees
  pub country_is : (tables_in layout trees).country ≡ country
  pub holders_are : AreHoldersIn trees holders
  pub order : NumbersRise holders

-- the rules before it are kept
abbrev pub KeepsBefore : Layout → Trees → Rule → Type 0
KeepsBefore layout trees rule = (other : Rule) → rule_no other < rule_no rule → KeepsUntyped layout trees other
