-- Rules that are asked one after another in a store's file: which is the first that isn't so.
use Rattle.std.proofs.Common.{◌≡◌, ◌+◌, Bool, false, Option, Some}
use Rattle.std.specs.Prelude.{◌↔◌, IsTrue}
use Rattle.sqlite_trees.specs.Tree.{Trees}
use Rattle.sqlite.specs.State.{State}
use Rattle.td_table_model.specs.declared.rule.Rule.{Rule}
use Rattle.td_table_model.specs.declared.rule.Rule.TheVariants.{S8}
use Rattle.td_table_model.specs.Rules.{rule_no}
use Rattle.td_schema.specs.declared.layout.Layout.{Layout}
use Rattle.td_store_audit.specs.FirstRule.{AreSoBefore, IsBefore, IsFirstNot}
use Rattle.td_store_audit.specs.InFile.{IsSoWhere, OnlyReadIn, TellsWhere}
use Rattle.td_store_audit.proofs.FirstRule.{all_so, not_asked, not_so, one_more}
use Rattle.td_store_audit.proofs.Reading.{so_before}

module _ (At : Layout → Type 0) (Q : Layout → Trees → Type 0) (P : Layout → Trees → Rule → Type 0) (end : Option Rule) (a : State) where
  -- the rules before this one are so; the first that isn't so is known; it is told whether this one is
  abbrev pub AreSoUpTo : Rule → Type 0
  AreSoUpTo rule = IsSoWhere At Q (λ layout trees. AreSoBefore (P layout trees) (Some rule)) a

  abbrev pub ComesFirst : Option Rule → Type 0
  ComesFirst first = IsSoWhere At Q (λ layout trees. IsFirstNot (P layout trees) end first) a

  abbrev pub Tells : Rule → Bool → Type 0
  Tells rule keeps = TellsWhere At Q (λ layout trees. P layout trees rule) a keeps

  -- the rule doesn't come before the end
  pub stops : (rule : Rule) (asked : Bool) → asked ≡ false → IsTrue asked ↔ IsBefore rule end → AreSoUpTo rule → ComesFirst end
  stops rule asked is tells so layout own has q = not_asked (P layout a.now.trees) end rule asked is tells (so layout own has q)

  -- it does, and isn't so
  pub breaks : (rule : Rule) (keeps : Bool) → keeps ≡ false → Tells rule keeps → AreSoUpTo rule → IsBefore rule end → ComesFirst (Some rule)
  breaks rule keeps is told so before layout own has q = not_so (P layout a.now.trees) end rule keeps is (told layout own has q) (so layout own has q) before

  -- it is so, and the next one is asked
  pub goes_on : (rule next : Rule) → rule_no next ≡ rule_no rule + 1 → (keeps : Bool) → IsTrue keeps → Tells rule keeps → AreSoUpTo rule → AreSoUpTo next
  goes_on rule next number keeps is told so layout own has q = one_more (P layout a.now.trees) rule next number (so layout own has q) ((told layout own has q).0 is)

  -- it is, and it is the last
  pub ends : (keeps : Bool) → IsTrue keeps → Tells S8 keeps → AreSoUpTo S8 → ComesFirst end
  ends keeps is told so layout own has q = all_so (P layout a.now.trees) end (so layout own has q) ((told layout own has q).0 is)

  -- what is told of it afterwards
  pub told_after : (rule : Rule) (keeps : Bool) (R : Layout → Trees → Type 0) (b : State) → OnlyReadIn At a b
      → TellsWhere At R (λ layout trees. P layout trees rule) b keeps → ((layout : Layout) → Q layout a.now.trees → R layout a.now.trees) → Tells rule keeps
  told_after rule keeps R b read told asked layout own has q =
      so_before At R (λ layout trees. IsTrue keeps ↔ P layout trees rule) a b read told layout own has (asked layout q)
