-- Each rule is kept exactly where its table can be read row by row, and each holder keeps it, where the rules before it are kept: so the
-- first rule that the tables break is the first of which that isn't so.
use Rattle.std.proofs.Common.{ℕ, zero, suc, ◌<◌, Bool, List, Option, Some, None, inl, inr, ◌≡◌, arith}
use Rattle.std.specs.Prelude.{◌↔◌, ◌⊎◌, IsTrue}
use Rattle.std.specs.List.{AllByRecursion}
use Rattle.sqlite_trees.specs.Tree.{Trees}
use Rattle.sqlite_trees.proofs.ListLemmas.{all_of}
use Rattle.td_table_model.specs.declared.rule.Rule.{Rule}
use Rattle.td_table_model.specs.declared.rule.Rule.TheVariants.{S1, S2, S3, S4, S5, S6, S7, S8}
use Rattle.td_table_model.specs.Rules.{rule_no}
use Rattle.td_schema.specs.declared.layout.Layout.{Layout}
use Rattle.td_store_audit_rows.specs.Untyped.{KeepsUntyped}
use Rattle.td_store_audit_rows.specs.declared.holders.RawHolder.{RawHolder}
use Rattle.td_store_audit_rows.specs.declared.tables.Readable.{Readable}
use Rattle.td_store_audit_rows.proofs.FoundHolders.{found_tell}
use Rattle.td_store_audit_rows.proofs.ReadByRules as read
use Rattle.td_store_audit.specs.Auditable.{IsAuditable, KeepsBefore}
use Rattle.td_store_audit.specs.Broken.{HasOffice, TellsBroken}
use Rattle.td_store_audit.specs.FirstRule.{AreSoBefore, IsBefore, IsFirstNot, IsNotSoBefore}
use Rattle.td_store_audit.specs.HolderRules.{HolderKeeps, IsReadFor}
use Rattle.td_store_audit.proofs.AmountsKept.{amounts_each}
use Rattle.td_store_audit.proofs.CoverKept as cover
use Rattle.td_store_audit.proofs.FirstRule.{before_on}
use Rattle.td_store_audit.proofs.GuaranteesKept as guarantees
use Rattle.td_store_audit.proofs.HoldersTold.{holders_tell}
use Rattle.td_store_audit.proofs.MovementsKept as movements
use Rattle.td_store_audit.proofs.Told.{codes_read, codes_rule, lines_read, lines_rule}

-- the rule's table can be read, and each of these holders keeps the rule
abbrev pub IsKeptByEach : Readable → List ℕ → List RawHolder → Layout → Trees → Rule → Type 0
IsKeptByEach readable country holders layout trees rule = IsReadFor readable rule × AllByRecursion (λ raw. HolderKeeps layout country trees raw rule) holders

-- a rule that is kept only where the rows are read, and where they are exactly where each holder keeps it
by_reading : {Read Keeps Each : Type 0} (all : Bool) → IsTrue all ↔ Read → (Keeps → Read) → (Read → Keeps ↔ Each) → Keeps ↔ (IsTrue all × Each)
by_reading all tells read rule = (λ keeps. (tells.1 (read keeps), (rule (read keeps)).0 keeps), λ each. (rule (tells.0 each.0)).1 each.1)

-- one that asks for no reading
at_once : {Keeps Each : Type 0} → Keeps ↔ Each → Keeps ↔ (Unit {0} × Each)
at_once rule = (λ keeps. (tt, rule.0 keeps), λ each. rule.1 each.1)

module _ (layout : Layout) (trees : Trees) (country : List ℕ) (readable : Readable) (office : HasOffice country readable layout trees)
    (holders : List RawHolder) (known : IsAuditable layout trees country holders) where
  abbrev IsKept : Rule → Type 0
  IsKept = IsKeptByEach readable country holders layout trees

  told : (rule : Rule) → KeepsBefore layout trees rule → KeepsUntyped layout trees rule ↔ IsKept rule
  told S1 before = (λ keeps. (tt, all_of (λ raw. Unit {0}) (λ raw. tt) holders), λ each. office.keeps)
  told S2 before = at_once (holders_tell found_tell layout trees country holders known).identity
  told S3 before =
      by_reading readable.guarantees office.told.guarantees
      (guarantees.kept_read found_tell layout trees country holders known read.guarantees_read office.keeps)
      (guarantees.kept_each found_tell layout trees country holders known)
  told S4 before =
      by_reading readable.codes office.told.codes (codes_read layout trees country holders known before) (codes_rule layout trees country holders known before)
  told S5 before =
      by_reading readable.movements office.told.movements
      (movements.kept_read found_tell layout trees country holders known read.movements_read office.keeps)
      (movements.kept_each found_tell layout trees country holders known)
  told S6 before =
      by_reading readable.lines office.told.lines (lines_read layout trees country holders known before) (lines_rule layout trees country holders known before)
  told S7 before = at_once (amounts_each found_tell layout trees country holders known before)
  told S8 before = at_once (cover.kept_each found_tell layout trees country holders known (λ other below. before other (omega (arith, below))))

  -- so the rules before the first that isn't kept by each are kept
  kept_below : (n : ℕ) (first : Option Rule) → AreSoBefore IsKept first → (rule : Rule) → rule_no rule < n → IsBefore rule first → KeepsUntyped layout trees rule
  kept_below zero first so rule low before = absurd (omega (arith, low))
  kept_below (suc n) first so rule low before =
      (told rule (λ other below. kept_below n first so other (omega (arith, below, low)) (before_on other rule first below before))).1 (so rule before)

  kept_before : (first : Option Rule) → AreSoBefore IsKept first → AreSoBefore (KeepsUntyped layout trees) first
  kept_before first so rule before = kept_below (suc (rule_no rule)) first so rule (omega arith) before

  pub tells_broken : (first : Option Rule) → IsFirstNot IsKept None first → TellsBroken layout trees first
  tells_broken None is = λ rule. kept_before None is.before rule tt
  tells_broken (Some rule) is = record { broken = by_side is.broken; before = kept_before (Some rule) is.before }
    where
      by_side : (Some rule ≡ None) ⊎ IsNotSoBefore IsKept None (Some rule) → ¬ KeepsUntyped layout trees rule
      by_side (inl same) = absurd cc
      by_side (inr not) = λ keeps. not.1 ((told rule (kept_before (Some rule) is.before)).0 keeps)
