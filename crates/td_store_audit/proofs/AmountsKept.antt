-- Where the rules before S7 are kept, S7 is kept exactly where the amount in each row is what the lines on its guarantee
-- add up to, in a file that keeps amounts; in another it is always kept.
use Rattle.std.proofs.Common.{◌≡◌, ◌∙◌, ℕ, Bool, List, [], ◌∷◌, map, nat_lt, true, false, refl, sym, subst, arith}
use Rattle.std.proofs.lemmas.Bool.Decides.{nat_tests}
use Rattle.std.proofs.lemmas.List.Sorted.{IsPermutation-sym}
use Rattle.std.specs.Prelude.{◌↔◌}
use Rattle.std.specs.List.{AllByRecursion}
use Rattle.sqlite_trees.specs.Tree.{Trees}
use Rattle.sqlite_trees.proofs.ListLemmas.{all-permutation, all_both, all_from_map, all_of, all_weaker}
use Rattle.td_movement.specs.declared.movement.Movement.{Movement}
use Rattle.td_model.specs.declared.holder_row.HolderRow.{HolderRow}
use Rattle.td_table_model.specs.declared.rule.Rule.TheVariants.{S3, S7}
use Rattle.td_table_model.specs.Gathering.{guarantees_by, holder_no, movements_by, part, place, with_lines}
use Rattle.td_table_model.specs.Rules.{HasAmounts, IsInUse}
use Rattle.td_table_model.specs.Tables.{Tables, version_with_amounts, without_amount}
use Rattle.td_table_model.proofs.Orders.{in_order_permutes}
use Rattle.td_schema.specs.Layouts.{version_of}
use Rattle.td_schema.specs.declared.layout.Layout.{Layout}
use Rattle.td_store_rows.specs.StoreReads.{KeepsUse}
use Rattle.td_store_rows.specs.StoreTables.{tables_in}
use Rattle.td_store_audit_rows.specs.Found.{FoundHoldersTell}
use Rattle.td_store_audit_rows.specs.Untyped.{KeepsUntyped}
use Rattle.td_store_audit_rows.specs.declared.holders.RawHolder.{RawHolder}
use Rattle.td_store_audit.specs.Auditable.{IsAuditable, KeepsBefore}
use Rattle.td_store_audit.specs.InFile.{IsHolderKeptInFile, IsRowKept}
use Rattle.td_store_audit.proofs.HoldersTold.{holders_tell, of_pairs}
use Rattle.td_store_audit.proofs.TypedFor.{part_without}
use Rattle.td_store_audit.proofs.UseKept.{IsKnown, IsUse, all_known, all_same, guarantees_typed}

module _ (law : FoundHoldersTell) (layout : Layout) (trees : Trees) (country : List ℕ) (holders : List RawHolder) (known : IsAuditable layout trees country holders)
    (before : KeepsBefore layout trees S7) (keep : KeepsUse layout) where
  abbrev t : Tables
  t = tables_in layout trees

  module _ (row : HolderRow) (is : IsKnown t row) where
    abbrev H : ℕ
    H = row.holder

    abbrev movements : List Movement
    movements = map (with_lines t) (movements_by H t)

    -- what is in use on the guarantee of each row that keeps an amount
    same : AllByRecursion (λ k. IsUse t row (without_amount k)) (part H t.kept)
    same =
        all_from_map (IsUse t row) without_amount (part H t.kept)
        (subst (AllByRecursion (IsUse t row)) (part_without layout trees H)
        (all-permutation (IsUse t row) (guarantees_by H t) (part H t.guarantees)
        (IsPermutation-sym (part H t.guarantees) (guarantees_by H t)
        (in_order_permutes place (part H t.guarantees) ((guarantees_typed layout trees country holders known before).apart H)))
        (all_same law layout trees country holders known before row is)))

    -- so the holder's amounts are kept exactly where each is that sum
    kept : HasAmounts t row → AllByRecursion (IsRowKept layout trees) (part H t.kept)
    kept keeps =
        all_both (λ k. IsUse t row (without_amount k)) (IsInUse movements) (IsRowKept layout trees) (λ k sum used. used ∙ sym sum) (part H t.kept)
        same (keeps keep)

    has : AllByRecursion (IsRowKept layout trees) (part H t.kept) → HasAmounts t row
    has each asked =
        all_both (λ k. IsUse t row (without_amount k)) (IsRowKept layout trees) (IsInUse movements) (λ k sum used. used ∙ sum) (part H t.kept)
        same each

  abbrev AreSums : ℕ → Type 0
  AreSums H = AllByRecursion (IsRowKept layout trees) (part H t.kept)

  kept_each : KeepsUntyped layout trees S7 ↔ AllByRecursion (IsHolderKeptInFile layout trees) holders
  kept_each =
      let pairs = of_pairs holder_no (λ (h : RawHolder). h.holder) AreSums t.holders holders (holders_tell law layout trees country holders known).same in
      let all = all_known law layout trees country holders known before in (
        λ keeps. pairs.0 (all_both (IsKnown t) (HasAmounts t) (λ row. AreSums (holder_no row)) kept t.holders all keeps.1),
        λ each. (
          λ asked. (known.kept.amounts keep (before S3 (omega arith)).0.1).typed,
          all_both (IsKnown t) (λ row. AreSums (holder_no row)) (HasAmounts t) has t.holders all (pairs.1 each),
        ),
      )

-- so it is whether the file keeps amounts or not
module _ (law : FoundHoldersTell) (layout : Layout) (trees : Trees) (country : List ℕ) (holders : List RawHolder) (known : IsAuditable layout trees country holders)
    (before : KeepsBefore layout trees S7) where
  abbrev KeepsAmounts : RawHolder → Type 0
  KeepsAmounts raw = KeepsUse layout → IsHolderKeptInFile layout trees raw

  -- what holds of each on a condition
  all_where : {A : Type 0} (P : RawHolder → Type 0) (rows : List RawHolder) → (A → AllByRecursion P rows) → AllByRecursion (λ raw. A → P raw) rows
  all_where P [] all = tt
  all_where P (raw ∷ rows) all = (λ a. (all a).0, all_where P rows (λ a. (all a).1))

  none_kept : ¬ KeepsUse layout → KeepsUntyped layout trees S7
  none_kept none = (
    λ keep. absurd (none keep),
    all_of (HasAmounts (tables_in layout trees)) (λ row keep. absurd (none keep)) (tables_in layout trees).holders,
  )

  pub amounts_each : KeepsUntyped layout trees S7 ↔ AllByRecursion KeepsAmounts holders
  amounts_each = (
    λ keeps. all_where (IsHolderKeptInFile layout trees) holders (λ keep. (kept_each law layout trees country holders known before keep).0 keeps),
    λ each. by_test each (nat_lt (version_of layout) version_with_amounts) refl,
  )
    where
      by_test : AllByRecursion KeepsAmounts holders → (b : Bool) → nat_lt (version_of layout) version_with_amounts ≡ b → KeepsUntyped layout trees S7
      by_test each true early = none_kept (λ keep. absurd (grind (arith, nat_tests, early, keep)))
      by_test each false late =
          let keep : KeepsUse layout = grind (arith, nat_tests, late) in
          (kept_each law layout trees country holders known before keep).1 (all_weaker KeepsAmounts (IsHolderKeptInFile layout trees) (λ raw kept. kept keep) holders each)
