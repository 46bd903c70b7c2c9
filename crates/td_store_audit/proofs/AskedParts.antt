-- The rules from S5 on, asked of one holder: those from S7 on by what those before them handed on.
use Rattle.std.proofs.Common.{◌≡◌, ℕ, Bool, false, true, List, Ok, Err, Option, Result, Some, arith, refl, subst, sym}
use Rattle.std.specs.Prelude.{◌↔◌, ◌≤◌, IfOk, IsTrue}
use Rattle.sqlite_trees.specs.Tree.{Trees}
use Rattle.sqlite.specs.State.{State}
use Rattle.sqlite.specs.declared.error.Error.{Error}
use Rattle.td_table_model.specs.declared.rule.Rule.{Rule}
use Rattle.td_table_model.specs.declared.rule.Rule.TheVariants.{S3, S5, S6, S7, S8}
use Rattle.td_table_model.specs.Gathering.{part}
use Rattle.td_table_model.specs.Tables.{version_with_amounts}
use Rattle.typed_sql.specs.Typed.{AreTyped, typed_rows}
use Rattle.td_schema.specs.declared.layout.Layout.{Layout}
use Rattle.td_store_rows.specs.Columns.{line_typing, movement_typing}
use Rattle.td_store_rows.specs.StoreReads.{IsAny, IsOfVersion, KeepsUse}
use Rattle.td_store_audit_rows.specs.declared.holders.RawHolder.{RawHolder}
use Rattle.td_store_audit.specs.FirstRule.{AreSoBefore, IsBefore, IsFirstNot}
use Rattle.td_store_audit.specs.HolderRules.{HolderKeeps, IsAskableFrom, IsUseAskable}
use Rattle.td_store_audit.specs.InFile.{AreTypedApart, HasGuaranteesInPlace, HasMovementsInPlace, IsHolderCoveredInFile, IsHolderKeptInFile, IsSoWhere, OnlyReadIn, TellsWhere}
use Rattle.td_store_audit.specs.InPlace.{AreNumbersApart}
use Rattle.td_store_audit.specs.Premises.{HasLinesInPlace}
use Rattle.td_store_audit.specs.Tallies.{AreCounting, AreItsTotals, IsHandedOn, raw_holder_of}
use Rattle.td_store_audit.specs.declared.tallies.HolderTotals.{HolderTotals}
use Rattle.td_store_audit.proofs.AskedRules.{AreSoUpTo, ComesFirst, Tells, breaks, ends, goes_on, stops, told_after}
use Rattle.td_store_audit.proofs.CoveredByUse.{covered_by_use}
use Rattle.td_store_audit.proofs.Reading.{none_read_in, so_before}
use Rattle.td_store_audit.proofs.TypedFor.{handed_on, lines_apart, lines_typed, movements_typed}

module _ (version : ℕ) (country : List ℕ) (raw : RawHolder) (end : Option Rule) (a : State) where
  abbrev At : Layout → Type 0
  At = IsOfVersion version

  abbrev Asked : Layout → Trees → Type 0
  Asked = IsAskableFrom S5 end country raw

  abbrev Keeps : Layout → Trees → Rule → Type 0
  Keeps layout trees = HolderKeeps layout country trees raw

  abbrev UpTo : Rule → Type 0
  UpTo = AreSoUpTo At Asked Keeps end a

  pub stops_at : (rule : Rule) (called : Bool) → called ≡ false → IsTrue called ↔ IsBefore rule end → UpTo rule → ComesFirst At Asked Keeps end a end
  stops_at = stops At Asked Keeps end a

  pub breaks_at : (rule : Rule) (keeps : Bool) → keeps ≡ false → Tells At Asked Keeps end a rule keeps → UpTo rule → IsBefore rule end
      → ComesFirst At Asked Keeps end a (Some rule)
  breaks_at = breaks At Asked Keeps end a

  pub up_to_S5 : UpTo S5
  up_to_S5 layout own has q = q.before

  abbrev TellsMovements : Bool → Type 0
  TellsMovements keeps = TellsWhere IsAny (λ layout. AreTypedApart movement_typing) (λ layout trees. HasMovementsInPlace layout country trees raw) a keeps

  pub movements_told : (keeps : Bool) → IsBefore S5 end → TellsMovements keeps → Tells At Asked Keeps end a S5 keeps
  movements_told keeps before told =
      told_after At Asked Keeps end a S5 keeps (λ layout. AreTypedApart movement_typing) a (none_read_in At a) (λ layout own. told layout tt)
      (λ layout q. movements_typed end layout a.now.trees q.askable before)

  pub up_to_S6 : (keeps : Bool) → IsTrue keeps → IsBefore S5 end → TellsMovements keeps → UpTo S6
  up_to_S6 keeps is before told = goes_on At Asked Keeps end a S5 S6 refl keeps is (movements_told keeps before told) up_to_S5

  module _ (b : State) (read : OnlyReadIn At a b) (before : IsBefore S6 end) where
    abbrev TellsLines : RawHolder → Bool → Type 0
    TellsLines h keeps =
        IsSoWhere At (λ layout. AreTyped (line_typing layout))
        (λ layout trees. AreNumbersApart (part h.holder (typed_rows (line_typing layout) trees)) → IsTrue keeps ↔ HasLinesInPlace layout trees h) b

    pub lines_told : (h : RawHolder) → h ≡ raw → (keeps : Bool) → TellsLines h keeps → Tells At Asked Keeps end a S6 keeps
    lines_told h same keeps told layout own has q =
        so_before At (λ layout. AreTyped (line_typing layout))
        (λ layout trees. AreNumbersApart (part raw.holder (typed_rows (line_typing layout) trees)) → IsTrue keeps ↔ HasLinesInPlace layout trees raw) a b read (subst (λ x. TellsLines x keeps) same told)
        layout own has (lines_typed end layout a.now.trees q.askable before) (lines_apart end layout a.now.trees q.askable before raw.holder)

    pub up_to_S7 : (h : RawHolder) → h ≡ raw → (keeps : Bool) → IsTrue keeps → TellsLines h keeps → UpTo S6 → UpTo S7
    up_to_S7 h same keeps is told = goes_on At Asked Keeps end a S6 S7 refl keeps is (lines_told h same keeps told)

    -- what was handed on of the holder
    module _ (parts : HolderTotals) (same : raw_holder_of parts ≡ raw) (of_five : IsBefore S5 end)
        (counted : IsSoWhere IsAny (λ layout. AreTypedApart movement_typing) (λ layout trees. AreCounting layout trees parts.movements) a)
        (found : IsSoWhere At (λ layout. AreTyped (line_typing layout))
        (λ layout trees. AreNumbersApart (part parts.movements.raw.holder (typed_rows (line_typing layout) trees)) → AreItsTotals layout trees parts.movements parts.totals) b) where
      handed : IsSoWhere At Asked (λ layout trees. IsHandedOn layout trees parts) a
      handed layout own has q =
          handed_on end layout a.now.trees q.askable parts country
          (subst (λ h. HasGuaranteesInPlace layout country a.now.trees h) (sym same) (q.before S3 (omega arith))) before
          (counted layout tt has (movements_typed end layout a.now.trees q.askable of_five))
          (so_before At (λ layout. AreTyped (line_typing layout))
          (λ layout trees. AreNumbersApart (part parts.movements.raw.holder (typed_rows (line_typing layout) trees)) → AreItsTotals layout trees parts.movements parts.totals) a b read found layout own has
          (lines_typed end layout a.now.trees q.askable before) (lines_apart end layout a.now.trees q.askable before parts.movements.raw.holder))

      -- so what is told by it of the rules behind S6 is told of all
      pub all_told : (d : State) → OnlyReadIn At a d → UpTo S7 → (result : Result (Option Rule) Error)
          → IfOk result (λ first. (country : List ℕ) → IsSoWhere At (IsUseAskable country parts)
          (λ layout trees. IsFirstNot (HolderKeeps layout country trees (raw_holder_of parts)) end first) d)
          → IfOk result (λ first. ComesFirst At Asked Keeps end a first)
      all_told d read_on so (Err e) told = told
      all_told d read_on so (Ok first) told = λ layout own has q.
          subst (λ h. IsFirstNot (HolderKeeps layout country a.now.trees h) end first) same
          (so_before At (IsUseAskable country parts) (λ layout trees. IsFirstNot (HolderKeeps layout country trees (raw_holder_of parts)) end first) a d read_on
          (told country) layout own has
          (record {
            handed = handed layout own has q;
            before = subst (λ h. AreSoBefore (HolderKeeps layout country a.now.trees h) (Some S7)) (sym same) (so layout own has q);
          }))

-- By that they are asked from S7 on.
module _ (version : ℕ) (country : List ℕ) (parts : HolderTotals) (end : Option Rule) (a : State) where
  abbrev AtUse : Layout → Type 0
  AtUse = IsOfVersion version

  abbrev AskedBy : Layout → Trees → Type 0
  AskedBy = IsUseAskable country parts

  abbrev PartsKeep : Layout → Trees → Rule → Type 0
  PartsKeep layout trees = HolderKeeps layout country trees (raw_holder_of parts)

  abbrev UseUpTo : Rule → Type 0
  UseUpTo = AreSoUpTo AtUse AskedBy PartsKeep end a

  pub use_stops_at : (rule : Rule) (called : Bool) → called ≡ false → IsTrue called ↔ IsBefore rule end → UseUpTo rule → ComesFirst AtUse AskedBy PartsKeep end a end
  use_stops_at = stops AtUse AskedBy PartsKeep end a

  pub use_breaks_at : (rule : Rule) (keeps : Bool) → keeps ≡ false → Tells AtUse AskedBy PartsKeep end a rule keeps → UseUpTo rule → IsBefore rule end
      → ComesFirst AtUse AskedBy PartsKeep end a (Some rule)
  use_breaks_at = breaks AtUse AskedBy PartsKeep end a

  pub use_ends : (keeps : Bool) → IsTrue keeps → Tells AtUse AskedBy PartsKeep end a S8 keeps → UseUpTo S8 → ComesFirst AtUse AskedBy PartsKeep end a end
  use_ends = ends AtUse AskedBy PartsKeep end a

  pub use_up_to_S7 : UseUpTo S7
  use_up_to_S7 layout own has q = q.before

  abbrev TellsAmounts : Bool → Type 0
  TellsAmounts keeps =
      TellsWhere AtUse (λ layout trees. IsHandedOn layout trees parts)
      (λ layout trees. KeepsUse layout → IsHolderKeptInFile layout trees (raw_holder_of parts)) a keeps

  pub amounts_told : (keeps : Bool) → TellsAmounts keeps → Tells AtUse AskedBy PartsKeep end a S7 keeps
  amounts_told keeps told layout own has q = told layout own has q.handed

  pub use_up_to_S8 : (keeps : Bool) → IsTrue keeps → TellsAmounts keeps → UseUpTo S8
  use_up_to_S8 keeps is told = goes_on AtUse AskedBy PartsKeep end a S7 S8 refl keeps is (amounts_told keeps told) use_up_to_S7

  -- where a file keeps amounts in use, S8 is kept with S7
  pub covered_told : version_with_amounts ≤ version → (keeps : Bool) → IsTrue keeps → TellsAmounts keeps → Tells AtUse AskedBy PartsKeep end a S8 true
  covered_told least keeps is told layout own has q =
      let keep : KeepsUse layout = omega (arith, least, own) in
      (λ _. covered_by_use layout a.now.trees (raw_holder_of parts) (q.handed.within keep) ((told layout own has q.handed).0 is keep), λ _. refl)

  pub cover_told : (keeps : Bool) (b : State) → OnlyReadIn AtUse a b
      → TellsWhere AtUse (λ layout trees. IsHandedOn layout trees parts) (λ layout trees. IsHolderCoveredInFile layout trees (raw_holder_of parts)) b keeps
      → Tells AtUse AskedBy PartsKeep end a S8 keeps
  cover_told keeps b read told =
      told_after AtUse AskedBy PartsKeep end a S8 keeps (λ layout trees. IsHandedOn layout trees parts) b read told (λ layout q. q.handed)
