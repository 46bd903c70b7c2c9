-- The rules from S2 to S4, asked of one holder, and those behind them.
use Rattle.std.proofs.Common.{◌≡◌, ℕ, Bool, false, List, Ok, Err, Option, Result, Some, refl}
use Rattle.std.specs.Prelude.{◌↔◌, IfOk, IsTrue}
use Rattle.sqlite_trees.specs.Tree.{Trees}
use Rattle.sqlite.specs.State.{State}
use Rattle.sqlite.specs.declared.error.Error.{Error}
use Rattle.td_table_model.specs.declared.rule.Rule.{Rule}
use Rattle.td_table_model.specs.declared.rule.Rule.TheVariants.{S2, S3, S4, S5}
use Rattle.typed_sql.specs.Typed.{AreTyped}
use Rattle.td_schema.specs.declared.layout.Layout.{Layout}
use Rattle.td_store_rows.specs.Columns.{code_typing, guarantee_typing}
use Rattle.td_store_rows.specs.StoreReads.{IsAny, IsOfVersion}
use Rattle.td_store_audit_rows.specs.Found.{HasFieldsOfS2}
use Rattle.td_store_audit_rows.specs.declared.holders.RawHolder.{RawHolder}
use Rattle.td_store_audit.specs.FirstRule.{IsBefore, IsFirstNot}
use Rattle.td_store_audit.specs.HolderRules.{HolderKeeps, IsAskable, IsAskableFrom}
use Rattle.td_store_audit.specs.InFile.{AreTypedApart, HasGuaranteesInPlace, IsSoWhere, OnlyReadIn, TellsWhere}
use Rattle.td_store_audit.specs.Premises.{HasCodesInPlace}
use Rattle.td_store_audit.proofs.AskedRules.{AreSoUpTo, ComesFirst, Tells, breaks, goes_on, stops, told_after}
use Rattle.td_store_audit.proofs.FirstRule.{first_one}
use Rattle.td_store_audit.proofs.Reading.{none_read_in, so_before}
use Rattle.td_store_audit.proofs.TypedFor.{codes_typed, guarantees_typed}

module _ (version : ℕ) (country : List ℕ) (raw : RawHolder) (end : Option Rule) (a : State) where
  abbrev At : Layout → Type 0
  At = IsOfVersion version

  abbrev Asked : Layout → Trees → Type 0
  Asked = IsAskable end

  abbrev Keeps : Layout → Trees → Rule → Type 0
  Keeps layout trees = HolderKeeps layout country trees raw

  abbrev UpTo : Rule → Type 0
  UpTo = AreSoUpTo At Asked Keeps end a

  pub stops_at : (rule : Rule) (called : Bool) → called ≡ false → IsTrue called ↔ IsBefore rule end → UpTo rule → ComesFirst At Asked Keeps end a end
  stops_at = stops At Asked Keeps end a

  pub breaks_at : (rule : Rule) (keeps : Bool) → keeps ≡ false → Tells At Asked Keeps end a rule keeps → UpTo rule → IsBefore rule end
      → ComesFirst At Asked Keeps end a (Some rule)
  breaks_at = breaks At Asked Keeps end a

  pub up_to_S2 : UpTo S2
  up_to_S2 layout own has q = first_one (Keeps layout a.now.trees) tt

  pub identity_told : (keeps : Bool) → IsTrue keeps ↔ HasFieldsOfS2 raw → Tells At Asked Keeps end a S2 keeps
  identity_told keeps tells layout own has q = tells

  pub up_to_S3 : (keeps : Bool) → IsTrue keeps → IsTrue keeps ↔ HasFieldsOfS2 raw → UpTo S3
  up_to_S3 keeps is tells = goes_on At Asked Keeps end a S2 S3 refl keeps is (identity_told keeps tells) up_to_S2

  abbrev TellsGuarantees : Bool → Type 0
  TellsGuarantees keeps =
      TellsWhere At (λ layout. AreTypedApart (guarantee_typing layout)) (λ layout trees. HasGuaranteesInPlace layout country trees raw) a keeps

  pub guarantees_told : (keeps : Bool) → IsBefore S3 end → TellsGuarantees keeps → Tells At Asked Keeps end a S3 keeps
  guarantees_told keeps before told =
      told_after At Asked Keeps end a S3 keeps (λ layout. AreTypedApart (guarantee_typing layout)) a (none_read_in At a) told
      (λ layout q. guarantees_typed end layout a.now.trees q before)

  pub up_to_S4 : (keeps : Bool) → IsTrue keeps → IsBefore S3 end → TellsGuarantees keeps → UpTo S3 → UpTo S4
  up_to_S4 keeps is before told = goes_on At Asked Keeps end a S3 S4 refl keeps is (guarantees_told keeps before told)

  module _ (b : State) (read : OnlyReadIn At a b) where
    abbrev TellsCodes : Bool → Type 0
    TellsCodes keeps = TellsWhere IsAny (λ layout. AreTyped code_typing) (λ layout trees. HasCodesInPlace trees raw) b keeps

    pub codes_told : (keeps : Bool) → IsBefore S4 end → TellsCodes keeps → Tells At Asked Keeps end a S4 keeps
    codes_told keeps before told =
        told_after At Asked Keeps end a S4 keeps (λ layout. AreTyped code_typing) b read (λ layout own. told layout tt)
        (λ layout q. codes_typed end layout a.now.trees q before)

    pub up_to_S5 : (keeps : Bool) → IsTrue keeps → IsBefore S4 end → TellsCodes keeps → UpTo S4 → UpTo S5
    up_to_S5 keeps is before told = goes_on At Asked Keeps end a S4 S5 refl keeps is (codes_told keeps before told)

  -- what is told of the rules behind them is told of all
  pub all_told : (d : State) → OnlyReadIn At a d → UpTo S5 → (result : Result (Option Rule) Error)
      → IfOk result (λ first. IsSoWhere At (IsAskableFrom S5 end country raw) (λ layout trees. IsFirstNot (Keeps layout trees) end first) d)
      → IfOk result (λ first. ComesFirst At Asked Keeps end a first)
  all_told d read so (Err e) told = told
  all_told d read so (Ok first) told = λ layout own has q.
      so_before At (IsAskableFrom S5 end country raw) (λ layout trees. IsFirstNot (Keeps layout trees) end first) a d read told layout own has
      (record { askable = q; before = so layout own has q })
