-- The guarantees of version 1, and what is put into the table of version 2.
use Rattle.std.specs.Prelude.{◌≡◌, ◌+◌, ℕ, List, [], filter, map, unwrap_or}
use Rattle.sqlite_trees.specs.Tree.{Trees}
use Rattle.sqlite.specs.State.{State}
use Rattle.td_guarantee.specs.declared.guarantee.Guarantee.{Guarantee}
use Rattle.td_table_model.specs.Tables.{Keyed, Kept, with_amount}
use Rattle.td_schema.specs.declared.layout.Layout.{Layout}
use Rattle.td_schema.specs.declared.layout.Layout.TheVariants.{Made1, Grown2}
use Rattle.typed_sql.specs.Typed.{AreTyped, typed_rows}
use Rattle.td_store_rows.specs.Columns.{guarantee_typing, kept_typing}
use Rattle.td_store_rows.specs.Places.{is_within}
use Rattle.td_store_audit_rows.specs.declared.holders.RawHolder.{RawHolder}
use Rattle.td_migrate.specs.InUse.{HasLinesBelow, in_use}
use Rattle.td_migrate.specs.Put.{AreOlderWithin, IsAnyFile, KeepTheRules, Puts}

-- the layout is the one that files of version 1 were made with
abbrev pub IsFirst : Layout → Type 0
IsFirst l = l ≡ Made1

-- these are a holder's guarantees of version 1 with serials from one on and below another
abbrev pub AreFirstWithin : ℕ → ℕ → ℕ → State → List (Keyed Guarantee) → Type 0
AreFirstWithin = AreOlderWithin IsFirst guarantee_typing

-- those rows were put into the table of version 2
abbrev pub Fills : (Layout → Trees → Type 0) → (Layout → Trees → List (Keyed Kept)) → State → State → Type 0
Fills = Puts IsFirst kept_typing

-- the row of a guarantee, which stands without codes, with an amount by its serial
abbrev pub with_sum : (ℕ → ℕ) → Keyed Guarantee → Keyed Kept
with_sum sums g = with_amount (sums g.serial) (record g { row = record g.row { codes = [] } })

-- with the amount in use on it
abbrev pub with_its_use : Trees → Keyed Guarantee → Keyed Kept
with_its_use trees g = with_amount (in_use Grown2 g.holder g.serial trees) (record g { row = record g.row { codes = [] } })

-- those rows, each with an amount by its serial
abbrev pub FillsWith : (ℕ → ℕ) → List (Keyed Guarantee) → State → State → Type 0
FillsWith sums rows = Fills IsAnyFile (λ l trees. map (with_sum sums) rows)

-- those of a holder with serials from one on and below another
abbrev pub AreGuaranteesTyped : Layout → Trees → Type 0
AreGuaranteesTyped l trees = AreTyped (guarantee_typing l) trees

abbrev pub FillsWithin : (ℕ → ℕ) → ℕ → ℕ → State → State → Type 0
FillsWithin sums H end =
    Fills AreGuaranteesTyped (λ l trees. map (with_sum sums) (filter (is_within H 0 end) (typed_rows (guarantee_typing l) trees)))

-- the holder's guarantees are typed, and so is what the amounts in use on them are added up from
pub record HasSums (raw : RawHolder) (l : Layout) (trees : Trees) : Type 0 where
  pub guarantees : AreTyped (guarantee_typing l) trees
  pub lines : HasLinesBelow raw.holder (unwrap_or raw.mrn_count 0 + 1) Grown2 trees

-- then those were put with serials up to the holder's count, each with the amount in use on it
abbrev pub FillsOf : RawHolder → State → State → Type 0
FillsOf raw =
    Fills (HasSums raw) (λ l trees. map (with_its_use trees) (filter (is_within raw.holder 0 (unwrap_or raw.grn_count 0 + 1)) (typed_rows (guarantee_typing l) trees)))

-- and where the rows keep the rules, all were
abbrev pub FillsAll : State → State → Type 0
FillsAll = Fills KeepTheRules (λ l trees. map (with_its_use trees) (typed_rows (guarantee_typing l) trees))
