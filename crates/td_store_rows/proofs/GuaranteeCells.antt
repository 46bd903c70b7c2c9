-- The columns of a guarantee are stored as they are, and read back as the guarantee.
use Rattle.std.proofs.Common.{None, Option, Some, [], arith, refl, sym, subst, ℕ, ◌≡◌}
use Rattle.std.specs.Prelude.{pos, unwrap_or}
use Rattle.sqlite_rules.specs.Cast.{cast_all}
use Rattle.sqlite_sql.specs.Ops.{binary}
use Rattle.sqlite_sql.specs.declared.ops.BinaryOp.TheVariants.{Coalesce}
use Rattle.sqlite_typed.proofs.TestLemmas.{then_value}
use Rattle.td_guarantee.specs.declared.guarantee.Guarantee.{Guarantee}
use Rattle.td_schema.specs.Tables.{guarantees2}
use Rattle.td_schema.specs.declared.layout.Layout.{Layout}
use Rattle.td_schema.specs.declared.layout.Layout.TheVariants.{Made1, Made2, Grown2, Made3, Grown3From2, Grown3From1}
use Rattle.td_store_rows.specs.Columns.{guarantee_cells, guarantee_from, guarantees_table, kept_cells, kept_from}
use Rattle.td_store_rows.specs.StoreReads.{KeepsUse}
use Rattle.typed_sql.proofs.Columns.{cast_number_if, number_back}
use Rattle.typed_sql.proofs.Effects.{cast_int}
use Rattle.typed_sql.specs.Values.{number_or_null, number_value}
use Rattle.td_table_model.specs.Tables.{Keyed, Kept, with_amount, without_amount}

-- the guarantee without its codes
abbrev pub bare : Keyed Guarantee → Keyed Guarantee
bare g = record g { row = record g.row { codes = [] } }

pub back : (g : Keyed Guarantee) → guarantee_from (guarantee_cells g) ≡ bare g
back g = rw (number_back g.row.ends) refl

-- with the amount in use
abbrev pub bare_kept : Keyed Kept → Keyed Kept
bare_kept k = with_amount k.row.used (bare (without_amount k))

pub kept_back : (k : Keyed Kept) → kept_from (kept_cells k) ≡ bare_kept k
kept_back k = rw (number_back k.row.guarantee.ends) refl

pub kept_stored : (k : Keyed Kept) → cast_all guarantees2.columns (kept_cells k) ≡ kept_cells k
kept_stored k =
    then_value (cast_int (pos k.holder))
    (then_value (cast_int (pos k.serial)) (then_value refl (then_value (cast_int (pos k.row.guarantee.reference))
    (then_value (cast_int (pos k.row.guarantee.cover)) (then_value (cast_number_if k.row.guarantee.ends)
    (then_value (cast_int (pos k.row.used)) refl))))))

-- a layout that keeps the amounts has them in this table
pub columns_at : (l : Layout) → KeepsUse l → (guarantees_table l).columns ≡ guarantees2.columns
columns_at Made1 keeps = absurd (omega (arith, keeps))
columns_at Made2 keeps = refl
columns_at Grown2 keeps = refl
columns_at Made3 keeps = refl
columns_at Grown3From2 keeps = refl
columns_at Grown3From1 keeps = refl

pub stored_at : (l : Layout) → KeepsUse l → (k : Keyed Kept) → cast_all (guarantees_table l).columns (kept_cells k) ≡ kept_cells k
stored_at l keeps k = subst (λ columns. cast_all columns (kept_cells k) ≡ kept_cells k) (sym (columns_at l keeps)) (kept_stored k)

-- COALESCE over a column that is never NULL: the number given, or where there is none the one that is there
pub given_else : (new : Option ℕ) (old : ℕ)
    → binary Coalesce (number_or_null new) (number_value old) ≡ number_value (unwrap_or new old)
unfolding binary
given_else None old = refl
given_else (Some n) old = refl
