-- The rules of the column of amounts in use read backward: its type, that it is never NULL, and its CHECK.
use Rattle.std.proofs.Common.{◌≡◌, ◌∙◌, ℕ, ℤ, ◌≤◌, ◌+◌, zero, suc, Bool, true, false, true≢false, List, [], ◌∷◌, None, Some, refl, sym, ap, arith, subst}
use Rattle.std.specs.Prelude.{drop, int_le, negsuc, not, pos, slice_get, unwrap_or, ◌&&◌}
use Rattle.std.specs.List.{AllByRecursion}
use Rattle.std.proofs.lemmas.Int.{ints}
use Rattle.sqlite_value.specs.declared.keys.Collation.TheVariants.{Binary}
use Rattle.sqlite_value.specs.declared.value.Value.{Value}
use Rattle.sqlite_value.specs.declared.value.Value.TheVariants.{Blob, Int, Null, Real, Text}
use Rattle.sqlite_value.specs.Order.{Row, column}
use Rattle.sqlite_schema.specs.declared.schema.Column.{Column}
use Rattle.sqlite_schema.specs.declared.schema.Constraint.TheVariants.{Check, Datatype, NotNull}
use Rattle.sqlite_schema.specs.declared.schema.Kind.TheVariants as kind
use Rattle.sqlite_schema.specs.declared.schema.Schema.{Schema}
use Rattle.sqlite_schema.specs.declared.schema.Table.{Table}
use Rattle.sqlite_schema.specs.Rules.{Obeys, are_present, are_typed, has_computed, is_of, passes, passes_checks, suits}
use Rattle.sqlite_sql.specs.declared.ops.BinaryOp.TheVariants.{And, Compare}
use Rattle.sqlite_sql.specs.declared.ops.CompareOp.TheVariants.{Ge, Le}
use Rattle.sqlite_sql.specs.Ops.{binary, is_false, is_null}
use Rattle.sqlite_sql.specs.Term.{Term, eval}
use Rattle.sqlite_trees.specs.Tree.{Trees}
use Rattle.sqlite_trees.proofs.ListLemmas.{all_both}
use Rattle.sqlite_typed.proofs.TestLemmas.{at_and, at_ints, truth_or}
use Rattle.td_schema.specs.Layouts.{guarantees_tree, schema_of}
use Rattle.td_schema.specs.Tables.{between, guarantees2, is_cover, up_to}
use Rattle.td_schema.specs.declared.layout.Layout.{Layout}
use Rattle.td_schema.specs.declared.layout.Layout.TheVariants.{Made1, Made2, Grown2, Made3, Grown3From2, Grown3From1}
use Rattle.td_store_rows.specs.StoreReads.{KeepsUse}
use Rattle.typed_sql.specs.Values.{number_value}
use Rattle.td_store_audit.proofs.Ruled.{both, never}

-- a value that isn't NULL is of the type of its column
typed_at : (at : ℕ) (cs : List Column) (vs : Row) (k : ℕ) (c : Column) → are_typed None at cs vs ≡ true → slice_get cs k ≡ Some c
    → is_null (column vs k) ≡ false → suits c (column vs k) ≡ true
typed_at at [] vs k c typed is some = cc
typed_at at (d ∷ cs) [] k c typed is some = cc
typed_at at (d ∷ cs) (v ∷ vs) zero c typed is some = subst (λ o. suits (unwrap_or o d) v ≡ true) is (both (suits d v) (are_typed None (at + 1) cs vs) typed).0
typed_at at (d ∷ cs) (v ∷ vs) (suc k) c typed is some = typed_at (at + 1) cs vs k c (both (suits d v) (are_typed None (at + 1) cs vs) typed).1 is some

-- the rowid stands before the columns
behind_rowid : (row : Row) → column (drop 1 row) 6 ≡ column row 7
behind_rowid [] = refl
behind_rowid (v ∷ row) = refl

integer : (v : Value) → is_null v ≡ false → is_of kind.Integer v ≡ true → (n : ℤ) × (v ≡ Int n)
integer Null some is = absurd (true≢false some)
integer (Int n) some is = (n, refl)
integer (Real x) some is = absurd (true≢false (sym is))
integer (Text t) some is = absurd (true≢false (sym is))
integer (Blob b) some is = absurd (true≢false (sym is))

-- the amount is never NULL
present : (row : Row) → are_present None 0 guarantees2.columns row ≡ true → is_null (column row 7) ≡ false
present row is = never (is_null (column row 7)) (last (there 1) (there 2) (there 3) (there 4) (there 5) (there 7) is)
  where
    there : ℕ → Bool
    there at = not (is_null (column row at))

    last : (a b c d e f : Bool) → (a && (b && (c && (d && (e && (f && true)))))) ≡ true → f ≡ true
    last a b c d e f is =
        (both f true (both e (f && true) (both d (e && (f && true)) (both c (d && (e && (f && true)))
        (both b (c && (d && (e && (f && true)))) (both a (b && (c && (d && (e && (f && true))))) is).1).1).1).1).1).0

-- its CHECK holds of the row
abbrev IsChecked : Row → Type 0
IsChecked row =
    truth_or true (binary And (binary (Compare Ge Binary) (column row 7) (Int (pos 0))) (binary (Compare Le Binary) (column row 7) (column row 4))) ≡ true

last_check : (row : Row) → passes_checks guarantees2 row ≡ true → IsChecked row
last_check row is =
    twice (truth_or true (eval (up_to 7 4) ([] ∷ row ∷ [])))
    (both (free (up_to 7 4)) true (both (free is_cover) (free (up_to 7 4) && true)
    (both (free (between 4 1 1000000000000000)) (free is_cover && (free (up_to 7 4) && true)) is).1).1).0
  where
    free : Term → Bool
    free t = not (is_false (eval t ([] ∷ row ∷ [])))

    twice : (b : Bool) → not (not b) ≡ true → b ≡ true
    twice true is = refl
    twice false is = absurd (true≢false (sym is))

-- what the rules say of the amount in a row: it is an integer, and the CHECK holds
pub record IsAmountRow (row : Row) : Type 0 where
  integer : ℤ
  is : column row 7 ≡ Int integer
  checked : IsChecked row

module _ (s : Schema) (trees : Trees) (tree : ℕ) where
  abbrev t : Table
  t = record guarantees2 { tree = tree }

  row_ruled : (row : Row) → passes Datatype s trees t row ≡ true → passes NotNull s trees t row ≡ true → passes Check s trees t row ≡ true → IsAmountRow row
  row_ruled row typed there check =
      let some = present row there in
      let kinds = (both (are_typed None 0 guarantees2.columns (drop 1 row)) (has_computed t row) typed).0 in
      let own = integer (column row 7) some
      (subst (λ v. is_of kind.Integer v ≡ true) (behind_rowid row)
      (typed_at 0 guarantees2.columns (drop 1 row) 6 _ kinds refl (ap is_null (behind_rowid row) ∙ some))) in
      record { integer = own.0; is = own.1; checked = last_check row check }

  rows_ruled : AllByRecursion (λ row. passes Datatype s trees t row ≡ true) (trees tree) → AllByRecursion (λ row. passes NotNull s trees t row ≡ true) (trees tree)
      → AllByRecursion (λ row. passes Check s trees t row ≡ true) (trees tree) → AllByRecursion IsAmountRow (trees tree)
  rows_ruled typed there check =
      all_both (λ row. passes Datatype s trees t row ≡ true) (λ row. (passes NotNull s trees t row ≡ true) × (passes Check s trees t row ≡ true)) IsAmountRow
      (λ row k both. row_ruled row k both.0 both.1) (trees tree) typed
      (all_both (λ row. passes NotNull s trees t row ≡ true) (λ row. passes Check s trees t row ≡ true)
      (λ row. (passes NotNull s trees t row ≡ true) × (passes Check s trees t row ≡ true)) (λ row n c. (n, c)) (trees tree) there check)

-- so it is in a file that keeps amounts
pub amounts_ruled : (l : Layout) (trees : Trees) → Obeys (schema_of l) trees → KeepsUse l → AllByRecursion IsAmountRow (trees (guarantees_tree l))
amounts_ruled Made1 trees obeys keep = absurd (omega (arith, keep))
amounts_ruled Made2 trees obeys keep =
    rows_ruled (schema_of Made2) trees 8 (obeys.rules Datatype).1.1.1.1.0 (obeys.rules NotNull).1.1.1.1.0 (obeys.rules Check).1.1.1.1.0
amounts_ruled Grown2 trees obeys keep =
    rows_ruled (schema_of Grown2) trees 14 (obeys.rules Datatype).1.1.1.1.1.1.0 (obeys.rules NotNull).1.1.1.1.1.1.0 (obeys.rules Check).1.1.1.1.1.1.0
amounts_ruled Made3 trees obeys keep =
    rows_ruled (schema_of Made3) trees 8 (obeys.rules Datatype).1.1.1.1.0 (obeys.rules NotNull).1.1.1.1.0 (obeys.rules Check).1.1.1.1.0
amounts_ruled Grown3From2 trees obeys keep =
    rows_ruled (schema_of Grown3From2) trees 8 (obeys.rules Datatype).1.1.1.1.0 (obeys.rules NotNull).1.1.1.1.0 (obeys.rules Check).1.1.1.1.0
amounts_ruled Grown3From1 trees obeys keep =
    rows_ruled (schema_of Grown3From1) trees 14 (obeys.rules Datatype).1.1.1.1.1.1.0 (obeys.rules NotNull).1.1.1.1.1.1.0 (obeys.rules Check).1.1.1.1.1.1.0

-- the amount in a row whose reference amount is a number is a number up to it
pub record IsUpTo (reference : ℕ) (row : Row) : Type 0 where
  pub number : ℕ
  pub is : column row 7 ≡ number_value number
  pub most : number ≤ reference

pub amount_up_to : (row : Row) (reference : ℕ) → column row 4 ≡ number_value reference → IsAmountRow row → IsUpTo reference row
amount_up_to row reference is amount =
    let low = binary (Compare Ge Binary) (column row 7) (Int (pos 0)) in
    let high = binary (Compare Le Binary) (column row 7) (column row 4) in
    let tests = at_and true low high (ap (λ v. truth_or true (binary (Compare Ge Binary) v (Int (pos 0)))) amount.is ∙ at_ints true Ge amount.integer (pos 0))
    (ap (λ v. truth_or true (binary (Compare Le Binary) v (column row 4))) amount.is
    ∙ ap (λ v. truth_or true (binary (Compare Le Binary) (Int amount.integer) v)) is ∙ at_ints true Le amount.integer (pos reference)) in
    let two = both (int_le (pos 0) amount.integer) (int_le amount.integer (pos reference)) (sym tests ∙ amount.checked) in
    by_sign amount.integer amount.is two.0 two.1
  where
    by_sign : (n : ℤ) → column row 7 ≡ Int n → int_le (pos 0) n ≡ true → int_le n (pos reference) ≡ true → IsUpTo reference row
    by_sign (pos k) own low high = record { number = k; is = own; most = grind (arith, ints, high) }
    by_sign (negsuc k) own low high = absurd (grind (arith, ints, low))
