-- What statements ask of a holder's rows whose serials are in a range.
use Rattle.std.proofs.Common.{arith, false, true, ap, ℕ, ◌∙◌, ◌≡◌, List, [], ◌∷◌}
use Rattle.std.proofs.lemmas.Int.{ints}
use Rattle.std.proofs.lemmas.Bool.Decides.{nat_tests}
use Rattle.std.specs.Prelude.{int_le, int_lt, nat_le, nat_lt, pos, ◌==◌, ◌&&◌}
use Rattle.sqlite_sql.specs.Ops.{binary}
use Rattle.sqlite_sql.specs.Term.{Term, col, op2}
use Rattle.sqlite_sql.specs.declared.ops.BinaryOp.TheVariants.{Compare}
use Rattle.sqlite_sql.specs.declared.ops.CompareOp.TheVariants.{Eq, Ge, Lt}
use Rattle.sqlite_typed.proofs.TestLemmas.{at_ints, last_term, then_term, truth_or}
use Rattle.sqlite_value.specs.Order.{Row, column}
use Rattle.sqlite_value.specs.declared.keys.Collation.TheVariants.{Binary}
use Rattle.sqlite_value.specs.declared.value.Value.{Value}
use Rattle.typed_sql.proofs.Columns.{number_is}
use Rattle.typed_sql.proofs.Ordered.{both_pass}
use Rattle.typed_sql.specs.Values.{number_value}
use Rattle.typed_sql.specs.Writing.{passes}
use Rattle.td_table_model.specs.Tables.{Keyed}
use Rattle.td_store_rows.specs.Places.{is_within}

-- the holder is the first value, and the serial is from the second on and below the third
abbrev pub within_tests : List Term
within_tests =
    op2 (Compare Eq Binary) (col 1 1) (col 0 0) ∷ op2 (Compare Ge Binary) (col 1 2) (col 0 1)
    ∷ op2 (Compare Lt Binary) (col 1 2) (col 0 2) ∷ []

numbers_from : (n N : ℕ) → int_le (pos N) (pos n) ≡ nat_le N n
numbers_from n N = grind (arith, ints, nat_tests)

number_from : (v : Value) (n N : ℕ) → v ≡ number_value n → truth_or false (binary (Compare Ge Binary) v (number_value N)) ≡ nat_le N n
number_from v n N is =
    ap (λ v. truth_or false (binary (Compare Ge Binary) v (number_value N))) is ∙ at_ints false Ge (pos n) (pos N)
    ∙ numbers_from n N

numbers_below : (n N : ℕ) → int_lt (pos n) (pos N) ≡ nat_lt n N
numbers_below n N = grind (arith, ints, nat_tests)

number_below : (v : Value) (n N : ℕ) → v ≡ number_value n → truth_or false (binary (Compare Lt Binary) v (number_value N)) ≡ nat_lt n N
number_below v n N is =
    ap (λ v. truth_or false (binary (Compare Lt Binary) v (number_value N))) is ∙ at_ints false Lt (pos n) (pos N)
    ∙ numbers_below n N

-- a row passes where it is of the holder, with a serial in the range
pub within_passes : {R : Type 0} (m : Keyed R) (r : Row) → column r 1 ≡ number_value m.holder → column r 2 ≡ number_value m.serial
    → (H first end : ℕ) → passes (number_value H ∷ number_value first ∷ number_value end ∷ []) within_tests r ≡ is_within H first end m
within_passes m r own at H first end =
    then_term (number_is (column r 1) m.holder H own)
    (then_term (number_from (column r 2) m.serial first at) (last_term (number_below (column r 2) m.serial end at)))

-- and then it is of the holder
pub is_owned : {R : Type 0} (H first end : ℕ) (m : Keyed R) → is_within H first end m ≡ true → (m.holder == H) ≡ true
is_owned H first end m is = (both_pass (m.holder == H) (nat_le first m.serial && nat_lt m.serial end) is).0
