-- Columns that are known: what a table stores of them, and what a test in WHERE says.
use Rattle.sqlite.specs.Values.{or_null}
use Rattle.std.proofs.lemmas.Int.{ints}
use Rattle.std.proofs.lemmas.Bool.Decides.{nat_tests}
use Rattle.std.proofs.Common.{arith, List, None, Option, Some, ap, false, refl, true, ℕ, ◌∙◌, ◌≡◌}
use Rattle.std.specs.Ordering.{int_eq, is_eq, is_lt}
use Rattle.sqlite_rules.specs.Cast.{cast}
use Rattle.sqlite_sql.specs.Ops.{binary, is_null, unary}
use Rattle.sqlite_sql.specs.declared.ops.BinaryOp.TheVariants.{Coalesce, Compare}
use Rattle.sqlite_sql.specs.declared.ops.CompareOp.TheVariants.{Eq, Gt}
use Rattle.sqlite_typed.proofs.TestLemmas.{at_ints, at_texts, truth_or}
use Rattle.sqlite_value.specs.Order.{value_cmp}
use Rattle.sqlite_value.specs.declared.keys.Collation.TheVariants.{Binary}
use Rattle.sqlite_value.specs.declared.value.Value.{Value}
use Rattle.sqlite_value.specs.declared.value.Value.TheVariants.{Int, Null, Real, Text}
use Rattle.std.proofs.lemmas.Map.Text.{is_eq-slice_cmp}
use Rattle.std.specs.Float.{minus_two_to}
use Rattle.std.specs.Option.{option_or}
use Rattle.std.specs.Prelude.{if◌then◌else◌, int_lt, nat_lt, pos, ◌&&◌, ◌==◌}
use Rattle.std.specs.Str.{bytes_eq}
use Rattle.typed_sql.proofs.Effects.{cast_int}
use Rattle.typed_sql.specs.Values.{number_if, number_or_null, text_if, text_or_null}
use Rattle.sqlite_schema.specs.declared.schema.Kind.TheVariants as kind

-- an integer, a text and NULL are stored as they are
pub cast_null : cast kind.Integer Null ≡ Null
unfolding unary
cast_null = elim (is_eq (value_cmp Null Null) && is_lt (value_cmp (Real (minus_two_to 63)) Null)) as
    (λ b. (if b then Null else Null) ≡ Null) [ true ↦ refl | false ↦ refl ]

pub cast_number_if : (o : Option ℕ)
    → cast kind.Integer (or_null (λ n. Int (pos n)) o) ≡ or_null (λ n. Int (pos n)) o
cast_number_if None = cast_null
cast_number_if (Some n) = cast_int (pos n)

pub cast_text_if : (o : Option (List ℕ)) → cast kind.Text (or_null Text o) ≡ or_null Text o
cast_text_if None = refl
cast_text_if (Some t) = refl

-- a number, and a text, that may be NULL is read back
pub number_back : (o : Option ℕ) → number_if (number_or_null o) ≡ o
number_back None = refl
number_back (Some n) = refl

pub text_back : (o : Option (List ℕ)) → text_if (text_or_null o) ≡ o
text_back None = refl
text_back (Some t) = refl

numbers_same : (n N : ℕ) → int_eq (pos n) (pos N) ≡ (n == N)
numbers_same n N = grind (arith, ints, nat_tests)

-- a column is this number; is above this number; is this text
pub number_is : (v : Value) (n N : ℕ) → v ≡ Int (pos n)
    → truth_or false (binary (Compare Eq Binary) v (Int (pos N))) ≡ (n == N)
number_is v n N is = ap (λ v. truth_or false (binary (Compare Eq Binary) v (Int (pos N)))) is
    ∙ at_ints false Eq (pos n) (pos N) ∙ numbers_same n N

numbers_above : (n N : ℕ) → int_lt (pos N) (pos n) ≡ nat_lt N n
numbers_above n N = grind (arith, ints, nat_tests)

pub number_above : (v : Value) (n N : ℕ) → v ≡ Int (pos n)
    → truth_or false (binary (Compare Gt Binary) v (Int (pos N))) ≡ nat_lt N n
number_above v n N is = ap (λ v. truth_or false (binary (Compare Gt Binary) v (Int (pos N)))) is
    ∙ at_ints false Gt (pos n) (pos N) ∙ numbers_above n N

pub text_is : (v : Value) (a b : List ℕ) → v ≡ Text a
    → truth_or false (binary (Compare Eq Binary) v (Text b)) ≡ bytes_eq a b
text_is v a b is = ap (λ v. truth_or false (binary (Compare Eq Binary) v (Text b))) is ∙ at_texts false Eq a b
    ∙ is_eq-slice_cmp a b

-- COALESCE: the value given, or where there is none the one that is there
pub given_or : {X : Type 0} (put : X → Value) → ((x : X) → is_null (put x) ≡ false) → (new old : Option X)
    → binary Coalesce (or_null put new) (or_null put old) ≡ or_null put (option_or new old)
unfolding binary
given_or put some None old = refl
given_or put some (Some x) old = rw (some x)
