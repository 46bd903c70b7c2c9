-- When two columns are equal, as = of SQL says.
use Rattle.std.proofs.Common.{◌≡◌, ◌∙◌, ℕ, ℤ, Bool, true, false, true≢false, List, Some, refl, sym, ap, arith}
use Rattle.std.specs.Prelude.{pos, ◌||◌, if◌then◌else◌}
use Rattle.std.specs.Ordering.{int_cmp, is_eq}
use Rattle.std.specs.declared.cmp.Ordering.{Ordering}
use Rattle.std.specs.declared.cmp.Ordering.TheVariants.{Less, Equal, Greater}
use Rattle.std.proofs.lemmas.Int.{ints}
use Rattle.sqlite_value.specs.declared.keys.Collation.TheVariants.{Binary}
use Rattle.sqlite_value.specs.declared.value.Value.{Value}
use Rattle.sqlite_value.specs.declared.value.Value.TheVariants.{Null, Int, Text}
use Rattle.sqlite_value.specs.Order.{value_cmp}
use Rattle.sqlite_value.proofs.OrderLemmas.{value_cmp-Int, value_cmp_total}
use Rattle.sqlite_sql.specs.declared.ops.CompareOp.TheVariants.{Eq, Ne}
use Rattle.sqlite_sql.specs.Ops.{binary, from_truth, is_null, is_true}
use Rattle.sqlite_schema.specs.Rules.{differ, equal}
use Rattle.sqlite_typed.proofs.TestLemmas.{at_ints, at_texts, bytes_eq_refl}
use Rattle.typed_sql.specs.Values.{number_value}

-- a number equals itself, and so does a text
pub number_equal : (v w : Value) (n : ℕ) → v ≡ number_value n → w ≡ number_value n → equal Binary v w ≡ true
number_equal v w n is other =
    ap (λ x. equal Binary x w) is ∙ ap (λ x. equal Binary (number_value n) x) other ∙ at_ints false Eq (pos n) (pos n) ∙ grind (arith, ints)

pub text_equal : (v w : Value) (t : List ℕ) → v ≡ Text t → w ≡ Text t → equal Binary v w ≡ true
text_equal v w t is other =
    ap (λ x. equal Binary x w) is ∙ ap (λ x. equal Binary (Text t) x) other ∙ at_texts false Eq t t ∙ bytes_eq_refl t

-- equal values are not NULL, and none is before the other
pub record Ties (a b : Value) : Type 0 where
  pub some : is_null a ≡ false
  pub same : value_cmp a b ≡ Equal

tied : (o : Ordering) → is_eq o ≡ true → o ≡ Equal
tied Less is = absurd (true≢false (sym is))
tied Equal is = refl
tied Greater is = absurd (true≢false (sym is))

pub equal_ties : (a b : Value) → equal Binary a b ≡ true → Ties a b
unfolding binary
equal_ties a b is = by_null (is_null a) (is_null b) refl is
  where
    by_test : (t : Bool) → is_true (from_truth (Some t)) ≡ true → t ≡ true
    by_test true is = refl
    by_test false is = absurd (true≢false (sym is))

    by_null : (m n : Bool) → is_null a ≡ m → is_true (if m || n then Null else from_truth (Some (is_eq (value_cmp a b)))) ≡ true → Ties a b
    by_null true n null is = absurd (true≢false (sym is))
    by_null false true null is = absurd (true≢false (sym is))
    by_null false false null is = record { some = null; same = tied (value_cmp a b) (by_test (is_eq (value_cmp a b)) is) }

pub number_ties : (v : Value) (n : ℕ) → v ≡ number_value n → Ties v (number_value n)
number_ties v n is = equal_ties v (number_value n) (number_equal v (number_value n) n is refl)

-- integers that tie are the same
pub ints_tie : (a b : ℤ) → value_cmp (Int a) (Int b) ≡ Equal → a ≡ b
ints_tie a b h = let e : int_cmp a b ≡ Equal = sym (value_cmp-Int a b) ∙ h in grind (arith, ints, e)

-- what ties with a value that ties with a third ties with that
pub ties_on : (a b c : Value) → Ties a b → Ties b c → value_cmp a c ≡ Equal
ties_on a b c first second = value_cmp_total.congr a b c first.same ∙ second.same

-- integers that don't differ are the same
pub not_differ : (a b : ℤ) → differ (Int a) (Int b) ≡ false → a ≡ b
not_differ a b is = let e = sym (at_ints false Ne a b) ∙ is in grind (arith, ints, e)
