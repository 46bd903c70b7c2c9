-- Rows whose key begins with a holder's number and a serial: which of their columns are equal where their keys are.
use Rattle.std.proofs.Common.{◌≡◌, ◌∙◌, ℕ, ◌≤◌, Bool, true, List, length, subst, ap, arith}
use Rattle.std.specs.Prelude.{filter, ◌&&◌, ◌==◌, bytes_eq}
use Rattle.std.proofs.lemmas.Bool.Decides.{nat_tests}
use Rattle.std.specs.Cmp.Lexicographic.{bytes_decides}
use Rattle.sqlite_value.specs.declared.keys.Collation.TheVariants.{Binary}
use Rattle.sqlite_value.specs.declared.value.Value.{Value}
use Rattle.sqlite_value.specs.declared.value.Value.TheVariants.{Text}
use Rattle.sqlite_schema.specs.Rules.{equal}
use Rattle.td_table_model.proofs.Counting.{filter_both}
use Rattle.typed_sql.specs.Values.{number_value}
use Rattle.td_store_audit.proofs.Equal.{number_equal, text_equal}
use Rattle.td_store_audit.proofs.Ruled.{both}

-- two columns of one number; of one text
pub numbers_equal : (v w : Value) (m n k : ℕ) → v ≡ number_value m → w ≡ number_value n → (m == k) ≡ true → (n == k) ≡ true → equal Binary v w ≡ true
numbers_equal v w m n k is other first second =
    let one : m ≡ k = grind (arith, nat_tests, first) in
    let two : n ≡ k = grind (arith, nat_tests, second) in
    number_equal v w k (is ∙ ap number_value one) (other ∙ ap number_value two)

pub texts_equal : (v w : Value) (s t k : List ℕ) → v ≡ Text s → w ≡ Text t → bytes_eq s k ≡ true → bytes_eq t k ≡ true → equal Binary v w ≡ true
texts_equal v w s t k is other first second =
    text_equal v w k (is ∙ ap Text ((bytes_decides s k).0 first)) (other ∙ ap Text ((bytes_decides t k).0 second))

-- two tests, one after the other, and three, as one
pub of_two : {X : Type 0} (p q : X → Bool) (xs : List X) → length (filter (λ x. q x && p x) xs) ≤ 1 → length (filter p (filter q xs)) ≤ 1
of_two p q xs few = subst (λ l. length l ≤ 1) (filter_both p q xs) few

pub of_three : {X : Type 0} (p q s : X → Bool) (xs : List X) → length (filter (λ x. s x && (q x && p x)) xs) ≤ 1
    → length (filter p (filter q (filter s xs))) ≤ 1
of_three p q s xs few = of_two p q (filter s xs) (of_two (λ x. q x && p x) s xs few)

-- both and all of three tests
pub record AllThree (a b c : Bool) : Type 0 where
  pub first : a ≡ true
  pub second : b ≡ true
  pub third : c ≡ true

pub all_three : (a b c : Bool) → (a && (b && c)) ≡ true → AllThree a b c
all_three a b c is =
    let one = both a (b && c) is in
    let two = both b c one.1 in
    record { first = one.0; second = two.0; third = two.1 }
