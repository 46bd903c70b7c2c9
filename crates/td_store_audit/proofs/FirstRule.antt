-- Which rule is the first that isn't so, of rules that are asked one after another.
use Rattle.std.proofs.Common.{◌≡◌, true, false, nat_eq, ℕ, ◌+◌, ◌<◌, ◌≤◌, Bool, Option, Some, None, zero, suc, inl, inr, refl, sym, ap, subst, arith, ◌∙◌}
use Rattle.std.proofs.lemmas.Bool.{false≢true}
use Rattle.std.proofs.lemmas.Bool.Decides.{nat_tests}
use Rattle.std.specs.Prelude.{◌↔◌, ◌⊎◌, IsTrue}
use Rattle.td_table_model.specs.declared.rule.Rule.{Rule}
use Rattle.td_table_model.specs.declared.rule.Rule.TheVariants.{S1, S2, S3, S4, S5, S6, S7, S8}
use Rattle.td_table_model.specs.Rules.{rule_no}
use Rattle.td_store_audit.specs.FirstRule.{AreSoBefore, IsBefore, IsFirstNot, IsNotSoBefore}

-- the numbers are from 1 to 8
bounds : (rule : Rule) → (1 ≤ rule_no rule) × (rule_no rule ≤ 8)
bounds S1 = (omega arith, omega arith)
bounds S2 = (omega arith, omega arith)
bounds S3 = (omega arith, omega arith)
bounds S4 = (omega arith, omega arith)
bounds S5 = (omega arith, omega arith)
bounds S6 = (omega arith, omega arith)
bounds S7 = (omega arith, omega arith)
bounds S8 = (omega arith, omega arith)

-- the rule of a number
abbrev rule_of : ℕ → Rule
rule_of zero = S1
rule_of (suc zero) = S1
rule_of (suc (suc zero)) = S2
rule_of (suc (suc (suc zero))) = S3
rule_of (suc (suc (suc (suc zero)))) = S4
rule_of (suc (suc (suc (suc (suc zero))))) = S5
rule_of (suc (suc (suc (suc (suc (suc zero)))))) = S6
rule_of (suc (suc (suc (suc (suc (suc (suc zero))))))) = S7
rule_of (suc (suc (suc (suc (suc (suc (suc (suc n)))))))) = S8

it_is : (rule : Rule) → rule_of (rule_no rule) ≡ rule
it_is S1 = refl
it_is S2 = refl
it_is S3 = refl
it_is S4 = refl
it_is S5 = refl
it_is S6 = refl
it_is S7 = refl
it_is S8 = refl

-- no two rules have one number
same_rule : (a b : Rule) → rule_no a ≡ rule_no b → a ≡ b
same_rule a b is = sym (it_is a) ∙ ap rule_of is ∙ it_is b

-- what comes before a rule comes before all that the rule comes before
pub before_on : (rule other : Rule) (end : Option Rule) → rule_no rule < rule_no other → IsBefore other end → IsBefore rule end
before_on rule other None less before = tt
before_on rule other (Some last) less before = omega (arith, less, before)

-- and before a rule that doesn't come before the end what comes before the end
lower : (rule other : Rule) (end : Option Rule) → IsBefore rule end → ¬ IsBefore other end → rule_no rule < rule_no other
lower rule other None before not = absurd (not tt)
lower rule other (Some last) before not = omega (arith, before, not)

module _ (P : Rule → Type 0) where
  -- one rule more is so
  pub one_more : (rule next : Rule) → rule_no next ≡ rule_no rule + 1 → AreSoBefore P (Some rule) → P rule → AreSoBefore P (Some next)
  one_more rule next number so here other below = by_test (nat_eq (rule_no other) (rule_no rule)) refl
    where
      by_test : (b : Bool) → nat_eq (rule_no other) (rule_no rule) ≡ b → P other
      by_test true same = subst P (same_rule rule other (grind (arith, nat_tests, same))) here
      by_test false differs = so other (grind (arith, nat_tests, differs, below, number))

  -- before S2 there is S1
  pub first_one : P S1 → AreSoBefore P (Some S2)
  first_one here other below = subst P (same_rule S1 other (omega (arith, below, (bounds other).0))) here

  module _ (end : Option Rule) where
    -- a rule that doesn't come before the end isn't asked
    pub not_asked : (rule : Rule) (asked : Bool) → asked ≡ false → IsTrue asked ↔ IsBefore rule end → AreSoBefore P (Some rule) → IsFirstNot P end end
    not_asked rule asked is tells so = record {
      before = λ other before. so other (lower other rule end before (λ it. false≢true (sym is ∙ tells.1 it)));
      broken = inl refl;
    }

    -- one that does isn't so
    pub not_so : (rule : Rule) (keeps : Bool) → keeps ≡ false → IsTrue keeps ↔ P rule → AreSoBefore P (Some rule) → IsBefore rule end → IsFirstNot P end (Some rule)
    not_so rule keeps is tells so before = record { before = so; broken = inr (before, λ it. false≢true (sym is ∙ tells.1 it)) }

    -- each rule is
    pub all_so : AreSoBefore P (Some S8) → P S8 → IsFirstNot P end end
    all_so so here = record { before = λ other before. by_test other (nat_eq (rule_no other) 8) refl; broken = inl refl }
      where
        by_test : (other : Rule) (b : Bool) → nat_eq (rule_no other) 8 ≡ b → P other
        by_test other true same = subst P (same_rule S8 other (grind (arith, nat_tests, same))) here
        by_test other false differs = let most = (bounds other).1 in so other (grind (arith, nat_tests, differs, most))

-- what is so where another is, is so alike
pub so_alike : (P Q : Rule → Type 0) (end first : Option Rule) → ((rule : Rule) → P rule ↔ Q rule) → IsFirstNot P end first → IsFirstNot Q end first
so_alike P Q end first alike is = record { before = λ rule before. (alike rule).0 (is.before rule before); broken = by_side is.broken }
  where
    by_rule : (o : Option Rule) → IsNotSoBefore P end o → IsNotSoBefore Q end o
    by_rule None not = absurd not
    by_rule (Some rule) not = (not.0, λ q. not.1 ((alike rule).1 q))

    by_side : (first ≡ end) ⊎ IsNotSoBefore P end first → (first ≡ end) ⊎ IsNotSoBefore Q end first
    by_side (inl same) = inl same
    by_side (inr not) = inr (by_rule first not)

-- The first of the rules before one that aren't so in another way, where that one is the first that isn't so in one way, is the
-- first that isn't so in both.
module _ (P Q : Rule → Type 0) where
  abbrev pub Both : Rule → Type 0
  Both rule = P rule × Q rule

  -- what is broken in the first way is broken in both
  first_way : (end o : Option Rule) → (o ≡ end) ⊎ IsNotSoBefore P end o → (o ≡ end) ⊎ IsNotSoBefore Both end o
  first_way end o (inl same) = inl same
  first_way end None (inr not) = absurd not
  first_way end (Some rule) (inr not) = inr (not.0, λ both. not.1 both.0)

  -- the end of the second comes before that of the first
  within : (rule : Rule) (end o : Option Rule) → (o ≡ end) ⊎ IsNotSoBefore P end o → IsBefore rule o → IsBefore rule end
  within rule end o (inl same) before = subst (IsBefore rule) same before
  within rule end None (inr not) before = absurd not
  within rule end (Some other) (inr not) before = before_on rule other end before not.0

  second_way : (end middle o : Option Rule) → (middle ≡ end) ⊎ IsNotSoBefore P end middle → (o ≡ middle) ⊎ IsNotSoBefore Q middle o
      → (o ≡ end) ⊎ IsNotSoBefore Both end o
  second_way end middle o one (inl same) = subst (λ k. (k ≡ end) ⊎ IsNotSoBefore Both end k) (sym same) (first_way end middle one)
  second_way end middle None one (inr not) = absurd not
  second_way end middle (Some rule) one (inr not) = inr (within rule end middle one not.0, λ both. not.1 both.1)

  pub joined : (end middle first : Option Rule) → IsFirstNot P end middle → IsFirstNot Q middle first → IsFirstNot Both end first
  joined end middle first one other = record {
    before = λ rule before. (one.before rule (upto rule first before other.broken), other.before rule before);
    broken = second_way end middle first one.broken other.broken;
  }
    where
      upto : (rule : Rule) (o : Option Rule) → IsBefore rule o → (o ≡ middle) ⊎ IsNotSoBefore Q middle o → IsBefore rule middle
      upto rule o before (inl same) = subst (IsBefore rule) same before
      upto rule None before (inr not) = absurd not
      upto rule (Some other) before (inr not) = before_on rule other middle before not.0
