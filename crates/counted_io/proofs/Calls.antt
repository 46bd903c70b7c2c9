-- Calls after calls.
use Rattle.std.proofs.Common.{ℕ, ◌+◌, ◌-◌, ◌^◌, arith, inl, inr}
use Rattle.std.proofs.lemmas.Bool.{cases_lt}
use Rattle.counted_io.specs.Counted.{one_more, HasMade}

-- no call
pub made_none : (a : ℕ) → HasMade 0 a a
made_none a = inl (omega arith)

-- calls after calls
pub made_on : (m n a b c : ℕ) → HasMade m a b → HasMade n b c → HasMade (m + n) a c
made_on m n a b c (inl p) (inl q) = inl (omega arith)
made_on m n a b c p (inr q) = inr q
made_on m n a b c (inr p) (inl q) = inr (omega arith)

-- one call more
pub made_more : (n a b : ℕ) → HasMade n a b → HasMade (n + 1) a (one_more b)
made_more n a b (inr top) = inr (omega arith)
made_more n a b (inl p) = elim (cases_lt b (2 ^ 64 - 1)) [ inl lt ↦ inl (omega arith) | inr ge ↦ inr (omega arith) ]
