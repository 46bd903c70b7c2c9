-- How a count rises.
use Rattle.std.proofs.Common.{ℕ, ◌-◌, ◌^◌, arith, inl, inr}
use Rattle.std.proofs.lemmas.Bool.{cases_lt}
use Rattle.counted_io.specs.Counted.{one_more, HasCalled, HasNotFallen}

-- one more call is a call
pub called_more : (old mid : ℕ) → HasNotFallen old mid → HasCalled old (one_more mid)
called_more old mid (inl le) = elim (cases_lt mid (2 ^ 64 - 1)) [ inl lt ↦ inl (omega arith) | inr ge ↦ inr (omega arith) ]
called_more old mid (inr top) = inr (omega arith)

-- a count that has risen has not fallen
pub not_fallen : (old new : ℕ) → HasCalled old new → HasNotFallen old new
not_fallen old new (inl lt) = inl (omega arith)
not_fallen old new (inr top) = inr top
