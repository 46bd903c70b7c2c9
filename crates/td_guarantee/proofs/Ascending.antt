-- Codes in ascending order.
use Rattle.std.proofs.Common.{ℕ, List, [], ◌∷◌}
use Rattle.std.specs.List.Sorted.{IsStrictlySortedBy}
use Rattle.td_guarantee.specs.Codes.{AreAscending}

-- no codes are in order
pub none_ascends : AreAscending []
unfolding IsStrictlySortedBy
none_ascends = tt

-- one code alone is in order
pub one_ascends : (code : List ℕ) → AreAscending (code ∷ [])
unfolding IsStrictlySortedBy
one_ascends code = (tt, tt)
