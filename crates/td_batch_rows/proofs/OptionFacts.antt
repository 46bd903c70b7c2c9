-- What is made of a value that may be there.
use Rattle.std.proofs.Common.{◌≡◌, Option, Some, None, option_map, ap}
use Rattle.std.specs.Prelude.{MatchOption, IsSomeAnd}

-- a call's result, where what it makes of a value is known
pub option_mapped : {T U : Type 0} (Makes : T → U → Type 0) (f : T → U) → ((x : T) (y : U) → Makes x y → y ≡ f x)
    → (o : Option T) (r : Option U) → MatchOption o (r ≡ None) (λ x. IsSomeAnd r (Makes x)) → r ≡ option_map f o
option_mapped Makes f makes None r none = none
option_mapped Makes f makes (Some x) (Some y) made = ap Some (makes x y made)
option_mapped Makes f makes (Some x) None made = absurd made
