-- Texts that were made, or put behind others, as what they are.
use Rattle.std.proofs.Common.{◌≡◌, subst, Result, List, ℕ, ◌++◌, String, Global, string_bytes, IfOk, OnOk}

pub made_as : {E : Type 0} (r : Result (String Global) E) (text want : List ℕ) → IfOk r (λ s. string_bytes s ≡ text) → text ≡ want
    → IfOk r (λ s. string_bytes s ≡ want)
made_as r text want made same = subst (λ t. IfOk r (λ s. string_bytes s ≡ t)) same made

pub put_as : {A E : Type 0} (r : Result A E) (old new text want : List ℕ) → OnOk r (new ≡ old ++ text) → text ≡ want → OnOk r (new ≡ old ++ want)
put_as r old new text want put same = subst (λ t. OnOk r (new ≡ old ++ t)) same put
