-- What an error of the parser says.
use Rattle.std.proofs.Common.{◌≡◌, ◌≢◌, refl, inl, inr}
use Rattle.std.specs.Prelude.{◌⊎◌}
use Rattle.httparse.specs.declared.Error.{Error}
use Rattle.httparse.specs.declared.Error.TheVariants.{HeaderName, HeaderValue, NewLine, Status, Token, TooManyHeaders, Version}

-- one fact for the error of too many fields, another for all others
pub refused_by : (P Q : Type 0) (e : Error) → (e ≢ TooManyHeaders → P) → (e ≡ TooManyHeaders → Q) → P ⊎ Q
refused_by P Q HeaderName p q = inl (p (λ h. cc))
refused_by P Q HeaderValue p q = inl (p (λ h. cc))
refused_by P Q NewLine p q = inl (p (λ h. cc))
refused_by P Q Status p q = inl (p (λ h. cc))
refused_by P Q Token p q = inl (p (λ h. cc))
refused_by P Q TooManyHeaders p q = inr (q refl)
refused_by P Q Version p q = inl (p (λ h. cc))
