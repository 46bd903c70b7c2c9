-- What is read of a text that is a name: the thing with this name, where there is one.
use Rattle.std.proofs.Common.{◌≡◌, ◌≢◌, ℕ, List, Option, Some, None, Bool, true, false, refl}
use Rattle.std.proofs.lemmas.Slice.Eq.{bytes_eq-Decides}
use Rattle.std.specs.Prelude.{IfSome}
use Rattle.std.specs.Str.{bytes_eq}
use Rattle.td_movement.specs.States.{control_name, ground_name}
use Rattle.td_movement.specs.declared.state.Control.{Control}
use Rattle.td_movement.specs.declared.state.Control.TheVariants.{A1, A2, B1}
use Rattle.td_movement.specs.declared.state.Ground.{Ground}
use Rattle.td_movement.specs.declared.state.Ground.TheVariants.{Results, Proof}
use Rattle.td_fields.specs.BodyFields.{control_read, ground_read}

-- two texts that differ aren't equal by the test
other : (a b : List ℕ) → a ≢ b → bytes_eq a b ≡ false
other a b differ = by (bytes_eq a b) refl
  where
    by : (v : Bool) → bytes_eq a b ≡ v → bytes_eq a b ≡ false
    by true e = absurd (differ ((bytes_eq-Decides a b).0 e))
    by false e = e

control_named : (control : Control) → Some control ≡ control_read (control_name control)
control_named A1 = refl
control_named A2 = refl
control_named B1 = refl

-- what a reader of results of controls gives, by its two promises
pub control_is : (text : List ℕ) (r : Option Control) → IfSome r (λ control. control_name control ≡ text)
    → (r ≡ None → (control : Control) → control_name control ≢ text) → r ≡ control_read text
control_is text (Some control) named none = rw (← named) (control_named control)
control_is text None named none =
    let not = none refl in
    let first = other (control_name A1) text (not A1) in
    let second = other (control_name A2) text (not A2) in
    let third = other (control_name B1) text (not B1) in
    rw (first, second, third) refl

ground_named : (g : Ground) → Some g ≡ ground_read (ground_name g)
ground_named Results = refl
ground_named Proof = refl

-- what a reader of grounds gives
pub ground_is : (text : List ℕ) (r : Option Ground) → IfSome r (λ g. ground_name g ≡ text)
    → (r ≡ None → (g : Ground) → ground_name g ≢ text) → r ≡ ground_read text
ground_is text (Some g) named none = rw (← named) (ground_named g)
ground_is text None named none =
    let not = none refl in
    rw (other (ground_name Results) text (not Results), other (ground_name Proof) text (not Proof)) refl
