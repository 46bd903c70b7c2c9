-- What the length of a body may be.
use Rattle.std.proofs.Common.{◌≡◌, ℕ, ◌≤◌, Bool, true, false, List, [], ◌∷◌, refl, subst, arith, Result, Ok, Err, if◌then◌else◌}
use Rattle.std.specs.Prelude.{nat_le, ⊤}
use Rattle.http_wire.specs.declared.framing.FramingError.{FramingError}
use Rattle.http_wire.specs.declared.framing.FramingError.TheVariants.{BadHead, HeadTooLarge, TransferEncoding, BadLength, BodyTooLarge}
use Rattle.http_wire.specs.Framing.{is_numeral, length_in, length_by, body_length}
use Rattle.std.specs.Str.Parse.{digits_value}
use Rattle.httparse.specs.Grammar.{RequestHead}
use Rattle.http_wire.specs.Wire.{HasHead, HasBadBody, IsRefusedFor, fields_of}

-- a fault that the fields can have
abbrev IsBodyFault : FramingError → Type 0
IsBodyFault BadHead = ⊥
IsBodyFault HeadTooLarge = ⊥
IsBodyFault TransferEncoding = ⊤
IsBodyFault BadLength = ⊤
IsBodyFault BodyTooLarge = ⊤

-- a length is within the limit, and a fault one of the fields
abbrev IsBodyAnswer : Result ℕ FramingError → Type 0
IsBodyAnswer (Ok n) = n ≤ 65536
IsBodyAnswer (Err e) = IsBodyFault e

capped : (n : ℕ) (numeral small : Bool) → nat_le n 65536 ≡ small
    → IsBodyAnswer (if numeral then (if small then Ok n else Err BodyTooLarge) else Err BadLength)
capped n false small h = tt
capped n true false h = tt
capped n true true h = grind arith

in_limit : (text : List ℕ) → IsBodyAnswer (length_in text)
unfolding length_in
in_limit text = capped (digits_value 10 text) (is_numeral text) (nat_le (digits_value 10 text) 65536) refl

by_limit : (codings lengths : List (List ℕ)) → IsBodyAnswer (length_by codings lengths)
by_limit (x ∷ xs) lengths = tt
by_limit [] [] = omega arith
by_limit [] (text ∷ []) = in_limit text
by_limit [] (text ∷ more ∷ texts) = tt

-- what the fields say is a length within the limit, or a fault of theirs
answer_limit : (fields : List (List ℕ × List ℕ)) → IsBodyAnswer (body_length fields)
answer_limit fields = by_limit _ _

-- a length that the fields say is within the limit
pub length_limit : (fields : List (List ℕ × List ℕ)) (n : ℕ) → body_length fields ≡ Ok n → n ≤ 65536
length_limit fields n says = subst IsBodyAnswer says (answer_limit fields)

refused_as : (bytes : List ℕ) (e : FramingError) → IsBodyFault e → HasBadBody bytes e → IsRefusedFor e bytes
refused_as bytes BadHead fault bad = absurd fault
refused_as bytes HeadTooLarge fault bad = absurd fault
refused_as bytes TransferEncoding fault bad = bad
refused_as bytes BadLength fault bad = bad
refused_as bytes BodyTooLarge fault bad = bad

-- a good head whose fields refuse the body
pub refused_body : (bytes rest : List ℕ) (h : RequestHead) (e : FramingError) → HasHead bytes h rest → body_length (fields_of h) ≡ Err e → IsRefusedFor e bytes
refused_body bytes rest h e has says =
    refused_as bytes e (subst IsBodyAnswer says (answer_limit (fields_of h))) (h, rest, has, says)
