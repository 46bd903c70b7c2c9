-- The JSON of refusals, and their statuses.
-- Keys stand in ascending order of bytes, and texts have no space between the parts.
use Rattle.std.specs.Prelude.{ℕ, List, ◌++◌, codes, decimal}
use Rattle.serde_json.specs.Data.{Data, number, unsigned, string, object, member, no_members}
use Rattle.td_movement.specs.States.{state_name}
use Rattle.td_commands.specs.Commands.{refusal_name}
use Rattle.td_commands.specs.declared.said.Refusal.{Refusal}
use Rattle.td_commands.specs.declared.said.Refusal.TheVariants.{ClockRange, NoHolder, HolderKnown, ClockBack, NoMovement, NoGuarantee, BadCode, GuaranteeEnded, LrnUsed, SerialsSpent, WrongState, OverReference, BelowUse, LimitDate, TooEarly, CodeKnown, NoCode, LastCode, CodesFull, AlreadyEnded}

-- an error, told by its name alone
abbrev pub error_data : List ℕ → Data
error_data name = object (member (codes "error") (string name) no_members)

-- an error and the state that it is about
abbrev pub wrong_state_data : List ℕ → List ℕ → Data
wrong_state_data name state =
    object (member (codes "error") (string name)
    (member (codes "state") (string state) no_members))

-- an error, and what is free on the guarantee that it is about
abbrev pub over_reference_data : List ℕ → ℕ → List ℕ → Data
over_reference_data name free grn =
    object (member (codes "error") (string name)
    (member (codes "free") (number (unsigned free))
    (member (codes "grn") (string grn) no_members)))

-- an error, and the amount in use that it is about
abbrev pub below_use_data : List ℕ → ℕ → Data
below_use_data name used =
    object (member (codes "error") (string name)
    (member (codes "used") (number (unsigned used)) no_members))

-- a refusal
abbrev pub refusal_data : Refusal → Data
refusal_data (WrongState state) = wrong_state_data (refusal_name (WrongState state)) (state_name state)
refusal_data (OverReference free grn) = over_reference_data (refusal_name (OverReference free grn)) free grn
refusal_data (BelowUse used) = below_use_data (refusal_name (BelowUse used)) used
refusal_data refusal = error_data (refusal_name refusal)

-- the bytes of a refusal's body
abbrev pub refusal_body : Refusal → List ℕ
refusal_body ClockRange = codes "{\"error\":\"clock-range\"}"
refusal_body NoHolder = codes "{\"error\":\"no-holder\"}"
refusal_body HolderKnown = codes "{\"error\":\"holder-known\"}"
refusal_body ClockBack = codes "{\"error\":\"clock-back\"}"
refusal_body NoMovement = codes "{\"error\":\"no-movement\"}"
refusal_body NoGuarantee = codes "{\"error\":\"no-guarantee\"}"
refusal_body BadCode = codes "{\"error\":\"bad-code\"}"
refusal_body GuaranteeEnded = codes "{\"error\":\"guarantee-ended\"}"
refusal_body LrnUsed = codes "{\"error\":\"lrn-used\"}"
refusal_body SerialsSpent = codes "{\"error\":\"serials-spent\"}"
refusal_body (WrongState state) = codes "{\"error\":\"wrong-state\",\"state\":\"" ++ (state_name state ++ codes "\"}")
refusal_body (OverReference free grn) =
    codes "{\"error\":\"over-reference\",\"free\":" ++ (decimal free ++ (codes ",\"grn\":\"" ++ (grn ++ codes "\"}")))
refusal_body (BelowUse used) = codes "{\"error\":\"below-use\",\"used\":" ++ (decimal used ++ codes "}")
refusal_body LimitDate = codes "{\"error\":\"limit-date\"}"
refusal_body TooEarly = codes "{\"error\":\"too-early\"}"
refusal_body CodeKnown = codes "{\"error\":\"code-known\"}"
refusal_body NoCode = codes "{\"error\":\"no-code\"}"
refusal_body LastCode = codes "{\"error\":\"last-code\"}"
refusal_body CodesFull = codes "{\"error\":\"codes-full\"}"
refusal_body AlreadyEnded = codes "{\"error\":\"already-ended\"}"

-- the statuses of refusals (RFC 9110, section 15)
abbrev pub refusal_status : Refusal → ℕ
refusal_status ClockRange = 503
refusal_status NoHolder = 404
refusal_status HolderKnown = 409
refusal_status ClockBack = 409
refusal_status NoMovement = 404
refusal_status NoGuarantee = 404
refusal_status BadCode = 403
refusal_status GuaranteeEnded = 409
refusal_status LrnUsed = 409
refusal_status SerialsSpent = 409
refusal_status (WrongState state) = 409
refusal_status (OverReference free grn) = 409
refusal_status (BelowUse used) = 409
refusal_status LimitDate = 409
refusal_status TooEarly = 409
refusal_status CodeKnown = 409
refusal_status NoCode = 404
refusal_status LastCode = 409
refusal_status CodesFull = 409
refusal_status AlreadyEnded = 409
