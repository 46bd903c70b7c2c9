-- The JSON of what the desk says, and the status of it; those of refusals stand in Refusals.antt.
-- Keys stand in ascending order of bytes, and texts have no space between the parts.
use Rattle.std.specs.Prelude.{ℕ, Bool, true, List, ◌++◌, codes, decimal, None}
use Rattle.serde_json.specs.Data.{Data, boolean, number, unsigned, string, object, member, no_members}
use Rattle.serde_json.specs.Written.{compact_text}
use Rattle.td_base.specs.Days.{day_text}
use Rattle.td_base.specs.Codes.{holder_text}
use Rattle.td_movement.specs.States.{state_name}
use Rattle.td_movement.specs.declared.state.State.TheVariants.{Cancelled, Released, Enquired, WrittenOff}
use Rattle.td_commands.specs.declared.said.Answer.{Answer}
use Rattle.td_commands.specs.declared.said.Answer.TheVariants.{Holder, Opened, Revoked, Ie028, Ie014, Ie029, Ie006, Ie018, Ie045, Ie140, Movement, Movements, Guarantee, Guarantees}
use Rattle.td_commands.specs.declared.said.Said.{Said}
use Rattle.td_commands.specs.declared.said.Said.TheVariants.{Answered, Refused}
use Rattle.td_fields.specs.Faults.{fault_allow, fault_name, field_name, reason_text}
use Rattle.td_answers.specs.Objects.{guarantee_body, guarantee_data, guarantees_body, guarantees_data, movement_body, movement_data, movements_body, movements_data, truth_body}
use Rattle.td_answers.specs.Refusals.{error_data, refusal_data, refusal_status}
use Rattle.http_wire.specs.ReplyText.{reply_text}
use Rattle.td_base.specs.declared.references.RefFault.TheVariants.{Length, Form, CheckDigit}
use Rattle.td_fields.specs.declared.fault.Field.TheVariants as field
use Rattle.td_fields.specs.declared.fault.WebFault.{WebFault}
use Rattle.td_fields.specs.declared.fault.WebFault.TheVariants.{NoRoute, NoMethod, BadHolder, BadMrn, BadGrn, BadBody, BadField, NoMemory}

-- what is told of a holder
abbrev pub holder_data : List ℕ → ℕ → List ℕ → ℕ → Data
holder_data eori guarantees holder movements =
    object (member (codes "eori") (string eori)
    (member (codes "guarantees") (number (unsigned guarantees))
    (member (codes "holder") (string holder)
    (member (codes "movements") (number (unsigned movements)) no_members))))

-- the reference of a guarantee that was opened
abbrev pub opened_data : List ℕ → Data
opened_data grn = object (member (codes "grn") (string grn) no_members)

-- the end of a guarantee that was revoked
abbrev pub revoked_data : List ℕ → List ℕ → Data
revoked_data ends grn = object (member (codes "ends") (string ends) (member (codes "grn") (string grn) no_members))

-- the message that allocates a declaration its MRN (IE028)
abbrev pub ie028_data : List ℕ → List ℕ → Data
ie028_data lrn mrn =
    object (member (codes "lrn") (string lrn)
    (member (codes "message") (string (codes "IE028"))
    (member (codes "mrn") (string mrn) no_members)))

-- a message about a movement, and the state in which the movement is then
abbrev pub state_data : List ℕ → List ℕ → List ℕ → Data
state_data message mrn state =
    object (member (codes "message") (string message)
    (member (codes "mrn") (string mrn)
    (member (codes "state") (string state) no_members)))

-- a release (IE029), and the day by which the movement has to arrive
abbrev pub release_data : List ℕ → List ℕ → Data
release_data limit mrn =
    object (member (codes "limit") (string limit)
    (member (codes "message") (string (codes "IE029"))
    (member (codes "mrn") (string mrn)
    (member (codes "state") (string (state_name Released)) no_members))))

-- arrival advice (IE006), and whether the arrival is late
abbrev pub advice_data : Bool → List ℕ → Data
advice_data late mrn =
    object (member (codes "late") (boolean late)
    (member (codes "message") (string (codes "IE006"))
    (member (codes "mrn") (string mrn) no_members)))

-- an answer
abbrev pub answer_data : Answer → Data
answer_data (Holder holder eori guarantees movements) = holder_data eori guarantees (holder_text holder) movements
answer_data (Opened grn) = opened_data grn
answer_data (Revoked ends grn) = revoked_data (day_text ends) grn
answer_data (Ie028 lrn mrn) = ie028_data lrn mrn
answer_data (Ie014 mrn) = state_data (codes "IE014") mrn (state_name Cancelled)
answer_data (Ie029 limit mrn) = release_data (day_text limit) mrn
answer_data (Ie006 late mrn) = advice_data late mrn
answer_data (Ie018 mrn state) = state_data (codes "IE018") mrn (state_name state)
answer_data (Ie045 mrn) = state_data (codes "IE045") mrn (state_name WrittenOff)
answer_data (Ie140 mrn) = state_data (codes "IE140") mrn (state_name Enquired)
answer_data (Movement m) = movement_data m
answer_data (Movements listed) = movements_data listed
answer_data (Guarantee g used) = guarantee_data g used
answer_data (Guarantees listed) = guarantees_data listed

-- an error and the field that it is about
abbrev pub field_data : List ℕ → List ℕ → Data
field_data name field = object (member (codes "error") (string name) (member (codes "field") (string field) no_members))

-- an error and the reason for it
abbrev pub reason_data : List ℕ → List ℕ → Data
reason_data name reason =
    object (member (codes "error") (string name) (member (codes "reason") (string reason) no_members))

-- what is said
abbrev pub said_data : Said → Data
said_data (Answered answer) = answer_data answer
said_data (Refused refusal) = refusal_data refusal

-- why a request can't be read
abbrev pub fault_data : WebFault → Data
fault_data NoRoute = error_data (fault_name NoRoute)
fault_data (NoMethod allow) = error_data (fault_name (NoMethod allow))
fault_data BadHolder = error_data (fault_name BadHolder)
fault_data (BadMrn reason) = reason_data (fault_name (BadMrn reason)) (reason_text reason)
fault_data (BadGrn reason) = reason_data (fault_name (BadGrn reason)) (reason_text reason)
fault_data BadBody = error_data (fault_name BadBody)
fault_data (BadField field) = field_data (fault_name (BadField field)) (field_name field)
fault_data NoMemory = error_data (fault_name NoMemory)

-- the bodies of replies
abbrev pub said_body : Said → List ℕ
said_body said = compact_text (said_data said)

abbrev pub fault_body : WebFault → List ℕ
fault_body fault = compact_text (fault_data fault)

-- the bytes of an answer's body: nothing in it is escaped
abbrev pub answer_body : Answer → List ℕ
answer_body (Holder holder eori guarantees movements) =
    codes "{\"eori\":\"" ++ (eori ++ (codes "\",\"guarantees\":" ++ (decimal guarantees
    ++ (codes ",\"holder\":\""
    ++ (holder_text holder ++ (codes "\",\"movements\":" ++ (decimal movements ++ codes "}")))))))
answer_body (Opened grn) = codes "{\"grn\":\"" ++ (grn ++ codes "\"}")
answer_body (Revoked ends grn) =
    codes "{\"ends\":\"" ++ (day_text ends ++ (codes "\",\"grn\":\"" ++ (grn ++ codes "\"}")))
answer_body (Ie028 lrn mrn) =
    codes "{\"lrn\":\"" ++ (lrn ++ (codes "\",\"message\":\"IE028\",\"mrn\":\"" ++ (mrn ++ codes "\"}")))
answer_body (Ie014 mrn) = codes "{\"message\":\"IE014\",\"mrn\":\"" ++ (mrn ++ codes "\",\"state\":\"cancelled\"}")
answer_body (Ie029 limit mrn) =
    codes "{\"limit\":\"" ++ (day_text limit
    ++ (codes "\",\"message\":\"IE029\",\"mrn\":\"" ++ (mrn ++ codes "\",\"state\":\"released\"}")))
answer_body (Ie006 late mrn) =
    codes "{\"late\":" ++ (truth_body late ++ (codes ",\"message\":\"IE006\",\"mrn\":\"" ++ (mrn ++ codes "\"}")))
answer_body (Ie018 mrn state) =
    codes "{\"message\":\"IE018\",\"mrn\":\"" ++ (mrn ++ (codes "\",\"state\":\"" ++ (state_name state ++ codes "\"}")))
answer_body (Ie045 mrn) = codes "{\"message\":\"IE045\",\"mrn\":\"" ++ (mrn ++ codes "\",\"state\":\"written-off\"}")
answer_body (Ie140 mrn) = codes "{\"message\":\"IE140\",\"mrn\":\"" ++ (mrn ++ codes "\",\"state\":\"enquired\"}")
answer_body (Movement m) = movement_body m
answer_body (Movements listed) = movements_body listed
answer_body (Guarantee g used) = guarantee_body g used
answer_body (Guarantees listed) = guarantees_body listed

-- the bytes of the body that tells why a request can't be read
abbrev pub fault_text : WebFault → List ℕ
fault_text NoRoute = codes "{\"error\":\"no-route\"}"
fault_text (NoMethod allow) = codes "{\"error\":\"no-method\"}"
fault_text BadHolder = codes "{\"error\":\"bad-holder\"}"
fault_text (BadMrn Length) = codes "{\"error\":\"bad-mrn\",\"reason\":\"length\"}"
fault_text (BadMrn Form) = codes "{\"error\":\"bad-mrn\",\"reason\":\"form\"}"
fault_text (BadMrn CheckDigit) = codes "{\"error\":\"bad-mrn\",\"reason\":\"check-digit\"}"
fault_text (BadGrn Length) = codes "{\"error\":\"bad-grn\",\"reason\":\"length\"}"
fault_text (BadGrn Form) = codes "{\"error\":\"bad-grn\",\"reason\":\"form\"}"
fault_text (BadGrn CheckDigit) = codes "{\"error\":\"bad-grn\",\"reason\":\"check-digit\"}"
fault_text BadBody = codes "{\"error\":\"bad-body\"}"
fault_text (BadField field.Eori) = codes "{\"error\":\"bad-field\",\"field\":\"eori\"}"
fault_text (BadField field.Reference) = codes "{\"error\":\"bad-field\",\"field\":\"reference\"}"
fault_text (BadField field.Cover) = codes "{\"error\":\"bad-field\",\"field\":\"cover\"}"
fault_text (BadField field.Code) = codes "{\"error\":\"bad-field\",\"field\":\"code\"}"
fault_text (BadField field.Lrn) = codes "{\"error\":\"bad-field\",\"field\":\"lrn\"}"
fault_text (BadField field.Departure) = codes "{\"error\":\"bad-field\",\"field\":\"departure\"}"
fault_text (BadField field.Destination) = codes "{\"error\":\"bad-field\",\"field\":\"destination\"}"
fault_text (BadField field.Lines) = codes "{\"error\":\"bad-field\",\"field\":\"lines\"}"
fault_text (BadField field.Limit) = codes "{\"error\":\"bad-field\",\"field\":\"limit\"}"
fault_text (BadField field.Office) = codes "{\"error\":\"bad-field\",\"field\":\"office\"}"
fault_text (BadField field.Result) = codes "{\"error\":\"bad-field\",\"field\":\"result\"}"
fault_text (BadField field.Ground) = codes "{\"error\":\"bad-field\",\"field\":\"ground\"}"
fault_text NoMemory = codes "{\"error\":\"no-memory\"}"

-- the statuses of replies (RFC 9110, section 15)
abbrev pub said_status : Said → ℕ
said_status (Answered answer) = 200
said_status (Refused refusal) = refusal_status refusal

abbrev pub fault_status : WebFault → ℕ
fault_status NoRoute = 404
fault_status (NoMethod allow) = 405
fault_status BadHolder = 400
fault_status (BadMrn reason) = 400
fault_status (BadGrn reason) = 400
fault_status BadBody = 400
fault_status (BadField field) = 400
fault_status NoMemory = 503

-- whether the stream stops after a reply that tells why a request can't be read: always, where memory is missing
abbrev pub stops_after : WebFault → Bool → Bool
stops_after NoRoute close = close
stops_after (NoMethod allow) close = close
stops_after BadHolder close = close
stops_after (BadMrn reason) close = close
stops_after (BadGrn reason) close = close
stops_after BadBody close = close
stops_after (BadField field) close = close
stops_after NoMemory close = true

-- whole replies; the stream stops after one with `close`
unfoldable pub said_reply : Said → Bool → List ℕ
said_reply said close = reply_text (said_status said) None close (said_body said)

unfoldable pub fault_reply : WebFault → Bool → List ℕ
fault_reply fault close =
    reply_text (fault_status fault) (fault_allow fault) (stops_after fault close) (fault_body fault)
