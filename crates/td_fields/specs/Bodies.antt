-- The command that a body is, or the first fault of reading it: by what a path has named already.
use Rattle.std.specs.Prelude.{ℕ, List, Option, option_and_then, ok_or, is_some, Result, Ok, Err, if◌then◌else◌}
use Rattle.std.specs.Str.{is_utf8}
use Rattle.serde_json.specs.Data.{Data}
use Rattle.serde_json.specs.Read.{read}
use Rattle.serde_json.specs.Find.{as_object}
use Rattle.td_commands.specs.declared.command.Command.{Command}
use Rattle.td_commands.specs.declared.command.Command.TheVariants as command
use Rattle.td_base.specs.Codes.{code_read, lrn_read, office_read, eori_read}
use Rattle.td_base.specs.Days.{day_read}
use Rattle.td_base.specs.Money.{cover_of, reference_of}
use Rattle.td_fields.specs.BodyFields.{text_at, number_at, control_read, ground_read, lines_at}
use Rattle.td_fields.specs.Faults.{field_name, ◌>>=◌}
use Rattle.td_fields.specs.declared.fault.Field.{Field}
use Rattle.td_fields.specs.declared.fault.Field.TheVariants as field
use Rattle.td_fields.specs.declared.fault.WebFault.{WebFault}
use Rattle.td_fields.specs.declared.fault.WebFault.TheVariants.{BadBody, BadField}

-- the data, where it is an object
abbrev pub object_in : Data → Result Data WebFault
object_in value = if is_some (as_object value) then Ok value else Err BadBody

-- the object whose JSON text the body is, as `serde_json` reads it
abbrev pub object_of : List ℕ → Result Data WebFault
object_of body = if is_utf8 body then ok_or (read body) BadBody >>= object_in else Err BadBody

-- the command that is read of the object that a body is
abbrev pub of_body : List ℕ → (Data → Result Command WebFault) → Result Command WebFault
of_body body said = object_of body >>= said

-- the field that a text is, or a fault that names it: a field that is missing is ill-formed
abbrev pub text_field : {T : Type 0} → Field → (List ℕ → Option T) → Data → Result T WebFault
text_field name read body = ok_or (option_and_then read (text_at (field_name name) body)) (BadField name)

-- the field that a number is, likewise
abbrev pub number_field : Field → (ℕ → Option ℕ) → Data → Result ℕ WebFault
number_field name read body = ok_or (option_and_then read (number_at (field_name name) body)) (BadField name)

-- the registration of a holder that a body asks for
abbrev pub registration_of : ℕ → Data → Result Command WebFault
registration_of holder body = text_field field.Eori eori_read body >>= λ eori. Ok (command.Register holder eori)

-- the terms of a guarantee: its reference amount and its cover
abbrev pub terms_of : Data → Result (ℕ × ℕ) WebFault
terms_of body =
    number_field field.Reference reference_of body >>= λ reference.
    number_field field.Cover cover_of body >>= λ cover.
    Ok (reference, cover)

-- the opening of a guarantee
abbrev pub opening_of : ℕ → Data → Result Command WebFault
opening_of holder body =
    terms_of body >>= λ terms.
    text_field field.Code code_read body >>= λ code.
    Ok (command.OpenGuarantee holder terms.0 terms.1 code)

-- the amendment of a guarantee
abbrev pub amendment_of : List ℕ → Data → Result Command WebFault
amendment_of grn body = terms_of body >>= λ terms. Ok (command.Amend grn terms.0 terms.1)

-- the declaration
abbrev pub declaration_of : ℕ → Data → Result Command WebFault
declaration_of holder body =
    text_field field.Lrn lrn_read body >>= λ lrn.
    text_field field.Departure office_read body >>= λ departure.
    text_field field.Destination office_read body >>= λ destination.
    ok_or (lines_at (field_name field.Lines) body) (BadField field.Lines) >>= λ lines.
    Ok (command.Ie015 holder lrn departure destination lines)

-- the access code that a guarantee gets more
abbrev pub addition_of : ℕ → List ℕ → Data → Result Command WebFault
addition_of holder grn body =
    text_field field.Code code_read body >>= λ code. Ok (command.AddCode holder grn code)

-- the access code that is taken from it
abbrev pub removal_of : ℕ → List ℕ → Data → Result Command WebFault
removal_of holder grn body =
    text_field field.Code code_read body >>= λ code. Ok (command.RemoveCode holder grn code)

-- the release of a movement
abbrev pub release_of : List ℕ → Data → Result Command WebFault
release_of mrn body = text_field field.Limit day_read body >>= λ limit. Ok (command.Ie029 mrn limit)

-- its arrival
abbrev pub arrival_of : List ℕ → Data → Result Command WebFault
arrival_of mrn body = text_field field.Office office_read body >>= λ office. Ok (command.Ie007 mrn office)

-- the result of its control
abbrev pub control_of : List ℕ → Data → Result Command WebFault
control_of mrn body = text_field field.Result control_read body >>= λ result. Ok (command.Ie018 mrn result)

-- its write-off
abbrev pub write_off_of : List ℕ → Data → Result Command WebFault
write_off_of mrn body = text_field field.Ground ground_read body >>= λ cause. Ok (command.Ie045 mrn cause)
