-- Acts of offices, by the columns of a row: message, mrn, value.
use Rattle.std.specs.Prelude.{ℕ, ◌==◌, ◌&&◌, Bool, List, length, bytes_eq, codes, Option, Some, None, option_map, Result, Ok, Err, if◌then◌else◌}
use Rattle.td_base.specs.Codes.{office_read}
use Rattle.td_base.specs.Days.{day_read}
use Rattle.td_base.specs.References.{mrn_read}
use Rattle.td_base.specs.declared.references.RefFault.{RefFault}
use Rattle.td_fields.specs.BodyFields.{control_read, ground_read}
use Rattle.td_commands.specs.declared.command.Command.{Command}
use Rattle.td_commands.specs.declared.command.Command.TheVariants as command
use Rattle.td_batch_rows.specs.declared.acts.Message.{Message}
use Rattle.td_batch_rows.specs.declared.acts.Message.TheVariants.{Ie029, Ie007, Ie018, Ie045, Ie140}
use Rattle.td_batch_rows.specs.Rows.{Fields, Place, field_text, file_in, records_in}

-- the message that a text names
abbrev pub message_read : List ℕ → Option Message
message_read text =
    if bytes_eq text (codes "IE029") then Some Ie029
    else if bytes_eq text (codes "IE007") then Some Ie007
    else if bytes_eq text (codes "IE018") then Some Ie018
    else if bytes_eq text (codes "IE045") then Some Ie045
    else if bytes_eq text (codes "IE140") then Some Ie140
    else None

-- the act of a message, by its value: the day of the limit, the office, the control's result, the ground, nothing
abbrev pub command_read : Message → List ℕ → List ℕ → Option Command
command_read Ie029 mrn value = option_map (λ limit. command.Ie029 mrn limit) (day_read value)
command_read Ie007 mrn value = option_map (λ office. command.Ie007 mrn office) (office_read value)
command_read Ie018 mrn value = option_map (λ result. command.Ie018 mrn result) (control_read value)
command_read Ie045 mrn value = option_map (λ g. command.Ie045 mrn g) (ground_read value)
command_read Ie140 mrn value = if length value == 0 then Some (command.Ie140 mrn) else None

-- a bad value is column 3
abbrev pub with_value : Option Command → Result Command ℕ
with_value None = Err 3
with_value (Some act) = Ok act

-- a bad MRN is column 2
abbrev pub with_mrn : Message → Result (List ℕ) RefFault → List ℕ → Result Command ℕ
with_mrn message (Err fault) value = Err 2
with_mrn message (Ok mrn) value = with_value (command_read message mrn value)

-- a bad message is column 1
abbrev pub with_message : Option Message → List ℕ → List ℕ → Result Command ℕ
with_message None mrn value = Err 1
with_message (Some message) mrn value = with_mrn message (mrn_read mrn) value

abbrev pub act_read : List ℕ → List ℕ → List ℕ → Result Command ℕ
act_read message mrn value = with_message (message_read message) mrn value

-- the act of a row of three columns
abbrev pub act_row : Fields → Result Command ℕ
act_row fields =
    if length fields == 3 then act_read (field_text fields 0) (field_text fields 1) (field_text fields 2) else Err 0

-- the header `message,mrn,value`
abbrev pub is_acts_header : Fields → Bool
is_acts_header fields =
    (length fields == 3) && bytes_eq (field_text fields 0) (codes "message") && bytes_eq (field_text fields 1) (codes "mrn")
    && bytes_eq (field_text fields 2) (codes "value")

-- the acts of a file
abbrev pub acts_in : List ℕ → Result (List Command) Place
acts_in bytes = file_in is_acts_header act_row (records_in bytes)
