-- The fields that values are; none where a value is no such field.
use Rattle.std.specs.Prelude.{ℕ, ◌^◌, nat_lt, if◌then◌else◌, List, Option, Some, None}
use Rattle.std.specs.Option.{option_and_then, option_map}
use Rattle.std.specs.Result.{result_ok}
use Rattle.sqlite_sql.specs.Ops.{is_null}
use Rattle.sqlite_value.specs.declared.value.Value.{Value}
use Rattle.td_time.specs.Days.{day_at, moment_of}
use Rattle.td_money.specs.Money.{cents_of, cover_of}
use Rattle.td_base.specs.Codes.{code_read, lrn_read, office_read, eori_read, holder_of}
use Rattle.td_base.specs.References.{grn_read, mrn_read}
use Rattle.typed_sql.specs.Values.{as_integer, as_number, as_text}

-- numbers: a serial has 32 bits
abbrev pub serial_in : Value → Option ℕ
serial_in v = option_and_then (λ n. if nat_lt n (2 ^ 32) then Some n else None) (as_number v)

abbrev pub holder_in : Value → Option ℕ
holder_in v = option_and_then holder_of (serial_in v)

abbrev pub amount_in : Value → Option ℕ
amount_in v = option_and_then cents_of (as_number v)

abbrev pub cover_in : Value → Option ℕ
cover_in v = option_and_then cover_of (as_number v)

abbrev pub day_in : Value → Option ℕ
day_in v = option_and_then day_at (as_integer v)

abbrev pub moment_in : Value → Option ℕ
moment_in v = option_and_then moment_of (as_integer v)

-- texts
abbrev pub eori_in : Value → Option (List ℕ)
eori_in v = option_and_then eori_read (as_text v)

abbrev pub grn_in : Value → Option (List ℕ)
grn_in v = option_and_then (λ text. result_ok (grn_read text)) (as_text v)

abbrev pub mrn_in : Value → Option (List ℕ)
mrn_in v = option_and_then (λ text. result_ok (mrn_read text)) (as_text v)

abbrev pub lrn_in : Value → Option (List ℕ)
lrn_in v = option_and_then lrn_read (as_text v)

abbrev pub code_in : Value → Option (List ℕ)
code_in v = option_and_then code_read (as_text v)

abbrev pub office_in : Value → Option (List ℕ)
office_in v = option_and_then office_read (as_text v)

-- a field, or NULL
abbrev pub optional_in : {X : Type 0} → (Value → Option X) → Value → Option (Option X)
optional_in read v = if is_null v then Some None else option_map Some (read v)
