-- What the fields of a head, as names and values, say of the body and of the stream after it.
use Rattle.std.specs.Prelude.{◌≡◌, ℕ, ◌<◌, Bool, ◌&&◌, ◌||◌, ◌==◌, nat_lt, nat_le, if◌then◌else◌, List, [], ◌∷◌, map, length, codes, bytes_eq, Result, Ok, Err}
use Rattle.std.specs.List.{filter, list_all, list_any, slice_split}
use Rattle.std.specs.Char.{to_ascii_lowercase, is_ascii_digit}
use Rattle.std.specs.Str.Parse.{digits_value}
use Rattle.httparse.specs.Grammar.{trim_ows}
use Rattle.http_wire.specs.declared.framing.FramingError.{FramingError}
use Rattle.http_wire.specs.declared.framing.FramingError.TheVariants.{TransferEncoding, BadLength, BodyTooLarge}
use Rattle.http_wire.specs.declared.framing.Values.{Values}
use Rattle.http_wire.specs.declared.framing.Values.TheVariants as vs

-- the field has that name, which is in small letters
abbrev pub is_named : List ℕ → List ℕ × List ℕ → Bool
is_named name field = bytes_eq (map to_ascii_lowercase field.0) name

-- the values of the fields of that name
abbrev pub values_of : List ℕ → List (List ℕ × List ℕ) → List (List ℕ)
values_of name fields = map (λ f. f.1) (filter (is_named name) fields)

-- one or more digits
abbrev pub is_numeral : List ℕ → Bool
is_numeral text = nat_lt 0 (length text) && list_all is_ascii_digit text

-- the length that a lone value says
unfoldable pub length_in : List ℕ → Result ℕ FramingError
length_in text =
    if is_numeral text then
    (if nat_le (digits_value 10 text) 65536 then Ok (digits_value 10 text) else Err BodyTooLarge)
    else Err BadLength

-- what the values of Content-Length say
abbrev pub length_said : List (List ℕ) → Result ℕ FramingError
length_said [] = Ok 0
length_said (text ∷ []) = length_in text
length_said (text ∷ more ∷ texts) = Err BadLength

-- what they say where there is no Transfer-Encoding, whose values are the first list
abbrev pub length_by : List (List ℕ) → List (List ℕ) → Result ℕ FramingError
length_by [] lengths = length_said lengths
length_by (coding ∷ codings) lengths = Err TransferEncoding

-- the length of the body, or why the request is refused
abbrev pub body_length : List (List ℕ × List ℕ) → Result ℕ FramingError
body_length fields =
    length_by (values_of (codes "transfer-encoding") fields) (values_of (codes "content-length") fields)

-- the member is `close`, in letters of either case and with spaces and tabs around it
abbrev pub is_close : List ℕ → Bool
is_close member = bytes_eq (map to_ascii_lowercase (trim_ows member)) (codes "close")

-- one of the members, between commas, is `close`
abbrev pub lists_close : List ℕ → Bool
lists_close value = list_any is_close (slice_split (λ b. b == 44) value)

-- the version is 1.0, or a Connection field says `close`
abbrev pub closes : ℕ → List (List ℕ × List ℕ) → Bool
closes minor fields = (minor == 0) || list_any lists_close (values_of (codes "connection") fields)

-- no value, the one, or two or more
abbrev pub AreValues : Values → List (List ℕ) → Type 0
AreValues vs.Missing values = values ≡ []
AreValues (vs.One value) values = values ≡ value.now ∷ []
AreValues vs.Many values = 1 < length values
