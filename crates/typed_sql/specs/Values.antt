-- Numbers and texts as values of columns. A column that holds neither is read as something all the same.
use Rattle.std.specs.Prelude.{ℕ, ℤ, ◌+◌, ◌^◌, pos, negsuc, List, [], Option, Some, None}
use Rattle.sqlite_value.specs.declared.value.Value.{Value}
use Rattle.sqlite_value.specs.declared.value.Value.TheVariants.{Null, Int, Real, Text, Blob}
use Rattle.sqlite.specs.Values.{or_null}

-- a number as a value; a number or NULL; a text or NULL
abbrev pub number_value : ℕ → Value
number_value n = Int (pos n)

abbrev pub number_or_null : Option ℕ → Value
number_or_null = or_null number_value

abbrev pub text_or_null : Option (List ℕ) → Value
text_or_null = or_null Text

-- the integer that a value is, the number, the text; none where it is something else
abbrev pub as_integer : Value → Option ℤ
as_integer (Int n) = Some n
as_integer Null = None
as_integer (Real x) = None
as_integer (Text t) = None
as_integer (Blob b) = None

abbrev pub as_number : Value → Option ℕ
as_number (Int (pos n)) = Some n
as_number (Int (negsuc n)) = None
as_number Null = None
as_number (Real x) = None
as_number (Text t) = None
as_number (Blob b) = None

abbrev pub as_text : Value → Option (List ℕ)
as_text (Text t) = Some t
as_text Null = None
as_text (Int n) = None
as_text (Real x) = None
as_text (Blob b) = None

-- the number in a value: a negative one is read as one above 2^63, and what is no integer as 0
abbrev pub number_in : Value → ℕ
number_in (Int (pos n)) = n
number_in (Int (negsuc n)) = 2 ^ 63 + n
number_in Null = 0
number_in (Real x) = 0
number_in (Text t) = 0
number_in (Blob b) = 0

-- the text in a value; none where it is no text
abbrev pub text_in : Value → List ℕ
text_in (Text t) = t
text_in Null = []
text_in (Int n) = []
text_in (Real x) = []
text_in (Blob b) = []

-- the number, and the text, in a value that may be NULL
abbrev pub number_if : Value → Option ℕ
number_if Null = None
number_if (Int n) = Some (number_in (Int n))
number_if (Real x) = Some 0
number_if (Text t) = Some 0
number_if (Blob b) = Some 0

abbrev pub text_if : Value → Option (List ℕ)
text_if Null = None
text_if (Text t) = Some t
text_if (Int n) = Some []
text_if (Real x) = Some []
text_if (Blob b) = Some []
