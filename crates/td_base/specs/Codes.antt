-- Texts of the vocabulary: numbers of holders; codes of countries, by their form alone; numbers of economic operators (EORI); access
-- codes, local reference numbers and numbers of offices.
use Rattle.std.specs.Prelude.{◌≡◌, ℕ, ◌+◌, ◌/◌, ◌%◌, ◌≤◌, Bool, ◌&&◌, nat_eq, nat_le, if◌then◌else◌, List, [], ◌∷◌, length, All, Option, Some, None, take, drop, ◌⊎◌, ◌||◌, ◌==◌}
use Rattle.std.specs.Char.{IsAsciiDigit, is_ascii_digit, IsAsciiUppercase, is_ascii_uppercase, IsAsciiAlphanumeric, is_ascii_alphanumeric}
use Rattle.std.specs.Int.{is_in_range}
use Rattle.std.specs.List.{list_all}
use Rattle.ascii_text.specs.Digits.{digits_value, IsMark, is_mark}

-- a number that a holder may have: it is printed in six digits, and 0 is no holder's
abbrev pub IsHolderNumber : ℕ → Type 0
IsHolderNumber n = (1 ≤ n) × (n ≤ 999999)

-- whether a number is that
abbrev pub is_holder_number : ℕ → Bool
is_holder_number n = is_in_range 1 999999 n

-- the holder of a number, where it has one
abbrev pub holder_of : ℕ → Option ℕ
holder_of n = if is_holder_number n then Some n else None

-- six digits, and not all of them 0
pub record IsHolderText (text : List ℕ) : Type 0 where
  pub size : length text ≡ 6
  pub digits : All IsAsciiDigit text
  pub positive : 1 ≤ digits_value text

-- whether a text is that
abbrev pub is_holder_text : List ℕ → Bool
is_holder_text text =
    nat_eq (length text) 6 && list_all is_ascii_digit text && nat_le 1 (digits_value text)

-- the holder that a text names
abbrev pub holder_read : List ℕ → Option ℕ
holder_read text = if is_holder_text text then Some (digits_value text) else None

-- the number in six digits
abbrev pub holder_text : ℕ → List ℕ
holder_text n =
    (48 + n / 100000 % 10) ∷ (48 + n / 10000 % 10) ∷ (48 + n / 1000 % 10) ∷ (48 + n / 100 % 10)
    ∷ (48 + n / 10 % 10) ∷ (48 + n % 10) ∷ []

-- a code of a country
pub record IsCountry (text : List ℕ) : Type 0 where
  pub size : length text ≡ 2
  pub letters : All IsAsciiUppercase text

-- whether a text is one
abbrev pub is_country : List ℕ → Bool
is_country text = nat_eq (length text) 2 && list_all is_ascii_uppercase text

-- the country whose code a text is
abbrev pub country_read : List ℕ → Option (List ℕ)
country_read text = if is_country text then Some text else None

-- an EORI
pub record IsEori (text : List ℕ) : Type 0 where
  pub low : 3 ≤ length text
  pub high : length text ≤ 17
  pub country : All IsAsciiUppercase (take 2 text)
  pub marks : All IsMark (drop 2 text)

-- whether a text is one
abbrev pub is_eori : List ℕ → Bool
is_eori text =
    nat_le 3 (length text) && nat_le (length text) 17
    && list_all is_ascii_uppercase (take 2 text) && list_all is_mark (drop 2 text)

-- the EORI that a text is
abbrev pub eori_read : List ℕ → Option (List ℕ)
eori_read text = if is_eori text then Some text else None

-- an access code: four digits or capital letters
pub record IsAccessCode (text : List ℕ) : Type 0 where
  pub size : length text ≡ 4
  pub marks : All IsMark text

-- whether a text is one
abbrev pub is_access_code : List ℕ → Bool
is_access_code text = nat_eq (length text) 4 && list_all is_mark text

-- the access code that a text is
abbrev pub code_read : List ℕ → Option (List ℕ)
code_read text = if is_access_code text then Some text else None

-- the number of an office: two capital letters and six digits or capital letters
pub record IsOfficeNo (text : List ℕ) : Type 0 where
  pub size : length text ≡ 8
  pub country : All IsAsciiUppercase (take 2 text)
  pub marks : All IsMark (drop 2 text)

-- whether a text is one
abbrev pub is_office_no : List ℕ → Bool
is_office_no text =
    nat_eq (length text) 8 && list_all is_ascii_uppercase (take 2 text) && list_all is_mark (drop 2 text)

-- the number of an office that a text is
abbrev pub office_read : List ℕ → Option (List ℕ)
office_read text = if is_office_no text then Some text else None

-- a character of a local reference number: a digit, a letter, `-`, `/` or `.`
abbrev pub IsLrnCharacter : ℕ → Type 0
IsLrnCharacter c = IsAsciiAlphanumeric c ⊎ (c ≡ 45) ⊎ (c ≡ 47) ⊎ (c ≡ 46)

-- whether a character is one
abbrev pub is_lrn_character : ℕ → Bool
is_lrn_character c = is_ascii_alphanumeric c || c == 45 || c == 47 || c == 46

-- a local reference number (LRN): 1 to 22 of these
pub record IsLrn (text : List ℕ) : Type 0 where
  pub low : 1 ≤ length text
  pub high : length text ≤ 22
  pub characters : All IsLrnCharacter text

-- whether a text is one
abbrev pub is_lrn : List ℕ → Bool
is_lrn text = nat_le 1 (length text) && nat_le (length text) 22 && list_all is_lrn_character text

-- the LRN that a text is
abbrev pub lrn_read : List ℕ → Option (List ℕ)
lrn_read text = if is_lrn text then Some text else None
