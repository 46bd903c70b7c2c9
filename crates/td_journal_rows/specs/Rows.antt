-- Rows of a journal: each is a line of CSV (RFC 4180) with six fields and a line feed behind it.
use Rattle.std.specs.Prelude.{◌≡◌, ⊤, false, ℕ, ◌+◌, ◌^◌, ◌<◌, ◌==◌, ◌&&◌, nat_le, if◌then◌else◌, List, [], ◌∷◌, ◌++◌, length, All, flat_map, decimal, Option, Some, None, option_and_then, option_map, Result, Ok, Err}
use Rattle.std.specs.Char.{is_ascii_digit}
use Rattle.std.specs.List.{list_all, slice_split}
use Rattle.csv.specs.Machine.{next_record}
use Rattle.csv.specs.Reading.{default_config, strip_bom}
use Rattle.csv.specs.Records.{field_at}
use Rattle.csv.specs.Writing.{default_writer, row_text}
use Rattle.csv.specs.declared.parser.State.TheVariants.{StartRecord}
use Rattle.ascii_text.specs.Digits.{digits_value}
use Rattle.td_commands.specs.declared.command.Command.{Command}
use Rattle.td_journal_rows.specs.Requests.{request_body, request_method, request_path}
use Rattle.td_journal_rows.specs.declared.rows.JournalFault.{JournalFault}
use Rattle.td_journal_rows.specs.declared.rows.JournalFault.TheVariants.{BadRow, NoMemory}
use Rattle.td_journal_rows.specs.declared.rows.JournalRow.{JournalRow}

-- a row, by its numbers and texts
pub record RowText : Type 0 where
  pub number : ℕ
  pub at : ℕ
  pub method : List ℕ
  pub path : List ℕ
  pub body : List ℕ
  pub reply : List ℕ

-- a row of the code
abbrev pub row_shown : JournalRow → RowText
row_shown row = record {
  number = row.number;
  at = row.at;
  method = row.method.items;
  path = row.path.items;
  body = row.body.items;
  reply = row.reply.items;
}

-- its fields, in their order
abbrev pub row_fields : RowText → List (List ℕ)
row_fields row = decimal row.number ∷ decimal row.at ∷ row.method ∷ row.path ∷ row.body ∷ row.reply ∷ []

-- its line: a field with a comma, a quote or the end of a line in it stands in quotes
abbrev pub row_line : RowText → List ℕ
row_line row = row_text default_writer (row_fields row)

-- the text of rows, one behind the other
abbrev pub rows_text : List RowText → List ℕ
rows_text rows = flat_map row_line rows

-- no line ends within a text
abbrev pub HasNoLineFeed : List ℕ → Type 0
HasNoLineFeed text = All (λ c. (c == 10) ≡ false) text

-- one line, with the line feed that ends it
pub record IsOneLine (line : List ℕ) : Type 0 where
  pub front : List ℕ
  pub line_is : line ≡ front ++ 10 ∷ []
  pub none : HasNoLineFeed front

-- a row that stands on one line, with numbers of at most 18 digits
pub record IsRow (row : RowText) : Type 0 where
  pub number : row.number < 10 ^ 18
  pub at : row.at < 10 ^ 18
  pub method : HasNoLineFeed row.method
  pub path : HasNoLineFeed row.path
  pub body : HasNoLineFeed row.body
  pub reply : HasNoLineFeed row.reply

-- the row of an accepted change: its request in the one form, and the body of what was said
abbrev pub change_row : ℕ → ℕ → Command → List ℕ → RowText
change_row number at command reply = record {
  number = number;
  at = at;
  method = request_method command;
  path = request_path command;
  body = request_body command;
  reply = reply;
}

-- ---- reading

-- what stands between the line feeds of a text
abbrev pub parts_of : List ℕ → List (List ℕ)
parts_of text = slice_split (λ c. c == 10) text

-- all of them but the last, which no line feed ends
abbrev pub all_but_last : List (List ℕ) → List (List ℕ)
all_but_last [] = []
all_but_last (last ∷ []) = []
all_but_last (part ∷ next ∷ parts) = part ∷ all_but_last (next ∷ parts)

abbrev pub last_of : List (List ℕ) → List ℕ
last_of [] = []
last_of (last ∷ []) = last
last_of (part ∷ next ∷ parts) = last_of (next ∷ parts)

-- the whole lines of a text, without their line feeds
abbrev pub lines_in : List ℕ → List (List ℕ)
lines_in text = all_but_last (parts_of text)

-- what stands behind the last line feed: nothing, or a torn row
abbrev pub torn_in : List ℕ → List ℕ
torn_in text = last_of (parts_of text)

-- a number of 1 to 18 digits
abbrev pub number_read : List ℕ → Option ℕ
number_read text =
    if nat_le 1 (length text) && nat_le (length text) 18 && list_all is_ascii_digit text
    then Some (digits_value text) else None

abbrev pub text_or_none : Option (List ℕ) → List ℕ
text_or_none None = []
text_or_none (Some text) = text

-- the text of a field, counted from 0
abbrev pub text_at : List (List ℕ) → ℕ → List ℕ
text_at fields place = text_or_none (field_at fields place)

-- the row of a record of six fields
abbrev pub row_read : List (List ℕ) → Option RowText
row_read fields =
    if length fields == 6
    then option_and_then (λ number. option_map (λ at. record {
      number = number;
      at = at;
      method = text_at fields 2;
      path = text_at fields 3;
      body = text_at fields 4;
      reply = text_at fields 5;
    }) (number_read (text_at fields 1))) (number_read (text_at fields 0))
    else None

-- the row of a line with its line feed, read as a text of CSV by itself
abbrev pub row_of_line : List ℕ → Option RowText
row_of_line line =
    option_and_then row_read
    (option_map (λ read. read.0) (next_record default_config StartRecord [] [] (strip_bom line)))

-- what row n is, before what the rows behind it are
abbrev pub then_rows : ℕ → Option RowText → Result (List RowText) ℕ → Result (List RowText) ℕ
then_rows n None rest = Err n
then_rows n (Some row) (Err m) = Err m
then_rows n (Some row) (Ok rows) = Ok (row ∷ rows)

-- the rows of lines, the first of which is row n; or the first one that is none
abbrev pub rows_from : ℕ → List (List ℕ) → Result (List RowText) ℕ
rows_from n [] = Ok []
rows_from n (line ∷ lines) = then_rows n (row_of_line (line ++ 10 ∷ [])) (rows_from (n + 1) lines)

-- the whole rows of a journal's text
abbrev pub rows_in : List ℕ → Result (List RowText) ℕ
rows_in text = rows_from 1 (lines_in text)

-- a fault that tells of what was read
abbrev pub Tells : Result (List RowText) ℕ → JournalFault → Type 0
Tells read (BadRow row) = read ≡ Err row
Tells read NoMemory = ⊤

-- a text has these whole rows, and this torn row behind them
pub record HasRows (text : List ℕ) (rows : List RowText) (rest : List ℕ) : Type 0 where
  pub whole : rows_in text ≡ Ok rows
  pub torn : torn_in text ≡ rest

-- the lines of a text with their line feeds
abbrev pub ended_lines : List (List ℕ) → List ℕ
ended_lines lines = flat_map (λ line. line ++ 10 ∷ []) lines
