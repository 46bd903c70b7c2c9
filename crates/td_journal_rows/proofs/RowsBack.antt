-- The rows that are read of rows' lines are those rows, also where the last line is torn.
use Rattle.std.proofs.Common.{◌≡◌, ℕ, ◌+◌, ◌^◌, ◌<◌, ◌==◌, Bool, true, false, cond, List, [], ◌∷◌, ◌++◌, length, map, take, All, Option, Some, option_and_then, option_map, Result, Ok, decimal, refl, sym, ap, ap₂, subst, ◌∙◌, arith, append_assoc, append-nil}
use Rattle.std.proofs.lemmas.Bool.{ne_eqb}
use Rattle.std.proofs.lemmas.Fmt.{decimal_nonempty, length-decimal-le}
use Rattle.std.proofs.lemmas.List.{length-append, take-append-le}
use Rattle.std.proofs.lemmas.List.Elements.{All-append, All-cons, All-head, All-nil, All-tail, All-take, All-weaker}
use Rattle.std.proofs.lemmas.List.Splits.{join_with_byte-slice_split, slice_split_at, slice_split_none}
use Rattle.std.specs.Char.{IsAsciiDigit}
use Rattle.std.specs.List.{AllByRecursion, join_with_byte, list_any}
use Rattle.csv.specs.Machine.{Read, next_record}
use Rattle.csv.specs.Reading.{default_config, strip_bom}
use Rattle.csv.specs.Records.{field_at}
use Rattle.csv.specs.Writing.{default_writer, escaped, field_text, fields_text, is_blank, needs_byte}
use Rattle.csv.specs.declared.parser.State.TheVariants.{StartRecord}
use Rattle.csv.proofs.RoundTrip.{read-write}
use Rattle.td_journal_rows.specs.Rows.{HasNoLineFeed, HasRows, IsRow, RowText, all_but_last, ended_lines, last_of, lines_in, number_read, parts_of, row_fields, row_line, row_of_line, row_read, rows_from, rows_text, then_rows, torn_in}
use Rattle.td_journal_rows.proofs.Plain.{decimal_digits, decimal_value}
use Rattle.td_journal_rows.proofs.Lines.{number_is, some_part}

-- ---- numbers

number_reads : (n : ℕ) → n < 10 ^ 18 → number_read (decimal n) ≡ Some n
number_reads n small =
    let fits : n < 2 ^ 64 = omega (arith, small) in
    sym (number_is (decimal n) (Some n) (decimal_nonempty n fits) (length-decimal-le 18 n (omega arith) small fits) (decimal_digits n fits, sym (decimal_value n fits)))

-- ---- a row's line, up to its line feed

abbrev pub row_front : RowText → List ℕ
row_front row =
    field_text default_writer (decimal row.number) ++ fields_text default_writer (decimal row.at ∷ row.method ∷ row.path ∷ row.body ∷ row.reply ∷ [])

pub line_is : (row : RowText) → row_line row ≡ row_front row ++ 10 ∷ []
unfolding is_blank
line_is row = refl

escaped_line : (text : List ℕ) → HasNoLineFeed text → HasNoLineFeed (escaped default_writer text)
unfolding escaped
escaped_line [] none = none
escaped_line (c ∷ text) none = by (c == 34) (All-cons (λ c. (c == 10) ≡ false) c (escaped default_writer text) (All-head (λ c. (c == 10) ≡ false) c text none) (escaped_line text (All-tail (λ c. (c == 10) ≡ false) c text none)))
  where
    by : (b : Bool) → HasNoLineFeed (c ∷ escaped default_writer text) → HasNoLineFeed (cond b (34 ∷ c ∷ escaped default_writer text) (c ∷ escaped default_writer text))
    by true more = All-cons (λ c. (c == 10) ≡ false) 34 (c ∷ escaped default_writer text) refl more
    by false more = more

field_line : (text : List ℕ) → HasNoLineFeed text → HasNoLineFeed (field_text default_writer text)
field_line text none = by (list_any (needs_byte default_writer) text)
  where
    quoted : HasNoLineFeed (34 ∷ (escaped default_writer text ++ 34 ∷ []))
    quoted = All-cons (λ c. (c == 10) ≡ false) 34 (escaped default_writer text ++ 34 ∷ []) refl (All-append (λ c. (c == 10) ≡ false) (escaped default_writer text) (34 ∷ []) (escaped_line text none) (All-cons (λ c. (c == 10) ≡ false) 34 [] refl (All-nil (λ c. (c == 10) ≡ false))))

    by : (b : Bool) → HasNoLineFeed (cond b (34 ∷ (escaped default_writer text ++ 34 ∷ [])) text)
    by true = quoted
    by false = none

fields_line : (fields : List (List ℕ)) → AllByRecursion HasNoLineFeed fields → HasNoLineFeed (fields_text default_writer fields)
unfolding fields_text
fields_line [] all = All-nil (λ c. (c == 10) ≡ false)
fields_line (field ∷ fields) all =
    All-cons (λ c. (c == 10) ≡ false) 44 (field_text default_writer field ++ fields_text default_writer fields) refl
    (All-append (λ c. (c == 10) ≡ false) (field_text default_writer field) (fields_text default_writer fields) (field_line field all.0) (fields_line fields all.1))

digits_line : (n : ℕ) → n < 10 ^ 18 → HasNoLineFeed (decimal n)
digits_line n small = All-weaker IsAsciiDigit (λ c. (c == 10) ≡ false) (λ c digit. ne_eqb c 10 (λ e. omega (arith, digit.0))) (decimal n) (decimal_digits n (omega (arith, small)))

pub front_line : (row : RowText) → IsRow row → HasNoLineFeed (row_front row)
front_line row h =
    All-append (λ c. (c == 10) ≡ false) (field_text default_writer (decimal row.number)) _ (field_line (decimal row.number) (digits_line row.number h.number))
    (fields_line (decimal row.at ∷ row.method ∷ row.path ∷ row.body ∷ row.reply ∷ []) (digits_line row.at h.at, (h.method, (h.path, (h.body, (h.reply, tt))))))

-- ---- the parts of rows and a torn row

parts_of_rows : (rows : List RowText) (torn : List ℕ) → AllByRecursion IsRow rows → HasNoLineFeed torn → parts_of (rows_text rows ++ torn) ≡ map row_front rows ++ torn ∷ []
parts_of_rows [] torn all none = slice_split_none (λ c. c == 10) torn none
parts_of_rows (row ∷ rows) torn all none =
    let text : (row_line row ++ rows_text rows) ++ torn ≡ row_front row ++ 10 ∷ (rows_text rows ++ torn) =
    append_assoc (row_line row) (rows_text rows) torn ∙ (ap (λ line. line ++ (rows_text rows ++ torn)) (line_is row) ∙ append_assoc (row_front row) (10 ∷ []) (rows_text rows ++ torn)) in
    ap parts_of text ∙ (slice_split_at (λ c. c == 10) (row_front row) 10 (rows_text rows ++ torn) (front_line row all.0) refl ∙ ap (λ (parts : List (List ℕ)). row_front row ∷ parts) (parts_of_rows rows torn all.1 none))

front_of_last : (xs : List (List ℕ)) (x : List ℕ) → (all_but_last (xs ++ x ∷ []) ≡ xs) × (last_of (xs ++ x ∷ []) ≡ x)
front_of_last [] x = (refl, refl)
front_of_last (y ∷ []) x = (refl, refl)
front_of_last (y ∷ z ∷ xs) x = let more = front_of_last (z ∷ xs) x in (ap (λ (ys : List (List ℕ)). y ∷ ys) more.0, more.1)

-- ---- each line is read as its row

no_bom : (c : ℕ) (text : List ℕ) → c < 128 → strip_bom (c ∷ text) ≡ c ∷ text
unfolding strip_bom
no_bom c [] small = refl
no_bom c (d ∷ []) small = refl
no_bom c (d ∷ e ∷ text) small = let other : (c == 0xEF) ≡ false = ne_eqb c 0xEF (λ e. omega (arith, small, e)) in rw other refl

first_small : (text rest : List ℕ) → 0 < length text → All IsAsciiDigit text → strip_bom (field_text default_writer text ++ rest) ≡ field_text default_writer text ++ rest
first_small [] rest some digits = absurd (omega (arith, some))
first_small (c ∷ text) rest some digits = by (list_any (needs_byte default_writer) (c ∷ text))
  where
    by : (b : Bool) → strip_bom (cond b (34 ∷ (escaped default_writer (c ∷ text) ++ 34 ∷ [])) (c ∷ text) ++ rest) ≡ cond b (34 ∷ (escaped default_writer (c ∷ text) ++ 34 ∷ [])) (c ∷ text) ++ rest
    by true = no_bom 34 ((escaped default_writer (c ∷ text) ++ 34 ∷ []) ++ rest) (omega arith)
    by false = no_bom c (text ++ rest) (let digit = All-head IsAsciiDigit c text digits in omega (arith, digit.1))

line_kept : (row : RowText) → IsRow row → strip_bom (row_line row) ≡ row_line row
line_kept row h =
    let rest = fields_text default_writer (decimal row.at ∷ row.method ∷ row.path ∷ row.body ∷ row.reply ∷ []) in
    let number = decimal row.number in
    let same : row_line row ≡ field_text default_writer number ++ (rest ++ 10 ∷ []) = line_is row ∙ append_assoc (field_text default_writer number) rest (10 ∷ []) in
    ap strip_bom same ∙ (first_small number (rest ++ 10 ∷ []) (decimal_nonempty row.number (omega (arith, h.number))) (decimal_digits row.number (omega (arith, h.number))) ∙ sym same)

-- a row with other numbers
abbrev row_with : RowText → ℕ → ℕ → RowText
row_with row number at = record { number = number; at = at; method = row.method; path = row.path; body = row.body; reply = row.reply }

fields_read : (row : RowText) → IsRow row → row_read (row_fields row) ≡ Some row
unfolding field_at
fields_read row h =
    ap₂ (λ (number at : Option ℕ). option_and_then (λ number. option_map (λ at. row_with row number at) at) number) (number_reads row.number h.number) (number_reads row.at h.at)

pub line_reads : (row : RowText) → IsRow row → row_of_line (row_front row ++ 10 ∷ []) ≡ Some row
line_reads row h =
    let line : strip_bom (row_front row ++ 10 ∷ []) ≡ row_line row ++ [] = ap strip_bom (sym (line_is row)) ∙ (line_kept row h ∙ sym (append-nil (row_line row))) in
    ap (λ text. option_and_then row_read (option_map (λ read. read.0) (next_record default_config StartRecord [] [] text))) line
    ∙ (ap (λ (o : Option Read). option_and_then row_read (option_map (λ read. read.0) o)) (read-write (row_fields row) []) ∙ fields_read row h)

lines_read : (rows : List RowText) (n : ℕ) → AllByRecursion IsRow rows → rows_from n (map row_front rows) ≡ Ok rows
lines_read [] n all = refl
lines_read (row ∷ rows) n all =
    ap₂ (λ (first : Option RowText) (rest : Result (List RowText) ℕ). then_rows n first rest) (line_reads row all.0) (lines_read rows (n + 1) all.1)

-- ---- the laws

-- a row that isn't there to its end has no line feed
torn_line : (row : RowText) (n : ℕ) → IsRow row → n < length (row_line row) → HasNoLineFeed (take n (row_line row))
torn_line row n h short =
    let long : length (row_line row) ≡ length (row_front row) + 1 = ap length (line_is row) ∙ length-append (row_front row) (10 ∷ []) in
    let same : take n (row_line row) ≡ take n (row_front row) = ap (take n) (line_is row) ∙ take-append-le n (row_front row) (10 ∷ []) (omega (arith, short, long)) in
    subst HasNoLineFeed (sym same) (All-take (λ c. (c == 10) ≡ false) n (row_front row) (front_line row h))

pub cut_rows : (rows : List RowText) (row : RowText) (n : ℕ) → AllByRecursion IsRow rows → IsRow row → n < length (row_line row) → HasRows (rows_text rows ++ take n (row_line row)) rows (take n (row_line row))
cut_rows rows row n all h short =
    let torn = take n (row_line row) in
    let parts = parts_of_rows rows torn all (torn_line row n h short) in
    let both = front_of_last (map row_front rows) torn in
    record {
      whole = ap (λ (parts : List (List ℕ)). rows_from 1 (all_but_last parts)) parts ∙ (ap (rows_from 1) both.0 ∙ lines_read rows 1 all);
      torn = ap last_of parts ∙ both.1;
    }

-- parts that are joined by line feeds
joined : (part : List ℕ) (parts : List (List ℕ)) → ended_lines (all_but_last (part ∷ parts)) ++ last_of (part ∷ parts) ≡ join_with_byte 10 (part ∷ parts)
joined part [] = refl
joined part (next ∷ parts) =
    append_assoc (part ++ 10 ∷ []) (ended_lines (all_but_last (next ∷ parts))) (last_of (next ∷ parts))
    ∙ (append_assoc part (10 ∷ []) _ ∙ ap (λ (rest : List ℕ). part ++ 10 ∷ rest) (joined next parts))

joined_some : (parts : List (List ℕ)) → 0 < length parts → ended_lines (all_but_last parts) ++ last_of parts ≡ join_with_byte 10 parts
joined_some [] some = absurd (omega (arith, some))
joined_some (part ∷ parts) some = joined part parts

pub whole_text : (text : List ℕ) → ended_lines (lines_in text) ++ torn_in text ≡ text
whole_text text = joined_some (parts_of text) (some_part text) ∙ join_with_byte-slice_split 10 text
