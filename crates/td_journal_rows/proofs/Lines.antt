-- The lines of a journal's text, and the rows that are read of them one by one.
use Rattle.std.proofs.Common.{◌≡◌, ℕ, ◌+◌, ◌<◌, ◌≤◌, ◌==◌, List, [], ◌∷◌, ◌++◌, length, take, drop, get_or, All, Bool, true, false, cond, Option, Some, None, Result, Ok, Err, refl, sym, ap, subst, ◌∙◌, arith, append_assoc, append-nil, rules}
use Rattle.std.proofs.lemmas.Bool.{eqb-true, ltb-false, ltb-true}
use Rattle.std.proofs.lemmas.List.{get_or-take, length-take-le, take_more}
use Rattle.std.proofs.lemmas.List.Splits.{length-slice_split, slice_split_first, slice_split_none}
use Rattle.std.proofs.lemmas.List.Sums.{fails_before_first, passes_at_first}
use Rattle.std.specs.Char.{IsAsciiDigit, is_ascii_digit}
use Rattle.std.specs.List.{list_all, position, position_or_len}
use Rattle.std.specs.Prelude.{SomeIff, nat_lt}
use Rattle.ascii_text.specs.Digits.{digits_value}
use Rattle.ascii_text.proofs.Decided.{digits_decided, le_decided, some_where}
use Rattle.td_journal_rows.specs.Rows.{RowText, all_but_last, last_of, lines_in, number_read, parts_of, row_of_line, rows_from, then_rows, torn_in}

-- ---- numbers

pub number_is : (text : List ℕ) (r : Option ℕ) → 1 ≤ length text → length text ≤ 18 → SomeIff r (All IsAsciiDigit text) (digits_value text) → r ≡ number_read text
number_is text r some few h =
    rw ((le_decided 1 (length text)).1 some, (le_decided (length text) 18).1 few) (some_where (list_all is_ascii_digit text) r (digits_value text) (digits_decided text) h)

-- ---- parts

pub some_part : (text : List ℕ) → 0 < length (parts_of text)
some_part text = omega (arith, length-slice_split (λ c. c == 10) text)

before_last : (line : List ℕ) (parts : List (List ℕ)) → 0 < length parts → all_but_last (line ∷ parts) ≡ line ∷ all_but_last parts
before_last line [] some = absurd (omega (arith, some))
before_last line (part ∷ parts) some = refl

same_last : (line : List ℕ) (parts : List (List ℕ)) → 0 < length parts → last_of (line ∷ parts) ≡ last_of parts
same_last line [] some = absurd (omega (arith, some))
same_last line (part ∷ parts) some = refl

-- a text whose first line is cut off
pub cut_lines : (text line behind : List ℕ) → parts_of text ≡ line ∷ parts_of behind → lines_in text ≡ line ∷ lines_in behind
cut_lines text line behind cut = rw cut (before_last line (parts_of behind) (some_part behind))

pub cut_torn : (text line behind : List ℕ) → parts_of text ≡ line ∷ parts_of behind → torn_in text ≡ torn_in behind
cut_torn text line behind cut = rw cut (same_last line (parts_of behind) (some_part behind))

-- a text with no line
pub no_line : (text : List ℕ) → parts_of text ≡ text ∷ [] → (lines_in text ≡ []) × (torn_in text ≡ text)
no_line text uncut = (rw uncut refl, rw uncut refl)

-- ---- rows that are read one by one

-- rows that were read, and what is read behind them
abbrev pub behind : List RowText → Result (List RowText) ℕ → Result (List RowText) ℕ
behind done (Ok rows) = Ok (done ++ rows)
behind done (Err n) = Err n

one_more : (done : List RowText) (n : ℕ) (row : RowText) (r : Result (List RowText) ℕ) → behind done (then_rows n (Some row) r) ≡ behind (done ++ row ∷ []) r
one_more done n row (Ok rows) = ap Ok (sym (append_assoc done (row ∷ []) rows))
one_more done n row (Err m) = refl

-- a row more
pub row_taken : (done : List RowText) (n : ℕ) (text line rest : List ℕ) (row : RowText) → parts_of text ≡ line ∷ parts_of rest → row_of_line (line ++ 10 ∷ []) ≡ Some row
    → behind done (rows_from n (lines_in text)) ≡ behind (done ++ row ∷ []) (rows_from (n + 1) (lines_in rest))
row_taken done n text line rest row cut is =
    ap (λ lines. behind done (rows_from n lines)) (cut_lines text line rest cut)
    ∙ ap (λ r. behind done (then_rows n r (rows_from (n + 1) (lines_in rest)))) is ∙ one_more done n row (rows_from (n + 1) (lines_in rest))

-- a line that is no row
pub row_refused : (done : List RowText) (n : ℕ) (text line rest : List ℕ) → parts_of text ≡ line ∷ parts_of rest → row_of_line (line ++ 10 ∷ []) ≡ None
    → behind done (rows_from n (lines_in text)) ≡ Err n
row_refused done n text line rest cut is =
    ap (λ lines. behind done (rows_from n lines)) (cut_lines text line rest cut)
    ∙ ap (λ r. behind done (then_rows n r (rows_from (n + 1) (lines_in rest)))) is

-- no row more
pub all_taken : (done : List RowText) (n : ℕ) (text : List ℕ) → parts_of text ≡ text ∷ [] → behind done (rows_from n (lines_in text)) ≡ Ok done
all_taken done n text uncut =
    ap (λ lines. behind done (rows_from n lines)) (no_line text uncut).0 ∙ ap Ok (append-nil done)

-- nothing was taken yet
pub none_taken : (r : Result (List RowText) ℕ) → r ≡ behind [] r
none_taken (Ok rows) = refl
none_taken (Err n) = refl

-- ---- the first line of a text

-- what the first place of a line feed tells
by_test : (b : Bool) (n end : ℕ) → cond b (Some n) None ≡ Some end → (n ≡ end) × (b ≡ true)
by_test true n end same = (search rules, refl)
by_test false n end same = absurd (cc)

by_none : (b : Bool) (n : ℕ) → cond b (Some n) None ≡ None → b ≡ false
by_none true n same = absurd (cc)
by_none false n same = refl

found_at : (text : List ℕ) (end : ℕ) → position (λ c. c == 10) text ≡ Some end → (position_or_len (λ c. c == 10) text ≡ end) × (position_or_len (λ c. c == 10) text < length text)
found_at text end found =
    let told = by_test (nat_lt (position_or_len (λ c. c == 10) text) (length text)) (position_or_len (λ c. c == 10) text) end found in
    (told.0, ltb-true _ _ told.1)

pub nowhere : (text : List ℕ) → position (λ c. c == 10) text ≡ None → All (λ c. (c == 10) ≡ false) text
nowhere text none k d within =
    let far : length text ≤ position_or_len (λ c. c == 10) text = ltb-false _ _ (by_none (nat_lt (position_or_len (λ c. c == 10) text) (length text)) (position_or_len (λ c. c == 10) text) none) in
    fails_before_first (λ c. c == 10) text k d (omega (arith, far, within))

-- where no line feed is found there is one part
pub uncut_parts : (text : List ℕ) → position (λ c. c == 10) text ≡ None → parts_of text ≡ text ∷ []
uncut_parts text none = slice_split_none (λ c. c == 10) text (nowhere text none)

-- where one is found the first part stands before it
pub cut_parts : (text : List ℕ) (end : ℕ) → position (λ c. c == 10) text ≡ Some end → parts_of text ≡ take end text ∷ parts_of (drop (end + 1) text)
cut_parts text end found =
    let place = found_at text end found in
    slice_split_first (λ c. c == 10) text 0 place.1 ∙ ap (λ n. take n text ∷ parts_of (drop (n + 1) text)) place.0

-- which has none
pub none_before : (text : List ℕ) (end : ℕ) → position (λ c. c == 10) text ≡ Some end → All (λ c. (c == 10) ≡ false) (take end text)
none_before text end found k d within =
    let place = found_at text end found in
    let size : length (take end text) ≡ end = length-take-le end text (omega (arith, place.0, place.1)) in
    let inside : k < end = omega (arith, size, within) in
    subst (λ (n : ℕ). (n == 10) ≡ false) (sym (get_or-take end text k d inside)) (fails_before_first (λ c. c == 10) text k d (omega (arith, inside, place.0)))

-- and the line feed ends it
pub cut_text : (text : List ℕ) (end : ℕ) → position (λ c. c == 10) text ≡ Some end → take (end + 1) text ≡ take end text ++ 10 ∷ []
cut_text text end found =
    let place = found_at text end found in
    let within : end < length text = omega (arith, place.0, place.1) in
    let byte : get_or text end 0 ≡ 10 = ap (λ n. get_or text n 0) (sym place.0) ∙ eqb-true _ 10 (passes_at_first (λ c. c == 10) text 0 place.1) in
    take_more text end 0 within ∙ ap (λ c. take end text ++ c ∷ []) byte
