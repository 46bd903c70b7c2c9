-- What stands on one line was a row with no line feed in its texts.
use Rattle.std.proofs.Common.{◌≡◌, ℕ, ◌^◌, ◌<◌, ◌≤◌, ◌==◌, Bool, true, false, cond, List, [], ◌∷◌, ◌++◌, length, drop, get_or, All, decimal, Option, Some, None, option_and_then, option_map, refl, sym, ap, subst, ◌∙◌}
use Rattle.std.proofs.lemmas.Bool.{and_parts}
use Rattle.std.proofs.lemmas.List.{append_cancel_right, drop_at, take_at}
use Rattle.std.proofs.lemmas.List.Elements.{All-cons, All-drop, All-get_or, All-head, All-nil, All-tail, All-take}
use Rattle.std.proofs.lemmas.Option.{cond_some, option_and_then_some}
use Rattle.std.proofs.lemmas.Str.Parse.{digits_value_short}
use Rattle.std.specs.Char.{IsAsciiDigit, is_ascii_digit}
use Rattle.std.specs.List.{AllByRecursion, list_all, list_any}
use Rattle.std.specs.Prelude.{nat_le, ◌&&◌}
use Rattle.csv.specs.Machine.{next_record}
use Rattle.csv.specs.Reading.{default_config, strip_bom}
use Rattle.csv.specs.Writing.{default_writer, escaped, field_text, fields_text, is_blank, needs_byte}
use Rattle.csv.specs.declared.parser.State.TheVariants.{StartRecord}
use Rattle.ascii_text.specs.Digits.{digits_value}
use Rattle.ascii_text.proofs.Decided.{digits_decided, le_decided}
use Rattle.td_journal_rows.specs.Rows.{HasNoLineFeed, IsRow, RowText, number_read, row_line, row_of_line, row_read, text_at}
use Rattle.td_journal_rows.proofs.Plain.{own}
use Rattle.td_journal_rows.proofs.RowsBack.{line_is, row_front}

abbrev IsNone : ℕ → Type 0
IsNone c = (c == 10) ≡ false

left_part : (a b : List ℕ) → HasNoLineFeed (a ++ b) → HasNoLineFeed a
left_part a b none = subst HasNoLineFeed (take_at a b (length a) refl) (All-take IsNone (length a) (a ++ b) none)

right_part : (a b : List ℕ) → HasNoLineFeed (a ++ b) → HasNoLineFeed b
right_part a b none = subst HasNoLineFeed (drop_at a b (length a) refl) (All-drop IsNone (length a) (a ++ b) none)

escaped_back : (text : List ℕ) → HasNoLineFeed (escaped default_writer text) → HasNoLineFeed text
unfolding escaped
escaped_back [] none = none
escaped_back (c ∷ text) none = by (c == 34) none (λ n. All-cons IsNone c text (All-head IsNone c (escaped default_writer text) n) (escaped_back text (All-tail IsNone c (escaped default_writer text) n)))
  where
    by : (b : Bool) → HasNoLineFeed (cond b (34 ∷ c ∷ escaped default_writer text) (c ∷ escaped default_writer text)) → (HasNoLineFeed (c ∷ escaped default_writer text) → HasNoLineFeed (c ∷ text))
        → HasNoLineFeed (c ∷ text)
    by true n rest = rest (All-tail IsNone 34 (c ∷ escaped default_writer text) n)
    by false n rest = rest n

field_back : (text : List ℕ) → HasNoLineFeed (field_text default_writer text) → HasNoLineFeed text
field_back text none = by (list_any (needs_byte default_writer) text) none
  where
    by : (b : Bool) → HasNoLineFeed (cond b (34 ∷ (escaped default_writer text ++ 34 ∷ [])) text) → HasNoLineFeed text
    by true n = escaped_back text (left_part (escaped default_writer text) (34 ∷ []) (All-tail IsNone 34 (escaped default_writer text ++ 34 ∷ []) n))
    by false n = n

fields_back : (fields : List (List ℕ)) → HasNoLineFeed (fields_text default_writer fields) → AllByRecursion HasNoLineFeed fields
unfolding fields_text
fields_back [] none = tt
fields_back (field ∷ fields) none =
    let both = All-tail IsNone 44 (field_text default_writer field ++ fields_text default_writer fields) none in (
      field_back field (left_part (field_text default_writer field) (fields_text default_writer fields) both),
      fields_back fields (right_part (field_text default_writer field) (fields_text default_writer fields) both),
    )

-- a row whose line is one line, with numbers of at most 18 digits
pub row_back : (row : RowText) (front : List ℕ) → row_line row ≡ front ++ 10 ∷ [] → HasNoLineFeed front → row.number < 10 ^ 18 → row.at < 10 ^ 18 → IsRow row
row_back row front line none small small_at =
    let same : row_front row ≡ front = append_cancel_right (row_front row) front (10 ∷ []) (sym (line_is row) ∙ line) in
    let each = fields_back (decimal row.at ∷ row.method ∷ row.path ∷ row.body ∷ row.reply ∷ []) (right_part (field_text default_writer (decimal row.number)) _ (subst HasNoLineFeed (sym same) none)) in
    record {
      number = small;
      at = small_at;
      method = each.1.0;
      path = each.1.1.0;
      body = each.1.1.1.0;
      reply = each.1.1.1.1.0;
    }

-- a number that was read has at most 18 digits
number_small : (text : List ℕ) (n : ℕ) → number_read text ≡ Some n → n < 10 ^ 18
number_small text n is =
    let told = cond_some _ (digits_value text) n is in
    let first = and_parts _ (list_all is_ascii_digit text) told.0 in
    let second = and_parts (nat_le 1 (length text)) (nat_le (length text) 18) first.0 in
    let digits : All IsAsciiDigit text = (digits_decided text).0 first.1 in
    let short : length text ≤ 18 = (le_decided (length text) 18).0 second.1 in
    subst (λ (m : ℕ). m < 10 ^ 18) told.1 (digits_value_short own text 18 (λ i within. All-get_or IsAsciiDigit text i 0 within digits) short)

-- so has the number of a row that was read
abbrev made : List (List ℕ) → ℕ → ℕ → RowText
made fields number at = record {
  number = number;
  at = at;
  method = text_at fields 2;
  path = text_at fields 3;
  body = text_at fields 4;
  reply = text_at fields 5;
}

made_number : (fields : List (List ℕ)) (number : ℕ) (o : Option ℕ) (row : RowText) → option_map (made fields number) o ≡ Some row → number ≡ row.number
made_number fields number None row is = cc
made_number fields number (Some at) row is = let same : made fields number at ≡ row = cc in ap (λ (r : RowText). r.number) same

fields_small : (fields : List (List ℕ)) (row : RowText) → row_read fields ≡ Some row → row.number < 10 ^ 18
fields_small fields row is = by (length fields == 6) is
  where
    by : (b : Bool) → cond b (option_and_then (λ number. option_map (made fields number) (number_read (text_at fields 1))) (number_read (text_at fields 0))) None ≡ Some row → row.number < 10 ^ 18
    by false none = cc
    by true there =
        option_and_then_some (λ number. option_map (made fields number) (number_read (text_at fields 1))) (number_read (text_at fields 0)) row there
        (λ number given more. subst (λ (n : ℕ). n < 10 ^ 18) (made_number fields number (number_read (text_at fields 1)) row more) (number_small (text_at fields 0) number given))

pub row_small : (line : List ℕ) (row : RowText) → row_of_line line ≡ Some row → row.number < 10 ^ 18
row_small line row is =
    option_and_then_some row_read (option_map (λ read. read.0) (next_record default_config StartRecord [] [] (strip_bom line))) row is (λ fields given read. fields_small fields row read)
