-- The text of data with no space is read as that data, with its members in order.
use Rattle.std.proofs.Common.{◌≡◌, ℕ, ◌^◌, ◌<◌, ◌≤◌, Bool, true, false, List, [], ◌∷◌, All, Some, Ok, refl, sym, ap, ◌∙◌, append-nil, arith, ◌++◌}
use Rattle.std.proofs.lemmas.List.Elements.{All-append, All-cons, All-nil, All-same}
use Rattle.std.proofs.lemmas.Str.{is_utf8-from_IsUtf8}
use Rattle.std.specs.Prelude.{⊤, is_some, option_and_then}
use Rattle.json.specs.Print.{quoted}
use Rattle.std.specs.Str.{IsUtf8}
use Rattle.json.specs.Json as json
use Rattle.json.specs.Lex.{tokens}
use Rattle.json.specs.Tree as tree
use Rattle.json.proofs.Printed.Decimals.{IsNumber-decimal}
use Rattle.json.proofs.Printed.Tokens.{tokens-print}
use Rattle.json.proofs.Printed.Trees.{ArePrintable-json_tokens, value-json_tokens}
use Rattle.serde_json.specs.Data.{Num, unsigned, negative, float, Data, null, boolean, number, string, array, object, Items, no_items, item, Members, no_members, member}
use Rattle.serde_json.specs.Find.{as_object}
use Rattle.serde_json.specs.Read.{max_depth, of_json, read}
use Rattle.serde_json.specs.Written.{comma_if, compact_text, items_outline, items_text, members_outline, members_text, outline}
use Rattle.serde_json.proofs.Texts.{print-outline}
use Rattle.td_fields.specs.Bodies.{object_of}
use Rattle.td_journal_rows.proofs.Plain.{IsPlain, IsShown, quoted_plain, shown_decimal, shown_plain, utf8_shown}

-- ---- data of plain texts and of numbers of 64 bits

abbrev pub IsSmall : Num → Type 0
IsSmall (unsigned n) = n < 2 ^ 64
IsSmall (negative z) = ⊥
IsSmall (float x) = ⊥

abbrev mutual
  pub IsSimple : Data → Type 0
  IsSimple null = ⊥
  IsSimple (boolean b) = ⊥
  IsSimple (number n) = IsSmall n
  IsSimple (string s) = All IsPlain s
  IsSimple (array ds) = AreSimple ds
  IsSimple (object ms) = AreSimpleMembers ms

  pub AreSimple : Items → Type 0
  AreSimple no_items = ⊤
  AreSimple (item d ds) = IsSimple d × AreSimple ds

  pub AreSimpleMembers : Members → Type 0
  AreSimpleMembers no_members = ⊤
  AreSimpleMembers (member k d ms) = All IsPlain k × IsSimple d × AreSimpleMembers ms

-- its numbers are numbers of JSON
mutual
  has_numbers : (d : Data) → IsSimple d → tree.HasNumbers (outline d)
  has_numbers null h = absurd h
  has_numbers (boolean b) h = absurd h
  has_numbers (number (unsigned n)) h = IsNumber-decimal n h
  has_numbers (number (negative z)) h = absurd h
  has_numbers (number (float x)) h = absurd h
  has_numbers (string s) h = tt
  has_numbers (array ds) h = items_have_numbers ds h
  has_numbers (object ms) h = members_have_numbers ms h

  items_have_numbers : (ds : Items) → AreSimple ds → tree.ItemsHaveNumbers (items_outline ds)
  items_have_numbers no_items h = tt
  items_have_numbers (item d ds) h = (has_numbers d h.0, items_have_numbers ds h.1)

  members_have_numbers : (ms : Members) → AreSimpleMembers ms → tree.MembersHaveNumbers (members_outline ms)
  members_have_numbers no_members h = tt
  members_have_numbers (member k d ms) h = (has_numbers d h.1, members_have_numbers ms h.2)

-- ---- its text

-- a sign of JSON
sign : (c : ℕ) → 32 ≤ c → c < 128 → IsShown c
sign c low high = record { low = low; high = high }

shown_comma : (later : Bool) → All IsShown (comma_if later)
shown_comma true = All-cons IsShown 44 [] (sign 44 (omega arith) (omega arith)) (All-nil IsShown)
shown_comma false = All-nil IsShown

shown_quoted : (text : List ℕ) → All IsPlain text → All IsShown (quoted text)
shown_quoted text plain =
    let quote = sign 34 (omega arith) (omega arith) in
    let closed = All-append IsShown text (34 ∷ []) (shown_plain text plain) (All-cons IsShown 34 [] quote (All-nil IsShown)) in
    All-same IsShown (quoted text) (34 ∷ (text ++ 34 ∷ [])) (quoted_plain text plain) (All-cons IsShown 34 (text ++ 34 ∷ []) quote closed)

mutual
  shown_text : (d : Data) → IsSimple d → All IsShown (compact_text d)
  shown_text null h = absurd h
  shown_text (boolean b) h = absurd h
  shown_text (number (unsigned n)) h = shown_decimal n h
  shown_text (number (negative z)) h = absurd h
  shown_text (number (float x)) h = absurd h
  shown_text (string s) h = shown_quoted s h
  shown_text (array ds) h = All-cons IsShown 91 (items_text false ds) (sign 91 (omega arith) (omega arith)) (shown_items false ds h)
  shown_text (object ms) h = All-cons IsShown 123 (members_text false ms) (sign 123 (omega arith) (omega arith)) (shown_members false ms h)

  shown_items : (later : Bool) (ds : Items) → AreSimple ds → All IsShown (items_text later ds)
  shown_items later no_items h = All-cons IsShown 93 [] (sign 93 (omega arith) (omega arith)) (All-nil IsShown)
  shown_items later (item d ds) h =
      All-append IsShown (comma_if later) (compact_text d ++ items_text true ds) (shown_comma later) (All-append IsShown (compact_text d) (items_text true ds) (shown_text d h.0) (shown_items true ds h.1))

  shown_members : (later : Bool) (ms : Members) → AreSimpleMembers ms → All IsShown (members_text later ms)
  shown_members later no_members h = All-cons IsShown 125 [] (sign 125 (omega arith) (omega arith)) (All-nil IsShown)
  shown_members later (member k d ms) h =
      let behind = All-append IsShown (compact_text d) (members_text true ms) (shown_text d h.1) (shown_members true ms h.2) in
      let colon = All-cons IsShown 58 (compact_text d ++ members_text true ms) (sign 58 (omega arith) (omega arith)) behind in
      All-append IsShown (comma_if later) (quoted k ++ 58 ∷ (compact_text d ++ members_text true ms)) (shown_comma later)
      (All-append IsShown (quoted k) (58 ∷ (compact_text d ++ members_text true ms)) (shown_quoted k h.0) colon)

-- a body that is such a text
pub shown_body : (body : List ℕ) (d : Data) → compact_text d ≡ body → IsSimple d → All IsShown body
shown_body body d same simple = All-same IsShown body (compact_text d) (sym same) (shown_text d simple)

-- what is read of its text is its JSON, converted
pub read_written : (d : Data) → IsSimple d → tree.depth (outline d) ≤ max_depth → read (compact_text d) ≡ of_json (outline d)
read_written d simple shallow =
    let told : tokens (compact_text d) ≡ tree.json_tokens (outline d) = ap tokens (sym (print-outline d)) ∙ tokens-print (tree.json_tokens (outline d)) (ArePrintable-json_tokens (outline d) (has_numbers d simple)) in
    let value : json.value max_depth (tokens (compact_text d)) ≡ Some (outline d, []) = ap (json.value max_depth) (told ∙ sym (append-nil (tree.json_tokens (outline d)))) ∙ value-json_tokens (outline d) max_depth [] shallow in
    ap (λ o. option_and_then of_json (option_and_then (λ p. json.if_last p.0 p.1) o)) value

-- the object of a body that is the text of data
pub object_is : (body : List ℕ) (d found : Data) → compact_text d ≡ body → IsSimple d → tree.depth (outline d) ≤ max_depth → of_json (outline d) ≡ Some found → is_some (as_object found) ≡ true
    → object_of body ≡ Ok found
object_is body d found same simple shallow converted is_object =
    let text : IsUtf8 body = utf8_shown body (shown_body body d same simple) in
    let reads : read body ≡ Some found = ap read (sym same) ∙ (read_written d simple shallow ∙ converted) in
    rw (is_utf8-from_IsUtf8 body text, reads) (rw is_object refl)
