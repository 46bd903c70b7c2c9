-- Texts of JSON in which nothing is escaped, and that no line feed ends.
use Rattle.std.proofs.Common.{◌≡◌, ℕ, suc, zero, ◌+◌, ◌/◌, ◌%◌, ◌==◌, Bool, true, false, cond, List, [], ◌∷◌, ◌++◌, refl, ap, ap₂, arith}
use Rattle.std.proofs.lemmas.Bool.{and_parts}
use Rattle.std.proofs.lemmas.Bool.Decides.{nat_tests}
use Rattle.std.proofs.lemmas.List.Elements.{All-append, All-cons, All-nil}
use Rattle.std.specs.Fmt.{digit_glyph, digits, digits_onto}
use Rattle.std.specs.List.{list_all}
use Rattle.std.specs.Prelude.{⊤, ◌&&◌, codes, decimal, not, nat_le, nat_lt}
use Rattle.serde_json.specs.Data.{Num, unsigned, negative, float, Data, null, boolean, number, string, array, object, Items, no_items, item, Members, no_members, member}
use Rattle.serde_json.specs.Written.{comma_if, compact_text, items_text, members_text}
use Rattle.td_answers.specs.Objects.{truth_body}
use Rattle.td_answers.specs.Unescaped.{in_quotes, is_unescaped}
use Rattle.td_answers.proofs.Texts.{written_text}
use Rattle.td_journal_rows.specs.Rows.{HasNoLineFeed}

-- ---- data of texts in which nothing is escaped

abbrev pub IsUnsigned : Num → Type 0
IsUnsigned (unsigned n) = ⊤
IsUnsigned (negative z) = ⊥
IsUnsigned (float x) = ⊥

abbrev mutual
  pub IsPlain : Data → Type 0
  IsPlain null = ⊤
  IsPlain (boolean b) = ⊤
  IsPlain (number n) = IsUnsigned n
  IsPlain (string s) = list_all is_unescaped s ≡ true
  IsPlain (array ds) = ArePlain ds
  IsPlain (object ms) = ArePlainMembers ms

  pub ArePlain : Items → Type 0
  ArePlain no_items = ⊤
  ArePlain (item d ds) = IsPlain d × ArePlain ds

  pub ArePlainMembers : Members → Type 0
  ArePlainMembers no_members = ⊤
  ArePlainMembers (member k d ms) = (list_all is_unescaped k ≡ true) × IsPlain d × ArePlainMembers ms

-- its text
abbrev pub number_shown : Num → List ℕ
number_shown (unsigned n) = decimal n
number_shown (negative z) = []
number_shown (float x) = []

abbrev mutual
  pub shown : Data → List ℕ
  shown null = codes "null"
  shown (boolean b) = truth_body b
  shown (number n) = number_shown n
  shown (string s) = in_quotes s
  shown (array ds) = 91 ∷ items_shown false ds
  shown (object ms) = 123 ∷ members_shown false ms

  pub items_shown : Bool → Items → List ℕ
  items_shown later no_items = 93 ∷ []
  items_shown later (item d ds) = comma_if later ++ (shown d ++ items_shown true ds)

  pub members_shown : Bool → Members → List ℕ
  members_shown later no_members = 125 ∷ []
  members_shown later (member k d ms) = comma_if later ++ (in_quotes k ++ 58 ∷ (shown d ++ members_shown true ms))

written_truth : (b : Bool) → compact_text (boolean b) ≡ truth_body b
written_truth true = refl
written_truth false = refl

mutual
  pub written : (d : Data) → IsPlain d → compact_text d ≡ shown d
  written null h = refl
  written (boolean b) h = written_truth b
  written (number (unsigned n)) h = refl
  written (number (negative z)) h = absurd h
  written (number (float x)) h = absurd h
  written (string s) h = written_text s h
  written (array ds) h = ap (λ (text : List ℕ). 91 ∷ text) (written_items false ds h)
  written (object ms) h = ap (λ (text : List ℕ). 123 ∷ text) (written_members false ms h)

  written_items : (later : Bool) (ds : Items) → ArePlain ds → items_text later ds ≡ items_shown later ds
  written_items later no_items h = refl
  written_items later (item d ds) h = ap₂ (λ (a b : List ℕ). comma_if later ++ (a ++ b)) (written d h.0) (written_items true ds h.1)

  written_members : (later : Bool) (ms : Members) → ArePlainMembers ms → members_text later ms ≡ members_shown later ms
  written_members later no_members h = refl
  written_members later (member k d ms) h =
      let key : compact_text (string k) ≡ in_quotes k = written_text k h.0 in
      ap₂ (λ (a b : List ℕ). comma_if later ++ (a ++ 58 ∷ b)) key (ap₂ (λ (a b : List ℕ). a ++ b) (written d h.1) (written_members true ms h.2))

-- ---- no line ends within it

abbrev IsNone : ℕ → Type 0
IsNone c = (c == 10) ≡ false

glyph_none : (d : ℕ) → IsNone (digit_glyph false d)
glyph_none d = by (nat_lt d 10)
  where
    by : (b : Bool) → IsNone (cond b (48 + d) (87 + d))
    by true = grind (arith, nat_tests)
    by false = grind (arith, nat_tests)

onto_none : (k n : ℕ) (rest : List ℕ) → HasNoLineFeed rest → HasNoLineFeed (digits_onto k 10 false n rest)
onto_none zero n rest none = none
onto_none (suc k) n rest none =
    let more = All-cons IsNone (digit_glyph false (n % 10)) rest (glyph_none (n % 10)) none in
    by (n / 10 == 0) more (onto_none k (n / 10) (digit_glyph false (n % 10) ∷ rest) more)
  where
    by : (b : Bool) → HasNoLineFeed (digit_glyph false (n % 10) ∷ rest) → HasNoLineFeed (digits_onto k 10 false (n / 10) (digit_glyph false (n % 10) ∷ rest))
        → HasNoLineFeed (cond b (digit_glyph false (n % 10) ∷ rest) (digits_onto k 10 false (n / 10) (digit_glyph false (n % 10) ∷ rest)))
    by true one more = one
    by false one more = more

decimal_none : (n : ℕ) → HasNoLineFeed (decimal n)
unfolding digits
decimal_none n = onto_none 64 n [] (All-nil IsNone)

unescaped_none : (text : List ℕ) → list_all is_unescaped text ≡ true → HasNoLineFeed text
unescaped_none [] h = All-nil IsNone
unescaped_none (c ∷ text) h =
    let both = and_parts (is_unescaped c) (list_all is_unescaped text) h in
    let low : nat_le 32 c ≡ true = (and_parts (nat_le 32 c) (not (c == 34) && not (c == 92)) both.0).0 in
    let here : (c == 10) ≡ false = grind (arith, nat_tests) in
    All-cons IsNone c text here (unescaped_none text both.1)

quotes_none : (text : List ℕ) → list_all is_unescaped text ≡ true → HasNoLineFeed (in_quotes text)
quotes_none text h =
    All-cons IsNone 34 (text ++ 34 ∷ []) refl (All-append IsNone text (34 ∷ []) (unescaped_none text h) (All-cons IsNone 34 [] refl (All-nil IsNone)))

comma_none : (later : Bool) → HasNoLineFeed (comma_if later)
comma_none true = All-cons IsNone 44 [] refl (All-nil IsNone)
comma_none false = All-nil IsNone

truth_none : (b : Bool) → HasNoLineFeed (truth_body b)
truth_none true = unescaped_none (codes "true") refl
truth_none false = unescaped_none (codes "false") refl

mutual
  pub one_line : (d : Data) → IsPlain d → HasNoLineFeed (shown d)
  one_line null h = unescaped_none (codes "null") refl
  one_line (boolean b) h = truth_none b
  one_line (number (unsigned n)) h = decimal_none n
  one_line (number (negative z)) h = absurd h
  one_line (number (float x)) h = absurd h
  one_line (string s) h = quotes_none s h
  one_line (array ds) h = All-cons IsNone 91 (items_shown false ds) refl (items_one_line false ds h)
  one_line (object ms) h = All-cons IsNone 123 (members_shown false ms) refl (members_one_line false ms h)

  items_one_line : (later : Bool) (ds : Items) → ArePlain ds → HasNoLineFeed (items_shown later ds)
  items_one_line later no_items h = All-cons IsNone 93 [] refl (All-nil IsNone)
  items_one_line later (item d ds) h =
      All-append IsNone (comma_if later) (shown d ++ items_shown true ds) (comma_none later)
      (All-append IsNone (shown d) (items_shown true ds) (one_line d h.0) (items_one_line true ds h.1))

  members_one_line : (later : Bool) (ms : Members) → ArePlainMembers ms → HasNoLineFeed (members_shown later ms)
  members_one_line later no_members h = All-cons IsNone 125 [] refl (All-nil IsNone)
  members_one_line later (member k d ms) h =
      let behind = All-append IsNone (shown d) (members_shown true ms) (one_line d h.1) (members_one_line true ms h.2) in
      All-append IsNone (comma_if later) (in_quotes k ++ 58 ∷ (shown d ++ members_shown true ms)) (comma_none later)
      (All-append IsNone (in_quotes k) (58 ∷ (shown d ++ members_shown true ms)) (quotes_none k h.0) (All-cons IsNone 58 (shown d ++ members_shown true ms) refl behind))
