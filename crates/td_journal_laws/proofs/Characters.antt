-- The texts that stand in what is said of changes: JSON escapes nothing in them.
use Rattle.std.proofs.Common.{◌≡◌, ℕ, ◌+◌, ◌-◌, ◌/◌, ◌%◌, ◌≤◌, List, [], ◌∷◌, length, take, drop, All, true, refl, sym, arith, inl, inr}
use Rattle.std.proofs.lemmas.List.{take-append-drop}
use Rattle.std.proofs.lemmas.List.Elements.{All-append, All-head, All-same, All-tail, All-weaker}
use Rattle.std.specs.Char.{IsAsciiDigit, IsAsciiUppercase}
use Rattle.std.specs.List.{list_all}
use Rattle.ascii_text.specs.Digits.{IsMark, fixed_decimal}
use Rattle.td_answers.specs.Unescaped.{is_unescaped}
use Rattle.td_answers.proofs.Texts.{between, beyond}
use Rattle.td_base.specs.Codes.{IsAccessCode, IsEori, IsLrn, IsLrnCharacter, holder_text}
use Rattle.td_base.specs.Days.{day_of, day_text, month_of, year_of}
use Rattle.td_base.specs.References.{IsReferenceText, front_of}
use Rattle.td_base.proofs.Checked.{front_marks}
use Rattle.td_movement.specs.States.{state_name}
use Rattle.td_movement.specs.declared.state.State.{State}
use Rattle.td_movement.specs.declared.state.State.TheVariants.{Accepted, Cancelled, Released, Enquired, Arrived, Discrepant, Cleared, WrittenOff}

-- a text of which JSON escapes nothing
abbrev pub IsUnescaped : List ℕ → Type 0
IsUnescaped text = list_all is_unescaped text ≡ true

of_class : (P : ℕ → Type 0) → ((c : ℕ) → P c → is_unescaped c ≡ true) → (text : List ℕ) → All P text → IsUnescaped text
of_class P each [] all = refl
of_class P each (c ∷ text) all = rw (each c (All-head P c text all), of_class P each text (All-tail P c text all)) refl

mark : (c : ℕ) → IsMark c → is_unescaped c ≡ true
mark c (inl digit) = between c (omega (arith, digit.0)) (omega (arith, digit.1))
mark c (inr letter) = between c (omega (arith, letter.0)) (omega (arith, letter.1))

of_marks : (text : List ℕ) → All IsMark text → IsUnescaped text
of_marks text all = of_class IsMark mark text all

lrn_character : (c : ℕ) → IsLrnCharacter c → is_unescaped c ≡ true
lrn_character c (inl (inl (inl digit))) = between c (omega (arith, digit.0)) (omega (arith, digit.1))
lrn_character c (inl (inl (inr capital))) = between c (omega (arith, capital.0)) (omega (arith, capital.1))
lrn_character c (inl (inr letter)) = beyond c (omega (arith, letter.0))
lrn_character c (inr (inl dash)) = rw dash refl
lrn_character c (inr (inr (inl slash))) = rw slash refl
lrn_character c (inr (inr (inr point))) = rw point refl

pub lrn_plain : (text : List ℕ) → IsLrn text → IsUnescaped text
lrn_plain text h = of_class IsLrnCharacter lrn_character text h.characters

pub code_plain : (text : List ℕ) → IsAccessCode text → IsUnescaped text
code_plain text h = of_marks text h.marks

pub eori_plain : (text : List ℕ) → IsEori text → IsUnescaped text
eori_plain text h =
    let letters = All-weaker IsAsciiUppercase IsMark (λ c h. inr h) (take 2 text) h.country in
    of_marks text (All-same IsMark text _ (sym (take-append-drop 2 text)) (All-append IsMark (take 2 text) (drop 2 text) letters h.marks))

pub reference_plain : (places : ℕ) (text : List ℕ) → 5 ≤ places → IsReferenceText places text → IsUnescaped text
reference_plain places text some h =
    let last = All-weaker IsAsciiDigit IsMark (λ c h. inl h) (drop (length text - 1) text) h.form.last in
    let all = All-append IsMark (front_of text) (drop (length text - 1) text) (front_marks text (omega (arith, h.size)) h.form) last in
    of_marks text (All-same IsMark text _ (sym (take-append-drop (length text - 1) text)) all)

digit : (n : ℕ) → is_unescaped (48 + n % 10) ≡ true
digit n = between (48 + n % 10) (omega arith) (omega arith)

pub holder_plain : (n : ℕ) → IsUnescaped (holder_text n)
holder_plain n =
    rw (digit (n / 100000), digit (n / 10000), digit (n / 1000), digit (n / 100), digit (n / 10), digit n) refl

pub day_plain : (n : ℕ) → IsUnescaped (day_text n)
unfolding fixed_decimal
day_plain n =
    let y = year_of n in
    let m = month_of n in
    let d = day_of n in
    rw (digit (y / 1000), digit (y / 100), digit (y / 10), digit (y / 1), digit (m / 10), digit (m / 1), digit (d / 10), digit (d / 1)) refl

pub state_plain : (s : State) → IsUnescaped (state_name s)
state_plain Accepted = refl
state_plain Cancelled = refl
state_plain Released = refl
state_plain Enquired = refl
state_plain Arrived = refl
state_plain Discrepant = refl
state_plain Cleared = refl
state_plain WrittenOff = refl
