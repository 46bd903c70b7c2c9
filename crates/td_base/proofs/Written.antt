-- A reference that is written part by part.
use Rattle.std.proofs.Common.{◌≡◌, ℕ, suc, ◌+◌, ◌-◌, ◌≤◌, List, [], ◌∷◌, ◌++◌, length, take, drop, set, All, Option, Some, arith, refl, ap, sym, ◌∙◌, append_assoc, append-nil}
use Rattle.std.proofs.lemmas.List.{take_at, drop_at, drop-drop, drop_all, length-append, length-drop, length-take-le, set_split}
use Rattle.std.proofs.lemmas.Slice.{take-put_mid}
use borrow.Rule.Slice.PartMut.{put_mid}
use Rattle.ascii_text.specs.Digits.{fixed_decimal, IsMark}
use Rattle.ascii_text.proofs.Decimals.{length-fixed_decimal}
use Rattle.td_base.specs.Codes.{IsCountry}
use Rattle.td_base.specs.References.{check_of, IsCheckable}
use Rattle.td_base.proofs.Checked.{some_of}
use Rattle.td_base.proofs.Identifiers.{numbers, with_behind, length-with_behind, marks_behind}
use Rattle.td_base.proofs.Numbered.{numbered_checkable}
use Rattle.std.specs.Option.{SomeIff}

-- a part that is replaced by one as long leaves the length
length-put_mid : (a k : ℕ) (xs ys : List ℕ) → length ys ≡ k → a + k ≤ length xs → length (put_mid a k xs ys) ≡ length xs
length-put_mid a k xs ys same fits =
    let rest = length-drop k (drop a xs) in
    let front = length-take-le a xs (omega arith) in
    simp (length-append, length-drop) (omega (arith, same, front))

-- a part that is replaced up to the end
last_part : (a : ℕ) (xs ys : List ℕ) → put_mid a (length xs - a) xs ys ≡ take a xs ++ ys
last_part a xs ys =
    let none : drop (length xs - a) (drop a xs) ≡ [] = drop_all (length xs - a) (drop a xs) (omega (arith, length-drop a xs)) in
    rw (none, append-nil) refl

-- the parts, one after the other
joined : (b y c h n : List ℕ) → 10 ≤ length b → length y ≡ 2 → length c ≡ 2 → length h ≡ 6 → let b₁ = y ++ drop 2 b in let b₂ = put_mid 2 2 b₁ c in let b₃ = put_mid 4 6 b₂ h in (length b₃ ≡ length b) × (put_mid 10 (length b₃ - 10) b₃ n ≡ y ++ c ++ (h ++ n))
joined b y c h n some two two' six =
    let b₁ = y ++ drop 2 b in
    let b₂ = put_mid 2 2 b₁ c in
    let b₃ = put_mid 4 6 b₂ h in
    let l₁ : length b₁ ≡ length b = simp (length-append, length-drop) (omega arith) in
    let l₂ : length b₂ ≡ length b = length-put_mid 2 2 b₁ c two' (omega arith) ∙ l₁ in
    let l₃ : length b₃ ≡ length b = length-put_mid 4 6 b₂ h six (omega arith) ∙ l₂ in
    let t₁ : take 2 b₁ ≡ y = take_at y (drop 2 b) 2 two in
    let t₂ : take 4 b₂ ≡ y ++ c = take-put_mid 2 2 b₁ c 4 (omega arith) (omega arith) ∙ ap (λ (xs : List ℕ). xs ++ c) t₁ in
    let t₃ : take 10 b₃ ≡ y ++ c ++ h = take-put_mid 4 6 b₂ h 10 (omega arith) (omega arith) ∙ ap (λ (xs : List ℕ). xs ++ h) t₂ in
    (l₃, last_part 10 b₃ n ∙ ap (λ (xs : List ℕ). xs ++ n) t₃ ∙ append_assoc (y ++ c) h n)

-- the front of a reference
pub front_written : (b y c h n : List ℕ) (year : ℕ) (country : List ℕ) (holder serial : ℕ) → 10 ≤ length b → IsCountry country → y ≡ fixed_decimal (length (take 2 b)) year → c ≡ country → let b₂ = put_mid 2 2 (y ++ drop 2 b) c in h ≡ fixed_decimal (length (take 6 (drop 4 b₂))) holder → let b₃ = put_mid 4 6 b₂ h in n ≡ fixed_decimal (length (take (length b₃ - 10) (drop 10 b₃))) serial → put_mid 10 (length b₃ - 10) b₃ n ≡ fixed_decimal 2 year ++ country ++ (fixed_decimal 6 holder ++ fixed_decimal (length b - 10) serial)
front_written b y c h n year country holder serial some form y_is c_is h_is n_is =
    let two : length (take 2 b) ≡ 2 = length-take-le 2 b (omega arith) in
    let y_two : length y ≡ 2 = rw (y_is, two) (length-fixed_decimal 2 year) in
    let c_two : length c ≡ 2 = rw c_is form.size in
    let b₁ = y ++ drop 2 b in
    let b₂ = put_mid 2 2 b₁ c in
    let b₃ = put_mid 4 6 b₂ h in
    let l₁ : length b₁ ≡ length b = simp (length-append, length-drop) (omega arith) in
    let l₂ : length b₂ ≡ length b = length-put_mid 2 2 b₁ c c_two (omega arith) ∙ l₁ in
    let six : length (take 6 (drop 4 b₂)) ≡ 6 = length-take-le 6 (drop 4 b₂) (omega (arith, length-drop 4 b₂)) in
    let h_six : length h ≡ 6 = ap length h_is ∙ length-fixed_decimal _ holder ∙ six in
    let all = joined b y c h n some y_two c_two h_six in
    let rest : length (take (length b₃ - 10) (drop 10 b₃)) ≡ length b - 10 = length-take-le (length b₃ - 10) (drop 10 b₃) (omega (arith, length-drop 10 b₃)) ∙ omega arith in
    let y_whole : y ≡ fixed_decimal 2 year = y_is ∙ ap (λ (w : ℕ). fixed_decimal w year) two in
    let h_whole : h ≡ fixed_decimal 6 holder = h_is ∙ ap (λ (w : ℕ). fixed_decimal w holder) six in
    let n_whole : n ≡ fixed_decimal (length b - 10) serial = n_is ∙ ap (λ (w : ℕ). fixed_decimal w serial) rest in
    all.1 ∙ ap (λ (xs : List ℕ). xs ++ c ++ (h ++ n)) y_whole ∙ ap (λ (xs : List ℕ). fixed_decimal 2 year ++ xs ++ (h ++ n)) c_is ∙ ap (λ (xs : List ℕ). fixed_decimal 2 year ++ country ++ (xs ++ n)) h_whole ∙ ap (λ (xs : List ℕ). fixed_decimal 2 year ++ country ++ (fixed_decimal 6 holder ++ xs)) n_whole

-- the check digit behind it
pub last_written : (b front : List ℕ) (last : ℕ) → 1 ≤ length b → length front ≡ length b - 1 → set (front ++ drop (length b - 1) b) (length b - 1) last ≡ front ++ last ∷ []
last_written b front last some size =
    let all = front ++ drop (length b - 1) b in
    let whole : length all ≡ length b = simp (length-append, length-drop) (omega arith) in
    let none : drop (suc (length b - 1)) all ≡ [] = drop_all (suc (length b - 1)) all (omega arith) in
    set_split all (length b - 1) last (omega arith) ∙ ap (λ (xs : List ℕ). xs ++ last ∷ drop (suc (length b - 1)) all) (take_at front (drop (length b - 1) b) (length b - 1) size) ∙ ap (λ (xs : List ℕ). front ++ last ∷ xs) none

-- the front that is written, and what stands behind it
pub front_is : (b front behind : List ℕ) (year : ℕ) (country : List ℕ) (holder serial : ℕ) → length behind + 11 ≤ length b → let digits = length b - 1 - length behind in front ≡ fixed_decimal 2 year ++ country ++ (fixed_decimal 6 holder ++ fixed_decimal (length (take digits b) - 10) serial)
    → front ++ behind ≡ fixed_decimal 2 year ++ country ++ with_behind (length b - 11 - length behind) holder serial behind
front_is b front behind year country holder serial some e =
    let digits = length b - 1 - length behind in
    let size : length (take digits b) - 10 ≡ length b - 11 - length behind = omega (arith, length-take-le digits b (omega arith)) in
    ap (λ f. f ++ behind) (e ∙ ap (λ (w : ℕ). fixed_decimal 2 year ++ country ++ numbers w holder serial) size)
    ∙ append_assoc (fixed_decimal 2 year ++ country) (numbers (length b - 11 - length behind) holder serial) behind

-- how long it is
pub front_size : (b front behind : List ℕ) (year : ℕ) (country : List ℕ) (holder serial : ℕ) → length behind + 11 ≤ length b → IsCountry country → front ++ behind ≡ fixed_decimal 2 year ++ country ++ with_behind (length b - 11 - length behind) holder serial behind → length (front ++ behind) ≡ length b - 1
front_size b front behind year country holder serial some form e =
    let width = length b - 11 - length behind in
    let all = length-append (fixed_decimal 2 year ++ country) (with_behind width holder serial behind) in
    let first = length-append (fixed_decimal 2 year) country in
    ap length e ∙ omega (arith, all, first, length-fixed_decimal 2 year, form.size, length-with_behind width holder serial behind)

-- what stands behind is put there
pub behind_put : (b front behind put : List ℕ) → length behind + 11 ≤ length b → length (front ++ behind) ≡ length b - 1 → put ≡ behind
    → let digits = length b - 1 - length behind in put_mid digits (length b - 1 - digits) (front ++ drop digits b) put ≡ front ++ behind ++ drop (length b - 1) b
behind_put b front behind put some size same =
    let digits = length b - 1 - length behind in
    let front_long : length front ≡ digits = omega (arith, size, length-append front behind) in
    let first : take digits (front ++ drop digits b) ≡ front = take_at front (drop digits b) digits front_long in
    let places : digits + (length b - 1 - digits) ≡ length b - 1 = omega arith in
    let back : drop digits (front ++ drop digits b) ≡ drop digits b = drop_at front (drop digits b) digits front_long in
    let rest : drop (length b - 1 - digits) (drop digits b) ≡ drop (length b - 1) b = drop-drop (length b - 1 - digits) digits b ∙ ap (λ n. drop n b) places in
    rw (first, back, rest, same) (sym (append_assoc front behind (drop (length b - 1) b)))

-- its check digit
pub found_digit : (b front behind : List ℕ) (r : Option ℕ) (year : ℕ) (country : List ℕ) (holder serial : ℕ) → length behind + 11 ≤ length b → length b ≤ 41 → All IsMark behind → IsCountry country → front ++ behind ≡ fixed_decimal 2 year ++ country ++ with_behind (length b - 11 - length behind) holder serial behind
    → let text = take (length b - 1) (front ++ behind ++ drop (length b - 1) b) in SomeIff r (IsCheckable text) (check_of text) → r ≡ Some (check_of (front ++ behind))
found_digit b front behind r year country holder serial some short marks form e found =
    let width = length b - 11 - length behind in
    let size = front_size b front behind year country holder serial some form e in
    let here : take (length b - 1) (front ++ behind ++ drop (length b - 1) b) ≡ front ++ behind = take_at (front ++ behind) (drop (length b - 1) b) (length b - 1) size in
    let text_found = rw here at found in
    let checkable = numbered_checkable year country (with_behind width holder serial behind) form (marks_behind width holder serial behind marks) (omega (arith, length-with_behind width holder serial behind)) in
    some_of r _ _ text_found (rw e checkable)
