-- The texts of arrays, element by element.
use Rattle.std.proofs.Common.{◌≡◌, ℕ, ◌+◌, ◌<◌, ◌≤◌, List, [], ◌∷◌, ◌++◌, All, take, length, get_or, refl, sym, ap, append_assoc, true, map}
use Rattle.std.proofs.lemmas.List.{flat_map_more, take_all, take_more}
use Rattle.std.proofs.lemmas.List.Elements.{All-head, All-tail}
use Rattle.std.specs.Prelude.{codes, flat_map}
use Rattle.serde_json.specs.Data.{Data}
use Rattle.serde_json.specs.View.{items_of}
use Rattle.serde_json.specs.Written.{compact_text, items_text}
use Rattle.td_answers.specs.Objects.{array_of}
use Rattle.td_answers.specs.Unescaped.{in_brackets}

-- an element that isn't the first
abbrev pub behind_comma : {X : Type 0} → (X → Data) → X → List ℕ
behind_comma shows x = 44 ∷ compact_text (shows x)

-- what stands behind the first element
later : {X : Type 0} (shows : X → Data) (xs : List X) → items_text true (items_of (map shows xs)) ≡ flat_map (behind_comma shows) xs ++ 93 ∷ []
later shows [] = refl
later shows (x ∷ xs) = rw (later shows xs) (ap (λ t. 44 ∷ t) (sym (append_assoc (compact_text (shows x)) _ (93 ∷ []))))

-- the text of an array by its elements
pub array_text : {X : Type 0} (shows : X → Data) (all : List X) (x : X) (xs : List X) (n : ℕ) → length xs ≤ n → all ≡ x ∷ xs
    → (91 ∷ compact_text (shows x)) ++ (flat_map (behind_comma shows) (take n xs) ++ 93 ∷ []) ≡ compact_text (array_of shows all)
array_text shows all x xs n whole same = rw (same, take_all n xs whole, later shows xs) refl

-- one more element
pub one_more : {X : Type 0} (shows : X → Data) (xs : List X) (i : ℕ) (x : X) → i < length xs
    → flat_map (behind_comma shows) (take i xs) ++ behind_comma shows (get_or xs i x) ≡ flat_map (behind_comma shows) (take (i + 1) xs)
one_more shows xs i x within = rw (take_more xs i x within) (flat_map_more (behind_comma shows) [] (take i xs) (get_or xs i x))

-- ---- arrays of values whose texts are known

-- what stands behind the first element of an array
later_written : {X : Type 0} (shows : X → Data) (body : X → List ℕ) (P : X → Type 0) → ((x : X) → P x → compact_text (shows x) ≡ body x)
    → (xs : List X) → All P xs → items_text true (items_of (map shows xs)) ≡ flat_map (λ next. codes "," ++ next) (map body xs) ++ codes "]"
later_written shows body P each [] all = refl
later_written shows body P each (x ∷ xs) all =
    rw (each x (All-head P x xs all), later_written shows body P each xs (All-tail P x xs all)) (ap (λ text. 44 ∷ text) (sym (append_assoc (body x) _ (codes "]"))))

-- an array
pub written_array : {X : Type 0} (shows : X → Data) (body : X → List ℕ) (P : X → Type 0) → ((x : X) → P x → compact_text (shows x) ≡ body x)
    → (xs : List X) → All P xs → compact_text (array_of shows xs) ≡ in_brackets (map body xs)
written_array shows body P each [] all = refl
written_array shows body P each (x ∷ xs) all =
    rw (each x (All-head P x xs all), later_written shows body P each xs (All-tail P x xs all)) (ap (λ text. 91 ∷ text) (sym (append_assoc (body x) _ (codes "]"))))
