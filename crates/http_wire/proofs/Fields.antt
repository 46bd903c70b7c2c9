-- Fields by name.
use Rattle.std.proofs.Common.{◌≡◌, ℕ, ◌+◌, ◌<◌, true, false, List, [], ◌∷◌, ◌++◌, map, refl, drop, get_or, length, ap, ◌∙◌, Option, Some, None, arith}
use Rattle.std.specs.Prelude.{is_some, option_map}
use Rattle.std.proofs.lemmas.List.{drop_more}
use Rattle.httparse.specs.declared.spans.HeaderSpan.{HeaderSpan}
use Rattle.httparse.specs.Spans.{header_bytes}
use Rattle.http_wire.specs.Framing.{is_named, values_of}

-- the value that was found, as a list
abbrev pub found_so_far : Option (List ℕ) → List (List ℕ)
found_so_far None = []
found_so_far (Some value) = value ∷ []

-- the values from a field of that name on
pub values_named : (name buf : List ℕ) (hs : List HeaderSpan) (i : ℕ) (d : HeaderSpan) → i < length hs
    → is_named name (header_bytes buf (get_or hs i d)) ≡ true
    → values_of name (map (header_bytes buf) (drop i hs))
    ≡ (header_bytes buf (get_or hs i d)).1 ∷ values_of name (map (header_bytes buf) (drop (i + 1) hs))
values_named name buf hs i d h is =
    ap (λ (rest : List HeaderSpan). values_of name (map (header_bytes buf) rest)) (drop_more hs i d h) ∙ rw is refl

-- the values from a field of another name on
pub values_other : (name buf : List ℕ) (hs : List HeaderSpan) (i : ℕ) (d : HeaderSpan) → i < length hs
    → is_named name (header_bytes buf (get_or hs i d)) ≡ false
    → values_of name (map (header_bytes buf) (drop i hs)) ≡ values_of name (map (header_bytes buf) (drop (i + 1) hs))
values_other name buf hs i d h is =
    ap (λ (rest : List HeaderSpan). values_of name (map (header_bytes buf) rest)) (drop_more hs i d h) ∙ rw is refl

-- a second value makes two
pub two_values : {X : Type 0} (f : X → List ℕ) (o : Option X) (value : List ℕ) (values : List (List ℕ)) → is_some o ≡ true
    → 1 < length (found_so_far (option_map f o) ++ value ∷ values)
two_values f None value values h = absurd (let bad : false ≡ true = h in cc)
two_values f (Some x) value values h = omega arith

-- nothing was found
pub none_yet : {X : Type 0} (f : X → List ℕ) (o : Option X) → is_some o ≡ false → found_so_far (option_map f o) ≡ []
none_yet f None h = refl
none_yet f (Some x) h = absurd (let bad : true ≡ false = h in cc)

-- the element that is read past the end
abbrev pub no_header : HeaderSpan
no_header = record { name = record { start = 0; end = 0 }; value = record { start = 0; end = 0 } }
