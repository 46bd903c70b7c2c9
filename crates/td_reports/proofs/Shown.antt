-- The lines of rows that were shown, among those of all rows.
use Rattle.std.proofs.Common.{◌≡◌, List, [], ◌∷◌, ◌++◌, ℕ, map, Option, Some, refl, sym, ap, ◌∙◌}
use Rattle.std.proofs.lemmas.List.Elements.{filter_map-append}
use Rattle.std.specs.List.{cons_option, filter_map}

-- of rows by what they say
pub filter_map-map : {T X Y : Type 0} (f : X → Option Y) (says : T → X) (rows : List T) → filter_map (λ (t : T). f (says t)) rows ≡ filter_map f (map says rows)
filter_map-map f says [] = refl
filter_map-map f says (row ∷ rows) = ap (λ (l : List _). cons_option (f (says row)) l) (filter_map-map f says rows)

-- the lines of rows that were shown, and of those that weren't
pub lines_shown : {T X : Type 0} (f : X → Option (List ℕ)) (says : T → X) (shown : List T) (rest all : List X) → map says shown ++ rest ≡ all
    → filter_map (λ (t : T). f (says t)) shown ++ filter_map f rest ≡ filter_map f all
lines_shown f says shown rest all are =
    ap (λ (l : List (List ℕ)). l ++ filter_map f rest) (filter_map-map f says shown)
    ∙ sym (filter_map-append f (map says shown) rest) ∙ ap (filter_map f) are

-- where each row has a line
pub all_have_lines : {X : Type 0} (f : X → List ℕ) (rows : List X) → filter_map (λ (x : X). Some (f x)) rows ≡ map f rows
all_have_lines f [] = refl
all_have_lines f (row ∷ rows) = ap (λ (l : List (List ℕ)). f row ∷ l) (all_have_lines f rows)

-- where a row's line is that of another form of it
pub lines_of_forms : {X : Type 0} (f : X → Option (List ℕ)) (form : X → X) → ((x : X) → f (form x) ≡ f x) → (rows : List X)
    → filter_map f (map form rows) ≡ filter_map f rows
lines_of_forms f form same [] = refl
lines_of_forms f form same (row ∷ rows) =
    ap (λ (o : Option (List ℕ)). cons_option o (filter_map f (map form rows))) (same row)
    ∙ ap (λ (l : List (List ℕ)). cons_option (f row) l) (lines_of_forms f form same rows)
