-- Lists of lines that are read one by one.
use Rattle.std.proofs.Common.{◌≡◌, ℕ, ◌+◌, ◌<◌, List, [], ◌∷◌, ◌++◌, length, drop, get_or, Option, Some, None, option_map, refl, sym, ap, append_assoc}
use Rattle.std.proofs.lemmas.List.{drop_more}
use Rattle.serde_json.specs.View.{view, items_view}
use Rattle.serde_json.specs.declared.value.Value.{Value}
use Rattle.td_movement.specs.declared.line.Line.{Line}
use Rattle.td_fields.specs.BodyFields.{line_in, lines_of_body}

-- the lines of the objects from a place on, behind those that were read
abbrev pub read_from : List (Line × List ℕ) → List Value → ℕ → Option (List (Line × List ℕ))
read_from done objects i = option_map (λ later. done ++ later) (lines_of_body (items_view (drop i objects)))

-- a line more behind those that were read is a line less in front of the others
one_more : (done : List (Line × List ℕ)) (line : Line × List ℕ) (o : Option (List (Line × List ℕ)))
    → option_map (λ later. done ++ later) (option_map (λ lines. line ∷ lines) o) ≡ option_map (λ later. (done ++ line ∷ []) ++ later) o
one_more done line None = refl
one_more done line (Some lines) = ap Some (sym (append_assoc done (line ∷ []) lines))

-- one object more says a line
pub read_goes_on : (done : List (Line × List ℕ)) (line : Line × List ℕ) (objects : List Value) (i : ℕ) (d : Value) → i < length objects
    → Some line ≡ line_in (view (get_or objects i d)) → read_from done objects i ≡ read_from (done ++ line ∷ []) objects (i + 1)
read_goes_on done line objects i d within says = rw (drop_more objects i d within, ← says) (one_more done line (lines_of_body (items_view (drop (i + 1) objects))))
