-- A text around one of its places.
use Rattle.std.proofs.Common.{◌≡◌, ℕ, ◌+◌, List, ◌∷◌, ◌++◌, take, drop, slice_get, Some, ap, sym, ◌∙◌, add-one}
use Rattle.std.proofs.lemmas.List.{take-append-drop}
use Rattle.std.proofs.lemmas.Option.{slice_get_within, get_or_from_slice_get}
use Rattle.std.proofs.Math.Seq.{drop-cons}

-- a text at a place with a known character
pub around : (text : List ℕ) (place c : ℕ) → slice_get text place ≡ Some c → text ≡ take place text ++ c ∷ drop (place + 1) text
around text place c e =
    let within = slice_get_within text place c e in
    let rest : drop place text ≡ c ∷ drop (place + 1) text = rw add-one (drop-cons text place 0 within) ∙ ap (λ (x : ℕ). x ∷ drop (place + 1) text) (get_or_from_slice_get text place c 0 e) in
    sym (take-append-drop place text) ∙ ap (λ (xs : List ℕ). take place text ++ xs) rest
