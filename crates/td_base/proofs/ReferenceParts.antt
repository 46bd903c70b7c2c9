-- The parts of a reference.
use Rattle.std.proofs.Common.{◌≡◌, ℕ, ◌+◌, ◌-◌, List, [], ◌∷◌, ◌++◌, length, take, drop, Some, arith, refl, ap, ◌∙◌, append_assoc}
use Rattle.std.specs.List.{slice_get}
use Rattle.std.proofs.lemmas.List.{take_at, drop_at, length-append}
use Rattle.std.proofs.lemmas.Option.{slice_get-get_or}
use Rattle.std.proofs.Math.Seq.{get_or-append_seam}
use Rattle.td_base.specs.References.{front_of, country_of, identifier_of}

-- what a text is made of
pub record IsMadeOf (y c i : List ℕ) (l : ℕ) (text : List ℕ) : Type 0 where
  pub year : take 2 text ≡ y
  pub country : country_of text ≡ c
  pub identifier : identifier_of text ≡ i
  pub front : front_of text ≡ y ++ c ++ i
  pub last : drop (length text - 1) text ≡ l ∷ []
  pub size : length text ≡ length i + 5
  pub check : slice_get text (length text - 1) ≡ Some l

-- a year, a country, an identifier and a last character make such a text
pub made_of : (year country identifier : List ℕ) (last : ℕ) → length year ≡ 2 → length country ≡ 2 → IsMadeOf year country identifier last (year ++ country ++ identifier ++ last ∷ [])
made_of year country identifier last two two' =
    let text = year ++ country ++ identifier ++ last ∷ [] in
    let nested : text ≡ year ++ (country ++ (identifier ++ last ∷ [])) = simp append_assoc refl in
    let size : length text ≡ length identifier + 5 = simp length-append (omega arith) in
    let before : length (year ++ country ++ identifier) ≡ length text - 1 = simp length-append (omega arith) in
    let behind_year : drop 2 text ≡ country ++ (identifier ++ last ∷ []) = rw nested (drop_at year _ 2 two) in
    let behind_country : drop 4 text ≡ identifier ++ last ∷ [] = rw append_assoc (drop_at (year ++ country) (identifier ++ last ∷ []) 4 (simp length-append (omega arith))) in
    let places : length identifier ≡ length text - 1 - 4 = omega arith in
    record {
      year = rw nested (take_at year _ 2 two);
      country = rw behind_year (take_at country _ 2 two');
      identifier = rw behind_country (take_at identifier (last ∷ []) _ places);
      front = take_at (year ++ country ++ identifier) (last ∷ []) _ before;
      last = drop_at (year ++ country ++ identifier) (last ∷ []) _ before;
      size = size;
      check = rw (← before) (slice_get-get_or text (length (year ++ country ++ identifier)) 0 (omega arith) ∙ ap Some (get_or-append_seam (year ++ country ++ identifier) last [] 0));
    }
