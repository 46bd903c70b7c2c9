use Rattle.std.proofs.Common.{◌≡◌, ◌≤◌, ◌∙◌, ap, arith, refl, sym, length, map, option_map, slice_get, string_bytes, None, Some}
use Rattle.std.proofs.lemmas.Bool.Decides.{nat_tests}
use Rattle.std.proofs.lemmas.Option.{slice_get-map, slice_get_past, slice_get_read}
use Rattle.std.proofs.lemmas.Slice.Eq.{bytes_eq-Decides}
use Rattle.td_words.proofs.words.has_at.Goals as goal

-- the word there is this one
pub returns-in-Some : goal.returns-in-Some
returns-in-Some c =
    let words = c.args.words.now in
    let there = c.in-Some.there.now in
    let looked = c.in-Some.ensures.lookup in
    let found : slice_get words c.args.place ≡ Some there = slice_get_read words (length words) c.args.place there refl looked.3.0 looked.1 in
    let at = slice_get-map string_bytes words c.args.place ∙ ap (option_map string_bytes) found in
    let text : c.as_str.result.now ≡ string_bytes there = c.as_str.ensures.value in (
      λ yes. at ∙ ap Some (sym text ∙ (bytes_eq-Decides c.as_str.result.now c.args.word.now).0 (sym c.eq.ensures ∙ yes)),
      λ is. let same : string_bytes there ≡ c.args.word.now = let both = sym at ∙ is in cc in c.eq.ensures ∙ (bytes_eq-Decides c.as_str.result.now c.args.word.now).1 (text ∙ same),
    )

-- no word is there
pub returns-in-None : goal.returns-in-None
returns-in-None c =
    let words = c.args.words.now in
    let looked = c.in-None.ensures.lookup.0 in
    let past : length words ≤ c.args.place = grind (arith, nat_tests, looked) in
    let none : slice_get (map string_bytes words) c.args.place ≡ None = slice_get-map string_bytes words c.args.place ∙ ap (option_map string_bytes) (slice_get_past words c.args.place past) in
    (λ never. cc, λ is. let both = sym none ∙ is in cc)
