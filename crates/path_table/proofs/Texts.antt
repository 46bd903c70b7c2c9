-- The segments of a path that is text are texts.
use Rattle.std.proofs.Common.{◌≡◌, ℕ, zero, suc, ◌+◌, ◌<◌, ◌≤◌, List, [], ◌∷◌, ◌++◌, length, take, drop, get_or, map, filter, Bool, true, false, cond, refl, sym, ap, ◌∙◌, arith, subst}
use Rattle.std.proofs.lemmas.List.{append-nil, drop-drop, length-append, take_at, drop_at, get_or_at}
use Rattle.std.proofs.lemmas.Str.{IsUtf8-take, IsUtf8-drop, IsCharBoundary-before_ascii, IsCharBoundary-after_ascii}
use Rattle.std.specs.List.{AllByRecursion, zip}
use Rattle.std.specs.Str.{IsUtf8}
use Rattle.matchit.specs.Seek.{slash}
use Rattle.path_table.specs.Segments.{segments, is_part_name, parts_of}
use Rattle.path_table.proofs.Tokens.{part, rest, part-rest, RestIs, at_end, at_slash, rest_is}
use Rattle.path_table.proofs.Patterns.{segments_are, segment_parts}

-- a text that is cut at a slash
cut_texts : (path more : List ℕ) → rest path ≡ slash ∷ more → IsUtf8 path → IsUtf8 (part path) × IsUtf8 more
cut_texts path more is text =
    let whole : path ≡ part path ++ slash ∷ more = sym (part-rest path) ∙ ap (λ r. part path ++ r) is in
    let n = length (part path) in
    let within : n < length path = omega (arith, ap length whole, length-append (part path) (slash ∷ more)) in
    let byte : get_or path n 0 ≡ slash = ap (λ p. get_or p n 0) whole ∙ get_or_at (part path) slash more 0 n refl in
    let low : get_or path n 0 < 128 = omega (arith, byte) in
    let front = IsUtf8-take path n text (IsCharBoundary-before_ascii path n within low) in
    let behind = IsUtf8-drop path (n + 1) text (IsCharBoundary-after_ascii path n text within low) in (
      subst IsUtf8 (ap (take n) whole ∙ take_at (part path) (slash ∷ more) n refl) front,
      subst IsUtf8 (sym (drop-drop 1 n path) ∙ ap (drop 1) (ap (drop n) whole ∙ drop_at (part path) (slash ∷ more) n refl)) behind,
    )

texts_first : (path : List ℕ) → ((more : List ℕ) → length more < length path → IsUtf8 more → AllByRecursion IsUtf8 (segments more)) → IsUtf8 path → AllByRecursion IsUtf8 (segments path)
texts_first path again text = by (rest_is path)
  where
    by : RestIs path → AllByRecursion IsUtf8 (segments path)
    by (at_end none) =
        let whole : part path ≡ path = sym (append-nil (part path)) ∙ (ap (λ r. part path ++ r) (sym none) ∙ part-rest path) in
        rw (segments_are path, none, whole) (text, tt)
    by (at_slash more is) =
        let both = cut_texts path more is text in
        let long = ap length (sym (part-rest path) ∙ ap (λ r. part path ++ r) is) in
        rw (segments_are path, is) (both.0, again more (omega (arith, long, length-append (part path) (slash ∷ more))) both.1)

texts_within : (n : ℕ) (path : List ℕ) → length path ≤ n → IsUtf8 path → AllByRecursion IsUtf8 (segments path)
texts_within zero path small text = texts_first path (λ more short _. absurd (omega (arith, small, short))) text
texts_within (suc n) path small text = texts_first path (λ more short is. texts_within n more (omega (arith, small, short)) is) text

kept_texts : (ss us : List (List ℕ)) → AllByRecursion IsUtf8 us → AllByRecursion IsUtf8 (segment_parts ss us)
kept_texts [] us all = tt
kept_texts (s ∷ ss) [] all = tt
kept_texts (s ∷ ss) (u ∷ us) all = by (is_part_name s) (kept_texts ss us all.1)
  where
    by : (v : Bool) → AllByRecursion IsUtf8 (segment_parts ss us)
        → AllByRecursion IsUtf8 (map (λ (p : List ℕ × List ℕ). p.1) (cond v ((s, u) ∷ filter (λ p. is_part_name p.0) (zip ss us)) (filter (λ p. is_part_name p.0) (zip ss us))))
    by true more = (all.0, more)
    by false more = more

-- so are its parts
pub parts_are_texts : (pattern path : List ℕ) → IsUtf8 path → AllByRecursion IsUtf8 (parts_of pattern path)
parts_are_texts pattern path text = kept_texts (segments pattern) (segments path) (texts_within (length path) path (omega arith) text)
