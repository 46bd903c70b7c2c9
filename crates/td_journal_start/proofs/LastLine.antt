-- The last line of a text, found by the line feed that ends it and the one before that.
use Rattle.std.proofs.Common.{◌≡◌, ℕ, ◌+◌, ◌-◌, ◌<◌, ◌≤◌, List, [], ◌∷◌, ◌++◌, length, take, drop, inl, inr, refl, sym, ap, subst, ◌∙◌, arith, append_assoc, length-append}
use Rattle.std.proofs.lemmas.List.{drop-append-le, drop-take, length-take-le, take-append-drop, take-append-le, take_at}
use Rattle.std.specs.Prelude.{slice_range}
use Rattle.td_journal_rows.specs.Rows.{IsOneLine}
use Rattle.td_journal_start.specs.Texts.{HasLast, IsWhole, Splits}
use Rattle.td_journal_start.proofs.Splitting.{line_whole}

module _ (text : List ℕ) (begin end : ℕ) (some : 0 < end) (within : end ≤ length text) (below : begin + 1 ≤ end) (outer : Splits text (take end text) (drop end text))
    (inner : Splits (take (end - 1) text) (take begin (take (end - 1) text)) (drop begin (take (end - 1) text))) where
  module _ (b : List ℕ) (is : take end text ≡ b ++ 10 ∷ []) where
    size : length b ≡ end - 1
    size =
        let both : length (take end text) ≡ length b + 1 = ap length is ∙ length-append b (10 ∷ []) in
        omega (arith, both, length-take-le end text within)

    all : text ≡ b ++ 10 ∷ drop end text
    all = outer.bytes_are ∙ (ap (λ (t : List ℕ). t ++ drop end text) is ∙ append_assoc b (10 ∷ []) (drop end text))

    front_is : take (end - 1) text ≡ b
    front_is = ap (take (end - 1)) all ∙ take_at b (10 ∷ drop end text) (end - 1) size

    inside : Splits b (take begin b) (drop begin b)
    inside = subst (λ (t : List ℕ). Splits t (take begin t) (drop begin t)) front_is inner

    one : IsOneLine (drop begin b ++ 10 ∷ [])
    one = record { front = drop begin b; line_is = refl; none = inside.none }

    found : HasLast text (take begin b) (drop begin b ++ 10 ∷ []) (drop end text)
    found = record {
      split = record {
        bytes_are = outer.bytes_are ∙ ap (λ (t : List ℕ). t ++ drop end text) (is ∙ (ap (λ (t : List ℕ). t ++ 10 ∷ []) (sym (take-append-drop begin b)) ∙ append_assoc (take begin b) (drop begin b) (10 ∷ [])));
        whole = line_whole (take begin b) (drop begin b ++ 10 ∷ []) one;
        none = outer.none;
      };
      before_whole = inside.whole;
      line_is = inl one;
    }

    before_is : take begin b ≡ take begin text
    before_is = sym (ap (take begin) all ∙ take-append-le begin b (10 ∷ drop end text) (omega (arith, size, below)))

    line_is : drop begin b ++ 10 ∷ [] ≡ slice_range text begin end
    line_is =
        let sum : begin + (end - begin) ≡ end = omega (arith, below) in
        sym (drop-append-le begin b (10 ∷ []) (omega (arith, size, below))) ∙ (ap (drop begin) (sym is)
        ∙ (ap (λ n. drop begin (take n text)) (sym sum) ∙ drop-take begin (end - begin) text))

    found_by : HasLast text (take begin text) (slice_range text begin end) (drop end text)
    found_by =
        subst (λ (x : List ℕ). HasLast text x (slice_range text begin end) (drop end text)) before_is
        (subst (λ (x : List ℕ). HasLast text (take begin b) x (drop end text)) line_is found)

  by : IsWhole (take end text) → HasLast text (take begin text) (slice_range text begin end) (drop end text)
  by (inl none) = absurd (let empty : length (take end text) ≡ 0 = ap length none in omega (arith, empty, some, length-take-le end text within))
  by (inr (b, is)) = found_by b is

  pub last_found : HasLast text (take begin text) (slice_range text begin end) (drop end text)
  last_found = by outer.whole
