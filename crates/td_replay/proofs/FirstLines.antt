-- A text is cut behind its first line in one way, and so is read in one way.
use Rattle.std.proofs.Common.{◌≡◌, ℕ, ◌==◌, List, [], ◌∷◌, ◌++◌, length, false, refl, sym, ap, subst, ◌∙◌, append_assoc, append-nil}
use Rattle.std.proofs.lemmas.List.Elements.{All-head, All-tail}
use Rattle.td_journal_lines.specs.Lines.{AreLinesOf, IsLine, Numbered}
use Rattle.td_journal_lines.proofs.Reading.{line_of_one, line_one}
use Rattle.td_journal_rows.specs.Rows.{HasNoLineFeed, IsOneLine}
use Rattle.td_replay.specs.Laws.{ReadInOneWay}
use Rattle.td_replay.specs.Reading.{HasBadLine, HasNone}

abbrev IsNone : ℕ → Type 0
IsNone c = (c == 10) ≡ false

no_feed : (c : ℕ) → c ≡ 10 → IsNone c → ⊥
no_feed c is none = let bad : (10 == 10) ≡ false = subst IsNone is none in cc

-- what stands before the first line feed, and behind it
fronts_once : (f g x y : List ℕ) → HasNoLineFeed f → HasNoLineFeed g → f ++ 10 ∷ x ≡ g ++ 10 ∷ y → (f ≡ g) × (x ≡ y)
fronts_once [] [] x y none other same = let rest : x ≡ y = cc in (refl, rest)
fronts_once [] (d ∷ g) x y none other same =
    let head : d ≡ 10 = cc in absurd (no_feed d head (All-head IsNone d g other))
fronts_once (c ∷ f) [] x y none other same =
    let head : c ≡ 10 = cc in absurd (no_feed c head (All-head IsNone c f none))
fronts_once (c ∷ f) (d ∷ g) x y none other same =
    let head : c ≡ d = cc in
    let rest : f ++ 10 ∷ x ≡ g ++ 10 ∷ y = cc in
    let both = fronts_once f g x y (All-tail IsNone c f none) (All-tail IsNone d g other) rest in
    (ap (λ n. n ∷ f) head ∙ ap (λ t. d ∷ t) both.0, both.1)

-- a line, and what stands behind it
spread : (line rest : List ℕ) (one : IsOneLine line) → line ++ rest ≡ one.front ++ 10 ∷ rest
spread line rest one = ap (λ t. t ++ rest) one.line_is ∙ append_assoc one.front (10 ∷ []) rest

pub first_once : (a b x y : List ℕ) → IsOneLine a → IsOneLine b → a ++ x ≡ b ++ y → (a ≡ b) × (x ≡ y)
first_once a b x y one other same =
    let both = fronts_once one.front other.front x y one.none other.none (sym (spread a x one) ∙ (same ∙ spread b y other)) in
    (one.line_is ∙ (ap (λ t. t ++ 10 ∷ []) both.0 ∙ sym other.line_is), both.1)

-- a line isn't the beginning of what has no line feed
feed_in : (f x : List ℕ) → HasNoLineFeed (f ++ 10 ∷ x) → ⊥
feed_in [] x none = no_feed 10 refl (All-head IsNone 10 x none)
feed_in (c ∷ f) x none = feed_in f x (All-tail IsNone c (f ++ 10 ∷ x) none)

pub no_line : (line rest torn : List ℕ) → IsOneLine line → HasNoLineFeed torn → line ++ rest ≡ torn → ⊥
no_line line rest torn one none same = feed_in one.front rest (subst HasNoLineFeed (sym same ∙ spread line rest one) none)

-- ---- lines of rows

pub lines_more : (rows : List Numbered) (text : List ℕ) (r : Numbered) (line : List ℕ) → AreLinesOf rows text → IsLine r line → AreLinesOf (rows ++ r ∷ []) (text ++ line)
lines_more [] text r line none is =
    (line, [], is, ap (λ t. t ++ line) none ∙ sym (append-nil line), refl)
lines_more (q ∷ rows) text r line (first, rest, first_is, text_is, are) is =
    (first, rest ++ line, first_is, ap (λ t. t ++ line) text_is ∙ append_assoc first rest line, lines_more rows rest r line are is)

-- texts of lines with what stands behind them are of one list of rows
one_way : (rows others : List Numbered) (t u v w : List ℕ) → AreLinesOf rows t → HasNoLineFeed u → AreLinesOf others v → HasNoLineFeed w → t ++ u ≡ v ++ w
    → (rows ≡ others) × (u ≡ w)
one_way [] [] t u v w are none other other_none same =
    (refl, ap (λ l. l ++ u) (sym are) ∙ (same ∙ ap (λ l. l ++ w) other))
one_way [] (q ∷ others) t u v w are none (line, rest, is, text_is, more) other_none same =
    absurd (no_line line (rest ++ w) u (line_one q line is) none (sym (append_assoc line rest w) ∙ (ap (λ l. l ++ w) (sym text_is) ∙ (sym same ∙ ap (λ l. l ++ u) are))))
one_way (r ∷ rows) [] t u v w (line, rest, is, text_is, more) none other other_none same =
    absurd (no_line line (rest ++ u) w (line_one r line is) other_none (sym (append_assoc line rest u) ∙ (ap (λ l. l ++ u) (sym text_is) ∙ (same ∙ ap (λ l. l ++ w) other))))
one_way (r ∷ rows) (q ∷ others) t u v w (line, rest, is, text_is, more) none (next, behind, next_is, behind_is, further) other_none same =
    let both = first_once line next (rest ++ u) (behind ++ w) (line_one r line is) (line_one q next next_is)
    (sym (append_assoc line rest u) ∙ (ap (λ l. l ++ u) (sym text_is) ∙ (same ∙ (ap (λ l. l ++ w) behind_is ∙ append_assoc next behind w)))) in
    let first = line_of_one r q next (subst (IsLine r) both.0 is) next_is in
    let all = one_way rows others rest u behind w more none further other_none both.1 in
    (ap (λ (x : Numbered). x ∷ rows) first ∙ ap (λ (x : List Numbered). q ∷ x) all.0, all.1)

pub read_in_one_way : ReadInOneWay
read_in_one_way bytes rows others torn other_torn one two =
    let both = one_way rows others one.text one.rest two.text two.rest one.lines one.none two.lines two.none (sym one.bytes_are ∙ two.bytes_are) in
    (both.0, one.size ∙ (ap (λ (l : List ℕ). length l) both.1 ∙ sym two.size))

-- where a line is that of no row, the text is that of no rows
module _ (line rest : List ℕ) (one : IsOneLine line) (bad : (r : Numbered) → IsLine r line → ⊥) where
  none_read : (before rows : List Numbered) (text t u : List ℕ) → AreLinesOf before text → AreLinesOf rows t → HasNoLineFeed u → text ++ (line ++ rest) ≡ t ++ u → ⊥
  none_read [] [] text t u are other none same =
      no_line line rest u one none (ap (λ l. l ++ (line ++ rest)) (sym are) ∙ (same ∙ ap (λ l. l ++ u) other))
  none_read [] (r ∷ rows) text t u are (first, behind, is, text_is, more) none same =
      let both = first_once line first rest (behind ++ u) one (line_one r first is)
      (ap (λ l. l ++ (line ++ rest)) (sym are) ∙ (same ∙ (ap (λ l. l ++ u) text_is ∙ append_assoc first behind u))) in
      bad r (subst (IsLine r) (sym both.0) is)
  none_read (b ∷ before) [] text t u (first, behind, is, text_is, more) other none same =
      no_line first (behind ++ (line ++ rest)) u (line_one b first is) none
      (sym (append_assoc first behind (line ++ rest)) ∙ (ap (λ l. l ++ (line ++ rest)) (sym text_is) ∙ (same ∙ ap (λ l. l ++ u) other)))
  none_read (b ∷ before) (r ∷ rows) text t u (first, behind, is, text_is, more) (next, further, next_is, further_is, others) none same =
      let both = first_once first next (behind ++ (line ++ rest)) (further ++ u) (line_one b first is) (line_one r next next_is)
      (sym (append_assoc first behind (line ++ rest)) ∙ (ap (λ l. l ++ (line ++ rest)) (sym text_is) ∙ (same ∙ (ap (λ l. l ++ u) further_is ∙ append_assoc next further u)))) in
      none_read before rows behind further u more others none both.1

pub bad_is_none : (bytes : List ℕ) (number : ℕ) → HasBadLine bytes number → HasNone bytes
bad_is_none bytes number b rows torn is =
    none_read b.line b.rest b.one b.bad b.rows rows b.text is.text is.rest b.lines is.lines is.none (sym b.bytes_are ∙ is.bytes_are)
