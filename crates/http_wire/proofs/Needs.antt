-- Which reads were needed.
use Rattle.std.proofs.Common.{◌≡◌, ℕ, ◌+◌, ◌<◌, ◌⊎◌, List, [], ◌∷◌, ◌++◌, length, drop, arith, ap, inl, inr, sym, ◌∙◌, append-nil, append_assoc}
use Rattle.std.proofs.lemmas.Bool.{cases_lt}
use Rattle.std.proofs.lemmas.List.{length-append}
use Rattle.std.proofs.lemmas.List.Folds.{concat-append}
use Rattle.std.proofs.lemmas.List.Elements.{All-head}
use Rattle.std.specs.List.{concat, flat_map}
use Rattle.http_wire.specs.OneReading.{unfinished}
use Rattle.http_wire.specs.Reading.{IsNeeded}
use Rattle.http_wire.specs.Stream.{HasNotReadOn, IsCalledFor}
use Rattle.http_wire.specs.Wire.{WireRequest, IsWireRequest, wire_bytes, IsOpen, Splits}
use Rattle.http_wire.proofs.Unique.{first_of}
use Rattle.http_wire.proofs.Standings.{front_of, standing_no_wire, empty_no_wire}

-- what is left over of the reads before a request: nothing was read, or the last read brought more than that
abbrev pub IsLeftOver : List (List ℕ) → List ℕ → Type 0
IsLeftOver pieces unread = ((pieces ≡ []) × (unread ≡ [])) ⊎ HasNotReadOn pieces unread

-- a request that came whole by a piece has some of it
some_of : (stood last rest : List ℕ) (w : WireRequest) → IsOpen stood → IsWireRequest w → stood ++ last ≡ wire_bytes w ++ rest → length rest < length last
some_of stood last rest w still wire whole =
    let sizes : length stood + length last ≡ length (wire_bytes w) + length rest =
    sym (length-append stood last) ∙ (ap length whole ∙ length-append (wire_bytes w) rest) in
    elim (cases_lt (length stood) (length (wire_bytes w))) [
      | inl lt ↦ omega arith
      | inr ge ↦ absurd (standing_no_wire stood unfinished still w (drop (length (wire_bytes w)) stood) wire (front_of stood last (wire_bytes w) rest whole ge))
    ]

-- the pieces of a reading after others
after : (xs ps : List (List ℕ)) (before : List (List ℕ)) (last : List ℕ) → ps ≡ before ++ last ∷ [] → xs ++ ps ≡ (xs ++ before) ++ last ∷ []
after xs ps before last are = ap (λ (ys : List (List ℕ)). xs ++ ys) are ∙ sym (append_assoc xs before (last ∷ []))

-- the bytes that were read, the last piece apart
apart : (stood more : List ℕ) (ps before : List (List ℕ)) (last : List ℕ) → concat ps ≡ more → ps ≡ before ++ last ∷ [] → stood ++ more ≡ (stood ++ concat before) ++ last
apart stood more ps before last is are =
    ap (λ (b : List ℕ). stood ++ b) (sym is ∙ (ap concat are ∙ (concat-append before (last ∷ []) ∙ ap (λ (b : List ℕ). concat before ++ b) (append-nil last))))
    ∙ sym (append_assoc stood (concat before) last)

-- no read was made once a request had come whole
pub left_after : (xs ps : List (List ℕ)) (unread more rest : List ℕ) (w : WireRequest) → IsLeftOver xs unread → IsNeeded unread ps → concat ps ≡ more
    → IsWireRequest w → unread ++ more ≡ wire_bytes w ++ rest → HasNotReadOn (xs ++ ps) rest
left_after xs ps unread more rest w old (inr h) is wire whole =
    record {
      before = xs ++ h.0;
      last = h.1;
      are = after xs ps h.0 h.1 h.2;
      over = some_of (unread ++ concat h.0) h.1 rest w h.3 wire (sym (apart unread more ps h.0 h.1 is h.2) ∙ whole);
    }
left_after xs ps unread more rest w old (inl none) is wire whole = by_old old
  where
    nothing : more ≡ []
    nothing = sym is ∙ ap concat none

    stands : unread ≡ wire_bytes w ++ rest
    stands = sym (ap (λ (b : List ℕ). unread ++ b) nothing ∙ append-nil unread) ∙ whole

    by_old : IsLeftOver xs unread → HasNotReadOn (xs ++ ps) rest
    by_old (inl first) = absurd (empty_no_wire w rest wire (sym first.1 ∙ stands))
    by_old (inr h) =
        record {
          before = h.before;
          last = h.last;
          are = (ap (λ (ys : List (List ℕ)). xs ++ ys) none ∙ append-nil xs) ∙ h.are;
          over = let over = h.over in let size = ap length stands ∙ length-append (wire_bytes w) rest in omega arith;
        }

-- the last read was needed
pub called_for : (xs ps : List (List ℕ)) (unread more : List ℕ) → IsLeftOver xs unread → IsNeeded unread ps → concat ps ≡ more → IsCalledFor (xs ++ ps) (unread ++ more)
called_for xs ps unread more old (inr h) is = inr (inr (xs ++ h.0, h.1, unread ++ concat h.0, after xs ps h.0 h.1 h.2, apart unread more ps h.0 h.1 is h.2, h.3))
called_for xs ps unread more old (inl none) is = by_old old
  where
    nothing : more ≡ []
    nothing = sym is ∙ ap concat none

    pieces : xs ++ ps ≡ xs
    pieces = ap (λ (ys : List (List ℕ)). xs ++ ys) none ∙ append-nil xs

    stays : unread ++ more ≡ unread
    stays = ap (λ (b : List ℕ). unread ++ b) nothing ∙ append-nil unread

    by_old : IsLeftOver xs unread → IsCalledFor (xs ++ ps) (unread ++ more)
    by_old (inl first) = inl (pieces ∙ first.0)
    by_old (inr h) =
        inr (inl (record {
          before = h.before;
          last = h.last;
          are = pieces ∙ h.are;
          over = let over = h.over in let size = ap length stays in omega arith;
        }))

-- where requests were answered, something was read
pub left_at_end : (xs : List (List ℕ)) (given unread : List ℕ) (ws : List WireRequest) → IsLeftOver xs unread → concat xs ≡ given → Splits given ws unread
    → 0 < length ws → HasNotReadOn xs unread
left_at_end xs given unread ws (inr h) is splits some = h
left_at_end xs given unread [] (inl none) is splits some = absurd (let never : ⊥ = omega arith in never)
left_at_end xs given unread (w ∷ ws) (inl none) is splits some =
    absurd (empty_no_wire w (flat_map wire_bytes ws ++ unread) (All-head IsWireRequest w ws splits.each) (sym (sym is ∙ ap concat none.0) ∙ first_of given w ws unread splits))
