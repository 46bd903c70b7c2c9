-- Writes one after another, of which nothing came, or of which one failed.
use Rattle.std.proofs.Common.{◌≡◌, ℕ, Bool, true, false, List, [], ◌∷◌, length, Option, refl, sym, ap, ◌∙◌, subst, inl, arith}
use Rattle.std.specs.List.{FoldsTo, concat}
use Rattle.counted_io.specs.declared.counted.Counted.{Counted}
use Rattle.counted_io.specs.Chains.{IsCutShort, TakesSome, Wrote}
use Rattle.counted_io.specs.Counted.{calls_of, has_failed, HasCalled, HasNotFallen}
use Rattle.counted_io.proofs.Counts.{called_more, not_fallen}

module _ {W : Type 0} (contents : W → Option (List ℕ)) where
  no_pieces : (old mid : Counted W) (pieces : List (List ℕ)) → FoldsTo (TakesSome contents) old pieces mid → concat pieces ≡ [] → mid ≡ old
  no_pieces old mid [] took none = sym took
  no_pieces old mid ([] ∷ more) took none = absurd (omega (arith, took.1.1))
  no_pieces old mid ((b ∷ piece) ∷ more) took none = cc none

  -- where nothing was to be written, nothing was done
  pub nothing_written : (old new : Counted W) (text : List ℕ) → text ≡ [] → (whole : Bool) → (whole ≡ true → Wrote contents old new text true)
      → (whole ≡ false → IsCutShort contents old new text) → new ≡ old
  nothing_written old new text none true wrote cut =
      let w = wrote refl in
      w.last ∙ no_pieces old w.mid w.pieces w.took (w.text_is ∙ none)
  nothing_written old new text none false wrote cut =
      absurd (omega (arith, (cut refl).short, ap length none))

  no_call_less : (start : ℕ) (old mid : Counted W) (pieces : List (List ℕ)) → HasNotFallen start (calls_of old) → FoldsTo (TakesSome contents) old pieces mid
      → HasNotFallen start (calls_of mid)
  no_call_less start old mid [] risen took = subst (λ (c : Counted W). HasNotFallen start (calls_of c)) took risen
  no_call_less start old mid (piece ∷ more) risen took =
      let called : HasCalled start (calls_of took.0) = subst (HasCalled start) (sym took.1.0.called) (called_more start (calls_of old) risen) in
      no_call_less start took.0 mid more (not_fallen start (calls_of took.0) called) took.2

  -- where one failed, it was called
  pub failed_call : (old new : Counted W) (text : List ℕ) → Wrote contents old new text false
      → (has_failed new ≡ true) × HasCalled (calls_of old) (calls_of new)
  failed_call old new text wrote =
      (wrote.last.how, subst (HasCalled (calls_of old)) (sym wrote.last.called) (called_more (calls_of old) (calls_of wrote.mid) (no_call_less (calls_of old) old wrote.mid wrote.pieces (inl (omega arith)) wrote.took)))
