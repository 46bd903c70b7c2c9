-- One read or write after others.
use Rattle.std.proofs.Common.{ℕ, Bool, true, false, List, [], ◌∷◌, ◌++◌, Option, refl, ap, subst, sym, ◌∙◌, append-nil}
use Rattle.std.proofs.lemmas.Fn.{FoldsTo-push}
use Rattle.std.proofs.lemmas.List.Folds.{concat-append}
use Rattle.std.proofs.KnownBytes.{Appends-nil, Appends-trans}
use Rattle.std.specs.List.{FoldsTo, concat}
use Rattle.std.specs.Io.KnownBytes.{Appends}
use Rattle.counted_io.specs.Counted.{known_bytes}
use Rattle.counted_io.specs.declared.counted.Counted.{Counted}
use Rattle.counted_io.specs.Chains.{IsWrite, TakesSome, Wrote}

-- steps after steps
pub FoldsTo-append : {P A : Type 0} (R : P → A → P → Type 0) (p : P) (xs ys : List A) (q r : P) → FoldsTo R p xs q → FoldsTo R q ys r → FoldsTo R p (xs ++ ys) r
FoldsTo-append R p [] ys q r first second = subst (λ s. FoldsTo R s ys r) (sym first) second
FoldsTo-append R p (x ∷ xs) ys q r first second = (first.0, first.1, FoldsTo-append R first.0 xs ys q r first.2 second)

-- nothing was written
pub wrote_nothing : {W : Type 0} (contents : W → Option (List ℕ)) (old : Counted W) → Wrote contents old old [] true
wrote_nothing contents old = record { pieces = []; mid = old; took = refl; text_is = refl; last = refl }

-- a piece more was written
pub wrote_more : {W : Type 0} (contents : W → Option (List ℕ)) (old now new : Counted W) (text piece : List ℕ)
    → Wrote contents old now text true → TakesSome contents now piece new → Wrote contents old new (text ++ piece) true
wrote_more contents old now new text piece w some =
    record {
      pieces = w.pieces ++ piece ∷ [];
      mid = new;
      took = FoldsTo-push (TakesSome contents) old w.pieces w.mid piece new w.took (subst (λ m. TakesSome contents m piece new) w.last some);
      text_is = concat-append w.pieces (piece ∷ []) ∙ (ap (λ (t : List ℕ). t ++ concat (piece ∷ [])) w.text_is ∙ ap (λ (p : List ℕ). text ++ p) (append-nil piece));
      last = refl;
    }

-- one write more failed
pub wrote_last : {W : Type 0} (contents : W → Option (List ℕ)) (old now new : Counted W) (text : List ℕ)
    → Wrote contents old now text true → IsWrite contents true now [] new → Wrote contents old new text false
wrote_last contents old now new text w failed =
    record { pieces = w.pieces; mid = w.mid; took = w.took; text_is = w.text_is; last = subst (λ m. IsWrite contents true m [] new) w.last failed }

-- a text after a text
pub wrote_on : {W : Type 0} (contents : W → Option (List ℕ)) (old now new : Counted W) (text more : List ℕ) (whole : Bool)
    → Wrote contents old now text true → Wrote contents now new more whole → Wrote contents old new (text ++ more) whole
wrote_on contents old now new text more whole first second =
    record {
      pieces = first.pieces ++ second.pieces;
      mid = second.mid;
      took = FoldsTo-append (TakesSome contents) old first.pieces second.pieces first.mid second.mid first.took
          (subst (λ m. FoldsTo (TakesSome contents) m second.pieces second.mid) first.last second.took);
      text_is = concat-append first.pieces second.pieces ∙ (ap (λ (t : List ℕ). t ++ concat second.pieces) first.text_is ∙ ap (λ (t : List ℕ). text ++ t) second.text_is);
      last = second.last;
    }

-- what the writes took was appended
took_appends : {W : Type 0} (contents : W → Option (List ℕ)) (old mid : Counted W) (pieces : List (List ℕ)) → FoldsTo (TakesSome contents) old pieces mid
    → Appends (known_bytes contents old) (known_bytes contents mid) (concat pieces)
took_appends contents old mid [] took = rw took (Appends-nil _)
took_appends contents old mid (piece ∷ more) took = Appends-trans _ _ _ _ _ took.1.0.appended (took_appends contents took.0 mid more took.2)

-- what was written was appended
pub wrote_appends : {W : Type 0} (contents : W → Option (List ℕ)) (old new : Counted W) (text : List ℕ) (whole : Bool) → Wrote contents old new text whole
    → Appends (known_bytes contents old) (known_bytes contents new) text
wrote_appends contents old new text true w =
    rw w.last (subst (λ (t : List ℕ). Appends (known_bytes contents old) (known_bytes contents w.mid) t) w.text_is (took_appends contents old w.mid w.pieces w.took))
wrote_appends contents old new text false w =
    subst (λ (t : List ℕ). Appends (known_bytes contents old) (known_bytes contents new) t) (append-nil (concat w.pieces) ∙ w.text_is)
    (Appends-trans _ _ _ _ _ (took_appends contents old w.mid w.pieces w.took) w.last.appended)
