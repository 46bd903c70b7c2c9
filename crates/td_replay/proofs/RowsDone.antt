-- Rows that were done so far, and one more.
use Rattle.std.proofs.Common.{◌≡◌, ℕ, ◌+◌, ◌<◌, Bool, true, false, List, [], ◌∷◌, ◌++◌, All, length, map, take, Option, Some, None, inl, inr, refl, sym, ap, subst, ◌∙◌, arith, rules, append_assoc}
use Rattle.std.specs.Prelude.{◌↔◌, IsTrue, zip}
use Rattle.std.specs.List.{FoldsTo}
use Rattle.std.proofs.lemmas.Fn.{FoldsTo-push}
use Rattle.std.proofs.lemmas.List.{append-nil, length-append, length-map, length-take-le, map-append}
use Rattle.std.proofs.lemmas.List.Elements.{All-nil, All-push}
use Rattle.td_commands.specs.declared.said.Said.{Said}
use Rattle.td_desk.specs.declared.fault.Fault.{Fault}
use Rattle.td_desk.specs.declared.running.Outcome.{Outcome}
use Rattle.td_desk.specs.declared.running.Outcome.TheVariants as outcome
use Rattle.td_desk.specs.Runs.{AreOutcomesOf}
use Rattle.td_desk.specs.View.{DeskView}
use Rattle.td_desk.proofs.Calls.{one_outcome_more}
use Rattle.td_desk.proofs.Turns.{run_on}
use Rattle.td_journal_lines.specs.Lines.{Numbered}
use Rattle.td_replay.specs.Replays.{IsDoneAt, IsEachDone, IsFirstDifference, IsPlain, AreRowsPrivate, IsReplayDone, IsSame, IsStopped, IsTold, difference_with, replies_header, reply_line, reply_lines, stamped_of}
use Rattle.td_replay.specs.declared.replaying.ReplayRun.{ReplayRun}

pub zip_more : {X Y : Type 0} (xs : List X) (ys : List Y) (x : X) (y : Y) → length ys ≡ length xs → zip (xs ++ x ∷ []) (ys ++ y ∷ []) ≡ zip xs ys ++ (x, y) ∷ []
zip_more [] [] x y same = refl
zip_more [] (b ∷ ys) x y same = absurd (omega (arith, same))
zip_more (a ∷ xs) [] x y same = absurd (omega (arith, same))
zip_more (a ∷ xs) (b ∷ ys) x y same = ap (λ more. (a, b) ∷ more) (zip_more xs ys x y (omega (arith, same)))

abbrev pub words_said : List Said → List Outcome
words_said said = map (λ words. outcome.Said words) said

lines_more : (rows : List Numbered) (said : List Said) (r : Numbered) (words : Said) → length said ≡ length rows
    → reply_lines (rows ++ r ∷ []) (said ++ words ∷ []) ≡ reply_lines rows said ++ reply_line r.number words
unfolding reply_lines
lines_more [] [] r words same = append-nil (reply_line r.number words)
lines_more [] (w ∷ said) r words same = absurd (omega (arith, same))
lines_more (q ∷ rows) [] r words same = absurd (omega (arith, same))
lines_more (q ∷ rows) (w ∷ said) r words same =
    ap (λ (more : List ℕ). reply_line q.number w ++ more) (lines_more rows said r words (omega (arith, same)))
    ∙ sym (append_assoc (reply_line q.number w) (reply_lines rows said) (reply_line r.number words))

-- lines and the first difference are those of as many rows as something was said to
lines_first : (rows : List Numbered) (said : List Said) → reply_lines (take (length said) rows) said ≡ reply_lines rows said
unfolding reply_lines
lines_first [] [] = refl
lines_first [] (w ∷ said) = refl
lines_first (r ∷ rows) [] = refl
lines_first (r ∷ rows) (w ∷ said) = ap (λ (more : List ℕ). reply_line r.number w ++ more) (lines_first rows said)

difference_first : (rows : List Numbered) (said : List Said) (found : Option ℕ) → IsFirstDifference (take (length said) rows) said found → IsFirstDifference rows said found
difference_first [] [] found is = is
difference_first [] (w ∷ said) found is = is
difference_first (r ∷ rows) [] found is = is
difference_first (r ∷ rows) (w ∷ said) found (inl (same, is)) = inl (same, difference_first rows said found is)
difference_first (r ∷ rows) (w ∷ said) found (inr is) = inr is

difference_one : (r : Numbered) (words : Said) (same : Bool) → (IsTrue same ↔ IsSame r words) → IsFirstDifference (r ∷ []) (words ∷ []) (difference_with None same r.number)
difference_one r words true is = inl (is.0 refl, refl)
difference_one r words false is = inr (λ yes. (let no : false ≡ true = is.1 yes in cc), refl)

difference_found : (n : ℕ) (same : Bool) (number : ℕ) → difference_with (Some n) same number ≡ Some n
difference_found n same number = refl

difference_more : (rows : List Numbered) (said : List Said) (found : Option ℕ) (r : Numbered) (words : Said) (same : Bool) → length said ≡ length rows
    → IsFirstDifference rows said found → (IsTrue same ↔ IsSame r words)
    → IsFirstDifference (rows ++ r ∷ []) (said ++ words ∷ []) (difference_with found same r.number)
difference_more [] [] found r words same size none is =
    subst (λ (d : Option ℕ). IsFirstDifference (r ∷ []) (words ∷ []) (difference_with d same r.number)) (sym none) (difference_one r words same is)
difference_more [] (w ∷ said) found r words same size none is = absurd (omega (arith, size))
difference_more (q ∷ rows) [] found r words same size none is = absurd (omega (arith, size))
difference_more (q ∷ rows) (w ∷ said) found r words same size (inl (first, more)) is =
    inl (first, difference_more rows said found r words same (omega (arith, size)) more is)
difference_more (q ∷ rows) (w ∷ said) found r words same size (inr (differs, there)) is =
    inr (differs, ap (λ d. difference_with d same r.number) there)

-- ---- rows

module _ {D : Type 0} (view : DeskView D) (rows : List Numbered) (old : D) where
  -- the first i rows were told
  pub record HasDone (i : ℕ) (text : List ℕ) (differs : Option ℕ) (new : D) : Type 0 where
    pub said : List Said
    pub count : length said ≡ i
    pub text_is : text ≡ replies_header ++ reply_lines (take i rows) said
    pub differs_is : IsFirstDifference (take i rows) said differs
    pub steps : FoldsTo (IsEachDone view) old (zip (map stamped_of (take i rows)) (words_said said)) new
    pub calls : AreOutcomesOf view old (map stamped_of (take i rows)) (words_said said) new
    pub plain : All IsPlain said
    pub private : AreRowsPrivate view (map stamped_of (take i rows)) (words_said said) old new

  pub begun : (text : List ℕ) → text ≡ replies_header → HasDone 0 text None old
  unfolding reply_lines
  begun text is = record {
    said = [];
    count = refl;
    text_is = is ∙ sym (append-nil replies_header);
    differs_is = refl;
    steps = refl;
    calls = refl;
    plain = All-nil IsPlain;
    private = λ clean live sound books tied. (view.content old, search rules, λ _. refl);
  }

  module _ (i : ℕ) (text : List ℕ) (differs : Option ℕ) (mid new : D) (r : Numbered) (was : HasDone i text differs mid) (within : i < length rows)
      (next : take (i + 1) rows ≡ take i rows ++ r ∷ []) where
    abbrev said : List Outcome
    said = words_said was.said

    size : length was.said ≡ length (take i rows)
    size = was.count ∙ sym (length-take-le i rows (omega (arith, within)))

    many : length (words_said was.said) ≡ length (map stamped_of (take i rows))
    many = length-map was.said (λ words. outcome.Said words) ∙ (size ∙ sym (length-map (take i rows) stamped_of))

    list : map stamped_of (take (i + 1) rows) ≡ map stamped_of (take i rows) ++ stamped_of r ∷ []
    list = ap (map stamped_of) next ∙ map-append stamped_of (take i rows) (r ∷ [])

    -- one step more, and one outcome
    pub steps_more : (o : Outcome) → IsDoneAt view r.row.stamped o mid new
        → FoldsTo (IsEachDone view) old (zip (map stamped_of (take (i + 1) rows)) (words_said was.said ++ o ∷ [])) new
    steps_more o is =
        rw (list, zip_more (map stamped_of (take i rows)) (words_said was.said) (stamped_of r) o many)
        (FoldsTo-push (IsEachDone view) old (zip (map stamped_of (take i rows)) (words_said was.said)) mid (r.row.stamped, o) new was.steps is)

    pub calls_more : (o : Outcome) → IsDoneAt view r.row.stamped o mid new
        → AreOutcomesOf view old (map stamped_of (take (i + 1) rows)) (words_said was.said ++ o ∷ []) new
    calls_more o is =
        rw list (one_outcome_more view old mid new (map stamped_of (take i rows)) (words_said was.said) (stamped_of r) o was.calls is.calls)

    pub private_more : (o : Outcome) → IsDoneAt view r.row.stamped o mid new
        → AreRowsPrivate view (map stamped_of (take (i + 1) rows)) (words_said was.said ++ o ∷ []) old new
    private_more o is = λ clean live sound books tied.
        let before = was.private (is.clean clean) live sound books tied in
        rw list
        (run_on (view.content old).country books (map stamped_of (take i rows)) (words_said was.said) (stamped_of r)
        before.0 (view.content mid) (view.content new) (view.is_live mid) (view.is_live new) before.1 before.2 (is.live clean) o (is.performs clean))

    pub done_more : (more : List ℕ) (same : Bool) → IsTold view r mid new text more same → HasDone (i + 1) more (difference_with differs same r.number) new
    done_more more same told = record {
      said = was.said ++ told.words ∷ [];
      count = length-append was.said (told.words ∷ []) ∙ ap (λ n. n + 1) was.count;
      text_is = told.text_is ∙ (ap (λ (t : List ℕ). t ++ reply_line r.number told.words) was.text_is
          ∙ (append_assoc replies_header (reply_lines (take i rows) was.said) (reply_line r.number told.words)
          ∙ rw next (ap (λ (t : List ℕ). replies_header ++ t) (sym (lines_more (take i rows) was.said r told.words size)))));
      differs_is = rw next (difference_more (take i rows) was.said differs r told.words same size was.differs_is told.same_is);
      steps = rw (map-append (λ words. outcome.Said words) was.said (told.words ∷ [])) (steps_more (outcome.Said told.words) told.done);
      calls = rw (map-append (λ words. outcome.Said words) was.said (told.words ∷ [])) (calls_more (outcome.Said told.words) told.done);
      plain = All-push IsPlain was.said told.words was.plain told.plain;
      private = rw (map-append (λ words. outcome.Said words) was.said (told.words ∷ [])) (private_more (outcome.Said told.words) told.done);
    }

    pub stopped_at : (run : ReplayRun) (why : Fault) → IsStopped view r why mid new → run.done ≡ i → run.text.items ≡ text → run.differs ≡ differs
        → run.stopped ≡ Some why → IsReplayDone view rows run old new
    stopped_at run why is done_is text_is differs_is stop =
        let o = is.outcome_is in
        let number : length (words_said was.said ++ o ∷ []) ≡ i + 1 =
        length-append (words_said was.said) (o ∷ []) ∙ ap (λ n. n + 1) (length-map was.said (λ words. outcome.Said words) ∙ was.count) in
        record {
          said = was.said;
          outcomes = words_said was.said ++ o ∷ [];
          text = text_is ∙ (was.text_is ∙ (ap (λ n. replies_header ++ reply_lines (take n rows) was.said) (sym was.count)
              ∙ ap (λ (t : List ℕ). replies_header ++ t) (lines_first rows was.said)));
          done = done_is ∙ sym was.count;
          differs = rw differs_is (difference_first rows was.said differs
              (subst (λ n. IsFirstDifference (take n rows) was.said differs) (sym was.count) was.differs_is));
          ended = rw stop (o, is.last, refl, omega (arith, number, within));
          steps = rw number (steps_more o is.done);
          calls = rw number (calls_more o is.done);
          plain = was.plain;
          private = rw number (private_more o is.done);
        }

  pub all_done : (run : ReplayRun) (i : ℕ) (text : List ℕ) (differs : Option ℕ) (new : D) → HasDone i text differs new → run.done ≡ i → run.text.items ≡ text → run.differs ≡ differs → i ≡ length rows
      → run.stopped ≡ None → IsReplayDone view rows run old new
  all_done run i text differs new was done_is text_is differs_is all stop =
      let number : length (words_said was.said) ≡ i = length-map was.said (λ words. outcome.Said words) ∙ was.count in
      record {
        said = was.said;
        outcomes = words_said was.said;
        text = text_is ∙ (was.text_is ∙ (ap (λ n. replies_header ++ reply_lines (take n rows) was.said) (sym was.count)
            ∙ ap (λ (t : List ℕ). replies_header ++ t) (lines_first rows was.said)));
        done = done_is ∙ sym was.count;
        differs = rw differs_is (difference_first rows was.said differs
            (subst (λ n. IsFirstDifference (take n rows) was.said differs) (sym was.count) was.differs_is));
        ended = rw stop (refl, was.count ∙ all);
        steps = rw number was.steps;
        calls = rw number was.calls;
        plain = was.plain;
        private = rw number was.private;
      }
