-- Rows that were done so far, and one more.
use Rattle.std.proofs.Common.{◌≡◌, ◌≢◌, ◌||◌, Bool, false, ℕ, ℤ, ◌+◌, ◌-◌, ◌<◌, List, [], ◌∷◌, ◌++◌, length, map, take, Some, None, refl, sym, ◌∙◌, ap, arith, rules}
use Rattle.std.specs.Prelude.{zip}
use Rattle.std.specs.List.{FoldsTo, list_any}
use Rattle.std.proofs.lemmas.Fn.{FoldsTo-push}
use Rattle.std.proofs.lemmas.List.Folds.{list_any-append}
use Rattle.std.proofs.lemmas.List.{append_assoc, append-nil, map-append, length-append, length-map, length-take-le, take-map}
use Rattle.td_model.specs.declared.change.Change.{Change}
use Rattle.td_model.specs.declared.change.Change.TheVariants as change
use Rattle.td_model.specs.Changes.{is_change}
use Rattle.td_commands.specs.declared.command.Command.{Command}
use Rattle.td_commands.specs.declared.said.Said.{Said}
use Rattle.td_commands.specs.declared.said.Said.TheVariants.{Answered, Refused}
use Rattle.td_desk.specs.declared.fault.Fault.{Fault}
use Rattle.td_desk.specs.declared.fault.Fault.TheVariants as fault
use Rattle.td_desk.specs.declared.running.Outcome.{Outcome}
use Rattle.td_desk.specs.declared.running.Outcome.TheVariants as outcome
use Rattle.td_desk.specs.View.{DeskView}
use Rattle.td_desk.proofs.Turns.{run_on}
use Rattle.td_batch.specs.declared.running.BatchRun.{BatchRun}
use Rattle.td_batch.specs.Results.{result_rows}
use Rattle.td_batch.specs.Runs.{at_moment, is_refusal, outcomes_of, IsBatchDone, IsDone, IsPrivate, IsRowDone}

pub same_fault : (f g : Fault) → outcome.Failed f ≡ outcome.Failed g → f ≡ g
same_fault f g is = cc

-- a fault that isn't the store's is want of memory
pub by_fault : {P : Type 0} (f : Fault) → (f ≡ fault.NoMemory → P) → outcome.Failed f ≢ outcome.Failed fault.Store → P
by_fault fault.NoMemory memory other = memory refl
by_fault fault.Store memory other = absurd (other refl)

-- a change that is none is nothing
pub is_nothing : (c : Change) → is_change c ≡ false → c ≡ change.Nothing
is_nothing change.Nothing none = refl
is_nothing (change.Registered row) none = cc
is_nothing (change.Opened row guarantee) none = cc
is_nothing (change.Declared row movement) none = cc
is_nothing (change.Moved row status) none = cc
is_nothing (change.TermsSet row terms) none = cc
is_nothing (change.CodeAdded row grn code) none = cc
is_nothing (change.CodeRemoved row grn code) none = cc

-- ---- lists

-- the first of some values, one more, where the first of what they are made of are one more
pub first_more : {R C : Type 0} (f : R → C) (xs : List R) (i : ℕ) (x : R) → take (i + 1) xs ≡ take i xs ++ x ∷ []
    → take (i + 1) (map f xs) ≡ take i (map f xs) ++ f x ∷ []
first_more f xs i x more = take-map f (i + 1) xs ∙ ap (map f) more ∙ map-append f (take i xs) (x ∷ []) ∙ ap (λ ys. ys ++ f x ∷ []) (sym (take-map f i xs))

zip_more : {X Y : Type 0} (xs : List X) (ys : List Y) (x : X) (y : Y) → length ys ≡ length xs
    → zip (xs ++ x ∷ []) (ys ++ y ∷ []) ≡ zip xs ys ++ (x, y) ∷ []
zip_more [] [] x y same = refl
zip_more [] (b ∷ ys) x y same = absurd (omega (arith, same))
zip_more (a ∷ xs) [] x y same = absurd (omega (arith, same))
zip_more (a ∷ xs) (b ∷ ys) x y same = ap (λ more. (a, b) ∷ more) (zip_more xs ys x y (omega (arith, same)))

rows_more : (line : Command → Said → List ℕ) (rows : List Command) (said : List Said) (row : Command) (words : Said) → length said ≡ length rows
    → result_rows line (rows ++ row ∷ []) (said ++ words ∷ []) ≡ result_rows line rows said ++ line row words
unfolding result_rows
rows_more line [] [] row words same = append-nil (line row words)
rows_more line [] (s ∷ said) row words same = absurd (omega (arith, same))
rows_more line (a ∷ rows) [] row words same = absurd (omega (arith, same))
rows_more line (a ∷ rows) (s ∷ said) row words same =
    ap (λ (more : List ℕ). line a s ++ more) (rows_more line rows said row words (omega (arith, same)))
    ∙ sym (append_assoc (line a s) (result_rows line rows said) (line row words))

last_only : (words : Said) → list_any is_refusal (words ∷ []) ≡ is_refusal words
last_only (Answered answer) = refl
last_only (Refused refusal) = refl

any_more : (said : List Said) (words : Said) → list_any is_refusal (said ++ words ∷ []) ≡ (list_any is_refusal said || is_refusal words)
any_more said words = list_any-append is_refusal said (words ∷ []) ∙ ap (λ b. list_any is_refusal said || b) (last_only words)

-- ---- rows of a batch

module _ {D : Type 0} (view : DeskView D) (line : Command → Said → List ℕ) (header : List ℕ) (at : ℤ) (rows : List Command) (old : D) where
  -- the first i rows were done
  pub record HasDone (i : ℕ) (text : List ℕ) (refused : Bool) (new : D) : Type 0 where
    pub said : List Said
    pub refused_is : refused ≡ list_any is_refusal said
    pub count : length said ≡ i
    pub text_is : text ≡ header ++ result_rows line (take i rows) said
    pub steps : FoldsTo (IsRowDone view at) old (zip (take i rows) (map (λ s. outcome.Said s) said)) new
    pub private : IsPrivate view at (take i rows) (map (λ s. outcome.Said s) said) old new

  pub begun : (text : List ℕ) → text ≡ header → HasDone 0 text false old
  unfolding result_rows
  begun text is = record {
    said = [];
    refused_is = refl;
    count = refl;
    text_is = is ∙ sym (append-nil header);
    steps = refl;
    private = λ clean live sound books tied. (view.content old, search rules, λ _. refl);
  }

  module _ (i : ℕ) (text : List ℕ) (refused : Bool) (mid new : D) (row : Command) (was : HasDone i text refused mid) (within : i < length rows)
      (next : take (i + 1) rows ≡ take i rows ++ row ∷ []) where
    size : length was.said ≡ length (take i rows)
    size = was.count ∙ sym (length-take-le i rows (omega (arith, within)))

    -- one step more, and one outcome
    steps_more : (o : Outcome) → IsDone view at row o mid new
        → FoldsTo (IsRowDone view at) old (zip (take (i + 1) rows) (map (λ s. outcome.Said s) was.said ++ o ∷ [])) new
    steps_more o is =
        rw (next, zip_more (take i rows) (map (λ s. outcome.Said s) was.said) row o (length-map was.said (λ s. outcome.Said s) ∙ size))
        (FoldsTo-push (IsRowDone view at) old (zip (take i rows) (map (λ s. outcome.Said s) was.said)) mid (row, o) new was.steps is)

    private_more : (o : Outcome) → IsDone view at row o mid new
        → IsPrivate view at (take (i + 1) rows) (map (λ s. outcome.Said s) was.said ++ o ∷ []) old new
    private_more o is = λ clean live sound books tied.
        let before = was.private (is.clean clean) live sound books tied in
        rw (next, map-append (at_moment at) (take i rows) (row ∷ []))
        (run_on (view.content old).country books (map (at_moment at) (take i rows)) (map (λ s. outcome.Said s) was.said) (at_moment at row)
        before.0 (view.content mid) (view.content new) (view.is_live mid) (view.is_live new) before.1 before.2 (is.live clean) o (is.performs clean))

    pub done_more : (words : Said) (more : List ℕ) → IsDone view at row (outcome.Said words) mid new → more ≡ text ++ line row words
        → HasDone (i + 1) more (refused || is_refusal words) new
    done_more words more is text_more = record {
      said = was.said ++ words ∷ [];
      refused_is = ap (λ b. b || is_refusal words) was.refused_is ∙ sym (any_more was.said words);
      count = length-append was.said (words ∷ []) ∙ ap (λ n. n + 1) was.count;
      text_is = text_more ∙ ap (λ (t : List ℕ). t ++ line row words) was.text_is
          ∙ append_assoc header (result_rows line (take i rows) was.said) (line row words)
          ∙ rw next (ap (λ (t : List ℕ). header ++ t) (sym (rows_more line (take i rows) was.said row words size)));
      steps = rw (map-append (λ s. outcome.Said s) was.said (words ∷ [])) (steps_more (outcome.Said words) is);
      private = rw (map-append (λ s. outcome.Said s) was.said (words ∷ [])) (private_more (outcome.Said words) is);
    }

    pub stopped_at : (r : BatchRun) (why : Fault) → IsDone view at row (outcome.Failed why) mid new → r.done ≡ i → r.text.items ≡ text
        → r.has_refusal ≡ refused → r.stopped ≡ Some why → IsBatchDone view line header at rows r old new
    stopped_at r why is done_is text_is refusal_is stop =
        let outcomes : outcomes_of was.said r.stopped ≡ map (λ s. outcome.Said s) was.said ++ outcome.Failed why ∷ [] = ap (outcomes_of was.said) stop in
        let number : length (map (λ s. outcome.Said s) was.said ++ outcome.Failed why ∷ []) ≡ i + 1 =
        length-append (map (λ s. outcome.Said s) was.said) (outcome.Failed why ∷ []) ∙ ap (λ n. n + 1) (length-map was.said (λ s. outcome.Said s) ∙ was.count) in
        let count = was.count in
        let rest : length was.said + 1 + (length rows - (i + 1)) ≡ length rows = omega (arith, count, within) in
        record {
          said = was.said;
          text = text_is ∙ was.text_is ∙ ap (λ n. header ++ result_rows line (take n rows) was.said) (sym was.count);
          done = done_is ∙ sym was.count;
          ends = rw stop (length rows - (i + 1), rest);
          refused = refusal_is ∙ was.refused_is;
          steps = rw (outcomes, number) (steps_more (outcome.Failed why) is);
          private = rw (outcomes, number) (private_more (outcome.Failed why) is);
        }

  pub all_done : (r : BatchRun) (i : ℕ) (text : List ℕ) (refused : Bool) (new : D) → HasDone i text refused new → r.done ≡ i → r.text.items ≡ text → r.has_refusal ≡ refused → i ≡ length rows
      → r.stopped ≡ None → IsBatchDone view line header at rows r old new
  all_done r i text refused new was done_is text_is refusal_is all stop =
      let outcomes : outcomes_of was.said r.stopped ≡ map (λ s. outcome.Said s) was.said = ap (outcomes_of was.said) stop in
      let number : length (map (λ s. outcome.Said s) was.said) ≡ i = length-map was.said (λ s. outcome.Said s) ∙ was.count in
      record {
        said = was.said;
        text = text_is ∙ was.text_is ∙ ap (λ n. header ++ result_rows line (take n rows) was.said) (sym was.count);
        done = done_is ∙ sym was.count;
        ends = rw stop (was.count ∙ all);
        refused = refusal_is ∙ was.refused_is;
        steps = rw (outcomes, number) was.steps;
        private = rw (outcomes, number) was.private;
      }
