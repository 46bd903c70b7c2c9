-- Rows that were followed so far, and one more.
use Rattle.std.proofs.Common.{◌≡◌, ℕ, Bool, true, false, List, [], ◌∷◌, ◌++◌, length, map, Option, Result, Ok, Err, refl, sym, ap, ◌∙◌, arith, rules, append_assoc, append-nil}
use Rattle.std.specs.Prelude.{IsErrAnd, zip}
use Rattle.std.specs.List.{concat}
use Rattle.std.proofs.lemmas.Fn.{FoldsTo-push}
use Rattle.std.proofs.lemmas.List.{length-map, map-append}
use Rattle.std.proofs.lemmas.List.Folds.{concat-append}
use Rattle.counted_io.proofs.Chaining.{FoldsTo-append}
use Rattle.counted_io.specs.Chains.{Brings}
use Rattle.counted_io.specs.declared.counted.Counted.{Counted}
use Rattle.td_answers.specs.Answers.{said_body}
use Rattle.td_commands.specs.declared.said.Said.{Said}
use Rattle.td_desk.specs.declared.fault.Fault.TheVariants as fault
use Rattle.td_desk.specs.declared.running.Outcome.{Outcome}
use Rattle.td_desk.specs.declared.running.Outcome.TheVariants as outcome
use Rattle.td_desk.specs.View.{DeskView}
use Rattle.td_desk.proofs.Calls.{one_outcome_more}
use Rattle.td_desk.proofs.Turns.{run_on}
use Rattle.td_journal_lines.specs.Lines.{Numbered}
use Rattle.td_replay.proofs.Counting.{counted_more}
use Rattle.td_replay.proofs.FirstLines.{lines_more}
use Rattle.td_replay.proofs.RowsDone.{zip_more}
use Rattle.td_replay.specs.Following.{AreToldAgain, AreTried, FindsEnd, HasFollowed, HasGiven, IsFilled, IsNextRow, IsToldAgain, IsUnfilled, NoNextLine}
use Rattle.td_replay.specs.Replays.{IsDoneAt, IsEachDone, stamped_of}
use Rattle.td_replay.specs.declared.following.FollowFault.{FollowFault}
use Rattle.td_replay.specs.declared.following.FollowFault.TheVariants.{BadRow, Misplaced, Differs, Unread, Failed}

-- an error that is handed on
pub error_is : {X E : Type 0} (answer : Result X E) (why : E) → IsErrAnd answer (λ told. told ≡ why) → answer ≡ Err why
error_is (Ok done) why told = absurd told
error_is (Err other) why told = ap Err told

-- ---- what is read

module _ {R : Type 0} (remaining : R → Option (List ℕ)) where
  pub gives_none : (read : Counted R) → HasGiven remaining read [] read
  gives_none read = record { pieces = []; brought = refl; bytes_are = refl }

  pub gives_piece : (old mid new : Counted R) (bytes piece : List ℕ) → HasGiven remaining old bytes mid → Brings remaining mid piece new → HasGiven remaining old (bytes ++ piece) new
  gives_piece old mid new bytes piece gave brings = record {
    pieces = gave.pieces ++ piece ∷ [];
    brought = FoldsTo-push (Brings remaining) old gave.pieces mid piece new gave.brought brings;
    bytes_are = concat-append gave.pieces (piece ∷ []) ∙ (ap (λ (l : List ℕ). l ++ (piece ++ [])) gave.bytes_are ∙ ap (λ (l : List ℕ). bytes ++ l) (append-nil piece));
  }

  pub gives_both : (old mid new : Counted R) (bytes more : List ℕ) → HasGiven remaining old bytes mid → HasGiven remaining mid more new → HasGiven remaining old (bytes ++ more) new
  gives_both old mid new bytes more gave then = record {
    pieces = gave.pieces ++ then.pieces;
    brought = FoldsTo-append (Brings remaining) old gave.pieces then.pieces mid new gave.brought then.brought;
    bytes_are = concat-append gave.pieces then.pieces ∙ (ap (λ (l : List ℕ). l ++ concat then.pieces) gave.bytes_are ∙ ap (λ (l : List ℕ). bytes ++ l) then.bytes_are);
  }

  pub piece_in : (old new : Counted R) (bytes more : List ℕ) (some : Bool) → some ≡ true → IsFilled remaining old new bytes more some → (piece : List ℕ) × Brings remaining old piece new × (more ≡ bytes ++ piece)
  piece_in old new bytes more true is filled = filled
  piece_in old new bytes more false is filled = absurd (cc)

  pub end_in : (old new : Counted R) (bytes more : List ℕ) (some : Bool) → some ≡ false → IsFilled remaining old new bytes more some → FindsEnd remaining old new × (more ≡ bytes)
  end_in old new bytes more true is filled = absurd (cc)
  end_in old new bytes more false is filled = filled

  pub none_behind : (old mid new : Counted R) (given : List ℕ) → HasGiven remaining old given mid → (why : FollowFault) → IsUnfilled remaining mid new why → NoNextLine remaining old new why
  none_behind old mid new given gave Unread is = (given, mid, gave, is)
  none_behind old mid new given gave (Failed why) is = (is.0, (given ++ is.1.0, gives_piece old mid new given is.1.0 gave is.1.1))
  none_behind old mid new given gave (BadRow n) is = absurd is
  none_behind old mid new given gave (Misplaced n) is = absurd is
  none_behind old mid new given gave (Differs n) is = absurd is

-- ---- what is done

abbrev pub words_of : List Said → List Outcome
words_of said = map (λ words. outcome.Said words) said

module _ {D : Type 0} (view : DeskView D) (opened : D) where
  pub none_tried : AreTried view [] [] opened opened
  none_tried = record {
    steps = refl;
    calls = refl;
    private = λ clean live sound books tied. (view.content opened, search rules, λ _. refl);
  }

  pub none_told : AreToldAgain view [] opened opened
  none_told = record { said = []; same = refl; tried = none_tried; clean = λ is. is; live = λ clean is. is }

  pub tried_more : (rows : List Numbered) (outcomes : List Outcome) (mid new : D) (r : Numbered) (o : Outcome) → length outcomes ≡ length rows
      → (view.is_clean mid → view.is_clean opened)
      → AreTried view rows outcomes opened mid → IsDoneAt view r.row.stamped o mid new → AreTried view (rows ++ r ∷ []) (outcomes ++ o ∷ []) opened new
  tried_more rows outcomes mid new r o many clean was is =
      let list : map stamped_of (rows ++ r ∷ []) ≡ map stamped_of rows ++ stamped_of r ∷ [] = map-append stamped_of rows (r ∷ []) in
      let same : length outcomes ≡ length (map stamped_of rows) = many ∙ sym (length-map rows stamped_of) in
      record {
        steps = rw (list, zip_more (map stamped_of rows) outcomes (stamped_of r) o same)
            (FoldsTo-push (IsEachDone view) opened (zip (map stamped_of rows) outcomes) mid (r.row.stamped, o) new was.steps is);
        calls = rw list (one_outcome_more view opened mid new (map stamped_of rows) outcomes (stamped_of r) o was.calls is.calls);
        private = λ now live sound books tied.
            let before = was.private (is.clean now) live sound books tied in
            rw list
            (run_on (view.content opened).country books (map stamped_of rows) outcomes (stamped_of r)
            before.0 (view.content mid) (view.content new) (view.is_live mid) (view.is_live new) before.1 before.2 (is.live now) o (is.performs now));
      }

  pub told_more : (rows : List Numbered) (mid new : D) (r : Numbered) → AreToldAgain view rows opened mid → IsToldAgain view r mid new → AreToldAgain view (rows ++ r ∷ []) opened new
  told_more rows mid new r was is =
      let words = is.words in
      let size : length was.said ≡ length rows = sym (length-map was.said said_body) ∙ (ap (λ (l : List (List ℕ)). length l) was.same ∙ length-map rows (λ q. q.row.shown)) in
      let many : length (words_of was.said) ≡ length rows = length-map was.said (λ w. outcome.Said w) ∙ size in
      record {
        said = was.said ++ words ∷ [];
        same = map-append said_body was.said (words ∷ []) ∙ (ap (λ l. l ++ said_body words ∷ []) was.same
            ∙ (ap (λ b. map (λ (q : Numbered). q.row.shown) rows ++ b ∷ []) is.same ∙ sym (map-append (λ (q : Numbered). q.row.shown) rows (r ∷ []))));
        tried = rw (map-append (λ (w : Said). outcome.Said w) was.said (words ∷ [])) (tried_more rows (words_of was.said) mid new r (outcome.Said words) many was.clean was.tried is.done);
        clean = λ now. was.clean (is.done.clean now);
        live = λ now live. is.done.stays now (was.live (is.done.clean now) live) (said_not_failed words);
      }
    where
      said_not_failed : (words : Said) → outcome.Said words ≡ outcome.Failed fault.Store → ⊥
      said_not_failed words is = cc

module _ {D R : Type 0} (view : DeskView D) (remaining : R → Option (List ℕ)) (opened : D) (reader : Counted R) where
  pub followed_none : HasFollowed view remaining opened reader [] [] opened reader
  followed_none = record { text = []; lines = refl; numbers = tt; given = gives_none remaining reader; done = none_told view opened }

  -- what was followed, where more was read behind it
  pub followed_given : (rows : List Numbered) (rest more : List ℕ) (desk : D) (read new : Counted R) → HasFollowed view remaining opened reader rows rest desk read
      → HasGiven remaining read more new → HasFollowed view remaining opened reader rows (rest ++ more) desk new
  followed_given rows rest more desk read new was gave = record {
    text = was.text;
    lines = was.lines;
    numbers = was.numbers;
    given = rw (← append_assoc was.text rest more) (gives_both remaining reader read new (was.text ++ rest) more was.given gave);
    done = was.done;
  }

  -- and where the line behind it was taken and its row done
  pub followed_row : (rows : List Numbered) (line rest : List ℕ) (r : Numbered) (desk next : D) (read : Counted R) → HasFollowed view remaining opened reader rows (line ++ rest) desk read
      → IsNextRow line (length rows) r → IsToldAgain view r desk next → HasFollowed view remaining opened reader (rows ++ r ∷ []) rest next read
  followed_row rows line rest r desk next read was is told = record {
    text = was.text ++ line;
    lines = lines_more rows was.text r line was.lines is.is;
    numbers = counted_more 1 rows r was.numbers (omega (arith, is.number));
    given = rw (append_assoc was.text line rest) was.given;
    done = told_more view opened rows desk next r was.done told;
  }
