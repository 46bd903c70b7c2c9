-- Rows that were replayed over the content that they came from.
use Rattle.std.proofs.Common.{◌≡◌, ◌≢◌, ℕ, Bool, true, false, List, [], ◌∷◌, ◌++◌, All, length, map, Option, Some, None, inl, inr, refl, sym, ap, subst, ◌∙◌, arith}
use Rattle.std.specs.Prelude.{if◌then◌else◌, zip}
use Rattle.std.specs.List.{FoldsTo}
use Rattle.std.proofs.lemmas.List.{length-map, take_all}
use Rattle.std.proofs.lemmas.List.Elements.{All-head, All-tail}
use Rattle.td_answers.specs.Answers.{said_body}
use Rattle.td_commands.specs.Commands.{owner_of}
use Rattle.td_commands.specs.declared.command.Stamped.{Stamped}
use Rattle.td_commands.specs.declared.said.Said.{Said}
use Rattle.td_model.specs.Content.{Content, IsSound}
use Rattle.td_desk.specs.Runs.{is_holder, part}
use Rattle.td_desk.specs.View.{DeskView}
use Rattle.td_acts.specs.Weighing.{Carries}
use Rattle.td_desk.specs.declared.fault.Fault.TheVariants as fault
use Rattle.td_desk.specs.declared.running.Outcome.{Outcome}
use Rattle.td_journal.specs.Parts.{AreTold, PartTellsTheSame, own_replies}
use Rattle.td_journal_lines.specs.Lines.{Numbered}
use Rattle.td_redo.proofs.Journals.{journal_makes_one_content}
use Rattle.td_redo.specs.Redo.{AreDone, IsDone, Row, said_over}
use Rattle.td_redo.specs.Replies.{body_text}
use Rattle.td_replay.proofs.RowsDone.{words_said}
use Rattle.td_replay.specs.Laws.{ChangedReplyIsTold, DeskIsRebuilt, IsReplayedOver, PartDiffersNowhere, replies_of, rows_of, rows_owned, with_reply}
use Rattle.td_replay.specs.Replays.{AreEnded, IsEachDone, IsFirstDifference, IsPlain, IsReplayOf, IsSame, stamped_of, tried_rows}
use Rattle.td_replay.specs.declared.replaying.ReplayRun.{ReplayRun}

-- ---- replies

-- rows with the replies that are given now differ nowhere
none_differs : (rows : List Numbered) (said : List Said) (found : Option ℕ) → map said_body said ≡ replies_of rows → IsFirstDifference rows said found → found ≡ None
none_differs [] said found same is = is
none_differs (r ∷ rows) [] found same is = is
none_differs (r ∷ rows) (words ∷ said) found same (inl (first, more)) = none_differs rows said found (cc) more
none_differs (r ∷ rows) (words ∷ said) found same (inr (differs, there)) = let is : IsSame r words = cc in absurd (differs is)

-- rows of which one has another reply
one_differs : (before after : List Numbered) (row : Numbered) (reply : List ℕ) (said : List Said) (found : Option ℕ)
    → map said_body said ≡ replies_of (before ++ row ∷ after) → reply ≢ row.row.shown
    → IsFirstDifference (before ++ with_reply row reply ∷ after) said found → found ≡ Some row.number
one_differs [] after row reply [] found same other is = absurd (cc)
one_differs [] after row reply (words ∷ said) found same other (inl (first, more)) =
    let told : said_body words ≡ row.row.shown = cc in absurd (other (sym first ∙ told))
one_differs [] after row reply (words ∷ said) found same other (inr (differs, there)) = there
one_differs (b ∷ before) after row reply [] found same other is = absurd (cc)
one_differs (b ∷ before) after row reply (words ∷ said) found same other (inl (first, more)) =
    one_differs before after row reply said found (cc) other more
one_differs (b ∷ before) after row reply (words ∷ said) found same other (inr (differs, there)) =
    let is : IsSame b words = cc in absurd (differs is)

-- nothing is escaped in them
plain_replies : (said : List Said) → All IsPlain said → map said_body said ≡ map body_text said
plain_replies [] plain = refl
plain_replies (words ∷ said) plain =
    ap (λ (t : List ℕ). t ∷ map said_body said) (All-head IsPlain words said plain)
    ∙ ap (λ (ts : List (List ℕ)). body_text words ∷ ts) (plain_replies said (All-tail IsPlain words said plain))

-- ---- a replay of all rows

module _ {D : Type 0} (view : DeskView D) where
  -- a desk that is clean behind rows was so before them
  pub clean_before : (each : List (Stamped × Outcome)) (old new : D) → FoldsTo (IsEachDone view) old each new → view.is_clean new → view.is_clean old
  clean_before [] old new steps clean = subst (λ (d : D). view.is_clean d) (sym steps) clean
  clean_before (e ∷ each) old new (mid, first, more) clean = first.clean (clean_before each mid new more clean)

  -- all rows were told
  pub record AreAllDone (begin : Content) (rows : List Numbered) (r : ReplayRun) (old new : D) : Type 0 where
    pub said : List Said
    pub size : length said ≡ length rows
    pub differs : IsFirstDifference rows said r.differs
    pub steps : FoldsTo (IsEachDone view) old (zip (map stamped_of rows) (words_said said)) new
    pub plain : All IsPlain said

  all_of : (begin : Content) (rows : List Numbered) (r : ReplayRun) (old new : D) → IsReplayedOver view begin rows r old new → AreAllDone begin rows r old new
  all_of begin rows r old new is = by is.replay
    where
      by : IsReplayOf view rows r old new → AreAllDone begin rows r old new
      by (inl none) = let stop : Some fault.NoMemory ≡ None = sym none.stopped ∙ is.all in absurd (cc)
      by (inr done) =
          let ended : AreEnded rows done.said None done.outcomes = rw is.all at done.ended in
          let outcomes : done.outcomes ≡ words_said done.said = ended.0 in
          let number : length done.outcomes ≡ length rows = ap (λ (os : List Outcome). length os) outcomes ∙ (length-map done.said _ ∙ ended.1) in
          let all : tried_rows rows done.outcomes ≡ map stamped_of rows = ap (map stamped_of) (take_all (length done.outcomes) rows (omega (arith, number))) in
          let steps : FoldsTo (IsEachDone view) old (zip (map stamped_of rows) done.outcomes) new =
          subst (λ (l : List Stamped). FoldsTo (IsEachDone view) old (zip l done.outcomes) new) all done.steps in
          record {
            said = done.said;
            size = ended.1;
            differs = done.differs;
            steps = subst (λ (os : List Outcome). FoldsTo (IsEachDone view) old (zip (map stamped_of rows) os) new) outcomes steps;
            plain = done.plain;
          }

  -- a row that was done leaves the content that it left
  one_left : (begin next after : Content) (row : Row (List ℕ)) → IsDone body_text begin row next → Carries begin row.stamped after → after ≡ next
  one_left begin next after row done carries =
      journal_makes_one_content (List ℕ) body_text begin after next (row ∷ [])
      (after, record { proper = done.proper; accepted = done.accepted; told = done.told; carried = carries }, refl) (next, done, refl)

  rebuilt : (rows : List Numbered) (said : List Said) (begin end : Content) (old new : D) → length said ≡ length rows → IsSound begin → view.content old ≡ begin
      → AreDone body_text begin (rows_of rows) end → FoldsTo (IsEachDone view) old (zip (map stamped_of rows) (words_said said)) new
      → view.is_clean new → (map body_text said ≡ replies_of rows) × (view.content new ≡ end)
  rebuilt [] [] begin end old new size sound is done steps clean = (refl, ap (λ (d : D). view.content d) (sym steps) ∙ (is ∙ sym done))
  rebuilt [] (words ∷ said) begin end old new size sound is done steps clean = absurd (omega (arith, size))
  rebuilt (r ∷ rows) [] begin end old new size sound is done steps clean = absurd (omega (arith, size))
  rebuilt (r ∷ rows) (words ∷ said) begin end old new size sound is (next, first, others) (mid, step, more) clean =
      let performs = (step.performs (clean_before (zip (map stamped_of rows) (words_said said)) mid new more clean)).2 (subst IsSound (sym is) sound) in
      let told : words ≡ said_over begin r.row.stamped = performs.0 ∙ ap (λ (c : Content). said_over c r.row.stamped) is in
      let carries : Carries begin r.row.stamped (view.content mid) = subst (λ (c : Content). Carries c r.row.stamped (view.content mid)) is performs.1 in
      let rest = rebuilt rows said next end mid new (omega (arith, size)) first.carried.sound (one_left begin next (view.content mid) r.row first carries) others more clean in (
        ap (λ (t : List ℕ). t ∷ map body_text said) (ap body_text told ∙ first.told) ∙ ap (λ (ts : List (List ℕ)). r.row.shown ∷ ts) rest.0,
        rest.1,
      )

  pub desk_is_rebuilt : DeskIsRebuilt view
  desk_is_rebuilt begin end rows r old new sound done is =
      let all = all_of begin rows r old new is in
      let both = rebuilt rows all.said begin end old new all.size sound is.content done all.steps is.clean in
      (none_differs rows all.said r.differs (plain_replies all.said all.plain ∙ both.0) all.differs, both.1)

  -- another reply is no other command
  same_commands : (before after : List Numbered) (row : Numbered) (reply : List ℕ) → map stamped_of (before ++ with_reply row reply ∷ after) ≡ map stamped_of (before ++ row ∷ after)
  same_commands [] after row reply = refl
  same_commands (b ∷ before) after row reply = ap (λ (l : List Stamped). stamped_of b ∷ l) (same_commands before after row reply)

  same_size : (before after : List Numbered) (row other : Numbered) → length (before ++ other ∷ after) ≡ length (before ++ row ∷ after)
  same_size [] after row other = refl
  same_size (b ∷ before) after row other = let rest = same_size before after row other in omega (arith, rest)

  pub changed_reply_is_told : ChangedReplyIsTold view
  changed_reply_is_told begin end before after row reply r old new sound done other is =
      let rows = before ++ row ∷ after in
      let changed = before ++ with_reply row reply ∷ after in
      let all = all_of begin changed r old new is in
      let steps : FoldsTo (IsEachDone view) old (zip (map stamped_of rows) (words_said all.said)) new =
      subst (λ (l : List Stamped). FoldsTo (IsEachDone view) old (zip l (words_said all.said)) new) (same_commands before after row reply) all.steps in
      let both = rebuilt rows all.said begin end old new (all.size ∙ same_size before after row (with_reply row reply)) sound is.content done steps is.clean in
      (one_differs before after row reply all.said r.differs (plain_replies all.said all.plain ∙ both.0) other all.differs, both.1)

  -- ---- a part

  told_all : (rows : List Numbered) (said : List Said) (old new : D) → length said ≡ length rows → IsSound (view.content old)
      → FoldsTo (IsEachDone view) old (zip (map stamped_of rows) (words_said said)) new → view.is_clean new
      → AreTold (view.content old) (map stamped_of rows) (map said_body said) (view.content new)
  told_all [] [] old new size sound steps clean = (refl, ap (λ (d : D). view.content d) (sym steps))
  told_all [] (words ∷ said) old new size sound steps clean = absurd (omega (arith, size))
  told_all (r ∷ rows) [] old new size sound steps clean = absurd (omega (arith, size))
  told_all (r ∷ rows) (words ∷ said) old new size sound (mid, step, more) clean =
      let performs = (step.performs (clean_before (zip (map stamped_of rows) (words_said said)) mid new more clean)).2 sound in (
        view.content mid,
        map said_body said,
        ap (λ (t : List ℕ). t ∷ map said_body said) (ap said_body performs.0),
        performs.1,
        told_all rows said mid new (omega (arith, size)) performs.1.sound more clean,
      )

-- the commands and the replies of H's rows
owned_commands : (country : List ℕ) (H : ℕ) (rows : List Numbered) → map stamped_of (rows_owned country H rows) ≡ part country H (map stamped_of rows)
owned_commands country H [] = refl
owned_commands country H (r ∷ rows) = by (owned_commands country H rows) (is_holder H (owner_of country r.row.stamped.command))
  where
    by : map stamped_of (rows_owned country H rows) ≡ part country H (map stamped_of rows) → (b : Bool) → map stamped_of (if b then r ∷ rows_owned country H rows else rows_owned country H rows) ≡ (if b then stamped_of r ∷ part country H (map stamped_of rows) else part country H (map stamped_of rows))
    by rest true = ap (λ (l : List Stamped). stamped_of r ∷ l) rest
    by rest false = rest

owned_replies : (country : List ℕ) (H : ℕ) (rows : List Numbered) → replies_of (rows_owned country H rows) ≡ own_replies country H (map stamped_of rows) (replies_of rows)
owned_replies country H [] = refl
owned_replies country H (r ∷ rows) = by (owned_replies country H rows) (is_holder H (owner_of country r.row.stamped.command))
  where
    by : replies_of (rows_owned country H rows) ≡ own_replies country H (map stamped_of rows) (replies_of rows) → (b : Bool) → replies_of (if b then r ∷ rows_owned country H rows else rows_owned country H rows)
        ≡ (if b then r.row.shown ∷ own_replies country H (map stamped_of rows) (replies_of rows) else own_replies country H (map stamped_of rows) (replies_of rows))
    by rest true = ap (λ (l : List (List ℕ)). r.row.shown ∷ l) rest
    by rest false = rest

pub part_differs_nowhere : {D : Type 0} (view : DeskView D) → PartTellsTheSame → PartDiffersNowhere view
part_differs_nowhere view tells country H begin end other rows r old new here there same sound told is =
    let mine = rows_owned country H rows in
    let all = all_of view other mine r old new is in
    let part_told : AreTold (view.content old) (map stamped_of mine) (map said_body all.said) (view.content new) =
    told_all view mine all.said old new all.size (subst IsSound (sym is.content) sound) all.steps is.clean in
    let by_part : AreTold other (part country H (map stamped_of rows)) (map said_body all.said) (view.content new) =
    subst (λ (l : List Stamped). AreTold other l (map said_body all.said) (view.content new)) (owned_commands country H rows)
    (subst (λ (c : Content). AreTold c (map stamped_of mine) (map said_body all.said) (view.content new)) is.content part_told) in
    none_differs mine all.said r.differs
    (tells country H begin other end (view.content new) (map stamped_of rows) (replies_of rows) (map said_body all.said) here there same told by_part
    ∙ sym (owned_replies country H rows)) all.differs
