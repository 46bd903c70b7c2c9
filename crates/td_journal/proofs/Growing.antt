-- How a journal grows, call by call.
use Rattle.std.proofs.Common.{◌≡◌, ℕ, ◌+◌, List, [], ◌∷◌, ◌++◌, Option, None, Some, inl, inr, refl, sym, ◌∙◌, ap, subst}
use Rattle.std.specs.Prelude.{Bool, Ok, true, false}
use Rattle.std.proofs.lemmas.List.{append-nil, append_assoc}
use Rattle.http_wire.specs.ReplyText.{is_made}
use Rattle.http_wire.specs.declared.reply.Reply.{Reply}
use Rattle.http_wire.specs.declared.reply.Reply.TheVariants.{Made, NoMemory, Store}
use Rattle.sqlite_disk.specs.declared.Disk.{Ghosts}
use Rattle.td_commands.specs.declared.command.Stamped.{Stamped}
use Rattle.td_model.specs.Content.{Content, IsSound}
use Rattle.td_desk.specs.Runs.{IsStep}
use Rattle.td_desk.specs.View.{DeskView}
use Rattle.td_acts.specs.Weighing.{Carries}
use Rattle.td_desk.specs.declared.fault.Fault.{Fault}
use Rattle.td_desk.specs.declared.fault.Fault.TheVariants as fault
use Rattle.td_desk.specs.declared.running.Outcome.{Outcome}
use Rattle.td_desk.specs.declared.running.Outcome.TheVariants as outcome
use Rattle.td_http.specs.Serving.{HandledAs, IsCausedBy, IsReplyTo}
use Rattle.td_journal.specs.Growth.{AreJournaled, HasGrown, answered_by}
use Rattle.td_journal.specs.Journal.{IsDurable, IsTight, next_number, text_of}
use Rattle.td_journal.specs.Journaled.{IsTakenBack, IsWaiting, IsWritten, journaled, rows_in, waiting, weighed_at, written}
use Rattle.td_journal.specs.declared.desk.JournaledDesk.{JournaledDesk}

-- the rows of commands, and those of further ones behind them
pub rows_on : (list more : List Stamped) (n m k : ℕ) (c d e : Content) (t u : List ℕ)
    → AreJournaled n c list t m d → AreJournaled m d more u k e → AreJournaled n c (list ++ more) (t ++ u) k e
rows_on [] more n m k c d e t u none rest =
    subst (λ (t : List ℕ). AreJournaled n c more (t ++ u) k e) (sym none.0)
    (subst (λ (n : ℕ). AreJournaled n c more u k e) none.1
    (subst (λ (c : Content). AreJournaled m c more u k e) none.2 rest))
rows_on (s ∷ list) more n m k c d e t u (row, after, rest, noted, carries, text, rows) others = (
  row,
  after,
  rest ++ u,
  noted,
  carries,
  ap (λ t. t ++ u) text ∙ append_assoc (written row) rest u,
  rows_on list more (n + rows_in row) m k after d e rest u rows others,
)

module _ {D F : Type 0} {g : Ghosts F} (view : DeskView D) where
  -- nothing was written
  pub nothing_grown : (old new : JournaledDesk D F g) → text_of new.journal ≡ text_of old.journal → next_number new.journal ≡ next_number old.journal
      → view.content new.desk ≡ view.content old.desk → (IsTight old.journal → IsTight new.journal)
      → (IsDurable old.journal → IsDurable new.journal) → HasGrown view [] old new
  nothing_grown old new text next same tight durable = record {
    rows = [];
    text = text ∙ sym (append-nil (text_of old.journal));
    are = (refl, next, same);
    tight = tight;
    durable = durable;
  }

  -- what was written, and what was written behind it
  pub grown_on : (list more : List Stamped) (old mid new : JournaledDesk D F g) → HasGrown view list old mid → HasGrown view more mid new
      → HasGrown view (list ++ more) old new
  grown_on list more old mid new one two = record {
    rows = one.rows ++ two.rows;
    text = two.text ∙ ap (λ t. t ++ two.rows) one.text ∙ append_assoc (text_of old.journal) one.rows two.rows;
    are = rows_on list more _ _ _ _ _ _ _ _ one.are two.are;
    tight = λ tight. two.tight (one.tight tight);
    durable = λ durable. two.durable (one.durable durable);
  }

  -- a command was answered
  pub one_grown : (old mid new : JournaledDesk D F g) (s : Stamped) → IsWaiting view old s mid → IsWritten view mid new
      → Carries (view.content old.desk) s (view.content new.desk) → view.is_clean new.desk → IsSound (view.content old.desk)
      → HasGrown view (s ∷ []) old new
  one_grown old mid new s waits writes carries clean sound = record {
    rows = written (waiting mid) ++ [];
    text = writes.text ∙ ap (λ t. t ++ written (waiting mid)) (ap text_of waits.journal)
        ∙ ap (λ r. text_of old.journal ++ r) (sym (append-nil (written (waiting mid))));
    are = (
      waiting mid,
      view.content new.desk,
      [],
      waits.row (writes.clean clean) sound,
      carries,
      refl,
      (refl, writes.next ∙ ap (λ n. n + rows_in (waiting mid)) (ap next_number waits.journal), refl),
    );
    tight = λ tight. writes.tight (subst IsTight (sym waits.journal) tight);
    durable = λ durable. writes.durable (subst IsDurable (sym waits.journal) durable);
  }

  -- a command failed as it was weighed, or was weighed and no more
  left_alone : (old new : JournaledDesk D F g) → new.journal ≡ old.journal → view.content new.desk ≡ view.content old.desk → HasGrown view [] old new
  left_alone old new journal same =
      nothing_grown old new (ap text_of journal) (ap next_number journal) same (λ tight. subst IsTight (sym journal) tight)
      (λ durable. subst IsDurable (sym journal) durable)

  pub weighed_alone : (old new : JournaledDesk D F g) (s : Stamped) (why : Option Fault) → weighed_at view old s why new
      → view.content new.desk ≡ view.content old.desk → HasGrown view [] old new
  weighed_alone old new s None waits same = left_alone old new waits.journal same
  weighed_alone old new s (Some why) unweighed same = left_alone old new unweighed.journal same

  -- it failed as it was carried
  pub taken_back : (old mid new : JournaledDesk D F g) (s : Stamped) (why : Fault) → IsWaiting view old s mid → IsTakenBack view mid why new
      → (journaled view).is_live new → view.content new.desk ≡ view.content old.desk → HasGrown view [] old new
  taken_back old mid new s why waits back live same =
      nothing_grown old new (back.text ∙ ap text_of waits.journal) (back.next ∙ ap next_number waits.journal) same (λ tight. back.tight live.1)
      (λ durable. back.durable live.1)

  -- the reply to a command, by what the desk did
  module _ (old new : JournaledDesk D F g) (s : Stamped) (close : Bool) (clean : view.is_clean new.desk) (live : (journaled view).is_live new)
      (sound : IsSound (view.content old.desk)) where
    abbrev Live : JournaledDesk D F g → Type 0
    Live = (journaled view).is_live

    abbrev Replied : Reply → Type 0
    Replied reply = HasGrown view (answered_by (Ok s.command) s.at (is_made reply)) old new × IsSound (view.content new.desk)

    failed : (reply : Reply) → is_made reply ≡ false → view.content new.desk ≡ view.content old.desk → HasGrown view [] old new → Replied reply
    failed reply fixed same grown = (
      subst (λ b. HasGrown view (answered_by (Ok s.command) s.at b) old new) (sym fixed) grown,
      subst IsSound (sym same) sound,
    )

    same_by : (o : Outcome) (reply : Reply) → is_made reply ≡ false → IsStep (Live old) (Live new) (view.content old.desk) s o (view.content new.desk)
        → IsReplyTo o close reply → view.content new.desk ≡ view.content old.desk
    same_by (outcome.Said words) reply fixed step told = absurd (not_both fixed told.0)
      where
        not_both : is_made reply ≡ false → is_made reply ≡ true → ⊥
        not_both fixed made = cc
    same_by (outcome.Failed why) reply fixed step told = step live

    carries_by : (o : Outcome) (reply : Reply) → is_made reply ≡ true → IsStep (Live old) (Live new) (view.content old.desk) s o (view.content new.desk)
        → IsReplyTo o close reply → Carries (view.content old.desk) s (view.content new.desk)
    carries_by (outcome.Said words) reply made step told = (step.2 sound).1
    carries_by (outcome.Failed fault.NoMemory) reply made step told = absurd (not_made (ap is_made (sym told) ∙ made))
      where
        not_made : false ≡ true → ⊥
        not_made bad = cc
    carries_by (outcome.Failed fault.Store) reply made step told = absurd (not_made (ap is_made (sym told) ∙ made))
      where
        not_made : false ≡ true → ⊥
        not_made bad = cc

    pub replied : (reply : Reply) → IsCausedBy (journaled view) old s reply new
        → HandledAs (Live old) (Live new) (view.content old.desk) s.at (Ok s.command) close reply (view.content new.desk) → Replied reply
    replied (Made bytes) (words, (mid, weighed, carried)) handled =
        let carries = carries_by handled.0 (Made bytes) refl handled.1 handled.2 in
        (one_grown old mid new s weighed carried carries clean sound, carries.sound)
    replied NoMemory (inl (inl weighed)) handled =
        let same = same_by handled.0 NoMemory refl handled.1 handled.2 in
        failed NoMemory refl same (weighed_alone old new s (Some fault.NoMemory) weighed same)
    replied NoMemory (inl (inr (mid, weighed, carried))) handled =
        let same = same_by handled.0 NoMemory refl handled.1 handled.2 in
        failed NoMemory refl same (taken_back old mid new s fault.NoMemory weighed carried live same)
    replied NoMemory (inr weighed) handled =
        let same = same_by handled.0 NoMemory refl handled.1 handled.2 in
        failed NoMemory refl same (weighed_alone old new s None weighed same)
    replied Store (inl weighed) handled =
        let same = same_by handled.0 Store refl handled.1 handled.2 in
        failed Store refl same (weighed_alone old new s (Some fault.Store) weighed same)
    replied Store (inr (mid, weighed, carried)) handled =
        let same = same_by handled.0 Store refl handled.1 handled.2 in
        failed Store refl same (taken_back old mid new s fault.Store weighed carried live same)
