-- A start behind a start.
use Rattle.std.proofs.Common.{◌≡◌, ◌≢◌, ◌⊎◌, ℕ, ◌+◌, ◌<◌, ◌≤◌, List, [], length, Option, None, Some, inl, inr, refl, sym, ap, subst, ◌∙◌, arith, append-nil, length-append}
use Rattle.std.proofs.lemmas.List.{take_all}
use Rattle.std.proofs.lemmas.List.Elements.{All-nil}
use Rattle.std.specs.Prelude.{◌==◌, false}
use Rattle.sqlite_disk.specs.declared.Disk.{Ghosts}
use Rattle.td_commands.specs.declared.command.Stamped.{Stamped}
use Rattle.td_model.specs.Content.{Content, IsSound}
use Rattle.td_desk.specs.View.{DeskView}
use Rattle.td_journal.specs.Journal.{file_of, text_of}
use Rattle.td_journal.specs.declared.desk.JournaledDesk.{JournaledDesk}
use Rattle.td_journal_start.specs.Laws.{IsClean, IsLeft, NotRefusedAgain, StartedTwice}
use Rattle.td_journal_lines.specs.Lines.{Numbered}
use Rattle.td_journal_start.specs.Lines.{IsJournal, next_after, tail}
use Rattle.td_journal_start.specs.Starts.{IsStarted, IsTaken}
use Rattle.td_journal_start.proofs.Reading.{journal_once}
use Rattle.td_redo.specs.Endings.{IsRedoneAs}
use Rattle.td_redo.specs.declared.redoing.Redone.{Redone}
use Rattle.td_redo.specs.declared.redoing.Redone.TheVariants.{Carried, Stands, Foreign}
use Rattle.td_redo.proofs.Endings.{redone_twice}

-- a text alone is a journal
text_alone : (bytes text : List ℕ) (last : Option Numbered) → IsJournal bytes text last → IsJournal text text last
text_alone bytes text last j = record {
  before = j.before;
  line = j.line;
  torn = [];
  bytes_are = sym (append-nil text);
  text_is = j.text_is;
  last_is = j.last_is;
  torn_is = All-nil (λ c. (c == 10) ≡ false);
  near = by j.near;
}
  where
    by : (length j.line + length j.torn < tail) ⊎ (length bytes ≤ tail) → (length j.line + 0 < tail) ⊎ (length text ≤ tail)
    by (inl near) = inl (omega (arith, near))
    by (inr all) = inr (let size : length bytes ≡ length text + length j.torn = ap length j.bytes_are ∙ length-append text j.torn in omega (arith, all, size))

-- what a redo leaves is sound
ends_sound : (ending : Redone) (s : Stamped) (reply : List ℕ) (old new : Content) → IsSound old → IsRedoneAs ending s reply old new → IsSound new
ends_sound Carried s reply old new sound ends = ends.1.sound
ends_sound Stands s reply old new sound ends = subst IsSound (sym ends.1) sound
ends_sound Foreign s reply old new sound ends = subst IsSound (sym ends.1) sound

module _ {D F : Type 0} (view : DeskView D) (g : Ghosts F) (desk again : D) (file found : F) (one : JournaledDesk D F g) (sound : IsSound (view.content desk)) (started : IsStarted view desk file one)
    (clean : IsClean view g one.desk one.journal.file) (left : IsLeft view one again found) where
  -- the file that was left is the journal that was started
  pub left_journal : IsJournal (g.seen found) (text_of one.journal) started.last
  left_journal =
      let tight = left.tight in
      let all : text_of one.journal ≡ file_of one.journal = take_all one.journal.end (file_of one.journal) (omega (arith, tight)) in
      subst (λ (b : List ℕ). IsJournal b (text_of one.journal) started.last) (all ∙ sym left.bytes)
      (text_alone (g.seen file) (text_of one.journal) started.last (started.found clean.1))

  -- the last row, asked again with this ending
  pub row_again : (last : Option Numbered) (r : Numbered) (ending : Redone) (new : Content) → IsTaken view desk last one.desk → last ≡ Some r
      → (IsSound (view.content again) → IsRedoneAs ending r.row.stamped r.row.shown (view.content again) new) → (new ≡ view.content one.desk) × (ending ≢ Foreign)
  row_again None r ending new taken is ends = cc
  row_again (Some q) r ending new (first, other, asked) is ends =
      let same : q ≡ r = cc in
      let ended : IsRedoneAs first q.row.stamped q.row.shown (view.content desk) (view.content one.desk) = asked.ends clean.0 sound in
      let sound_left : IsSound (view.content one.desk) = ends_sound first q.row.stamped q.row.shown (view.content desk) (view.content one.desk) sound ended in
      let next : IsRedoneAs ending r.row.stamped r.row.shown (view.content one.desk) new =
      subst (λ (x : Content). IsRedoneAs ending r.row.stamped r.row.shown x new) left.content (ends (subst IsSound (sym left.content) sound_left)) in
      let again_q : IsRedoneAs ending q.row.stamped q.row.shown (view.content one.desk) new = subst (λ (x : Numbered). IsRedoneAs ending x.row.stamped x.row.shown (view.content one.desk) new) (sym same) next in
      let both = redone_twice (view.content desk) (view.content one.desk) new q.row.stamped q.row.shown first ending sound asked.proper ended again_q in
      (both.0, λ foreign. other (both.1 foreign))

  taken_again : (last other : Option Numbered) (new : D) → IsTaken view desk last one.desk → other ≡ last → view.is_clean new → IsTaken view again other new → view.content new ≡ view.content one.desk
  taken_again last None new taken same is next = ap view.content next ∙ left.content
  taken_again last (Some r) new taken same is (ending, other, asked) =
      (row_again last r ending (view.content new) taken (sym same) (λ sound. asked.ends is sound)).0

pub started_twice : {D F : Type 0} (view : DeskView D) (g : Ghosts F) → StartedTwice view g
started_twice view g desk again file found one two sound started clean left next clean_next =
    let same = journal_once (g.seen found) (text_of two.journal) (text_of one.journal) next.last started.last (next.found clean_next.1) (left_journal view g desk again file found one sound started clean left) in (
      taken_again view g desk again file found one sound started clean left started.last next.last two.desk started.desk_is same.1 clean_next.0 next.desk_is,
      same.0,
      next.next ∙ (ap next_after same.1 ∙ sym started.next),
    )

pub not_refused_again : {D F : Type 0} (view : DeskView D) (g : Ghosts F) → NotRefusedAgain view g
not_refused_again view g desk again new file found kept one sound started clean left clean_next =
    let journal = left_journal view g desk again file found one sound started clean left in (
      λ refused. refused.1 clean_next.1 (text_of one.journal) started.last journal,
      λ row refused.
          let at = refused.2 in
          let told = at.found clean_next.1 in
          let same = journal_once (g.seen found) told.0 (text_of one.journal) (Some refused.0) started.last told.1 journal in
          (row_again view g desk again file found one sound started clean left started.last refused.0 Foreign (view.content new) started.desk_is (sym same.1) (λ sound. at.asked.ends clean_next.0 sound)).1 refl,
    )
