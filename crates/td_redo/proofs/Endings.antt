-- The endings of a redo.
use Rattle.std.proofs.Common.{◌≡◌, ◌≢◌, ℕ, Bool, true, false, List, Option, Some, None, refl, sym, ◌∙◌, subst, inl, inr}
use Rattle.std.specs.Prelude.{if◌then◌else◌}
use Rattle.std.specs.Str.{bytes_eq}
use Rattle.std.proofs.lemmas.Slice.Eq.{bytes_eq-Decides}
use Rattle.td_base.specs.Days.{moment_of}
use Rattle.td_commands.specs.declared.command.Command.{Command}
use Rattle.td_commands.specs.declared.command.Stamped.{Stamped}
use Rattle.td_commands.specs.Commands.{IsProper}
use Rattle.td_model.specs.declared.change.Change.{Change}
use Rattle.td_model.specs.declared.change.Change.TheVariants as change
use Rattle.td_acts.specs.Deciding.{change_in, change_of}
use Rattle.td_model.specs.Account.{Account}
use Rattle.td_model.specs.Machine.{is_accepted, is_accepted_at, is_accepted_in}
use Rattle.td_model.specs.Content.{Content, content_after, IsSound}
use Rattle.td_acts.specs.Weighing.{owner_account, Carries}
use Rattle.td_acts.proofs.Carrying.{carries}
use Rattle.td_redo.specs.Endings.{IsRedoneAs, IsSaidAgain}
use Rattle.td_redo.specs.Laws.{EndsAsRedone, OneEnding, RedoneTwiceIsRedoneOnce, RowIsSaidAgain, RowThatIsDueIsCarried, RowThatStandsIsTold}
use Rattle.td_redo.specs.Redo.{said_over, IsRedone}
use Rattle.td_redo.specs.Replies.{body_text}
use Rattle.td_redo.specs.declared.redoing.Redone.{Redone}
use Rattle.td_redo.specs.declared.redoing.Redone.TheVariants.{Carried, Stands, Foreign}
use Rattle.td_redo.proofs.BodyTells.{body_is_enough}
use Rattle.td_redo.proofs.Contents.{carried_alike, redone_again, redone_over_its_end}
use Rattle.td_redo.proofs.Told.{told_again}

-- what isn't accepted is carried by leaving the content
nothing_written : (m : Option ℕ) (a : Account) (command : Command) → is_accepted_in m a command ≡ false → change_in m a command ≡ change.Nothing
nothing_written None a command other = refl
nothing_written (Some t) a command other = by_test (is_accepted_at a t command) (change_of a t command) other
  where
    by_test : (b : Bool) (c : Change) → b ≡ false → (if b then c else change.Nothing) ≡ change.Nothing
    by_test true c other = cc
    by_test false c other = refl

left_as_it_is : (old : Content) (s : Stamped) → IsSound old → IsProper s.command → is_accepted (owner_account old s.command) s.at s.command ≡ false → Carries old s old
left_as_it_is old s sound proper other =
    subst (λ (c : Change). Carries old s (content_after c old)) (nothing_written (moment_of s.at) (owner_account old s.command) s.command other) (carries old s sound proper)

-- a row that isn't carried is told otherwise, or is no accepted change, which is carried by leaving the content
not_carried : (s : Stamped) (reply : List ℕ) (old new : Content) → IsSound old → IsProper s.command
    → (is_accepted (owner_account old s.command) s.at s.command ≡ true → body_text (said_over old s) ≢ reply) → new ≡ old
    → IsRedone body_text s reply old new
not_carried s reply old new sound proper not_due stays = by_body (bytes_eq (body_text (said_over old s)) reply) refl
  where
    by_accepted : (b : Bool) → is_accepted (owner_account old s.command) s.at s.command ≡ b → body_text (said_over old s) ≡ reply → IsRedone body_text s reply old new
    by_accepted true accepted told = absurd (not_due accepted told)
    by_accepted false other told = inl (told, subst (Carries old s) (sym stays) (left_as_it_is old s sound proper other))

    by_body : (b : Bool) → bytes_eq (body_text (said_over old s)) reply ≡ b → IsRedone body_text s reply old new
    by_body true same = by_accepted (is_accepted (owner_account old s.command) s.at s.command) refl ((bytes_eq-Decides (body_text (said_over old s)) reply).0 same)
    by_body false other = inr (
      λ same. (let is : bytes_eq (body_text (said_over old s)) reply ≡ true = (bytes_eq-Decides (body_text (said_over old s)) reply).1 same in cc),
      stays,
    )

pub ends_as_redone : EndsAsRedone
ends_as_redone s reply old new Carried sound proper ends = inl (ends.0.1, ends.1)
ends_as_redone s reply old new Stands sound proper ends = not_carried s reply old new sound proper ends.0.0 ends.1
ends_as_redone s reply old new Foreign sound proper ends = not_carried s reply old new sound proper ends.0.0 ends.1

-- what is told as a second time isn't foreign
never_foreign : (ending : Redone) (s : Stamped) (reply : List ℕ) (old new : Content) → IsSaidAgain s.command reply (said_over old s)
    → IsRedoneAs ending s reply old new → ending ≢ Foreign
never_foreign Carried s reply old new again ends = λ same. cc
never_foreign Stands s reply old new again ends = λ same. cc
never_foreign Foreign s reply old new again ends = λ same. ends.0.1 again

pub row_is_said_again : RowIsSaidAgain
row_is_said_again begin done row sound last = told_again begin done row.stamped row.shown sound last.proper last.accepted last.told last.carried

pub row_that_stands_is_told : RowThatStandsIsTold
row_that_stands_is_told begin done new row ending sound last ends = (
  never_foreign ending row.stamped row.shown done new
      (told_again begin done row.stamped row.shown sound last.proper last.accepted last.told last.carried) ends,
  redone_over_its_end (List ℕ) body_text body_is_enough begin done new row.stamped sound last.proper last.carried
      (subst (λ (reply : List ℕ). IsRedone body_text row.stamped reply done new) (sym last.told)
      (ends_as_redone row.stamped row.shown done new ending last.carried.sound last.proper ends)),
)

pub row_that_is_due_is_carried : RowThatIsDueIsCarried
row_that_is_due_is_carried begin done new row Carried last ends = (refl, carried_alike begin new done row.stamped ends.1 last.carried)
row_that_is_due_is_carried begin done new row Stands last ends = absurd (ends.0.0 last.accepted last.told)
row_that_is_due_is_carried begin done new row Foreign last ends = absurd (ends.0.0 last.accepted last.told)

-- only what was foreign is foreign the second time
foreign_again : (old once twice : Content) (s : Stamped) (reply : List ℕ) (first second : Redone) → IsSound old → IsProper s.command
    → IsRedoneAs first s reply old once → IsRedoneAs second s reply once twice → second ≡ Foreign → first ≡ Foreign
foreign_again old once twice s reply Carried second sound proper one two same =
    absurd (never_foreign second s reply once twice (told_again old once s reply sound proper one.0.0 one.0.1 one.1) two same)
foreign_again old once twice s reply Stands second sound proper one two same =
    absurd (never_foreign second s reply once twice (subst (λ (c : Content). IsSaidAgain s.command reply (said_over c s)) (sym one.1) one.0.1) two same)
foreign_again old once twice s reply Foreign second sound proper one two same = refl

-- what a redo leaves is sound
pub sound_left : (ending : Redone) (s : Stamped) (reply : List ℕ) (old new : Content) → IsSound old → IsRedoneAs ending s reply old new → IsSound new
sound_left Carried s reply old new sound ends = ends.1.sound
sound_left Stands s reply old new sound ends = subst IsSound (sym ends.1) sound
sound_left Foreign s reply old new sound ends = subst IsSound (sym ends.1) sound

pub redone_twice : RedoneTwiceIsRedoneOnce
redone_twice old once twice s reply first second sound proper one two = (
  redone_again (List ℕ) body_text body_is_enough old once twice s reply sound proper (ends_as_redone s reply old once first sound proper one)
      (ends_as_redone s reply once twice second (sound_left first s reply old once sound one) proper two),
  foreign_again old once twice s reply first second sound proper one two,
)

pub one_ending : OneEnding
one_ending s reply old new other Carried Carried one two = (refl, carried_alike old new other s one.1 two.1)
one_ending s reply old new other Carried Stands one two = absurd (two.0.0 one.0.0 one.0.1)
one_ending s reply old new other Carried Foreign one two = absurd (two.0.0 one.0.0 one.0.1)
one_ending s reply old new other Stands Carried one two = absurd (one.0.0 two.0.0 two.0.1)
one_ending s reply old new other Stands Stands one two = (refl, one.1 ∙ sym two.1)
one_ending s reply old new other Stands Foreign one two = absurd (two.0.1 one.0.1)
one_ending s reply old new other Foreign Carried one two = absurd (one.0.0 two.0.0 two.0.1)
one_ending s reply old new other Foreign Stands one two = absurd (one.0.1 two.0.1)
one_ending s reply old new other Foreign Foreign one two = (refl, one.1 ∙ sym two.1)
