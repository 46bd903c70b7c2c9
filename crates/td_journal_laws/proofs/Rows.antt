-- What a journal has grown by is rows that were done.
use Rattle.std.proofs.Common.{append-nil, ◌≡◌, ℕ, ℤ, pos, negsuc, ◌+◌, ◌^◌, ◌<◌, ◌≤◌, Bool, true, false, List, [], ◌∷◌, ◌++◌, Option, None, Some, inl, refl, sym, ap, subst, ◌∙◌, arith}
use Rattle.std.proofs.lemmas.Bool.{and_parts, leb-true}
use Rattle.std.proofs.lemmas.Option.{cond_some}
use Rattle.std.specs.Prelude.{nat_le, if◌then◌else◌}
use Rattle.td_acts.specs.Deciding.{change_in, change_of, decision_on}
use Rattle.td_model.specs.declared.change.Change.{Change}
use Rattle.td_model.specs.declared.change.Change.TheVariants as change
use Rattle.td_base.specs.Days.{moment_of}
use Rattle.td_commands.specs.declared.command.Command.{Command}
use Rattle.td_commands.specs.declared.command.Stamped.{Stamped}
use Rattle.td_model.specs.Content.{Content, IsSound, content_after}
use Rattle.td_acts.specs.Weighing.{Carries, owner_account}
use Rattle.td_acts.proofs.Carrying.{carries}
use Rattle.td_journal.specs.Growth.{AreJournaled}
use Rattle.td_journal.specs.Journaled.{written}
use Rattle.td_journal.specs.Texts.{IsRowOf, is_change_at}
use Rattle.td_journal_rows.specs.Requests.{IsTyped, ReadsBack}
use Rattle.td_journal_rows.specs.Rows.{HasNoLineFeed, IsRow, change_row, row_line}
use Rattle.td_journal_lines.specs.Lines.{IsLine}
use Rattle.td_journal_laws.specs.Kept.{IsKept}
use Rattle.td_journal_laws.specs.Laws.{RowsAreDone}
use Rattle.td_journal_laws.proofs.Accepted.{change_is_changing, change_told}
use Rattle.td_model.specs.Account.{Account}
use Rattle.td_model.specs.Machine.{is_accepted_at, is_accepted_in}
use Rattle.td_redo.specs.Laws.{RedoneOverItsBeginning}
use Rattle.td_redo.specs.Redo.{IsDone, Row, said_over}
use Rattle.td_redo.specs.Replies.{body_text}

-- what the laws of rows say, by which those of journals go
pub record RowLaws : Type 0 where
  pub back : (command : Command) → IsTyped command → ReadsBack command
  pub one_line : (number at : ℕ) (command : Command) (reply : List ℕ) → number < 10 ^ 18 → at < 10 ^ 18 → IsTyped command → HasNoLineFeed reply → IsRow (change_row number at command reply)
  pub redone : RedoneOverItsBeginning (Unit {0})

-- seconds of a moment have few digits
moment_small : (at : ℤ) (seconds : ℕ) → moment_of at ≡ Some seconds → seconds < 10 ^ 18
moment_small (pos n) seconds is =
    let told = cond_some _ n seconds is in
    let both = and_parts (nat_le 946684800 n) (nat_le n 4102444799) told.0 in
    let most : n ≤ 4102444799 = leb-true n 4102444799 both.1 in
    let same : n ≡ seconds = told.1 in
    omega (arith, most, same)
moment_small (negsuc n) seconds is = cc

-- a command that is no accepted change writes nothing
nothing_changed : (m : Option ℕ) (a : Account) (command : Command) (c : Content) → is_accepted_in m a command ≡ false → content_after (change_in m a command) c ≡ c
nothing_changed None a command c other = refl
nothing_changed (Some t) a command c other = by_test (is_accepted_at a t command) (change_of a t command) other
  where
    by_test : (b : Bool) (written : Change) → b ≡ false → content_after (if b then written else change.Nothing) c ≡ c
    by_test true written other = cc
    by_test false written other = refl

-- what a command does to a content
pub done_to : Content → Stamped → Content
done_to c s = content_after (decision_on (owner_account c s.command) s.at s.command).change c

pub done_carries : (c : Content) (s : Stamped) → IsSound c → IsTyped s.command → Carries c s (done_to c s)
unfolding done_to
done_carries c s sound typed = carries c s sound typed.0

pub unchanged : (c : Content) (s : Stamped) → is_change_at c s ≡ false → done_to c s ≡ c
unfolding done_to
unchanged c s other = nothing_changed (moment_of s.at) (owner_account c s.command) s.command c other

-- the row of an accepted change
abbrev pub row_over : Content → Stamped → Row (List ℕ)
row_over c s = record { stamped = s; shown = body_text (said_over c s) }

pub row_done : (c after : Content) (s : Stamped) → IsTyped s.command → is_change_at c s ≡ true → Carries c s after → IsDone body_text c (row_over c s) after
row_done c after s typed accepted carried = record {
  proper = typed.0;
  accepted = accepted;
  told = refl;
  carried = carried;
}

module _ (laws : RowLaws) where
  -- two contents that a command makes of one are one
  pub alike : (c one other : Content) (s : Stamped) → IsSound c → Carries c s one → Carries c s other → one ≡ other
  alike c one other s sound carried again = laws.redone (λ words. tt) c other one s sound again (inl (refl, carried))

  pub left_alone : (c after : Content) (s : Stamped) → IsSound c → IsTyped s.command → is_change_at c s ≡ false → Carries c s after → after ≡ c
  left_alone c after s sound typed other carried =
      alike c after c s sound carried (subst (Carries c s) (unchanged c s other) (done_carries c s sound typed))

  -- its line
  pub row_lines : (number : ℕ) (c : Content) (s : Stamped) (line : List ℕ) → number < 10 ^ 18 → IsSound c → IsTyped s.command → is_change_at c s ≡ true → IsRowOf number c s line
      → IsLine (record { number = number; row = row_over c s }) line
  row_lines number c s line small sound typed accepted is =
      let told = change_told c s sound typed accepted in
      record {
        seconds = is.seconds;
        moment = is.moment;
        line_is = is.line_is ∙ ap (λ (reply : List ℕ). row_line (change_row number is.seconds s.command reply)) told.same;
        is_row = laws.one_line number is.seconds s.command (body_text (said_over c s)) small (moment_small s.at is.seconds is.moment) typed told.line;
        reads_back = laws.back s.command typed;
        changing = change_is_changing c s accepted;
      }

  -- a row before others
  row_before : (number next : ℕ) (c after end : Content) (s : Stamped) (line rest : List ℕ) → IsSound c → IsTyped s.command → next ≤ 10 ^ 18 → is_change_at c s ≡ true
      → IsRowOf number c s line → Carries c s after → (rows : List (Row (List ℕ))) → IsKept after rows (number + 1) next rest end
      → IsKept c (row_over c s ∷ rows) number next (line ++ rest) end
  row_before number next c after end s line rest sound typed most accepted is carried rows kept =
      let small : number < 10 ^ 18 = omega (arith, kept.numbers, most) in
      record {
        sound = sound;
        done = (after, row_done c after s typed accepted carried, kept.done);
        lines = (line, rest, row_lines number c s line small sound typed accepted is, refl, kept.lines);
        numbers = omega (arith, kept.numbers);
      }

  -- a row alone
  pub one_row : (number : ℕ) (c after : Content) (s : Stamped) (line : List ℕ) → IsSound c → IsTyped s.command → number < 10 ^ 18 → is_change_at c s ≡ true → IsRowOf number c s line → Carries c s after
      → IsKept c (row_over c s ∷ []) number (number + 1) line after
  one_row number c after s line sound typed small accepted is carried =
      subst (λ (t : List ℕ). IsKept c (row_over c s ∷ []) number (number + 1) t after) (append-nil line)
      (row_before number (number + 1) c after after s line [] sound typed (omega (arith, small)) accepted is carried []
      (record { sound = carried.sound; done = refl; lines = refl; numbers = omega arith }))

  pub rows_are_done : RowsAreDone
  rows_are_done number next c end [] text sound typed most (none, same, stays) = (
    [],
    record {
      sound = sound;
      done = stays;
      lines = none;
      numbers = omega (arith, same);
    },
  )
  rows_are_done number next c end (s ∷ list) text sound typed most (Some line, after, rest, noted, carried, text_is, more) =
      let others = rows_are_done (number + 1) next after end list rest carried.sound typed.1 most more in (
        row_over c s ∷ others.0,
        subst (λ (t : List ℕ). IsKept c (row_over c s ∷ others.0) number next t end) (sym text_is)
            (row_before number next c after end s line rest sound typed.0 most noted.0 noted.1 carried others.0 others.1),
      )
  rows_are_done number next c end (s ∷ list) text sound typed most (None, after, rest, noted, carried, text_is, more) =
      let same : after ≡ c = left_alone c after s sound typed.0 noted carried in
      let here : number + 0 ≡ number = omega arith in
      let others : (rows : List (Row (List ℕ))) × IsKept c rows number next rest end =
      rows_are_done number next c end list rest sound typed.1 most
      (subst (λ (n : ℕ). AreJournaled n c list rest next end) here (subst (λ (x : Content). AreJournaled (number + 0) x list rest next end) same more)) in
      (others.0, subst (λ (t : List ℕ). IsKept c others.0 number next t end) (sym text_is) others.1)
