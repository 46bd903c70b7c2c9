-- What one handled request tells each holder.
use Rattle.std.proofs.Common.{◌≡◌, ℕ, ℤ, Bool, true, false, List, [], ◌∷◌, Result, Ok, Err, refl, ◌∙◌, ap, subst}
use Rattle.std.specs.Prelude.{if◌then◌else◌}
use Rattle.td_commands.specs.declared.command.Command.{Command}
use Rattle.td_commands.specs.declared.command.Stamped.{Stamped}
use Rattle.td_commands.specs.declared.said.Said.{Said}
use Rattle.td_model.specs.Book.{Book, account_of}
use Rattle.td_commands.specs.Commands.{owner_of}
use Rattle.td_model.specs.Machine.{verdict, machine_book, machine_says, IsGrown}
use Rattle.td_desk.specs.declared.running.Outcome.{Outcome}
use Rattle.td_desk.specs.declared.running.Outcome.TheVariants as outcome
use Rattle.td_model.specs.Content.{Content, IsSound}
use Rattle.td_desk.specs.View.{DeskView}
use Rattle.td_desk.specs.Runs.{IsRun, IsStep, IsTied, is_holder, heard}
use Rattle.td_desk.proofs.Turns.{run_more}
use Rattle.td_fields.specs.declared.fault.WebFault.{WebFault}
use Rattle.http_wire.specs.declared.reply.Reply.{Reply}
use Rattle.http_wire.specs.Wire.{Asked}
use Rattle.http_wire.specs.ReplyText.{bytes_of, is_made}
use Rattle.td_answers.specs.Answers.{said_reply}
use Rattle.td_http.specs.declared.service.Service.{Service}
use Rattle.td_http.specs.Serving.{desk_of, IsHandledBy, IsPrivateAlone, command_in, IsReplyTo, HandledAs, heard_by, told_by, commands_of, machine_replies, IsServedAlone}
use Rattle.td_http.proofs.Served.{fixed_reply, no_run}

first_of : {A : Type 0} (x y : A) → x ∷ [] ≡ y ∷ [] → x ≡ y
first_of x y same = cc

-- what is told of a command that was carried, to its holder or to another
answers_by : (H : ℕ) (book : Book) (s : Stamped) (words : Said) (close : Bool) (bytes : List ℕ) → bytes ≡ said_reply words close → (b : Bool)
    → (if b then words ∷ [] else []) ≡ machine_says H book (if b then s ∷ [] else [])
    → (if b then bytes ∷ [] else []) ≡ machine_replies H book (if b then (s, close) ∷ [] else [])
answers_by H book s words close bytes is true said =
    let same : words ≡ verdict H book s.at s.command = first_of words (verdict H book s.at s.command) said in
    ap (λ (text : List ℕ). text ∷ []) (is ∙ ap (λ (w : Said). said_reply w close) same)
answers_by H book s words close bytes is false said = refl

commands_by : (H : ℕ) (book : Book) (s : Stamped) (close : Bool) (b : Bool) → machine_book H book (if b then s ∷ [] else []) ≡ machine_book H book (commands_of (if b then (s, close) ∷ [] else []))
commands_by H book s close true = refl
commands_by H book s close false = refl

-- one request, from rows that are tied to books
module _ (books : ℕ → Book) (at : ℤ) (asked : Asked) (reply : Reply) (was_live is_live : Type 0) (old new : Content) (sound : IsSound old) (tied : IsTied old books) where
  -- the desk may be shut by it, and c is the content up to that
  abbrev Alone : Type 0
  Alone = (c : Content) × IsServedAlone old.country books at asked reply c × (is_live → new ≡ c)

  -- it was nobody's
  nobodys : ((H : ℕ) → heard_by old.country H (command_in asked) at asked.close (is_made reply) ≡ []) → ((H : ℕ) → told_by old.country H (command_in asked) (bytes_of reply) (is_made reply) ≡ [])
      → IsServedAlone old.country books at asked reply old
  nobodys none_heard none_told = record {
    answers = λ H. rw (none_heard H, none_told H) refl;
    country_stays = refl;
    sound = sound;
    tied = record { each = λ H. rw (none_heard H) (tied.each H); grown = λ H. rw (none_heard H) (tied.grown H) };
  }

  -- it was a command that was carried
  carried : (command : Command) (words : Said) → command_in asked ≡ Ok command → is_made reply ≡ true → bytes_of reply ≡ said_reply words asked.close
      → IsRun old.country books (record { at = at; command = command } ∷ []) (outcome.Said words ∷ []) new → IsServedAlone old.country books at asked reply new
  carried command words is made bytes first = record {
    answers = λ H. rw (is, made) (answers_by H (books H) stamped words asked.close (bytes_of reply) bytes (is_holder H (owner_of old.country command)) (first.answers H));
    country_stays = first.country_stays;
    sound = first.sound;
    tied = record {
      each = λ H. first.tied.each H ∙ ap (account_of H) (books_are H);
      grown = λ H. subst (λ (b : Book). IsGrown H b) (books_are H) (first.tied.grown H);
    };
  }
    where
      stamped : Stamped
      stamped = record { at = at; command = command }

      books_are : (H : ℕ) → machine_book H (books H) (heard old.country H (record { at = at; command = command } ∷ []) (outcome.Said words ∷ [])) ≡ machine_book H (books H) (commands_of (heard_by old.country H (command_in asked) at asked.close (is_made reply)))
      books_are H = rw (is, made) (commands_by H (books H) (record { at = at; command = command }) asked.close (is_holder H (owner_of old.country command)))

  by_outcome : (command : Command) → command_in asked ≡ Ok command → (o : Outcome) → IsStep was_live is_live old (record { at = at; command = command }) o new → IsReplyTo o asked.close reply → Alone
  by_outcome command is (outcome.Failed f) step told =
      let fixed = fixed_reply f asked.close reply told in
      (old, nobodys (λ H. rw (is, fixed) refl) (λ H. rw (is, fixed) refl), step)
  by_outcome command is (outcome.Said words) step told =
      let run = no_run old.country books old refl sound tied in
      let first = run_more old.country books [] [] (record { at = at; command = command }) old new run (outcome.Said words) (step.2 sound) in
      (new, carried command words is told.0 told.1 first, λ live. refl)

  by_reading : (r : Result Command WebFault) → command_in asked ≡ r → HandledAs was_live is_live old at r asked.close reply new → Alone
  by_reading (Ok command) is handled = by_outcome command is handled.0 handled.1 handled.2
  by_reading (Err why) is handled = (old, nobodys (λ H. rw is refl) (λ H. rw is refl), handled.0)

-- a request that was handled is its holder's own affair
pub handled_alone : {D : Type 0} (view : DeskView D) (old : Service D) (at : ℤ) (asked : Asked) (reply : Reply) (new : Service D)
    → IsHandledBy view old at asked reply new → IsPrivateAlone view old at asked reply new
handled_alone view old at asked reply new handled = λ clean live sound books tied.
    by_reading books at asked reply (view.is_live (desk_of old)) (view.is_live (desk_of new)) (view.content (desk_of old)) (view.content (desk_of new)) sound tied (command_in asked) refl (handled.handled clean)
