-- What a chain of handled requests tells each holder.
use Rattle.std.proofs.Common.{◌≡◌, ℕ, ℤ, ◌+◌, Bool, true, false, List, [], ◌∷◌, ◌++◌, None, Result, Ok, Err, refl, sym, ◌∙◌, ap, subst}
use Rattle.std.specs.Prelude.{if◌then◌else◌}
use Rattle.td_commands.specs.declared.command.Command.{Command}
use Rattle.td_commands.specs.declared.command.Stamped.{Stamped}
use Rattle.td_commands.specs.declared.said.Said.{Said}
use Rattle.td_model.specs.Account.{empty_account}
use Rattle.td_model.specs.Book.{Book, account_of}
use Rattle.td_commands.specs.Commands.{owner_of}
use Rattle.td_model.specs.Machine.{verdict, book_after, machine_book, machine_says, IsGrown}
use Rattle.td_model.specs.Table.{said}
use Rattle.td_desk.specs.declared.fault.Fault.{Fault}
use Rattle.td_desk.specs.declared.fault.Fault.TheVariants as fault
use Rattle.td_desk.specs.declared.running.Outcome.{Outcome}
use Rattle.td_desk.specs.declared.running.Outcome.TheVariants as outcome
use Rattle.td_model.specs.Content.{Content, IsSound}
use Rattle.td_desk.specs.View.{DeskView}
use Rattle.td_desk.specs.Runs.{IsRun, IsStep, IsTied, is_holder, heard}
use Rattle.td_desk.proofs.Turns.{run_more}
use Rattle.td_fields.specs.declared.fault.WebFault.{WebFault}
use Rattle.http_wire.specs.declared.reply.Reply.{Reply}
use Rattle.http_wire.specs.Wire.{Asked}
use Rattle.http_wire.specs.ReplyText.{bytes_of, is_made}
use Rattle.http_wire.specs.Stream.{Exchange, Chain, question}
use Rattle.td_answers.specs.Answers.{said_reply}
use Rattle.td_http.specs.Serving.{command_in, IsReplyTo, IsFaultReply, HandledAs, IsHandled, heard_by, heard_in, told_by, told_in, commands_of, machine_replies, IsServed}

-- a machine goes on where it stopped
pub machine_book-++ : (H : ℕ) (book : Book) (xs ys : List Stamped) → machine_book H book (xs ++ ys) ≡ machine_book H (machine_book H book xs) ys
machine_book-++ H book [] ys = refl
machine_book-++ H book (x ∷ xs) ys = machine_book-++ H (book_after H book x) xs ys

-- a request is one command, or none
same_command : (command other : Command) (asked : Result Command WebFault) → asked ≡ Ok command → asked ≡ Ok other → command ≡ other
same_command command other asked is read = cc

not_both : (command : Command) (why : WebFault) (asked : Result Command WebFault) → asked ≡ Err why → asked ≡ Ok command → ⊥
not_both command why asked is read = cc

-- the first exchange changes nothing in H's list
module _ (country : List ℕ) (books : ℕ → Book) (before : ℕ) (e : Exchange) (es : List Exchange) where
  abbrev pub asked : Asked
  asked = question before e.wire

  -- an exchange that was a fault, or could not be read, adds nothing to what is served later
  pub served_same : (new : Content) → ((H : ℕ) → heard_by country H (command_in asked) e.at asked.close (is_made e.reply) ≡ []) → ((H : ℕ) → told_by country H (command_in asked) (bytes_of e.reply) (is_made e.reply) ≡ [])
      → ((why : WebFault) → command_in asked ≡ Err why → IsFaultReply why asked.close e.reply)
      → ((command : Command) → command_in asked ≡ Ok command → owner_of country command ≡ None → is_made e.reply ≡ true → bytes_of e.reply ≡ said_reply (said (empty_account country) e.at command) asked.close)
      → IsServed country books (before + 1) es new → IsServed country books before (e ∷ es) new
  served_same new none_heard none_told told nobody served = record {
    answers = λ H. rw (none_heard H, none_told H) (served.answers H);
    faults = (told, served.faults);
    nobodys = (nobody, served.nobodys);
    country_stays = served.country_stays;
    sound = served.sound;
    tied = record {
      each = λ H. rw (none_heard H) (served.tied.each H);
      grown = λ H. rw (none_heard H) (served.tied.grown H);
    };
  }

-- the first exchange was a command that was carried
module _ (country : List ℕ) (books : ℕ → Book) (before : ℕ) (e : Exchange) (es : List Exchange) (command : Command) (words : Said)
    (is : command_in (question before e.wire) ≡ Ok command) (made : is_made e.reply ≡ true) (bytes : bytes_of e.reply ≡ said_reply words (question before e.wire).close)
    (old mid : Content) (first : IsRun country books (record { at = e.at; command = command } ∷ []) (outcome.Said words ∷ []) mid) where
  abbrev pub stamped : Stamped
  stamped = record { at = e.at; command = command }

  -- the books after it
  abbrev pub books_after : ℕ → Book
  books_after H = machine_book H (books H) (heard country H (stamped ∷ []) (outcome.Said words ∷ []))

  first_of : {A : Type 0} (x y : A) → x ∷ [] ≡ y ∷ [] → x ≡ y
  first_of x y same = cc

  answers_by : (H : ℕ) (b : Bool) → (if b then words ∷ [] else []) ≡ machine_says H (books H) (if b then stamped ∷ [] else [])
      → told_in country H (before + 1) es ≡ machine_replies H (machine_book H (books H) (if b then stamped ∷ [] else [])) (heard_in country H (before + 1) es)
      → (if b then bytes_of e.reply ∷ [] else []) ++ told_in country H (before + 1) es
      ≡ machine_replies H (books H) ((if b then (stamped, (question before e.wire).close) ∷ [] else []) ++ heard_in country H (before + 1) es)
  answers_by H true said rest =
      let same : words ≡ verdict H (books H) e.at command = first_of words (verdict H (books H) e.at command) said in
      ap (λ (first : List ℕ). first ∷ told_in country H (before + 1) es) (bytes ∙ ap (λ (w : Said). said_reply w (question before e.wire).close) same)
      ∙ ap (λ (rest : List (List ℕ)). said_reply (verdict H (books H) e.at command) (question before e.wire).close ∷ rest) rest
  answers_by H false said rest = rest

  commands_by : (H : ℕ) (b : Bool) → machine_book H (machine_book H (books H) (if b then stamped ∷ [] else [])) (commands_of (heard_in country H (before + 1) es))
      ≡ machine_book H (books H) (commands_of ((if b then (stamped, (question before e.wire).close) ∷ [] else []) ++ heard_in country H (before + 1) es))
  commands_by H true = refl
  commands_by H false = refl

  pub served_more : (new : Content) → IsServed country books_after (before + 1) es new → IsServed country books before (e ∷ es) new
  served_more new served = record {
    answers = λ H. rw (is, made) (answers_by H (is_holder H (owner_of country command)) (first.answers H) (served.answers H));
    faults = ((λ why bad. absurd (no_fault why (sym is ∙ bad))), served.faults);
    nobodys = (λ other read none made. nobody_told other (same_command command other (command_in (question before e.wire)) is read) none, served.nobodys);
    country_stays = served.country_stays;
    sound = served.sound;
    tied = record {
      each = λ H. served.tied.each H ∙ ap (account_of H) (books_are H);
      grown = λ H. subst (λ (b : Book). IsGrown H b) (books_are H) (served.tied.grown H);
    };
  }
    where
      no_fault : (why : WebFault) → Ok command ≡ Err why → ⊥
      no_fault why bad = cc

      nobody_told : (other : Command) → command ≡ other → owner_of country other ≡ None → bytes_of e.reply ≡ said_reply (said (empty_account country) e.at other) (question before e.wire).close
      nobody_told other same none =
          subst (λ (c : Command). owner_of country c ≡ None → bytes_of e.reply ≡ said_reply (said (empty_account country) e.at c) (question before e.wire).close) same
          (λ own. bytes ∙ ap (λ (w : Said). said_reply w (question before e.wire).close) (first.nobodys.0 own)) none

      books_are : (H : ℕ) → machine_book H (books_after H) (commands_of (heard_in country H (before + 1) es)) ≡ machine_book H (books H) (commands_of (heard_in country H before (e ∷ es)))
      books_are H = rw (is, made) (commands_by H (is_holder H (owner_of country command)))

-- what a chain of exchanges gives in the end: the desk may be shut on the way, and c is the content up to that
abbrev Serves : List ℕ → (ℕ → Book) → ℕ → List Exchange → Type 0 → Content → Type 0
Serves country books before es is_live new = (c : Content) × IsServed country books before es c × (is_live → new ≡ c)

-- no fixed reply is made
pub fixed_reply : (f : Fault) (close : Bool) (reply : Reply) → IsReplyTo (outcome.Failed f) close reply → is_made reply ≡ false
fixed_reply fault.NoMemory close reply is = ap is_made is
fixed_reply fault.Store close reply is = ap is_made is

-- a request has one fault
same_fault : (why other : WebFault) (asked : Result Command WebFault) → asked ≡ Err why → asked ≡ Err other → why ≡ other
same_fault why other asked is bad = cc

-- the empty run
pub no_run : (country : List ℕ) (books : ℕ → Book) (rows : Content) → rows.country ≡ country → IsSound rows → IsTied rows books → IsRun country books [] [] rows
no_run country books rows same sound tied = record {
  one_each = refl;
  answers = λ H. refl;
  nobodys = tt;
  country_stays = same;
  sound = sound;
  tied = record { each = tied.each; grown = tied.grown };
}

-- one exchange and those after it, where rest says what those after it give from any books and rows
module _ (country : List ℕ) (books : ℕ → Book) (before : ℕ) (e : Exchange) (es : List Exchange) (was_live mid_live is_live : Type 0) (old mid new rows : Content)
    (same_country : rows.country ≡ country) (sound : IsSound rows) (tied : IsTied rows books) (same : was_live → old ≡ rows) (back : mid_live → was_live)
    (rest : (books' : ℕ → Book) (rows' : Content) → rows'.country ≡ country → IsSound rows' → IsTied rows' books' → (mid_live → mid ≡ rows') → Serves country books' (before + 1) es is_live new) where
  by_outcome : (command : Command) → command_in (question before e.wire) ≡ Ok command → (o : Outcome) → IsStep was_live mid_live old (record { at = e.at; command = command }) o mid
      → IsReplyTo o (question before e.wire).close e.reply → Serves country books before (e ∷ es) is_live new
  by_outcome command is (outcome.Failed f) step reply =
      let after = rest books rows same_country sound tied (λ live. step live ∙ same (back live)) in
      let fixed = fixed_reply f (question before e.wire).close e.reply reply in
      (after.0, served_same country books before e es after.0 (λ H. rw (is, fixed) refl) (λ H. rw (is, fixed) refl) (λ why bad. absurd (no_fault command why (sym is ∙ bad))) (λ other read none made. absurd (not_made (sym fixed ∙ made))) after.1, after.2)
    where
      no_fault : (command : Command) (why : WebFault) → Ok command ≡ Err why → ⊥
      no_fault command why bad = cc

      not_made : false ≡ true → ⊥
      not_made bad = cc
  by_outcome command is (outcome.Said words) step reply =
      let at_rows = same step.0 in
      let sound_old : IsSound old = subst IsSound (sym at_rows) sound in
      let run = no_run country books old (rw at_rows same_country) sound_old (subst (λ (c : Content). IsTied c books) (sym at_rows) tied) in
      let first = run_more country books [] [] (record { at = e.at; command = command }) old mid run (outcome.Said words) (step.2 sound_old) in
      let after = rest (books_after country books before e es command words is reply.0 reply.1 old mid first) mid first.country_stays first.sound first.tied (λ live. refl) in
      (after.0, served_more country books before e es command words is reply.0 reply.1 old mid first after.0 after.1, after.2)

  by_reading : (r : Result Command WebFault) → command_in (question before e.wire) ≡ r → HandledAs was_live mid_live old e.at r (question before e.wire).close e.reply mid → Serves country books before (e ∷ es) is_live new
  by_reading (Ok command) is handled = by_outcome command is handled.0 handled.1 handled.2
  by_reading (Err why) is handled =
      let after = rest books rows same_country sound tied (λ live. handled.0 live ∙ same (back live)) in
      (after.0, served_same country books before e es after.0 (λ H. rw is refl) (λ H. rw is refl) (λ other bad. subst (λ (f : WebFault). IsFaultReply f (question before e.wire).close e.reply) (same_fault why other (command_in (question before e.wire)) is bad) handled.1) (λ command read none made. absurd (not_both command why (command_in (question before e.wire)) is read)) after.1, after.2)

-- a chain that ends clean was clean all along
pub chain_clean : {C S D : Type 0} (ticks : C → ℤ → C → Type 0) (desk : S → D) (view : DeskView D) (es : List Exchange) (before : ℕ) (old new : C × S)
    → Chain ticks (IsHandled desk view) before old es new → view.is_clean (desk new.1) → view.is_clean (desk old.1)
chain_clean {C} {S} ticks desk view [] before old new chain clean = subst (λ (x : C × S). view.is_clean (desk x.1)) chain clean
chain_clean ticks desk view (e ∷ es) before old new chain clean =
    chain.3.clean (chain_clean ticks desk view es (before + 1) (chain.0, chain.1) new chain.4 clean)

-- A chain of handled requests, from a content that is tied to books. The desk may be shut on the way: then rows is the content up to that.
pub chain_served : {C S D : Type 0} (ticks : C → ℤ → C → Type 0) (desk : S → D) (view : DeskView D) (country : List ℕ)
    (es : List Exchange) (before : ℕ) (books : ℕ → Book) (old new : C × S) (rows : Content)
    → Chain ticks (IsHandled desk view) before old es new → view.is_clean (desk new.1)
    → rows.country ≡ country → IsSound rows → IsTied rows books → (view.is_live (desk old.1) → view.content (desk old.1) ≡ rows)
    → (c : Content) × IsServed country books before es c × (view.is_live (desk new.1) → view.content (desk new.1) ≡ c)
chain_served {C} {S} ticks desk view country [] before books old new rows chain clean same_country sound tied same = (
  rows,
  record { answers = λ H. refl; faults = tt; nobodys = tt; country_stays = same_country; sound = sound; tied = record { each = tied.each; grown = tied.grown } },
  subst (λ (x : C × S). view.is_live (desk x.1) → view.content (desk x.1) ≡ rows) (sym chain) same,
)
chain_served ticks desk view country (e ∷ es) before books old new rows chain clean same_country sound tied same =
    let mid = chain.1 in
    let mid_clean = chain_clean ticks desk view es (before + 1) (chain.0, mid) new chain.4 clean in
    by_reading country books before e es (view.is_live (desk old.1)) (view.is_live (desk mid)) (view.is_live (desk new.1)) (view.content (desk old.1)) (view.content (desk mid)) (view.content (desk new.1)) rows same_country sound tied same (chain.3.live mid_clean)
    (λ books' rows' same_country' sound' tied' same'. chain_served ticks desk view country es (before + 1) books' (chain.0, mid) new rows' chain.4 clean same_country' sound' tied' same')
    (command_in (question before e.wire)) refl (chain.3.handled mid_clean)
