-- What two streams, or two requests, tell one holder.
use Rattle.std.proofs.Common.{◌≡◌, ℕ, ℤ, ◌+◌, Bool, true, false, List, [], ◌∷◌, ◌++◌, map, Option, None, Some, Result, Ok, Err, refl, sym, ◌∙◌, ap, subst}
use Rattle.std.proofs.lemmas.Bool.{eq-eqb}
use Rattle.std.proofs.lemmas.List.{append_assoc, append-nil}
use Rattle.std.specs.Prelude.{if◌then◌else◌}
use Rattle.td_commands.specs.declared.command.Command.{Command}
use Rattle.td_model.specs.Book.{Book}
use Rattle.td_commands.specs.Commands.{owner_of}
use Rattle.td_model.specs.Machine.{verdict}
use Rattle.td_desk.specs.declared.fault.Fault.{Fault}
use Rattle.td_model.specs.Content.{Content}
use Rattle.td_desk.specs.View.{DeskView}
use Rattle.td_desk.specs.Runs.{is_holder}
use Rattle.td_fields.specs.declared.fault.WebFault.{WebFault}
use Rattle.http_wire.specs.declared.reply.Reply.{Reply}
use Rattle.http_wire.specs.declared.reply.Reply.TheVariants.{Made, NoMemory, Store}
use Rattle.td_answers.specs.Answers.{said_reply}
use Rattle.http_wire.specs.Wire.{Asked}
use Rattle.http_wire.specs.ReplyText.{bytes_of, is_made}
use Rattle.http_wire.specs.Stream.{Exchange, question}
use Rattle.td_http.specs.declared.service.Service.{Service}
use Rattle.td_http.specs.Serving.{desk_of, IsPrivate, HolderRequest, command_in, heard_by, heard_in, told_by, told_in, machine_replies, fixed_reply, IsServed, IsServedAlone}
use Rattle.td_http.specs.Laws.{asked_by, asked_in, replies_by, replies_in, fault_told, TellAlike, IsDeskOf, IsRequestAt}

-- the requests that did not fail
abbrev pub still : List HolderRequest → List Bool → List HolderRequest
still [] made = []
still (r ∷ rs) [] = []
still (r ∷ rs) (true ∷ made) = r ∷ still rs made
still (r ∷ rs) (false ∷ made) = still rs made

-- the replies to all of them, of the faults and of what was told beside
abbrev pub filled : List (Option Fault) → List (List ℕ) → List (List ℕ)
filled [] told = []
filled (None ∷ faults) [] = []
filled (None ∷ faults) (bytes ∷ told) = bytes ∷ filled faults told
filled (Some f ∷ faults) told = bytes_of (fixed_reply f) ∷ filled faults told

abbrev is_none : Option Fault → Bool
is_none None = true
is_none (Some f) = false

made_is : (reply : Reply) → is_made reply ≡ is_none (fault_told reply)
made_is (Made bytes) = refl
made_is NoMemory = refl
made_is Store = refl

flags_are : (replies : List Reply) → map is_made replies ≡ map is_none (map fault_told replies)
flags_are [] = refl
flags_are (reply ∷ replies) = rw (made_is reply, flags_are replies) refl

-- one exchange
still_first : (b : Bool) (r : HolderRequest) (reply : Reply) (later heard : List HolderRequest) (replies : List Reply) → heard ≡ still later (map is_made replies)
    → (if is_made reply then (if b then r ∷ [] else []) else []) ++ heard ≡ still ((if b then r ∷ [] else []) ++ later) (map is_made ((if b then reply ∷ [] else []) ++ replies))
still_first true r (Made bytes) later heard replies same = ap (λ (rs : List HolderRequest). r ∷ rs) same
still_first true r NoMemory later heard replies same = same
still_first true r Store later heard replies same = same
still_first false r (Made bytes) later heard replies same = same
still_first false r NoMemory later heard replies same = same
still_first false r Store later heard replies same = same

heard_split : (country : List ℕ) (H : ℕ) (command : Command) (at : ℤ) (close made : Bool)
    → heard_by country H (Ok command) at close made ≡ (if made then (if is_holder H (owner_of country command) then (record { at = at; command = command }, close) ∷ [] else []) else [])
heard_split country H command at close true = refl
heard_split country H command at close false = refl

still_by : (country : List ℕ) (H : ℕ) (asked : Result Command WebFault) (at : ℤ) (close : Bool) (reply : Reply) (later heard : List HolderRequest) (replies : List Reply)
    → heard ≡ still later (map is_made replies)
    → heard_by country H asked at close (is_made reply) ++ heard ≡ still (asked_by country H asked at close ++ later) (map is_made (replies_by country H asked reply ++ replies))
still_by country H (Ok command) at close reply later heard replies same =
    rw (heard_split country H command at close (is_made reply)) (still_first (is_holder H (owner_of country command)) (record { at = at; command = command }, close) reply later heard replies same)
still_by country H (Err why) at close reply later heard replies same = same

-- what did not fail of what was asked, and then later
pub heard_then : (country : List ℕ) (H before : ℕ) (es : List Exchange) (later heard : List HolderRequest) (replies : List Reply) → heard ≡ still later (map is_made replies)
    → heard_in country H before es ++ heard ≡ still (asked_in country H before es ++ later) (map is_made (replies_in country H before es ++ replies))
heard_then country H before [] later heard replies same = same
heard_then country H before (e ∷ es) later heard replies same =
    let asked = command_in (question before e.wire) in
    let close = (question before e.wire).close in
    rw (
      append_assoc (heard_by country H asked e.at close (is_made e.reply)) (heard_in country H (before + 1) es) heard,
      append_assoc (asked_by country H asked e.at close) (asked_in country H (before + 1) es) later,
      append_assoc (replies_by country H asked e.reply) (replies_in country H (before + 1) es) replies,
    )
    (still_by country H asked e.at close e.reply (asked_in country H (before + 1) es ++ later) (heard_in country H (before + 1) es ++ heard) (replies_in country H (before + 1) es ++ replies)
    (heard_then country H (before + 1) es later heard replies same))

filled_first : (b : Bool) (reply : Reply) (told : List (List ℕ)) (replies : List Reply) → map bytes_of replies ≡ filled (map fault_told replies) told
    → map bytes_of ((if b then reply ∷ [] else []) ++ replies) ≡ filled (map fault_told ((if b then reply ∷ [] else []) ++ replies)) ((if is_made reply then (if b then bytes_of reply ∷ [] else []) else []) ++ told)
filled_first true (Made bytes) told replies same = ap (λ (texts : List (List ℕ)). bytes.items ∷ texts) same
filled_first true NoMemory told replies same = ap (λ (texts : List (List ℕ)). bytes_of NoMemory ∷ texts) same
filled_first true Store told replies same = ap (λ (texts : List (List ℕ)). bytes_of Store ∷ texts) same
filled_first false (Made bytes) told replies same = same
filled_first false NoMemory told replies same = same
filled_first false Store told replies same = same

told_split : (country : List ℕ) (H : ℕ) (command : Command) (bytes : List ℕ) (made : Bool)
    → told_by country H (Ok command) bytes made ≡ (if made then (if is_holder H (owner_of country command) then bytes ∷ [] else []) else [])
told_split country H command bytes true = refl
told_split country H command bytes false = refl

filled_by : (country : List ℕ) (H : ℕ) (asked : Result Command WebFault) (reply : Reply) (told : List (List ℕ)) (replies : List Reply)
    → map bytes_of replies ≡ filled (map fault_told replies) told
    → map bytes_of (replies_by country H asked reply ++ replies) ≡ filled (map fault_told (replies_by country H asked reply ++ replies)) (told_by country H asked (bytes_of reply) (is_made reply) ++ told)
filled_by country H (Ok command) reply told replies same =
    rw (told_split country H command (bytes_of reply) (is_made reply)) (filled_first (is_holder H (owner_of country command)) reply told replies same)
filled_by country H (Err why) reply told replies same = same

-- the bytes of all replies, and then later
pub bytes_then : (country : List ℕ) (H before : ℕ) (es : List Exchange) (told : List (List ℕ)) (replies : List Reply) → map bytes_of replies ≡ filled (map fault_told replies) told
    → map bytes_of (replies_in country H before es ++ replies) ≡ filled (map fault_told (replies_in country H before es ++ replies)) (told_in country H before es ++ told)
bytes_then country H before [] told replies same = same
bytes_then country H before (e ∷ es) told replies same =
    let asked = command_in (question before e.wire) in
    rw (
      append_assoc (told_by country H asked (bytes_of e.reply) (is_made e.reply)) (told_in country H (before + 1) es) told,
      append_assoc (replies_by country H asked e.reply) (replies_in country H (before + 1) es) replies,
    )
    (filled_by country H asked e.reply (told_in country H (before + 1) es ++ told) (replies_in country H (before + 1) es ++ replies)
    (bytes_then country H (before + 1) es told replies same))

-- What a holder of this book was told, who asked so: where nothing failed, what the holder's machine says.
pub record IsToldOf (H : ℕ) (book : Book) (asked heard : List HolderRequest) (replies : List Reply) (told : List (List ℕ)) : Type 0 where
  pub answers : told ≡ machine_replies H book heard
  pub still_heard : heard ≡ still asked (map is_made replies)
  pub all_bytes : map bytes_of replies ≡ filled (map fault_told replies) told

-- a holder of one book, who was told twice
module _ {H : ℕ} {book other_book : Book} {asked heard other_asked other_heard : List HolderRequest} {replies other_replies : List Reply} {told other_told : List (List ℕ)}
    (same : book ≡ other_book) (one : IsToldOf H book asked heard replies told) (other : IsToldOf H other_book other_asked other_heard other_replies other_told) where
  pub told_as : heard ≡ other_heard → told ≡ other_told
  told_as alike = one.answers ∙ (rw (same, alike) refl) ∙ sym other.answers

  pub told_if : asked ≡ other_asked → map is_made replies ≡ map is_made other_replies → told ≡ other_told
  told_if agree together = told_as (one.still_heard ∙ (rw (agree, together) refl) ∙ sym other.still_heard)

  flags : map fault_told replies ≡ map fault_told other_replies → map is_made replies ≡ map is_made other_replies
  flags alike = flags_are replies ∙ ap (map is_none) alike ∙ sym (flags_are other_replies)

  pub replies_if : asked ≡ other_asked → map fault_told replies ≡ map fault_told other_replies → map bytes_of replies ≡ map bytes_of other_replies
  replies_if agree alike = one.all_bytes ∙ (rw (alike, told_if agree (flags alike)) refl) ∙ sym other.all_bytes

-- what was told by a list of exchanges
told_of : (country : List ℕ) (H : ℕ) (books : ℕ → Book) (es : List Exchange) (new : Content) → IsServed country books 0 es new
    → IsToldOf H (books H) (asked_in country H 0 es) (heard_in country H 0 es) (replies_in country H 0 es) (told_in country H 0 es)
told_of country H books es new served = record {
  answers = served.answers H;
  still_heard = rw (append-nil (heard_in country H 0 es), append-nil (asked_in country H 0 es), append-nil (replies_in country H 0 es)) at (heard_then country H 0 es [] [] [] refl);
  all_bytes = rw (append-nil (replies_in country H 0 es), append-nil (told_in country H 0 es)) at (bytes_then country H 0 es [] [] refl);
}

-- two lists of exchanges from books that are equal for H
pub tell_alike : (country : List ℕ) (H : ℕ) (books others : ℕ → Book) (es fs : List Exchange) (new other_new : Content)
    → IsServed country books 0 es new → IsServed country others 0 fs other_new → books H ≡ others H → TellAlike country H es fs
tell_alike country H books others es fs new other_new one other same =
    let first = told_of country H books es new one in
    let second = told_of country H others fs other_new other in
    record { replies = replies_if same first second; told = told_if same first second; heard = told_as same first second }

-- what a stream at a desk of a country tells
pub served_at : {D : Type 0} (view : DeskView D) (country : List ℕ) (books : ℕ → Book) (old new : Service D) (es : List Exchange)
    → IsDeskOf view country books old → view.is_clean (desk_of new) → IsPrivate view old new es → (c : Content) × IsServed country books 0 es c
served_at view country books old new es desk clean private =
    let served = private clean desk.live desk.sound books desk.tied in
    (served.0, subst (λ (c : List ℕ). IsServed c books 0 es served.0) desk.country_is served.1)

-- a number is that of its holder
own_is : (H : ℕ) → is_holder H (Some H) ≡ true
own_is H = eq-eqb H H refl

first_of : {A : Type 0} (x y : A) → x ∷ [] ≡ y ∷ [] → x ≡ y
first_of x y same = cc

-- the reply to a request of H's that did not fail
told_alone : (country : List ℕ) (H : ℕ) (book : Book) (command : Command) (at : ℤ) (close : Bool) (bytes : List ℕ) → owner_of country command ≡ Some H
    → told_by country H (Ok command) bytes true ≡ machine_replies H book (heard_by country H (Ok command) at close true)
    → bytes ≡ said_reply (verdict H book at command) close
told_alone country H book command at close bytes own told = first_of _ _ (rw (own, own_is H) at told)

-- what one request at a desk of a country tells
pub served_alone_at : {D : Type 0} (view : DeskView D) (country : List ℕ) (books : ℕ → Book) (old new : Service D) (at : ℤ) (asked : Asked) (reply : Reply)
    → IsRequestAt view country books old at asked reply new → (c : Content) × IsServedAlone country books at asked reply c
served_alone_at view country books old new at asked reply request =
    let served = request.private request.clean request.desk.live request.desk.sound books request.desk.tied in
    (served.0, subst (λ (c : List ℕ). IsServedAlone c books at asked reply served.0) request.desk.country_is served.1)

pub reply_alike : (country : List ℕ) (H : ℕ) (book : Book) (command : Command) (at : ℤ) (close : Bool) (reply other : Reply) → owner_of country command ≡ Some H → fault_told reply ≡ fault_told other
    → told_by country H (Ok command) (bytes_of reply) (is_made reply) ≡ machine_replies H book (heard_by country H (Ok command) at close (is_made reply))
    → told_by country H (Ok command) (bytes_of other) (is_made other) ≡ machine_replies H book (heard_by country H (Ok command) at close (is_made other))
    → bytes_of reply ≡ bytes_of other
reply_alike country H book command at close (Made bytes) (Made others) own alike told other_told =
    told_alone country H book command at close bytes.items own told ∙ sym (told_alone country H book command at close others.items own other_told)
reply_alike country H book command at close NoMemory NoMemory own alike told other_told = refl
reply_alike country H book command at close Store Store own alike told other_told = refl
reply_alike country H book command at close (Made bytes) NoMemory own alike told other_told = cc
reply_alike country H book command at close (Made bytes) Store own alike told other_told = cc
reply_alike country H book command at close NoMemory (Made bytes) own alike told other_told = cc
reply_alike country H book command at close NoMemory Store own alike told other_told = cc
reply_alike country H book command at close Store (Made bytes) own alike told other_told = cc
reply_alike country H book command at close Store NoMemory own alike told other_told = cc
