-- What the desk's service does with a request, and what a stream of requests tells each holder.
-- A desk's service as a handler of requests, and what a stream at a desk tells each holder.
use Rattle.std.specs.Prelude.{◌≡◌, ◌≢◌, not, ℕ, ℤ, ◌+◌, ◌⊎◌, Bool, true, false, if◌then◌else◌, List, [], ◌∷◌, ◌++◌, map, None, Result, Ok, Err, option_and_then, option_map}
use Rattle.td_commands.specs.declared.command.Command.{Command}
use Rattle.td_commands.specs.declared.command.Stamped.{Stamped}
use Rattle.td_model.specs.Account.{empty_account}
use Rattle.td_model.specs.Book.{Book}
use Rattle.td_commands.specs.Commands.{owner_of}
use Rattle.td_model.specs.Machine.{verdict, book_after, machine_book}
use Rattle.td_model.specs.Table.{said}
use Rattle.td_commands.specs.declared.said.Said.{Said}
use Rattle.td_desk.specs.declared.fault.Fault.{Fault}
use Rattle.td_desk.specs.declared.running.Outcome.{Outcome}
use Rattle.td_model.specs.Content.{Content, IsSound}
use Rattle.td_desk.specs.View.{DeskView, IsSettled}
use Rattle.td_desk.specs.Runs.{IsOutcomeOf, IsStep, IsTied, LeavesAfter, is_holder}
use Rattle.td_fields.specs.declared.fault.WebFault.{WebFault}
use Rattle.http_wire.specs.declared.reply.Reply.{Reply}
use Rattle.http_wire.specs.declared.reply.Reply.TheVariants.{Made, NoMemory, Store}
use Rattle.http_wire.specs.Wire.{Asked}
use Rattle.http_wire.specs.ReplyText.{bytes_of, is_made, head_text}
use Rattle.td_answers.specs.Answers.{said_reply, fault_reply}
use Rattle.td_routes.specs.Bodies.{command_of}
use Rattle.http_wire.specs.Stream.{Exchange, question}
use Rattle.td_http.specs.declared.service.Service.{Service}
use Rattle.td_fields.specs.Faults.{allowed_text}
use Rattle.td_routes.specs.Routes.{methods_of, path_of}
use Rattle.td_desk.specs.declared.fault.Fault.TheVariants as fault
use Rattle.td_desk.specs.declared.running.Outcome.TheVariants as outcome

-- what a request asks: a command, or why it can't be read
abbrev pub command_in : Asked → Result Command WebFault
command_in a = command_of a.method a.target a.body

-- the reply that tells how a command ended
abbrev pub IsReplyTo : Outcome → Bool → Reply → Type 0
IsReplyTo (outcome.Said words) close reply = (is_made reply ≡ true) × (bytes_of reply ≡ said_reply words close)
IsReplyTo (outcome.Failed fault.NoMemory) close reply = reply ≡ NoMemory
IsReplyTo (outcome.Failed fault.Store) close reply = reply ≡ Store

-- the reply to a request that can't be read, want of memory aside
abbrev pub IsFaultReply : WebFault → Bool → Reply → Type 0
IsFaultReply why close reply = (reply ≡ NoMemory) ⊎ ((is_made reply ≡ true) × (bytes_of reply ≡ fault_reply why close))

-- the fixed reply to each fault
abbrev pub fixed_reply : Fault → Reply
fixed_reply fault.NoMemory = NoMemory
fixed_reply fault.Store = Store

-- How the reply to a command came about by the two calls that are made of a desk: bytes where neither failed; the fixed reply of
-- the fault that the last one ended by; and that of missing memory also where the bytes found none, at a desk that weighed the
-- command and did no more.
abbrev pub IsCausedBy : {D : Type 0} → DeskView D → D → Stamped → Reply → D → Type 0
IsCausedBy view old s (Made bytes) new = (words : Said) × IsOutcomeOf view old s (outcome.Said words) new
IsCausedBy view old s NoMemory new = IsOutcomeOf view old s (outcome.Failed fault.NoMemory) new ⊎ view.weighed old s None new
IsCausedBy view old s Store new = IsOutcomeOf view old s (outcome.Failed fault.Store) new

-- What a request does to a desk. A command is one step of the desk, and the reply tells how it ended; a
-- request that can't be read changes nothing, and its reply depends on the request alone.
abbrev pub HandledAs : Type 0 → Type 0 → Content → ℤ → Result Command WebFault → Bool → Reply → Content → Type 0
HandledAs was_live is_live old at (Ok command) close reply new =
    (o : Outcome) × IsStep was_live is_live old (record { at = at; command = command }) o new
    × IsReplyTo o close reply
HandledAs was_live is_live old at (Err why) close reply new = (is_live → new ≡ old) × IsFaultReply why close reply

-- The same at a service whose desk is seen so. What can't be read is told from the request alone: the desk is the very same
-- after it. A live desk stays live where the reply isn't the fixed one of its store.
pub record IsHandled {S D : Type 0} (desk : S → D) (view : DeskView D) (old : S) (at : ℤ) (asked : Asked) (reply : Reply) (new : S) : Type 0 where
  pub clean : view.is_clean (desk new) → view.is_clean (desk old)
  pub live : view.is_clean (desk new) → view.is_live (desk new) → view.is_live (desk old)
  pub handled : view.is_clean (desk new)
      → HandledAs (view.is_live (desk old)) (view.is_live (desk new)) (view.content (desk old)) at
      (command_in asked) asked.close reply (view.content (desk new))
  pub stays : view.is_clean (desk new) → view.is_live (desk old) → reply ≢ Store → view.is_live (desk new)
  pub unasked : (why : WebFault) → command_in asked ≡ Err why → desk new ≡ desk old
  -- A fixed reply is the fault that the desk answered, or missing memory at a desk that didn't fail, or at one that wasn't asked.
  pub calls : (command : Command) → command_in asked ≡ Ok command → ((desk new ≡ desk old) × (reply ≡ NoMemory))
      ⊎ IsCausedBy view (desk old) (record { at = at; command = command }) reply (desk new)
  pub unstored : (why : WebFault) → command_in asked ≡ Err why → reply ≢ Store
  -- what a crash leaves after a command, which failed where the reply is a fixed one
  pub crash : (command : Command) → command_in asked ≡ Ok command → view.is_clean (desk new)
      → LeavesAfter view (desk old) (record { at = at; command = command }) (not (is_made reply)) (desk new)
  -- and that it is the content alone while the desk is live, if it was before
  pub settled : view.is_clean (desk new) → IsSettled view (desk old) → IsSettled view (desk new)
  pub store : reply ≡ Store → view.has_store

-- a demand: the command that a holder's request asks, its moment, and whether the reply tells that the stream
-- stops
abbrev pub HolderRequest : Type 0
HolderRequest = Stamped × Bool

-- H's requests among the exchanges that come after so many: those that can be read and whose reply isn't a
-- fixed one of a fault
abbrev pub heard_by : List ℕ → ℕ → Result Command WebFault → ℤ → Bool → Bool → List HolderRequest
heard_by country H (Ok command) at close true =
    if is_holder H (owner_of country command) then (record { at = at; command = command }, close) ∷ [] else []
heard_by country H (Ok command) at close false = []
heard_by country H (Err why) at close made = []

abbrev pub heard_in : List ℕ → ℕ → ℕ → List Exchange → List HolderRequest
heard_in country H before [] = []
heard_in country H before (e ∷ es) =
    heard_by country H (command_in (question before e.wire)) e.at (question before e.wire).close
    (is_made e.reply) ++ heard_in country H (before + 1) es

-- the bytes of the replies to them
abbrev pub told_by : List ℕ → ℕ → Result Command WebFault → List ℕ → Bool → List (List ℕ)
told_by country H (Ok command) bytes true = if is_holder H (owner_of country command) then bytes ∷ [] else []
told_by country H (Ok command) bytes false = []
told_by country H (Err why) bytes made = []

abbrev pub told_in : List ℕ → ℕ → ℕ → List Exchange → List (List ℕ)
told_in country H before [] = []
told_in country H before (e ∷ es) =
    told_by country H (command_in (question before e.wire)) (bytes_of e.reply) (is_made e.reply)
    ++ told_in country H (before + 1) es

-- the commands of requests
abbrev pub commands_of : List HolderRequest → List Stamped
commands_of list = map (λ r. r.0) list

-- the replies of H's own machine to a list of H's requests
abbrev pub machine_replies : ℕ → Book → List HolderRequest → List (List ℕ)
machine_replies H book [] = []
machine_replies H book (r ∷ list) =
    said_reply (verdict H book r.0.at r.0.command) r.1 ∷ machine_replies H (book_after H book r.0) list

-- the reply to each request that can't be read is that of its fault
abbrev pub FaultsAreTold : ℕ → List Exchange → Type 0
FaultsAreTold before [] = Unit {0}
FaultsAreTold before (e ∷ es) =
    ((why : WebFault) → command_in (question before e.wire) ≡ Err why
    → IsFaultReply why (question before e.wire).close e.reply) × FaultsAreTold (before + 1) es

-- the reply to each command that nobody owns is what the table says over an account with nothing in it
abbrev pub NobodysAreTold : List ℕ → ℕ → List Exchange → Type 0
NobodysAreTold country before [] = Unit {0}
NobodysAreTold country before (e ∷ es) =
    ((command : Command) → command_in (question before e.wire) ≡ Ok command → owner_of country command ≡ None
    → is_made e.reply ≡ true
    → bytes_of e.reply ≡ said_reply (said (empty_account country) e.at command) (question before e.wire).close)
    × NobodysAreTold country (before + 1) es

-- To each holder at once, the bytes of the replies to the holder's requests are those of the holder's own
-- machine; in the end the content is sound, and tied to the books that the machines end with.
pub record IsServed (country : List ℕ) (books : ℕ → Book) (before : ℕ) (es : List Exchange)
    (new : Content) : Type 0 where
  pub answers : (H : ℕ) → told_in country H before es ≡ machine_replies H (books H) (heard_in country H before es)
  pub faults : FaultsAreTold before es
  pub nobodys : NobodysAreTold country before es
  pub country_stays : new.country ≡ country
  pub sound : IsSound new
  pub tied : IsTied new (λ H. machine_book H (books H) (commands_of (heard_in country H before es)))

-- The same of one request alone. It is nobody's where it can't be read or its reply is a fixed one: then each
-- book stays.
pub record IsServedAlone (country : List ℕ) (books : ℕ → Book) (at : ℤ) (asked : Asked) (reply : Reply)
    (new : Content) : Type 0 where
  pub answers : (H : ℕ)
      → told_by country H (command_in asked) (bytes_of reply) (is_made reply) ≡ machine_replies H (books H)
      (heard_by country H (command_in asked) at asked.close (is_made reply))
  pub country_stays : new.country ≡ country
  pub sound : IsSound new
  pub tied : IsTied new (λ H.
      machine_book H (books H)
      (commands_of (heard_by country H (command_in asked) at asked.close (is_made reply))))

-- the desk behind a service
abbrev pub desk_of : {D : Type 0} → Service D → D
desk_of s = s.desk

-- what a request does to a service of a desk
abbrev pub IsHandledBy : {D : Type 0} → DeskView D → Service D → ℤ → Asked → Reply → Service D → Type 0
IsHandledBy = IsHandled desk_of

-- the reply to a HEAD request: a head alone, with the methods of the target's path where the desk has it
abbrev pub IsHeadReply : List ℕ → Reply → Type 0
IsHeadReply target reply =
    (reply ≡ NoMemory) ⊎ ((is_made reply ≡ true)
    × (bytes_of reply ≡ head_text (option_map allowed_text (option_and_then methods_of (path_of target)))))

-- a HEAD request leaves the desk as it is
pub record IsHeadHandledBy {D : Type 0} (old : Service D) (target : List ℕ) (reply : Reply)
    (new : Service D) : Type 0 where
  pub stays : desk_of new ≡ desk_of old
  pub told : IsHeadReply target reply

-- Where the desk is clean in the end: to each holder at once, the bytes of the replies to the holder's
-- requests are those of the holder's own machine, from any books to which the desk's content was tied. Where
-- a fault shut the desk on the way, c is the content up to that.
abbrev pub IsPrivate : {D : Type 0} → DeskView D → Service D → Service D → List Exchange → Type 0
IsPrivate view old new exchanges =
    view.is_clean (desk_of new) → view.is_live (desk_of old) → IsSound (view.content (desk_of old)) → (books : ℕ → Book)
    → IsTied (view.content (desk_of old)) books
    → (c : Content) × IsServed (view.content (desk_of old)).country books 0 exchanges c
    × (view.is_live (desk_of new) → view.content (desk_of new) ≡ c)

-- The same of one request alone, from books to the books after it.
abbrev pub IsPrivateAlone : {D : Type 0} → DeskView D → Service D → ℤ → Asked → Reply → Service D → Type 0
IsPrivateAlone view old at asked reply new =
    view.is_clean (desk_of new) → view.is_live (desk_of old) → IsSound (view.content (desk_of old)) → (books : ℕ → Book)
    → IsTied (view.content (desk_of old)) books
    → (c : Content) × IsServedAlone (view.content (desk_of old)).country books at asked reply c
    × (view.is_live (desk_of new) → view.content (desk_of new) ≡ c)
