-- What two streams, or two requests, tell one holder.
use Rattle.std.specs.Prelude.{◌≡◌, ℕ, ℤ, ◌+◌, Bool, List, [], ◌∷◌, ◌++◌, map, Option, None, Some, Result, Ok, Err, if◌then◌else◌}
use Rattle.td_commands.specs.declared.command.Command.{Command}
use Rattle.td_model.specs.Book.{Book}
use Rattle.td_commands.specs.Commands.{owner_of}
use Rattle.td_desk.specs.declared.fault.Fault.{Fault}
use Rattle.td_desk.specs.declared.fault.Fault.TheVariants as fault
use Rattle.td_model.specs.Content.{IsSound}
use Rattle.td_desk.specs.View.{DeskView}
use Rattle.td_desk.specs.Runs.{IsTied, is_holder}
use Rattle.td_fields.specs.declared.fault.WebFault.{WebFault}
use Rattle.http_wire.specs.declared.reply.Reply.{Reply}
use Rattle.http_wire.specs.declared.reply.Reply.TheVariants.{Made, NoMemory, Store}
use Rattle.http_wire.specs.declared.stream.StreamEnd.{StreamEnd}
use Rattle.http_wire.specs.Wire.{Asked}
use Rattle.http_wire.specs.ReplyText.{bytes_of, is_made}
use Rattle.http_wire.specs.Stream.{Exchange, Serves, Sides, question}
use Rattle.td_http.specs.declared.service.Service.{Service}
use Rattle.td_http.specs.Serving.{desk_of, IsHandledBy, IsHeadHandledBy, IsPrivate, IsPrivateAlone, HolderRequest, command_in, heard_in, told_in}

-- H's commands among the exchanges that come after so many, whether they failed or not: each with its
-- moment, and whether its reply has to tell that the stream stops
abbrev pub asked_by : List ℕ → ℕ → Result Command WebFault → ℤ → Bool → List HolderRequest
asked_by country H (Ok command) at close =
    if is_holder H (owner_of country command) then (record { at = at; command = command }, close) ∷ []
    else []
asked_by country H (Err why) at close = []

abbrev pub asked_in : List ℕ → ℕ → ℕ → List Exchange → List HolderRequest
asked_in country H before [] = []
asked_in country H before (e ∷ es) =
    asked_by country H (command_in (question before e.wire)) e.at (question before e.wire).close
    ++ asked_in country H (before + 1) es

-- the replies to them
abbrev pub replies_by : List ℕ → ℕ → Result Command WebFault → Reply → List Reply
replies_by country H (Ok command) reply =
    if is_holder H (owner_of country command) then reply ∷ [] else []
replies_by country H (Err why) reply = []

abbrev pub replies_in : List ℕ → ℕ → ℕ → List Exchange → List Reply
replies_in country H before [] = []
replies_in country H before (e ∷ es) =
    replies_by country H (command_in (question before e.wire)) e.reply
    ++ replies_in country H (before + 1) es

-- the fault that a reply tells, where it is the fixed reply to one
abbrev pub fault_told : Reply → Option Fault
fault_told (Made bytes) = None
fault_told NoMemory = Some fault.NoMemory
fault_told Store = Some fault.Store

-- two streams agree on H: H's commands in them are equal, with their moments and what their replies
-- have to tell of the stream's end, whatever stands between
abbrev pub StreamsAgree : List ℕ → ℕ → List Exchange → List Exchange → Type 0
StreamsAgree country H es others = asked_in country H 0 es ≡ asked_in country H 0 others

-- the same of H's commands failed, by the same faults
abbrev pub FailAlike : List ℕ → ℕ → List Exchange → List Exchange → Type 0
FailAlike country H es others =
    map fault_told (replies_in country H 0 es) ≡ map fault_told (replies_in country H 0 others)

-- the same of them failed, by whatever faults
abbrev pub FailTogether : List ℕ → ℕ → List Exchange → List Exchange → Type 0
FailTogether country H es others =
    map is_made (replies_in country H 0 es) ≡ map is_made (replies_in country H 0 others)

-- the bytes of all replies to H's commands are equal, those to commands that failed included
abbrev pub ReplyAlike : List ℕ → ℕ → List Exchange → List Exchange → Type 0
ReplyAlike country H es others =
    map bytes_of (replies_in country H 0 es) ≡ map bytes_of (replies_in country H 0 others)

-- those of H's commands that did not fail are equal in the two
abbrev pub HeardAlike : List ℕ → ℕ → List Exchange → List Exchange → Type 0
HeardAlike country H es others = heard_in country H 0 es ≡ heard_in country H 0 others

-- and so are the bytes of the replies to them
abbrev pub ToldAlike : List ℕ → ℕ → List Exchange → List Exchange → Type 0
ToldAlike country H es others = told_in country H 0 es ≡ told_in country H 0 others

-- What two lists of exchanges tell H alike. Where they agree on H and the same of H's commands failed by
-- the same faults, all replies to H's commands are equal, byte for byte; where these failed by whatever
-- faults, or other commands of H's failed beside those that are equal, the replies to the commands that
-- did not fail are.
pub record TellAlike (country : List ℕ) (H : ℕ) (es others : List Exchange) : Type 0 where
  pub replies : StreamsAgree country H es others → FailAlike country H es others
      → ReplyAlike country H es others
  pub told : StreamsAgree country H es others → FailTogether country H es others
      → ToldAlike country H es others
  pub heard : HeardAlike country H es others → ToldAlike country H es others

-- a desk of a country, which no fault has shut, and whose content is sound and tied to books
pub record IsDeskOf {D : Type 0} (view : DeskView D)
    (country : List ℕ) (books : ℕ → Book) (service : Service D) : Type 0 where
  pub country_is : (view.content (desk_of service)).country ≡ country
  pub live : view.is_live (desk_of service)
  pub sound : IsSound (view.content (desk_of service))
  pub tied : IsTied (view.content (desk_of service)) books

-- A stream that was served at such a desk, and left it clean. The last part is what `serve_stream` promises beside that it
-- was served.
pub record IsStreamAt {R W C D : Type 0} {remaining : R → Option (List ℕ)} {contents : W → Option (List ℕ)}
    {ticks : C → ℤ → C → Type 0} {old new : Sides R W C (Service D)} {end : StreamEnd} (view : DeskView D)
    (country : List ℕ) (books : ℕ → Book)
    (served : Serves remaining contents ticks (IsHandledBy view) IsHeadHandledBy old new end) : Type 0 where
  pub desk : IsDeskOf view country books old.handler
  pub clean : view.is_clean (desk_of new.handler)
  pub private : IsPrivate view old.handler new.handler served.run.exchanges

-- One request that was handled at such a desk. The last part is what `Service::handle` promises.
pub record IsRequestAt {D : Type 0} (view : DeskView D)
    (country : List ℕ) (books : ℕ → Book)
    (old : Service D) (at : ℤ) (asked : Asked) (reply : Reply) (new : Service D) : Type 0 where
  pub desk : IsDeskOf view country books old
  pub clean : view.is_clean (desk_of new)
  pub private : IsPrivateAlone view old at asked reply new
