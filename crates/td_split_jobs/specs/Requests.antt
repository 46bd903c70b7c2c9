-- Requests that are split among desks by holder, over whatever connections, and what the desks reply.
use Rattle.std.specs.Prelude.{◌≡◌, ℕ, ◌+◌, ◌<◌, ◌==◌, ℤ, Bool, List, [], ◌∷◌, map, filter, Option, None, IfSome, Result, Ok, Err}
use Rattle.std.specs.List.{AllByRecursion, flat_map}
use Rattle.td_commands.specs.declared.command.Command.{Command}
use Rattle.td_commands.specs.Commands.{owner_of}
use Rattle.td_model.specs.Content.{IsSound, rows_of}
use Rattle.td_desk.specs.View.{DeskView}
use Rattle.td_fields.specs.declared.fault.WebFault.{WebFault}
use Rattle.http_wire.specs.declared.reply.Reply.{Reply}
use Rattle.http_wire.specs.Stream.{Exchange, question}
use Rattle.td_http.specs.declared.service.Service.{Service}
use Rattle.td_http.specs.Private.{IsPrivateOver}
use Rattle.td_http.specs.Serving.{command_in, desk_of}
use Rattle.td_split.specs.Split.{Shards}

-- A request as a desk is asked it: its moment, its command or why it can't be read, and whether its reply has to tell that the
-- stream stops.
pub record Request : Type 0 where
  pub at : ℤ
  pub asks : Result Command WebFault
  pub close : Bool

-- that of an exchange which comes after so many in its stream
abbrev pub request_of : ℕ → Exchange → Request
request_of before e = record {
  at = e.at;
  asks = command_in (question before e.wire);
  close = (question before e.wire).close;
}

abbrev pub requests_in : ℕ → List Exchange → List Request
requests_in before [] = []
requests_in before (e ∷ es) = request_of before e ∷ requests_in (before + 1) es

-- the requests of all streams, in their order
abbrev pub requests_over : List (List Exchange) → List Request
requests_over streams = flat_map (requests_in 0) streams

-- and the replies to them
abbrev pub all_replies : List (List Exchange) → List Reply
all_replies streams = flat_map (map (λ e. e.reply)) streams

-- whose a request is: nobody's where it can't be read
abbrev pub asked_of : List ℕ → Result Command WebFault → Option ℕ
asked_of country (Ok command) = owner_of country command
asked_of country (Err why) = None

-- a request, and the number of the desk that it is sent to
pub record SentRequest : Type 0 where
  pub request : Request
  pub desk : ℕ

-- the requests that are sent to desk i, in order
abbrev pub requests_for : ℕ → List SentRequest → List Request
requests_for i sent = map (λ s. s.request) (filter (λ s. s.desk == i) sent)

-- A request is sent to one of so many desks: a holder's to the holder's own, which f says, and one that nobody owns to any.
abbrev pub IsRequestSentTo : List ℕ → (ℕ → ℕ) → ℕ → SentRequest → Type 0
IsRequestSentTo country f desks s = (s.desk < desks) × IfSome (asked_of country s.request.asks) (λ H. s.desk ≡ f H)

-- Connections with these exchanges were served at a desk of that country, as `serve_connections` promises (`private`). No fault had
-- shut the desk, its content was sound, and in the end its disk is clean.
pub record IsServingAt {D : Type 0} (view : DeskView D) (country : List ℕ) (streams : List (List Exchange))
    (old new : Service D) : Type 0 where
  pub country_is : (view.content (desk_of old)).country ≡ country
  pub live : view.is_live (desk_of old)
  pub sound : IsSound (view.content (desk_of old))
  pub clean : view.is_clean (desk_of new)
  pub private : IsPrivateOver view old new streams

-- what connections asked a desk and were told, and the desk's service before and after them
pub record ServingAt (D : Type 0) : Type 0 where
  pub streams : List (List Exchange)
  pub old : Service D
  pub new : Service D

-- Requests were split among desks: one desk was asked all of them, and each of the others those that were sent to it, over whatever
-- connections. In the beginning each of these had the one desk's rows of its own holders.
pub record IsSplitServing {D E : Type 0} (view : DeskView D) (other : DeskView E) (shards : Shards) (sent : List SentRequest)
    (serving : ServingAt D) (servings : ℕ → ServingAt E) : Type 0 where
  pub placed : (H : ℕ) → shards.home H < shards.count
  pub sent_to : AllByRecursion (IsRequestSentTo shards.country shards.home shards.count) sent
  pub one : IsServingAt view shards.country serving.streams serving.old serving.new
  pub asked : requests_over serving.streams ≡ map (λ s. s.request) sent
  pub many : (i : ℕ) → i < shards.count → IsServingAt other shards.country (servings i).streams (servings i).old (servings i).new
  pub shares : (i : ℕ) → i < shards.count → requests_over (servings i).streams ≡ requests_for i sent
  pub begun : (H : ℕ) → rows_of H (other.content (desk_of (servings (shards.home H)).old)) ≡ rows_of H (view.content (desk_of serving.old))
