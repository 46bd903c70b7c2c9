-- What two lists of connections, one after another, tell one holder.
use Rattle.std.specs.Prelude.{◌≡◌, ℕ, ℤ, List, map, Result}
use Rattle.std.specs.List.{flat_map}
use Rattle.std.specs.declared.io.Error.{Error}
use Rattle.td_model.specs.Book.{Book}
use Rattle.td_desk.specs.View.{DeskView}
use Rattle.http_wire.specs.declared.reply.Reply.{Reply}
use Rattle.http_wire.specs.ReplyText.{bytes_of, is_made}
use Rattle.http_wire.specs.Stream.{Exchange}
use Rattle.td_http.specs.declared.service.Service.{Service}
use Rattle.td_http.specs.Laws.{asked_in, replies_in, fault_told, IsDeskOf}
use Rattle.td_http.specs.Serving.{desk_of, HolderRequest}
use Rattle.td_http.specs.Connections.{Between, KnownConnections, ServesConnections, desk_server}
use Rattle.td_http.specs.Private.{heard_over, told_over, IsPrivateOver}

-- H's commands over all streams, in their order, whether they failed or not: each with its moment, and whether
-- its reply has to tell that the stream stops
abbrev pub asked_over : List ℕ → ℕ → List (List Exchange) → List HolderRequest
asked_over country H streams = flat_map (asked_in country H 0) streams

-- the replies to them
abbrev pub replies_over : List ℕ → ℕ → List (List Exchange) → List Reply
replies_over country H streams = flat_map (replies_in country H 0) streams

-- Two lists of streams agree on H: H's commands over all of them are equal, with their moments and what their
-- replies have to tell of a stream's end, whatever stands between, and however they are spread over streams.
abbrev pub ConnectionsAgree : List ℕ → ℕ → List (List Exchange) → List (List Exchange) → Type 0
ConnectionsAgree country H streams others = asked_over country H streams ≡ asked_over country H others

-- the same of H's commands failed, by the same faults
abbrev pub FailAlikeOver : List ℕ → ℕ → List (List Exchange) → List (List Exchange) → Type 0
FailAlikeOver country H streams others =
    map fault_told (replies_over country H streams) ≡ map fault_told (replies_over country H others)

-- the same of them failed, by whatever faults
abbrev pub FailTogetherOver : List ℕ → ℕ → List (List Exchange) → List (List Exchange) → Type 0
FailTogetherOver country H streams others =
    map is_made (replies_over country H streams) ≡ map is_made (replies_over country H others)

-- the bytes of all replies to H's commands are equal, those to commands that failed included
abbrev pub ReplyAlikeOver : List ℕ → ℕ → List (List Exchange) → List (List Exchange) → Type 0
ReplyAlikeOver country H streams others =
    map bytes_of (replies_over country H streams) ≡ map bytes_of (replies_over country H others)

-- those of H's commands that did not fail are equal in the two
abbrev pub HeardAlikeOver : List ℕ → ℕ → List (List Exchange) → List (List Exchange) → Type 0
HeardAlikeOver country H streams others = heard_over country H streams ≡ heard_over country H others

-- and so are the bytes of the replies to them
abbrev pub ToldAlikeOver : List ℕ → ℕ → List (List Exchange) → List (List Exchange) → Type 0
ToldAlikeOver country H streams others = told_over country H streams ≡ told_over country H others

-- What two lists of streams tell H alike. Where they agree on H and the same of H's commands failed by the
-- same faults, all replies to H's commands are equal, byte for byte; where these failed by whatever faults, or
-- other commands of H's failed beside those that are equal, the replies to the commands that did not fail are.
pub record TellAlikeOver (country : List ℕ) (H : ℕ) (streams others : List (List Exchange)) : Type 0 where
  pub replies : ConnectionsAgree country H streams others → FailAlikeOver country H streams others
      → ReplyAlikeOver country H streams others
  pub told : ConnectionsAgree country H streams others → FailTogetherOver country H streams others
      → ToldAlikeOver country H streams others
  pub heard : HeardAlikeOver country H streams others → ToldAlikeOver country H streams others

-- So many connections that were asked for at such a desk, and left it clean. The last part is what `serve_connections`
-- promises beside that they were served.
pub record AreServedAt {R W C D L : Type 0} {known : KnownConnections L R W} {ticks : C → ℤ → C → Type 0} {old new : Between L C (Service D)}
    {count : ℕ} {answer : Result Unit Error} (view : DeskView D) (country : List ℕ) (books : ℕ → Book)
    (served : ServesConnections known (desk_server ticks view) old new count answer) : Type 0 where
  pub desk : IsDeskOf view country books old.handler
  pub clean : view.is_clean (desk_of new.handler)
  pub private : IsPrivateOver view old.handler new.handler
      (map (λ connection. connection.exchanges) served.all_served)
