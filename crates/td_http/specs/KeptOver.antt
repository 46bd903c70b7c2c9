-- What a crash leaves of a desk that serves connections one after another: what was acknowledged is kept.
use Rattle.std.specs.Prelude.{◌⊎◌, ℕ, ℤ, List, [], ◌∷◌, ◌++◌, length, map}
use Rattle.td_commands.specs.declared.command.Stamped.{Stamped}
use Rattle.td_model.specs.Book.{Book}
use Rattle.td_model.specs.Content.{Content, IsSound}
use Rattle.td_desk.specs.View.{DeskView}
use Rattle.http_wire.specs.Stream.{Chain, Exchange}
use Rattle.td_http.specs.Connections.{Between, Connection, IsServedConnection, KnownConnections, ServedConnections, desk_server}
use Rattle.td_http.specs.Kept.{HasFailedIn, IsKeptIn}
use Rattle.td_http.specs.Private.{books_over}
use Rattle.td_http.specs.Serving.{desk_of, IsHandledBy}
use Rattle.td_http.specs.declared.service.Service.{Service}

-- the reply to this command, in one of the streams, is a fixed one
abbrev pub HasFailedOver : List (List Exchange) → Stamped → Type 0
HasFailedOver [] s = ⊥
HasFailedOver (es ∷ streams) s = HasFailedIn 0 es s ⊎ HasFailedOver streams s

-- a content that a crash may leave after streams, one after another
abbrev pub IsKeptOver : List ℕ → (ℕ → Book) → List (List Exchange) → Content → Type 0
IsKeptOver country books streams x = IsKeptIn country (HasFailedOver streams) (books_over country books streams) x

-- One of the connections that were served, those before and after it, and its exchanges in two parts.
pub record Cut (R W : Type 0) : Type 0 where
  pub before : List (Connection R W)
  pub connection : Connection R W
  pub after : List (Connection R W)
  pub first : List Exchange
  pub others : List Exchange

-- Between the two parts there was a moment, to which the
-- connections before this one and the first part led, and from which the others lead. The desk then had sound content, so that
-- each guarantee is covered, while no fault had shut it; and whatever a crash leaves then is a desk, whose content is one after
-- these connections and the first part.
pub record IsKeptWithin {R W C D L : Type 0} (known : KnownConnections L R W) (ticks : C → ℤ → C → Type 0)
    (view : DeskView D) (country : List ℕ) (books : ℕ → Book) (cut : Cut R W) (old new : Between L C (Service D)) : Type 0 where
  pub begins : Between L C (Service D)
  pub ends : Between L C (Service D)
  pub were_served : ServedConnections known (desk_server ticks view) old cut.before begins
  pub is_served : IsServedConnection known (desk_server ticks view) begins cut.connection ends
  pub are_served : ServedConnections known (desk_server ticks view) ends cut.after new
  pub between : C × Service D
  pub led : Chain ticks (IsHandledBy view) 0 (begins.clock, begins.handler) cut.first between
  pub leads : Chain ticks (IsHandledBy view) (length cut.first) between cut.others (ends.clock, is_served.served.run.handler)
  pub sound : view.is_live (desk_of between.1) → IsSound (view.content (desk_of between.1))
  pub recovers : view.recovers (desk_of between.1)
  pub kept : (x : Content) → view.may_leave (desk_of between.1) x
      → IsKeptOver country books (map (λ c. c.exchanges) cut.before ++ cut.first ∷ []) x
