-- What a crash leaves of a desk that serves requests: what was acknowledged is kept.
use Rattle.std.specs.Prelude.{◌≡◌, ◌⊎◌, ℕ, ℤ, ◌+◌, false, if◌then◌else◌, List, [], ◌∷◌, length, Ok}
use Rattle.td_commands.specs.declared.command.Stamped.{Stamped}
use Rattle.td_commands.specs.Commands.{owner_of}
use Rattle.td_model.specs.Book.{Book}
use Rattle.td_model.specs.Machine.{machine_book}
use Rattle.td_model.specs.Content.{Content, IsSound}
use Rattle.td_desk.specs.Runs.{IsTied, is_holder}
use Rattle.td_desk.specs.View.{DeskView}
use Rattle.http_wire.specs.ReplyText.{is_made}
use Rattle.http_wire.specs.Stream.{Chain, Exchange, question}
use Rattle.td_http.specs.Serving.{command_in, commands_of, desk_of, heard_in, IsHandledBy}
use Rattle.td_http.specs.declared.service.Service.{Service}

-- the books that the machines end with after exchanges that come after so many
abbrev pub books_after : List ℕ → (ℕ → Book) → ℕ → List Exchange → ℕ → Book
books_after country books before es H = machine_book H (books H) (commands_of (heard_in country H before es))

-- and those with one command more, in its owner's book
abbrev pub books_with : List ℕ → (ℕ → Book) → Stamped → ℕ → Book
books_with country books s H = machine_book H (books H) (if is_holder H (owner_of country s.command) then s ∷ [] else [])

-- the exchange asked this command, and the reply to it is a fixed one
pub record HasFailed (before : ℕ) (e : Exchange) (s : Stamped) : Type 0 where
  pub asked : command_in (question before e.wire) ≡ Ok s.command
  pub at : s.at ≡ e.at
  pub fixed : is_made e.reply ≡ false

-- one of the exchanges that come after so many did
abbrev pub HasFailedIn : ℕ → List Exchange → Stamped → Type 0
HasFailedIn before [] s = ⊥
HasFailedIn before (e ∷ es) s = HasFailed before e s ⊎ HasFailedIn (before + 1) es s

-- A content that a crash may leave: it is sound, and tied to books, or to these with one command more, of which it is said that
-- it failed.
pub record IsKeptIn (country : List ℕ) (Failed : Stamped → Type 0) (books : ℕ → Book) (x : Content) : Type 0 where
  pub country_is : x.country ≡ country
  pub sound : IsSound x
  pub tied : IsTied x books ⊎ ((s : Stamped) × Failed s × IsTied x (books_with country books s))

-- the same after exchanges: the books are those that the machines end with, and a command failed by a fixed reply
abbrev pub IsKept : List ℕ → (ℕ → Book) → List Exchange → Content → Type 0
IsKept country books es x = IsKeptIn country (HasFailedIn 0 es) (books_after country books 0 es) x

-- Between some exchanges of a stream and those after them there was a moment, to which the first led and from which the others
-- lead. The desk then had sound content, so that each guarantee is covered, while no fault had shut it; and whatever a crash
-- leaves then is a desk, whose content is one after the first exchanges.
pub record IsKeptBetween {C D : Type 0} (ticks : C → ℤ → C → Type 0) (view : DeskView D) (country : List ℕ) (books : ℕ → Book)
    (first others : List Exchange) (old new : C × Service D) : Type 0 where
  pub between : C × Service D
  pub led : Chain ticks (IsHandledBy view) 0 old first between
  pub leads : Chain ticks (IsHandledBy view) (length first) between others new
  pub sound : view.is_live (desk_of between.1) → IsSound (view.content (desk_of between.1))
  pub recovers : view.recovers (desk_of between.1)
  pub kept : (x : Content) → view.may_leave (desk_of between.1) x → IsKept country books first x
