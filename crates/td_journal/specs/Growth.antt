-- What a journal has of the commands that were answered while it was kept.
use Rattle.std.specs.Prelude.{◌≡◌, ℕ, ◌+◌, ℤ, Bool, true, false, List, [], ◌∷◌, ◌++◌, map, zip, Option, Result, Ok, Err}
use Rattle.std.specs.declared.io.Error.{Error}
use Rattle.http_wire.specs.ReplyText.{is_made}
use Rattle.http_wire.specs.Stream.{Chain, Exchange, question}
use Rattle.sqlite_disk.specs.declared.Disk.{Ghosts}
use Rattle.td_batch.specs.Runs.{IsBatchDone, at_moment, outcomes_of, tried}
use Rattle.td_batch.specs.declared.running.BatchRun.{BatchRun}
use Rattle.td_commands.specs.declared.command.Command.{Command}
use Rattle.td_commands.specs.declared.command.Stamped.{Stamped}
use Rattle.td_commands.specs.declared.said.Said as words
use Rattle.td_model.specs.Content.{Content, IsSound}
use Rattle.td_desk.specs.declared.running.Outcome.{Outcome}
use Rattle.td_desk.specs.declared.running.Outcome.TheVariants.{Failed, Said}
use Rattle.td_desk.specs.View.{DeskView}
use Rattle.td_acts.specs.Weighing.{Carries}
use Rattle.td_fields.specs.declared.fault.WebFault.{WebFault}
use Rattle.td_http.specs.Connections.{Between, KnownConnections, ServesConnections, desk_server}
use Rattle.td_http.specs.Serving.{IsHandledBy, command_in, desk_of}
use Rattle.td_http.specs.declared.service.Service.{Service}
use Rattle.td_journal.specs.Journal.{IsDurable, IsTight, next_number, text_of}
use Rattle.td_journal.specs.Journaled.{journaled, rows_in, written}
use Rattle.td_journal.specs.Texts.{IsNoted}
use Rattle.td_journal.specs.declared.desk.JournaledDesk.{JournaledDesk}

-- The text is the rows of the accepted changes among these commands, in their order and with numbers that rise by one, each with
-- what was said to it by a desk of the content that the ones before it left.
abbrev pub AreJournaled : ℕ → Content → List Stamped → List ℕ → ℕ → Content → Type 0
AreJournaled number c [] text next end = (text ≡ []) × (next ≡ number) × (end ≡ c)
AreJournaled number c (s ∷ list) text next end =
    (row : Option (List ℕ)) × (after : Content) × (rest : List ℕ) × IsNoted number c s row × Carries c s after
    × (text ≡ written row ++ rest) × AreJournaled (number + rows_in row) after list rest next end

-- While these commands were answered, and no others were carried, the journal grew by their rows.
pub record HasGrown {D F : Type 0} {g : Ghosts F} (view : DeskView D) (list : List Stamped) (old new : JournaledDesk D F g) : Type 0 where
  pub rows : List ℕ
  pub text : text_of new.journal ≡ text_of old.journal ++ rows
  pub are : AreJournaled (next_number old.journal) (view.content old.desk) list rows (next_number new.journal) (view.content new.desk)
  -- nothing stands behind them, and a crash leaves them
  pub tight : IsTight old.journal → IsTight new.journal
  pub durable : IsDurable old.journal → IsDurable new.journal

-- the command of a request that was answered
abbrev pub answered_by : Result Command WebFault → ℤ → Bool → List Stamped
answered_by (Ok command) at true = record { at = at; command = command } ∷ []
answered_by (Ok command) at false = []
answered_by (Err why) at made = []

-- the commands that were answered, of requests that come after so many
abbrev pub answered : ℕ → List Exchange → List Stamped
answered before [] = []
answered before (e ∷ es) = answered_by (command_in (question before e.wire)) e.at (is_made e.reply) ++ answered (before + 1) es

-- Requests that were handled one after the other, at a service of a desk that keeps a journal.
abbrev pub StreamIsJournaled : {D F C : Type 0} (g : Ghosts F) → DeskView D → (C → ℤ → C → Type 0) → Type 0
StreamIsJournaled {D} {F} {C} g view ticks =
    (before : ℕ) (es : List Exchange) (old new : C × Service (JournaledDesk D F g)) → Chain ticks (IsHandledBy (journaled view)) before old es new
    → view.is_clean (desk_of new.1).desk → (journaled view).is_live (desk_of new.1) → IsSound (view.content (desk_of old.1).desk)
    → HasGrown view (answered before es) (desk_of old.1) (desk_of new.1)

-- those of connections, one after the other
abbrev pub answered_over : List (List Exchange) → List Stamped
answered_over [] = []
answered_over (es ∷ streams) = answered 0 es ++ answered_over streams

-- Connections that were served one after the other, at such a service.
abbrev pub ServingIsJournaled : {D F R W L C : Type 0} (g : Ghosts F) → DeskView D → KnownConnections L R W → (C → ℤ → C → Type 0) → Type 0
ServingIsJournaled {D} {F} {L = L} {C = C} g view known ticks =
    (old new : Between L C (Service (JournaledDesk D F g))) (count : ℕ) (answer : Result Unit Error)
    → (served : ServesConnections known (desk_server ticks (journaled view)) old new count answer)
    → view.is_clean (desk_of new.handler).desk → (journaled view).is_live (desk_of new.handler) → IsSound (view.content (desk_of old.handler).desk)
    → HasGrown view (answered_over (map (λ connection. connection.exchanges) served.all_served)) (desk_of old.handler) (desk_of new.handler)

-- the commands of the rows that were answered, of those that were tried, all at one moment
abbrev pub answered_rows : ℤ → List (Command × Outcome) → List Stamped
answered_rows at [] = []
answered_rows at ((command, Said words) ∷ rows) = at_moment at command ∷ answered_rows at rows
answered_rows at ((command, Failed why) ∷ rows) = answered_rows at rows

-- Rows of a batch that were done at such a desk.
abbrev pub BatchIsJournaled : {D F : Type 0} (g : Ghosts F) → DeskView D → Type 0
BatchIsJournaled {D} {F} g view =
    (line : Command → words.Said → List ℕ) (header : List ℕ) (at : ℤ) (rows : List Command) (r : BatchRun) (old new : JournaledDesk D F g)
    → (done : IsBatchDone (journaled view) line header at rows r old new)
    → view.is_clean new.desk → (journaled view).is_live new → IsSound (view.content old.desk)
    → HasGrown view (answered_rows at (zip (tried rows done.said r.stopped) (outcomes_of done.said r.stopped))) old new
