-- A stream of requests at a desk that keeps a journal.
use Rattle.std.proofs.Common.{◌≡◌, ◌⊎◌, ℕ, ◌+◌, ℤ, List, [], ◌∷◌, inl, inr, refl, sym, ap, subst}
use Rattle.std.specs.Prelude.{Err, Ok, Result}
use Rattle.http_wire.specs.ReplyText.{is_made}
use Rattle.http_wire.specs.Stream.{Chain, Exchange, question}
use Rattle.http_wire.specs.declared.reply.Reply.TheVariants.{NoMemory}
use Rattle.sqlite_disk.specs.declared.Disk.{Ghosts}
use Rattle.td_commands.specs.declared.command.Command.{Command}
use Rattle.td_model.specs.Content.{IsSound}
use Rattle.td_desk.specs.View.{DeskView}
use Rattle.td_fields.specs.declared.fault.WebFault.{WebFault}
use Rattle.td_http.specs.Serving.{HandledAs, IsCausedBy, IsHandled, command_in, desk_of}
use Rattle.td_http.specs.declared.service.Service.{Service}
use Rattle.td_http.proofs.Served.{chain_clean}
use Rattle.td_journal.specs.Growth.{HasGrown, StreamIsJournaled, answered, answered_by}
use Rattle.td_journal.specs.Journaled.{journaled}
use Rattle.td_journal.specs.declared.desk.JournaledDesk.{JournaledDesk}
use Rattle.td_journal.proofs.Growing.{grown_on, nothing_grown, replied}

module _ {D F : Type 0} (g : Ghosts F) (view : DeskView D) where
  -- a chain that ends live was live all along
  pub chain_live : (C S : Type 0) (ticks : C → ℤ → C → Type 0) (desk : S → JournaledDesk D F g) (es : List Exchange) (before : ℕ) (old new : C × S)
      → Chain ticks (IsHandled desk (journaled view)) before old es new → view.is_clean (desk new.1).desk → (journaled view).is_live (desk new.1)
      → (journaled view).is_live (desk old.1)
  chain_live C S ticks desk [] before old new chain clean live = subst (λ (x : C × S). (journaled view).is_live (desk x.1)) chain live
  chain_live C S ticks desk (e ∷ es) before old new chain clean live =
      chain.3.live (chain_clean ticks desk (journaled view) es (before + 1) (chain.0, chain.1) new chain.4 clean)
      (chain_live C S ticks desk es (before + 1) (chain.0, chain.1) new chain.4 clean live)

  module _ (S : Type 0) (desk : S → JournaledDesk D F g) (before : ℕ) (e : Exchange) (old new : S)
      (handled : IsHandled desk (journaled view) old e.at (question before e.wire) e.reply new) (clean : view.is_clean (desk new).desk)
      (live : (journaled view).is_live (desk new)) (sound : IsSound (view.content (desk old).desk)) where
    abbrev Grown : Result Command WebFault → Type 0
    Grown r = HasGrown view (answered_by r e.at (is_made e.reply)) (desk old) (desk new) × IsSound (view.content (desk new).desk)

    same : (desk new ≡ desk old) → HasGrown view [] (desk old) (desk new)
    same is = subst (λ (d : JournaledDesk D F g). HasGrown view [] (desk old) d) (sym is) (nothing_grown view (desk old) (desk old) refl refl refl (λ tight. tight) (λ durable. durable))

    by_reading : (r : Result Command WebFault) → command_in (question before e.wire) ≡ r
        → HandledAs ((journaled view).is_live (desk old)) ((journaled view).is_live (desk new)) (view.content (desk old).desk) e.at r (question before e.wire).close e.reply (view.content (desk new).desk)
        → Grown r
    by_reading (Err why) is told =
        let alone = handled.unasked why is in
        (same alone, subst (λ (d : JournaledDesk D F g). IsSound (view.content d.desk)) (sym alone) sound)
    by_reading (Ok command) is told = by_calls (handled.calls command is)
      where
        by_calls : ((desk new ≡ desk old) × (e.reply ≡ NoMemory)) ⊎ IsCausedBy (journaled view) (desk old) (record { at = e.at; command = command }) e.reply (desk new)
            → Grown (Ok command)
        by_calls (inl (alone, missing)) = (
          subst (λ b. HasGrown view (answered_by (Ok command) e.at b) (desk old) (desk new)) (sym (ap is_made missing)) (same alone),
          subst (λ (d : JournaledDesk D F g). IsSound (view.content d.desk)) (sym alone) sound,
        )
        by_calls (inr caused) =
            replied view (desk old) (desk new) (record { at = e.at; command = command }) (question before e.wire).close clean live sound e.reply caused told

    pub exchange_grown : Grown (command_in (question before e.wire))
    exchange_grown = by_reading (command_in (question before e.wire)) refl (handled.handled clean)

  pub chain_grown : (C S : Type 0) (ticks : C → ℤ → C → Type 0) (desk : S → JournaledDesk D F g) (before : ℕ) (es : List Exchange) (old new : C × S)
      → Chain ticks (IsHandled desk (journaled view)) before old es new
      → view.is_clean (desk new.1).desk → (journaled view).is_live (desk new.1) → IsSound (view.content (desk old.1).desk)
      → HasGrown view (answered before es) (desk old.1) (desk new.1) × IsSound (view.content (desk new.1).desk)
  chain_grown C S ticks desk before [] old new chain clean live sound = (
    subst (λ (x : C × S). HasGrown view [] (desk old.1) (desk x.1)) (sym chain) (nothing_grown view (desk old.1) (desk old.1) refl refl refl (λ tight. tight) (λ durable. durable)),
    subst (λ (x : C × S). IsSound (view.content (desk x.1).desk)) (sym chain) sound,
  )
  chain_grown C S ticks desk before (e ∷ es) old new chain clean live sound =
      let mid : C × S = (chain.0, chain.1) in
      let mid_clean = chain_clean ticks desk (journaled view) es (before + 1) mid new chain.4 clean in
      let mid_live = chain_live C S ticks desk es (before + 1) mid new chain.4 clean live in
      let first = exchange_grown S desk before e old.1 chain.1 chain.3 mid_clean mid_live sound in
      let rest = chain_grown C S ticks desk (before + 1) es mid new chain.4 clean live first.1 in
      (grown_on view _ (answered (before + 1) es) (desk old.1) (desk chain.1) (desk new.1) first.0 rest.0, rest.1)

  pub stream_grown : {C : Type 0} (ticks : C → ℤ → C → Type 0) → StreamIsJournaled g view ticks
  stream_grown {C} ticks before es old new chain clean live sound =
      (chain_grown C (Service (JournaledDesk D F g)) ticks desk_of before es old new chain clean live sound).0
