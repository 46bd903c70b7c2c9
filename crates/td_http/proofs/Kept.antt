-- What a crash leaves of a desk is kept from request to request.
use Rattle.std.proofs.Common.{◌≡◌, ◌⊎◌, ℕ, ℤ, ◌+◌, Bool, true, false, if◌then◌else◌, List, [], ◌∷◌, ◌++◌, length, Result, Ok, Err, refl, sym, ◌∙◌, ap, subst, inl, inr, arith}
use Rattle.std.proofs.lemmas.List.{map-append}
use Rattle.td_commands.specs.declared.command.Command.{Command}
use Rattle.td_commands.specs.declared.command.Stamped.{Stamped}
use Rattle.td_commands.specs.declared.said.Said.{Said}
use Rattle.td_commands.specs.Commands.{owner_of}
use Rattle.td_model.specs.Book.{Book, account_of}
use Rattle.td_model.specs.Machine.{machine_book, IsGrown}
use Rattle.td_model.specs.Table.{said}
use Rattle.td_desk.specs.declared.running.Outcome.{Outcome}
use Rattle.td_desk.specs.declared.running.Outcome.TheVariants as outcome
use Rattle.td_model.specs.Content.{Content, IsSound}
use Rattle.td_desk.specs.Runs.{IsRun, IsStep, IsTied, is_holder, LeavesAfter}
use Rattle.td_desk.specs.View.{DeskView, IsSettled}
use Rattle.td_acts.specs.Weighing.{owner_account, Carries}
use Rattle.td_desk.proofs.Turns.{run_more}
use Rattle.td_fields.specs.declared.fault.WebFault.{WebFault}
use Rattle.http_wire.specs.declared.reply.Reply.{Reply}
use Rattle.http_wire.specs.ReplyText.{is_made}
use Rattle.http_wire.specs.Wire.{Asked}
use Rattle.http_wire.specs.Stream.{Chain, Exchange, question}
use Rattle.td_http.specs.Kept.{books_after, books_with, HasFailed, HasFailedIn, IsKeptIn, IsKeptBetween}
use Rattle.td_http.specs.Serving.{command_in, commands_of, desk_of, heard_by, heard_in, IsHandled, IsHandledBy, IsReplyTo}
use Rattle.td_http.specs.declared.service.Service.{Service}
use Rattle.td_http.proofs.Served.{chain_clean, fixed_reply, machine_book-++, no_run}

-- a content is tied to books that are the same
pub tied_as : (x : Content) (books others : ℕ → Book) → ((H : ℕ) → books H ≡ others H) → IsTied x books → IsTied x others
tied_as x books others same tied = record {
  each = λ H. tied.each H ∙ ap (account_of H) (same H);
  grown = λ H. subst (IsGrown H) (same H) (tied.grown H);
}

-- a desk at a moment: what it shows while it is live, and what a crash leaves of it
pub record Keeps {D : Type 0} (view : DeskView D) (country : List ℕ) (Failed : Stamped → Type 0) (books : ℕ → Book) (d : D) : Type 0 where
  pub live : view.is_live d → IsTied (view.content d) books × IsSound (view.content d) × ((view.content d).country ≡ country)
  pub settled : IsSettled view d
  pub recovers : view.recovers d
  pub left : (x : Content) → view.may_leave d x → IsKeptIn country Failed books x

-- the content after a command that was carried, from one that is tied to books
module _ (country : List ℕ) (books : ℕ → Book) (s : Stamped) (old new : Content) (tied : IsTied old books) (sound : IsSound old)
    (same : old.country ≡ country) (carries : Carries old s new) where
  abbrev words : Said
  words = said (owner_account old s.command) s.at s.command

  run : IsRun country books (s ∷ []) (outcome.Said words ∷ []) new
  run = run_more country books [] [] s old new (no_run country books old same sound tied) (outcome.Said words) (refl, carries)

  pub carried_tied : IsTied new (books_with country books s)
  carried_tied = record { each = run.tied.each; grown = run.tied.grown }

  pub carried_sound : IsSound new
  carried_sound = run.sound

  pub carried_country : new.country ≡ country
  carried_country = run.country_stays

-- the commands of what one exchange says are its own command, if its reply was made
heard_one : (country : List ℕ) (H : ℕ) (command : Command) (at : ℤ) (close : Bool)
    → (if is_holder H (owner_of country command) then record { at = at; command = command } ∷ [] else [])
    ≡ commands_of (heard_by country H (Ok command) at close true)
heard_one country H command at close = by_holder (is_holder H (owner_of country command))
  where
    by_holder : (b : Bool) → (if b then record { at = at; command = command } ∷ [] else [])
        ≡ commands_of (if b then (record { at = at; command = command }, close) ∷ [] else [])
    by_holder true = refl
    by_holder false = refl

-- one exchange more
module _ {S D : Type 0} (desk : S → D) (view : DeskView D) (country : List ℕ) (Failed : Stamped → Type 0) (books : ℕ → Book)
    (before : ℕ) (e : Exchange) (old new : S) (keeps : Keeps view country Failed books (desk old))
    (handled : IsHandled desk view old e.at (question before e.wire) e.reply new) (clean : view.is_clean (desk new)) where
  abbrev FailedNow : Stamped → Type 0
  FailedNow s = Failed s ⊎ HasFailed before e s

  abbrev After : Result Command WebFault → Bool → Type 0
  After r made = Keeps view country FailedNow
      (λ H. machine_book H (books H) (commands_of (heard_by country H r e.at (question before e.wire).close made))) (desk new)

  -- what could be left before can be left still
  weaker : (x : Content) → IsKeptIn country Failed books x → IsKeptIn country FailedNow books x
  weaker x left = record {
    country_is = left.country_is;
    sound = left.sound;
    tied = elim left.tied [ inl is ↦ inl is | inr more ↦ inr (more.0, inl more.1, more.2) ];
  }

  unread : (why : WebFault) → command_in (question before e.wire) ≡ Err why → After (Err why) (is_made e.reply)
  unread why is =
      subst (λ (d : D). Keeps view country FailedNow books d) (sym (handled.unasked why is)) (record {
        live = keeps.live;
        settled = keeps.settled;
        recovers = keeps.recovers;
        left = λ x may. weaker x (keeps.left x may);
      })

  failed : (command : Command) → command_in (question before e.wire) ≡ Ok command → is_made e.reply ≡ false
      → (view.is_live (desk new) → view.content (desk new) ≡ view.content (desk old)) → After (Ok command) false
  failed command is fixed same =
      let s : Stamped = record { at = e.at; command = command } in
      let after : LeavesAfter view (desk old) s true (desk new) = rw fixed at (handled.crash command is clean) in
      record {
        live = λ now. subst (λ (c : Content). IsTied c books × IsSound c × (c.country ≡ country)) (sym (same now)) (keeps.live (handled.live clean now));
        settled = handled.settled clean keeps.settled;
        recovers = after.recovers keeps.recovers;
        left = λ x may. elim (after.outcomes x may) [
          | inl was ↦ weaker x (keeps.left x was)
          | inr added ↦ (
              let shows = keeps.live added.0 in
              let carries = added.1 shows.1 in
              record {
                country_is = carried_country country books s (view.content (desk old)) x shows.0 shows.1 shows.2 carries;
                sound = carried_sound country books s (view.content (desk old)) x shows.0 shows.1 shows.2 carries;
                tied = inr (
                  s,
                  inr (record { asked = is; at = refl; fixed = fixed }),
                  carried_tied country books s (view.content (desk old)) x shows.0 shows.1 shows.2 carries,
                );
              })
        ];
      }

  answered : (command : Command) → view.is_live (desk old) → view.is_live (desk new)
      → (IsSound (view.content (desk old)) → Carries (view.content (desk old)) (record { at = e.at; command = command }) (view.content (desk new)))
      → After (Ok command) true
  answered command was now carries =
      let s : Stamped = record { at = e.at; command = command } in
      let shows = keeps.live was in
      let c = view.content (desk old) in
      let x = view.content (desk new) in
      let is = carries shows.1 in
      let then_books : ℕ → Book = (λ H. machine_book H (books H) (commands_of (heard_by country H (Ok command) e.at (question before e.wire).close true))) in
      let tied = tied_as x (books_with country books s) then_books
      (λ H. ap (machine_book H (books H)) (heard_one country H command e.at (question before e.wire).close))
      (carried_tied country books s c x shows.0 shows.1 shows.2 is) in
      let sound = carried_sound country books s c x shows.0 shows.1 shows.2 is in
      let at_country = carried_country country books s c x shows.0 shows.1 shows.2 is in
      let settled = handled.settled clean keeps.settled in
      let alone = settled now in
      record {
        live = λ live. (tied, sound, at_country);
        settled = settled;
        recovers = alone.recovers;
        left = λ y may. subst (λ (z : Content). IsKeptIn country FailedNow then_books z) (sym (alone.only y may))
            (record { country_is = at_country; sound = sound; tied = inl tied });
      }

  by_outcome : (command : Command) → command_in (question before e.wire) ≡ Ok command → (o : Outcome)
      → IsStep (view.is_live (desk old)) (view.is_live (desk new)) (view.content (desk old)) (record { at = e.at; command = command }) o (view.content (desk new))
      → IsReplyTo o (question before e.wire).close e.reply → After (Ok command) (is_made e.reply)
  by_outcome command is (outcome.Said words) step reply =
      rw reply.0 (answered command step.0 step.1 (λ sound. (step.2 sound).1))
  by_outcome command is (outcome.Failed f) step reply =
      let fixed = fixed_reply f (question before e.wire).close e.reply reply in
      rw fixed (failed command is fixed step)

  by_reading : (r : Result Command WebFault) → command_in (question before e.wire) ≡ r → After r (is_made e.reply)
  by_reading (Ok command) is =
      let does = rw is at (handled.handled clean) in
      by_outcome command is does.0 does.1 does.2
  by_reading (Err why) is = unread why is

  pub keeps_one : After (command_in (question before e.wire)) (is_made e.reply)
  keeps_one = by_reading (command_in (question before e.wire)) refl

-- the same by other words
pub keeps_as : {D : Type 0} (view : DeskView D) (country : List ℕ) (Failed Others : Stamped → Type 0) (books others : ℕ → Book) (d : D)
    → ((H : ℕ) → books H ≡ others H) → ((s : Stamped) → Failed s → Others s) → Keeps view country Failed books d → Keeps view country Others others d
keeps_as view country Failed Others books others d same more keeps = record {
  live = λ live. let is = keeps.live live in (tied_as (view.content d) books others same is.0, is.1, is.2);
  settled = keeps.settled;
  recovers = keeps.recovers;
  left = λ x may. left_as x (keeps.left x may);
}
  where
    left_as : (x : Content) → IsKeptIn country Failed books x → IsKeptIn country Others others x
    left_as x left = record {
      country_is = left.country_is;
      sound = left.sound;
      tied = elim left.tied [
        | inl is ↦ inl (tied_as x books others same is)
        | inr one ↦ inr (
          one.0,
          more one.0 one.1,
          tied_as x (books_with country books one.0) (books_with country others one.0)
              (λ H. ap (λ b. machine_book H b (if is_holder H (owner_of country one.0.command) then one.0 ∷ [] else [])) (same H)) one.2,
        )
      ];
    }

-- a chain of exchanges
pub keeps_chain : {C S D : Type 0} (ticks : C → ℤ → C → Type 0) (desk : S → D) (view : DeskView D) (country : List ℕ) (es : List Exchange) (before : ℕ)
    (Failed : Stamped → Type 0) (books : ℕ → Book) (old new : C × S) → Keeps view country Failed books (desk old.1)
    → Chain ticks (IsHandled desk view) before old es new → view.is_clean (desk new.1)
    → Keeps view country (λ s. Failed s ⊎ HasFailedIn before es s) (books_after country books before es) (desk new.1)
keeps_chain {C} {S} ticks desk view country [] before Failed books old new keeps chain clean =
    keeps_as view country Failed (λ s. Failed s ⊎ HasFailedIn before [] s) books books (desk new.1) (λ H. refl) (λ s is. inl is)
    (subst (λ (p : C × S). Keeps view country Failed books (desk p.1)) (sym chain) keeps)
keeps_chain ticks desk view country (e ∷ es) before Failed books old new keeps chain clean =
    let clean_then = chain_clean ticks desk view es (before + 1) (chain.0, chain.1) new chain.4 clean in
    let one = keeps_one desk view country Failed books before e old.1 chain.1 keeps chain.3 clean_then in
    let then_books : ℕ → Book = (λ H. machine_book H (books H) (commands_of (heard_by country H (command_in (question before e.wire)) e.at (question before e.wire).close (is_made e.reply)))) in
    keeps_as view country (λ s. (Failed s ⊎ HasFailed before e s) ⊎ HasFailedIn (before + 1) es s) (λ s. Failed s ⊎ HasFailedIn before (e ∷ es) s)
    (books_after country then_books (before + 1) es) (books_after country books before (e ∷ es)) (desk new.1)
    (λ H. sym (machine_book-++ H (books H) (commands_of (heard_by country H (command_in (question before e.wire)) e.at (question before e.wire).close (is_made e.reply))) (commands_of (heard_in country H (before + 1) es)))
    ∙ ap (machine_book H (books H)) (sym (map-append (λ r. r.0) (heard_by country H (command_in (question before e.wire)) e.at (question before e.wire).close (is_made e.reply)) (heard_in country H (before + 1) es))))
    (λ s is. elim is [ inl (inl was) ↦ inl was | inl (inr now) ↦ inr (inl now) | inr later ↦ inr (inr later) ])
    (keeps_chain ticks desk view country es (before + 1) (λ s. Failed s ⊎ HasFailed before e s) then_books (chain.0, chain.1) new one chain.4 clean)

-- a chain is one of its first exchanges and one of the others
pub chain_split : {C S : Type 0} (ticks : C → ℤ → C → Type 0) (handles : S → ℤ → Asked → Reply → S → Type 0) (first others : List Exchange) (before at : ℕ)
    (old new : C × S) → at ≡ before + length first → Chain ticks handles before old (first ++ others) new
    → (mid : C × S) × Chain ticks handles before old first mid × Chain ticks handles at mid others new
chain_split ticks handles [] others before at old new is chain = (old, refl, subst (λ n. Chain ticks handles n old others new) (omega (arith, is)) chain)
chain_split ticks handles (e ∷ first) others before at old new is chain =
    let rest = chain_split ticks handles first others (before + 1) at (chain.0, chain.1) new (omega (arith, is)) chain.4 in
    (rest.0, (chain.0, chain.1, chain.2, chain.3, rest.1), rest.2)

-- a desk that no fault has shut, with sound content that is tied to the books, and of which a crash leaves that alone
pub keeps_first : {D : Type 0} (view : DeskView D) (country : List ℕ) (books : ℕ → Book) (d : D) → view.is_live d → (view.content d).country ≡ country
    → IsSound (view.content d) → IsTied (view.content d) books → IsSettled view d → Keeps view country (λ s. ⊥) books d
keeps_first view country books d live country_is sound tied settled =
    let alone = settled live in
    record {
      live = λ _. (tied, sound, country_is);
      settled = settled;
      recovers = alone.recovers;
      left = λ x may. subst (λ (z : Content). IsKeptIn country (λ s. ⊥) books z) (sym (alone.only x may))
          (record { country_is = country_is; sound = sound; tied = inl tied });
    }

-- between any exchanges of a chain that leaves the desk clean
pub kept_between : {C D : Type 0} (ticks : C → ℤ → C → Type 0) (view : DeskView D) (country : List ℕ) (books : ℕ → Book)
    (es first others : List Exchange) (old new : C × Service D) → Keeps view country (λ s. ⊥) books (desk_of old.1) → Chain ticks (IsHandledBy view) 0 old es new
    → view.is_clean (desk_of new.1) → es ≡ first ++ others → IsKeptBetween ticks view country books first others old new
kept_between ticks view country books es first others old new start chain clean are =
    let split = chain_split ticks (IsHandledBy view) first others 0 (length first) old new (omega arith)
    (subst (λ (list : List Exchange). Chain ticks (IsHandledBy view) 0 old list new) are chain) in
    let clean_then = chain_clean ticks desk_of view others (length first) split.0 new split.2 clean in
    let keeps = keeps_chain ticks desk_of view country first 0 (λ s. ⊥) books old split.0 start split.1 clean_then in
    record {
      between = split.0;
      led = split.1;
      leads = split.2;
      sound = λ live. (keeps.live live).1;
      recovers = keeps.recovers;
      kept = λ x may.
          let left = keeps.left x may in
          record {
            country_is = left.country_is;
            sound = left.sound;
            tied = elim left.tied [
              | inl is ↦ inl is
              | inr one ↦ inr (one.0, elim one.1 [ inl none ↦ absurd none | inr is ↦ is ], one.2)
            ];
          };
    }
