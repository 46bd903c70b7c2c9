-- What a crash leaves of a desk is kept from connection to connection.
use Rattle.std.proofs.Common.{◌≡◌, ◌⊎◌, ℕ, ℤ, ◌<◌, List, [], ◌∷◌, ◌++◌, map, length, Result, Ok, Err, refl, sym, ◌∙◌, ap, subst, inl, inr, arith}
use Rattle.std.proofs.lemmas.List.{map-append, append-nil}
use Rattle.std.specs.Prelude.{MatchResult}
use Rattle.std.specs.List.{FoldsTo}
use Rattle.std.specs.declared.io.Error.{Error}
use Rattle.td_commands.specs.declared.command.Stamped.{Stamped}
use Rattle.td_model.specs.Book.{Book}
use Rattle.td_model.specs.Machine.{machine_book}
use Rattle.td_desk.specs.View.{DeskView}
use Rattle.http_wire.specs.Stream.{Chain, Exchange}
use Rattle.td_http.specs.Connections.{Between, Connection, IsRefused, IsServedConnection, KnownConnections, desk_server}
use Rattle.td_http.specs.Kept.{HasFailedIn, books_after}
use Rattle.td_http.specs.KeptOver.{Cut, HasFailedOver, IsKeptWithin}
use Rattle.td_http.specs.Private.{heard_over, books_over}
use Rattle.td_http.specs.Serving.{commands_of, desk_of, heard_in, IsHandledBy}
use Rattle.td_http.specs.declared.service.Service.{Service}
use Rattle.td_http.proofs.Kept.{Keeps, keeps_as, keeps_chain, chain_split}
use Rattle.td_http.proofs.Served.{chain_clean, machine_book-++}
use Rattle.td_http.proofs.Streamed.{ending_stays}

-- the books after one stream and those after it
books_cons : (country : List ℕ) (books : ℕ → Book) (es : List Exchange) (streams : List (List Exchange)) (H : ℕ)
    → books_over country (books_after country books 0 es) streams H ≡ books_over country books (es ∷ streams) H
books_cons country books es streams H =
    sym (machine_book-++ H (books H) (commands_of (heard_in country H 0 es)) (commands_of (heard_over country H streams)))
    ∙ ap (machine_book H (books H)) (sym (map-append (λ r. r.0) (heard_in country H 0 es) (heard_over country H streams)))

-- and after streams and one more
books_push : (country : List ℕ) (books : ℕ → Book) (streams : List (List Exchange)) (es : List Exchange) (H : ℕ)
    → books_after country (books_over country books streams) 0 es H ≡ books_over country books (streams ++ es ∷ []) H
books_push country books [] es H = ap (λ list. machine_book H (books H) (commands_of list)) (sym (append-nil (heard_in country H 0 es)))
books_push country books (one ∷ streams) es H =
    ap (λ b. machine_book H b (commands_of (heard_in country H 0 es))) (sym (books_cons country books one streams H))
    ∙ books_push country (books_after country books 0 one) streams es H
    ∙ books_cons country books one (streams ++ es ∷ []) H

-- a command that failed in one of the streams, or in the one after them
failed_push : (streams : List (List Exchange)) (es : List Exchange) (s : Stamped)
    → HasFailedOver streams s ⊎ HasFailedIn 0 es s → HasFailedOver (streams ++ es ∷ []) s
failed_push [] es s failed = elim failed [ inl none ↦ absurd none | inr is ↦ inl is ]
failed_push (one ∷ streams) es s failed = elim failed [
  | inl (inl now) ↦ inl now
  | inl (inr later) ↦ inr (failed_push streams es s (inl later))
  | inr is ↦ inr (failed_push streams es s (inr is))
]

module _ {R W C D L : Type 0} (known : KnownConnections L R W) (ticks : C → ℤ → C → Type 0) (view : DeskView D) (country : List ℕ) where
  abbrev Served : Between L C (Service D) → Connection R W → Between L C (Service D) → Type 0
  Served = IsServedConnection known (desk_server ticks view)

  -- a connection that leaves the desk clean found it clean
  served_clean : (old new : Between L C (Service D)) (connection : Connection R W) → Served old connection new
      → view.is_clean (desk_of new.handler) → view.is_clean (desk_of old.handler)
  served_clean old new connection is =
      let run = is.served.run in
      λ clean. chain_clean ticks desk_of view run.exchanges 0 (old.clock, old.handler) (new.clock, run.handler) is.served.chain
      (subst view.is_clean (ending_stays run.handler new.handler run.rest run.ending is.served.ending) clean)

  -- and so did several
  all_clean : (list : List (Connection R W)) (old new : Between L C (Service D)) → FoldsTo Served old list new
      → view.is_clean (desk_of new.handler) → view.is_clean (desk_of old.handler)
  all_clean [] old new are clean = subst (λ (b : Between L C (Service D)). view.is_clean (desk_of b.handler)) (sym are) clean
  all_clean (connection ∷ list) old new are clean =
      served_clean old are.0 connection are.1 (all_clean list are.0 new are.2 clean)

  -- one connection
  keeps_served : (Failed : Stamped → Type 0) (books : ℕ → Book) (old new : Between L C (Service D)) (connection : Connection R W)
      → Keeps view country Failed books (desk_of old.handler) → Served old connection new → view.is_clean (desk_of new.handler)
      → Keeps view country (λ s. Failed s ⊎ HasFailedIn 0 connection.exchanges s) (books_after country books 0 connection.exchanges) (desk_of new.handler)
  keeps_served Failed books old new connection keeps is clean =
      let run = is.served.run in
      let stays = ending_stays run.handler new.handler run.rest run.ending is.served.ending in
      subst (λ (es : List Exchange). Keeps view country (λ s. Failed s ⊎ HasFailedIn 0 es s) (books_after country books 0 es) (desk_of new.handler))
      (sym is.exchanges)
      (subst (λ (d : D). Keeps view country (λ s. Failed s ⊎ HasFailedIn 0 run.exchanges s) (books_after country books 0 run.exchanges) d)
      (sym stays)
      (keeps_chain ticks desk_of view country run.exchanges 0 Failed books (old.clock, old.handler) (new.clock, run.handler)
      keeps is.served.chain (subst view.is_clean stays clean)))

  -- several
  keeps_all : (list : List (Connection R W)) (Failed : Stamped → Type 0) (books : ℕ → Book) (old new : Between L C (Service D))
      → Keeps view country Failed books (desk_of old.handler) → FoldsTo Served old list new → view.is_clean (desk_of new.handler)
      → Keeps view country (λ s. Failed s ⊎ HasFailedOver (map (λ c. c.exchanges) list) s) (books_over country books (map (λ c. c.exchanges) list))
      (desk_of new.handler)
  keeps_all [] Failed books old new keeps are clean =
      keeps_as view country Failed (λ s. Failed s ⊎ HasFailedOver [] s) books (books_over country books []) (desk_of new.handler)
      (λ H. refl) (λ s is. inl is)
      (subst (λ (b : Between L C (Service D)). Keeps view country Failed books (desk_of b.handler)) are keeps)
  keeps_all (connection ∷ list) Failed books old new keeps are clean =
      let mid = are.0 in
      let mid_clean = all_clean list mid new are.2 clean in
      let es = connection.exchanges in
      let streams = map (λ c. c.exchanges) list in
      keeps_as view country (λ s. (Failed s ⊎ HasFailedIn 0 es s) ⊎ HasFailedOver streams s) (λ s. Failed s ⊎ HasFailedOver (es ∷ streams) s)
      (books_over country (books_after country books 0 es) streams) (books_over country books (es ∷ streams)) (desk_of new.handler)
      (books_cons country books es streams)
      (λ s is. elim is [ inl (inl was) ↦ inl was | inl (inr now) ↦ inr (inl now) | inr later ↦ inr (inr later) ])
      (keeps_all list (λ s. Failed s ⊎ HasFailedIn 0 es s) (books_after country books 0 es) mid new
      (keeps_served Failed books old mid connection keeps are.1 mid_clean) are.2 clean)

  -- connections are the first of them and then the others
  folds_split : (before after : List (Connection R W)) (old new : Between L C (Service D)) → FoldsTo Served old (before ++ after) new
      → (mid : Between L C (Service D)) × FoldsTo Served old before mid × FoldsTo Served mid after new
  folds_split [] after old new are = (old, refl, are)
  folds_split (connection ∷ before) after old new are =
      let rest = folds_split before after are.0 new are.2 in
      (rest.0, (are.0, are.1, rest.1), rest.2)

  -- between any exchanges of any of them
  pub kept_within : (books : ℕ → Book) (list : List (Connection R W)) (cut : Cut R W) (old new : Between L C (Service D)) → Keeps view country (λ s. ⊥) books (desk_of old.handler)
      → FoldsTo Served old list new → view.is_clean (desk_of new.handler) → list ≡ cut.before ++ cut.connection ∷ cut.after → cut.connection.exchanges ≡ cut.first ++ cut.others
      → IsKeptWithin known ticks view country books cut old new
  kept_within books list cut old new start are clean list_is exchanges_are =
      let split = folds_split cut.before (cut.connection ∷ cut.after) old new (subst (λ (l : List (Connection R W)). FoldsTo Served old l new) list_is are) in
      let begins = split.0 in
      let ends = split.2.0 in
      let is = split.2.1 in
      let run = is.served.run in
      let ends_clean = all_clean cut.after ends new split.2.2 clean in
      let run_clean = subst view.is_clean (ending_stays run.handler ends.handler run.rest run.ending is.served.ending) ends_clean in
      let begins_clean = served_clean begins ends cut.connection is ends_clean in
      let parts = chain_split ticks (IsHandledBy view) cut.first cut.others 0 (length cut.first) (begins.clock, begins.handler) (ends.clock, run.handler) (omega arith)
      (subst (λ (es : List Exchange). Chain ticks (IsHandledBy view) 0 (begins.clock, begins.handler) es (ends.clock, run.handler))
      (sym is.exchanges ∙ exchanges_are) is.served.chain) in
      let parts_clean = chain_clean ticks desk_of view cut.others (length cut.first) parts.0 (ends.clock, run.handler) parts.2 run_clean in
      let streams = map (λ c. c.exchanges) cut.before in
      let keeps = keeps_as view country (λ s. (⊥ ⊎ HasFailedOver streams s) ⊎ HasFailedIn 0 cut.first s) (HasFailedOver (streams ++ cut.first ∷ []))
      (books_after country (books_over country books streams) 0 cut.first) (books_over country books (streams ++ cut.first ∷ [])) (desk_of parts.0.1)
      (books_push country books streams cut.first)
      (λ s failed. failed_push streams cut.first s (elim failed [ inl (inl none) ↦ absurd none | inl (inr was) ↦ inl was | inr now ↦ inr now ]))
      (keeps_chain ticks desk_of view country cut.first 0 (λ s. ⊥ ⊎ HasFailedOver streams s) (books_over country books streams)
      (begins.clock, begins.handler) parts.0 (keeps_all cut.before (λ s. ⊥) books old begins start split.1 begins_clean) parts.1 parts_clean) in
      record {
        begins = begins;
        ends = ends;
        were_served = split.1;
        is_served = is;
        are_served = split.2.2;
        between = parts.0;
        led = parts.1;
        leads = parts.2;
        sound = λ live. (keeps.live live).1;
        recovers = keeps.recovers;
        kept = keeps.left;
      }

-- the desk after the last connection that was served is the one that the call leaves
pub last_is : {L C H : Type 0} (refuses : L → Error → L → Type 0) (last new : Between L C H) (served count : ℕ) (answer : Result Unit Error)
    → MatchResult answer (λ _. (served ≡ count) × (new ≡ last)) (λ why. (served < count) × IsRefused refuses last why new)
    → new.handler ≡ last.handler
last_is refuses last new served count (Ok done) is = ap (λ b. b.handler) is.1
last_is refuses last new served count (Err why) is = is.1.handler
