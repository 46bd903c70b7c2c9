-- What connections one after another tell each holder.
use Rattle.std.proofs.Common.{◌≡◌, ℕ, ℤ, List, [], ◌∷◌, ◌++◌, map, refl, sym, ◌∙◌, ap, subst}
use Rattle.std.proofs.lemmas.Grind.{flat_map-append}
use Rattle.std.proofs.lemmas.List.{map-append}
use Rattle.std.proofs.lemmas.List.Elements.{All-append, All-cons, All-nil}
use Rattle.td_model.specs.Book.{Book, account_of}
use Rattle.td_model.specs.Machine.{book_after, machine_book, IsGrown}
use Rattle.td_model.specs.Content.{Content, IsSound}
use Rattle.td_desk.specs.View.{DeskView}
use Rattle.td_desk.specs.Runs.{IsTied}
use Rattle.http_wire.specs.Stream.{Exchange}
use Rattle.td_http.specs.declared.service.Service.{Service}
use Rattle.td_http.specs.Serving.{desk_of, HolderRequest, FaultsAreTold, NobodysAreTold, commands_of, heard_in, told_in, machine_replies, IsServed}
use Rattle.td_http.proofs.Served.{machine_book-++}
use Rattle.td_http.proofs.Streamed.{stream_clean, stream_served}
use Rattle.td_http.specs.Connections.{Between, Connection, IsServedConnection, KnownConnections, ServedConnections, desk_server}
use Rattle.td_http.specs.Kept.{books_after}
use Rattle.td_http.specs.Private.{heard_over, books_over, IsServedOver, IsPrivateOver}

-- a machine's replies to one list and then another
machine_replies-++ : (H : ℕ) (book : Book) (xs ys : List HolderRequest)
    → machine_replies H book (xs ++ ys)
    ≡ machine_replies H book xs ++ machine_replies H (machine_book H book (commands_of xs)) ys
machine_replies-++ H book [] ys = refl
machine_replies-++ H book (x ∷ xs) ys = rw (machine_replies-++ H (book_after H book x.0) xs ys) refl

-- one stream, and those that begin with the books that it left
module _ (country : List ℕ) (books : ℕ → Book) (es : List Exchange) (streams : List (List Exchange)) where
  books_are : (H : ℕ)
      → machine_book H (books_after country books 0 es H) (commands_of (heard_over country H streams))
      ≡ machine_book H (books H) (commands_of (heard_over country H (es ∷ streams)))
  books_are H =
      let heard = heard_in country H 0 es in
      let later = heard_over country H streams in
      sym (ap (machine_book H (books H)) (map-append (λ (r : HolderRequest). r.0) heard later)
      ∙ machine_book-++ H (books H) (commands_of heard) (commands_of later))

  pub served_over : (mid new : Content) → IsServed country books 0 es mid
      → IsServedOver country (books_after country books 0 es) streams new
      → IsServedOver country books (es ∷ streams) new
  served_over mid new first later = record {
    answers = λ H. rw (first.answers H, later.answers H)
        (sym (machine_replies-++ H (books H) (heard_in country H 0 es) (heard_over country H streams)));
    faults = All-cons (FaultsAreTold 0) es streams first.faults later.faults;
    nobodys = All-cons (NobodysAreTold country 0) es streams first.nobodys later.nobodys;
    country_stays = later.country_stays;
    sound = later.sound;
    tied = record {
      each = λ H. later.tied.each H ∙ ap (account_of H) (books_are H);
      grown = λ H. subst (λ (b : Book). IsGrown H b) (books_are H) (later.tied.grown H);
    };
  }

-- streams, and others that begin with the books that they left
module _ (country : List ℕ) (books : ℕ → Book) (streams others : List (List Exchange)) where
  all_books_are : (H : ℕ)
      → machine_book H (books_over country books streams H) (commands_of (heard_over country H others))
      ≡ machine_book H (books H) (commands_of (heard_over country H (streams ++ others)))
  all_books_are H =
      let heard = heard_over country H streams in
      let later = heard_over country H others in
      sym (ap (λ list. machine_book H (books H) (commands_of list)) (flat_map-append (heard_in country H 0) streams others)
      ∙ ap (machine_book H (books H)) (map-append (λ (r : HolderRequest). r.0) heard later)
      ∙ machine_book-++ H (books H) (commands_of heard) (commands_of later))

  pub served_both : (mid new : Content) → IsServedOver country books streams mid
      → IsServedOver country (books_over country books streams) others new
      → IsServedOver country books (streams ++ others) new
  served_both mid new first later = record {
    answers = λ H. flat_map-append (told_in country H 0) streams others
        ∙ rw (first.answers H, later.answers H)
        (sym (ap (machine_replies H (books H)) (flat_map-append (heard_in country H 0) streams others)
        ∙ machine_replies-++ H (books H) (heard_over country H streams) (heard_over country H others)));
    faults = All-append (FaultsAreTold 0) streams others first.faults later.faults;
    nobodys = All-append (NobodysAreTold country 0) streams others first.nobodys later.nobodys;
    country_stays = later.country_stays;
    sound = later.sound;
    tied = record {
      each = λ H. later.tied.each H ∙ ap (account_of H) (all_books_are H);
      grown = λ H. subst (λ (b : Book). IsGrown H b) (all_books_are H) (later.tied.grown H);
    };
  }

-- no stream
pub served_nothing : (country : List ℕ) (books : ℕ → Book) (rows : Content)
    → rows.country ≡ country → IsSound rows → IsTied rows books → IsServedOver country books [] rows
served_nothing country books rows same sound tied = record {
  answers = λ H. refl;
  faults = All-nil (FaultsAreTold 0);
  nobodys = All-nil (NobodysAreTold country 0);
  country_stays = same;
  sound = sound;
  tied = record { each = tied.each; grown = tied.grown };
}

module _ {R W C D L : Type 0} (known : KnownConnections L R W) (ticks : C → ℤ → C → Type 0) (view : DeskView D) where
  -- connections at a service of the desk
  abbrev Served : Between L C (Service D) → List (Connection R W) → Between L C (Service D) → Type 0
  Served = ServedConnections known (desk_server ticks view)

  -- one of them
  abbrev OneServed : Between L C (Service D) → Connection R W → Between L C (Service D) → Type 0
  OneServed = IsServedConnection known (desk_server ticks view)

  -- their requests with their replies
  abbrev streams_of : List (Connection R W) → List (List Exchange)
  streams_of all_served = map (λ (connection : Connection R W). connection.exchanges) all_served

  -- where no fault has shut the desk before, these are its rows
  abbrev Shows : Between L C (Service D) → Content → Type 0
  Shows b rows = view.is_live (desk_of b.handler) → view.content (desk_of b.handler) ≡ rows

  -- a connection that leaves a clean desk found it clean
  connection_clean : (old : Between L C (Service D)) (connection : Connection R W) (new : Between L C (Service D))
      → OneServed old connection new → view.is_clean (desk_of new.handler) → view.is_clean (desk_of old.handler)
  connection_clean old connection new is clean =
      let run = is.served.run in
      stream_clean ticks view old.clock new.clock old.handler run.handler
      new.handler run.exchanges run.rest run.ending is.served.chain is.served.ending clean

  -- one connection from any rows that are tied to books
  connection_served : (old : Between L C (Service D)) (connection : Connection R W) (new : Between L C (Service D))
      → OneServed old connection new → view.is_clean (desk_of new.handler)
      → (country : List ℕ) (books : ℕ → Book) (rows : Content)
      → rows.country ≡ country → IsSound rows → IsTied rows books → Shows old rows
      → (c : Content) × IsServed country books 0 connection.exchanges c × Shows new c
  connection_served old connection new is clean country books rows same_country sound tied same =
      let run = is.served.run in
      let served = stream_served ticks view old.clock new.clock old.handler
      run.handler new.handler run.exchanges run.rest run.ending is.served.chain is.served.ending clean
      country books rows same_country sound tied same in
      (served.0, rw is.exchanges served.1, served.2)

  -- connections that leave a clean desk found it clean
  pub connections_clean : (all_served : List (Connection R W)) (old new : Between L C (Service D))
      → Served old all_served new → view.is_clean (desk_of new.handler) → view.is_clean (desk_of old.handler)
  connections_clean [] old new were_served clean =
      subst (λ (b : Between L C (Service D)). view.is_clean (desk_of b.handler)) (sym were_served) clean
  connections_clean (connection ∷ all_served) old new were_served clean =
      connection_clean old connection were_served.0 were_served.1 (connections_clean all_served were_served.0 new were_served.2 clean)

  -- Connections from any rows that are tied to books. Before them a fault may have shut the desk: then rows
  -- is the content up to that.
  connections_served : (all_served : List (Connection R W)) (old new : Between L C (Service D))
      → Served old all_served new → view.is_clean (desk_of new.handler)
      → (country : List ℕ) (books : ℕ → Book) (rows : Content)
      → rows.country ≡ country → IsSound rows → IsTied rows books → Shows old rows
      → (c : Content) × IsServedOver country books (streams_of all_served) c × Shows new c
  connections_served [] old new were_served clean country books rows same_country sound tied same = (
    rows,
    served_nothing country books rows same_country sound tied,
    subst (λ (b : Between L C (Service D)). Shows b rows) were_served same,
  )
  connections_served (connection ∷ all_served) old new were_served clean country books rows same_country sound tied same =
      let mid = were_served.0 in
      let mid_clean = connections_clean all_served mid new were_served.2 clean in
      let first = connection_served old connection mid were_served.1 mid_clean country books rows same_country sound tied
      same in
      let later = connections_served all_served mid new were_served.2 clean country
      (books_after country books 0 connection.exchanges) first.0 first.1.country_stays first.1.sound first.1.tied
      first.2 in
      let streams = streams_of all_served in
      (later.0, served_over country books connection.exchanges streams first.0 later.0 first.1 later.1, later.2)

  -- connections from the content of the desk
  pub connections_private : (all_served : List (Connection R W)) (old new : Between L C (Service D))
      → Served old all_served new
      → IsPrivateOver view old.handler new.handler (streams_of all_served)
  connections_private all_served old new were_served = λ clean live sound books tied.
      let rows = view.content (desk_of old.handler) in
      connections_served all_served old new were_served clean rows.country books rows refl sound tied (λ _. refl)
