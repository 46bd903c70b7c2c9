-- What connections one after another tell each holder.
use Rattle.std.specs.Prelude.{◌≡◌, ℕ, All, List}
use Rattle.std.specs.List.{flat_map}
use Rattle.td_model.specs.Book.{Book}
use Rattle.td_model.specs.Machine.{machine_book}
use Rattle.td_model.specs.Content.{Content, IsSound}
use Rattle.td_desk.specs.Runs.{IsTied}
use Rattle.td_desk.specs.View.{DeskView}
use Rattle.http_wire.specs.Stream.{Exchange}
use Rattle.td_http.specs.declared.service.Service.{Service}
use Rattle.td_http.specs.Serving.{desk_of, HolderRequest, FaultsAreTold, NobodysAreTold, commands_of, heard_in, machine_replies, told_in}

-- H's requests over all streams, in their order: those that can be read and whose reply isn't a fixed one of
-- a fault
abbrev pub heard_over : List ℕ → ℕ → List (List Exchange) → List HolderRequest
heard_over country H streams = flat_map (heard_in country H 0) streams

-- the bytes of the replies to them
abbrev pub told_over : List ℕ → ℕ → List (List Exchange) → List (List ℕ)
told_over country H streams = flat_map (told_in country H 0) streams

-- the books that the machines end with
abbrev pub books_over : List ℕ → (ℕ → Book) → List (List Exchange) → ℕ → Book
books_over country books streams H = machine_book H (books H) (commands_of (heard_over country H streams))

-- To each holder at once, the bytes of the replies to the holder's requests, over all streams, are those of
-- the holder's own machine on these requests in their order; in the end the content is sound, and tied to the
-- books that the machines end with.
pub record IsServedOver (country : List ℕ) (books : ℕ → Book) (streams : List (List Exchange))
    (new : Content) : Type 0 where
  pub answers : (H : ℕ)
      → told_over country H streams ≡ machine_replies H (books H) (heard_over country H streams)
  pub faults : All (FaultsAreTold 0) streams
  pub nobodys : All (NobodysAreTold country 0) streams
  pub country_stays : new.country ≡ country
  pub sound : IsSound new
  pub tied : IsTied new (books_over country books streams)

-- Where the desk is clean in the end, the above holds from any books to which the desk's content was tied.
-- Where a fault shut the desk on the way, in whichever connection, c is the content up to that.
abbrev pub IsPrivateOver : {D : Type 0} → DeskView D → Service D → Service D → List (List Exchange) → Type 0
IsPrivateOver view old new streams =
    view.is_clean (desk_of new) → view.is_live (desk_of old) → IsSound (view.content (desk_of old))
    → (books : ℕ → Book) → IsTied (view.content (desk_of old)) books
    → (c : Content) × IsServedOver (view.content (desk_of old)).country books streams c
    × (view.is_live (desk_of new) → view.content (desk_of new) ≡ c)
