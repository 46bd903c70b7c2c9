-- What two lists of connections, one after another, tell one holder.
use Rattle.std.proofs.Common.{◌≡◌, ℕ, List, [], ◌∷◌, map, refl, subst}
use Rattle.td_model.specs.Book.{Book}
use Rattle.td_model.specs.Content.{Content}
use Rattle.td_desk.specs.View.{DeskView}
use Rattle.http_wire.specs.ReplyText.{bytes_of, is_made}
use Rattle.http_wire.specs.Stream.{Exchange}
use Rattle.td_http.specs.declared.service.Service.{Service}
use Rattle.td_http.specs.Laws.{fault_told, IsDeskOf}
use Rattle.td_http.specs.Serving.{desk_of}
use Rattle.td_http.proofs.Alike.{still, filled, heard_then, bytes_then, IsToldOf, told_as, told_if, replies_if}
use Rattle.td_http.specs.ConnectionLaws.{asked_over, replies_over, TellAlikeOver}
use Rattle.td_http.specs.Private.{heard_over, told_over, IsServedOver, IsPrivateOver}

-- what did not fail of what was asked
heard_are : (country : List ℕ) (H : ℕ) (streams : List (List Exchange))
    → heard_over country H streams
    ≡ still (asked_over country H streams) (map is_made (replies_over country H streams))
heard_are country H [] = refl
heard_are country H (es ∷ streams) =
    heard_then country H 0 es (asked_over country H streams) (heard_over country H streams)
    (replies_over country H streams) (heard_are country H streams)

-- the bytes of all replies
bytes_are : (country : List ℕ) (H : ℕ) (streams : List (List Exchange))
    → map bytes_of (replies_over country H streams)
    ≡ filled (map fault_told (replies_over country H streams)) (told_over country H streams)
bytes_are country H [] = refl
bytes_are country H (es ∷ streams) =
    bytes_then country H 0 es (told_over country H streams) (replies_over country H streams)
    (bytes_are country H streams)

-- what was told over all streams
told_of : (country : List ℕ) (H : ℕ) (books : ℕ → Book) (streams : List (List Exchange)) (new : Content)
    → IsServedOver country books streams new
    → IsToldOf H (books H) (asked_over country H streams) (heard_over country H streams)
    (replies_over country H streams) (told_over country H streams)
told_of country H books streams new served = record {
  answers = served.answers H;
  still_heard = heard_are country H streams;
  all_bytes = bytes_are country H streams;
}

-- two lists of streams from books that are equal for H
pub tell_alike_over : (country : List ℕ) (H : ℕ) (books others : ℕ → Book)
    (streams other_streams : List (List Exchange)) (new other_new : Content)
    → IsServedOver country books streams new → IsServedOver country others other_streams other_new
    → books H ≡ others H → TellAlikeOver country H streams other_streams
tell_alike_over country H books others streams other_streams new other_new one other same =
    let first = told_of country H books streams new one in
    let second = told_of country H others other_streams other_new other in
    record {
      replies = replies_if same first second;
      told = told_if same first second;
      heard = told_as same first second;
    }

-- what connections at a desk of a country tell
pub served_over_at : {D : Type 0} (view : DeskView D) (country : List ℕ)
    (books : ℕ → Book) (old new : Service D) (streams : List (List Exchange))
    → IsDeskOf view country books old → view.is_clean (desk_of new)
    → IsPrivateOver view old new streams
    → (c : Content) × IsServedOver country books streams c
served_over_at view country books old new streams desk clean private =
    let served = private clean desk.live desk.sound books desk.tied in
    (served.0, subst (λ (c : List ℕ). IsServedOver c books streams served.0) desk.country_is served.1)
