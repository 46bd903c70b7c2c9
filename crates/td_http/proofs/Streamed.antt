-- What a stream at a desk tells each holder.
use Rattle.std.proofs.Common.{◌≡◌, ℕ, ℤ, List, ◌∙◌, ap, subst, refl}
use Rattle.td_model.specs.Book.{Book}
use Rattle.td_model.specs.Content.{Content, IsSound}
use Rattle.td_desk.specs.View.{DeskView}
use Rattle.td_desk.specs.Runs.{IsTied}
use Rattle.td_http.specs.declared.service.Service.{Service}
use Rattle.td_http.specs.Serving.{desk_of, IsHandledBy, IsHeadHandledBy, IsPrivate, IsServed}
use Rattle.http_wire.specs.Stream.{Exchange, Chain, Ending, silence, refusal, to_head, no_memory, IsEnding}
use Rattle.td_http.proofs.Served.{chain_clean, chain_served}

-- what parts with the rest leaves the desk as it is
pub ending_stays : {D : Type 0} (old new : Service D) (rest : List ℕ) (ending : Ending) → IsEnding IsHeadHandledBy old new rest ending → desk_of new ≡ desk_of old
ending_stays old new rest silence is = ap desk_of is
ending_stays old new rest (refusal e) is = ap desk_of is.0
ending_stays old new rest (to_head target reply) is = is.0.stays
ending_stays old new rest no_memory is = ap desk_of is.0

-- a stream's chain of requests, and what parted with the rest
module _ {C D : Type 0} (ticks : C → ℤ → C → Type 0) (view : DeskView D)
    (old_clock new_clock : C) (old mid new : Service D) (es : List Exchange) (rest : List ℕ) (ending : Ending)
    (chain : Chain ticks (IsHandledBy view) 0 (old_clock, old) es (new_clock, mid)) (parted : IsEnding IsHeadHandledBy mid new rest ending) where
  stays : desk_of new ≡ desk_of mid
  stays = ending_stays mid new rest ending parted

  -- a stream that ends clean was clean from the beginning
  pub stream_clean : view.is_clean (desk_of new) → view.is_clean (desk_of old)
  stream_clean clean = chain_clean ticks desk_of view es 0 (old_clock, old) (new_clock, mid) chain (subst view.is_clean stays clean)

  -- The stream from any rows that are tied to books. Before it a fault may have shut the desk: then rows is the content up to that.
  pub stream_served : view.is_clean (desk_of new) → (country : List ℕ) (books : ℕ → Book) (rows : Content) → rows.country ≡ country → IsSound rows → IsTied rows books
      → (view.is_live (desk_of old) → view.content (desk_of old) ≡ rows)
      → (c : Content) × IsServed country books 0 es c × (view.is_live (desk_of new) → view.content (desk_of new) ≡ c)
  stream_served clean country books rows same_country sound tied same =
      let served = chain_served ticks desk_of view country es 0 books (old_clock, old) (new_clock, mid) rows
      chain (subst view.is_clean stays clean) same_country sound tied same in
      (served.0, served.1, λ live_new. ap view.content stays ∙ served.2 (subst view.is_live stays live_new))

  -- the stream from the content of the desk
  pub stream_private : IsPrivate view old new es
  stream_private = λ clean live sound books tied.
      stream_served clean (view.content (desk_of old)).country books (view.content (desk_of old)) refl sound tied (λ _. refl)
