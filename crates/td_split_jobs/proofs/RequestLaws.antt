-- The requests of connections at the desks of their holders.
use Rattle.std.proofs.Common.{◌≡◌, inl, inr, ℕ, suc, ◌+◌, ◌<◌, ℤ, Bool, true, false, List, [], ◌∷◌, ◌++◌, length, Option, Some, None, Result, Ok, Err, refl, sym, ◌∙◌, ap, ap₂, subst, arith}
use Rattle.std.specs.Prelude.{◌==◌, if◌then◌else◌, map, filter, All}
use Rattle.std.specs.List.{AllByRecursion, flat_map}
use Rattle.std.proofs.lemmas.List.{append_assoc, length-map, length-append}
use Rattle.td_commands.specs.declared.command.Command.{Command}
use Rattle.td_commands.specs.Commands.{owner_of}
use Rattle.td_model.specs.Account.{empty_account}
use Rattle.td_model.specs.Book.{Book, account_of}
use Rattle.td_model.specs.Machine.{machine_book}
use Rattle.td_model.specs.Table.{said}
use Rattle.td_desk.specs.declared.fault.Fault.{Fault}
use Rattle.td_model.specs.Content.{Content, fresh, rows_of, IsSound}
use Rattle.td_desk.specs.Runs.{is_holder}
use Rattle.td_desk.specs.View.{DeskView}
use Rattle.td_fields.specs.declared.fault.WebFault.{WebFault}
use Rattle.td_answers.specs.Answers.{said_reply, fault_reply}
use Rattle.http_wire.specs.declared.reply.Reply.{Reply}
use Rattle.http_wire.specs.declared.reply.Reply.TheVariants.{Made, NoMemory, Store}
use Rattle.http_wire.specs.ReplyText.{bytes_of, is_made}
use Rattle.http_wire.specs.Stream.{Exchange, question}
use Rattle.td_http.specs.declared.service.Service.{Service}
use Rattle.td_http.specs.ConnectionLaws.{asked_over, replies_over, FailAlikeOver, FailTogetherOver, TellAlikeOver}
use Rattle.td_http.specs.Laws.{asked_by, asked_in, fault_told, replies_by, replies_in}
use Rattle.td_http.specs.Private.{heard_over, IsServedOver}
use Rattle.td_http.specs.Serving.{command_in, commands_of, desk_of, FaultsAreTold, HolderRequest, IsFaultReply, NobodysAreTold}
use Rattle.td_http.proofs.Alike.{heard_then, still}
use Rattle.td_http.proofs.ConnectionsAlike.{tell_alike_over}
use Rattle.td_split.specs.Laws.{UnionIsOneContent}
use Rattle.td_split_jobs.proofs.Batches.{shards_of}
use Rattle.td_split_jobs.specs.Gathered.{gathered}
use Rattle.td_split_jobs.specs.Requests.{Request, SentRequest, all_replies, asked_of, requests_for, requests_in, requests_over, IsRequestSentTo, IsServingAt, IsSplitServing}
use Rattle.td_split_jobs.specs.RequestLaws.{RepliesAreGathered, ServingsHoldAsOne, ServingsTellAsOne}
use Rattle.td_split_jobs.proofs.Places.{at_desk, gathered_holds, gathered_map, gathered_own, goes_home, heads, length_gathered, own, own_map, same_places, share_more, tails, Fits, Holds, NobodysAlike}
use Rattle.td_split_jobs.proofs.Contents.{fresh_tied, rows_by_account, same_fresh, union_is_content}

-- ---- lists

flat_parts : {A B : Type 0} (g : A → List B) (xs ys : List A) → flat_map g (xs ++ ys) ≡ flat_map g xs ++ flat_map g ys
flat_parts g [] ys = refl
flat_parts {A} {B} g (x ∷ xs) ys = ap (λ (l : List B). g x ++ l) (flat_parts g xs ys) ∙ sym (append_assoc (g x) (flat_map g xs) (flat_map g ys))

-- a desk and an owner of a request that is sent, and of a request alone
abbrev desk : SentRequest → ℕ
desk s = s.desk

abbrev owner : List ℕ → SentRequest → Option ℕ
owner country s = asked_of country s.request.asks

abbrev no_desk : Request → ℕ
no_desk r = 0

abbrev whose : List ℕ → Request → Option ℕ
whose country r = asked_of country r.asks

-- H's command, where the request asks one
abbrev asks_of : List ℕ → ℕ → Request → List HolderRequest
asks_of country H r = asked_by country H r.asks r.at r.close

-- as many replies as requests
number_in : (before : ℕ) (es : List Exchange) → length (map (λ e. e.reply) es) ≡ length (requests_in before es)
number_in before [] = refl
number_in before (e ∷ es) = ap suc (number_in (before + 1) es)

-- ---- what was asked

module _ (country : List ℕ) (H : ℕ) where
  asked_in_are : (before : ℕ) (es : List Exchange) → asked_in country H before es ≡ flat_map (asks_of country H) (requests_in before es)
  asked_in_are before [] = refl
  asked_in_are before (e ∷ es) =
      ap (λ (l : List HolderRequest). asked_by country H (command_in (question before e.wire)) e.at (question before e.wire).close ++ l) (asked_in_are (before + 1) es)

  asked_over_are : (streams : List (List Exchange)) → asked_over country H streams ≡ flat_map (asks_of country H) (requests_over streams)
  asked_over_are [] = refl
  asked_over_are (es ∷ streams) =
      ap₂ (λ (a b : List HolderRequest). a ++ b) (asked_in_are 0 es) (asked_over_are streams)
      ∙ sym (flat_parts (asks_of country H) (requests_in 0 es) (requests_over streams))

  -- another's request asks nothing of H's
  not_asked_by : (asks : Result Command WebFault) (at : ℤ) (close : Bool) → is_holder H (asked_of country asks) ≡ false → asked_by country H asks at close ≡ []
  not_asked_by (Ok command) at close other = rw other refl
  not_asked_by (Err why) at close other = refl

  not_asked : (r : Request) → is_holder H (whose country r) ≡ false → asks_of country H r ≡ []
  not_asked r other = not_asked_by r.asks r.at r.close other

  asked_more : (s : SentRequest) (all some : List SentRequest) (mine here : Bool) → is_holder H (owner country s) ≡ mine → (mine ≡ true → here ≡ true)
      → flat_map (asks_of country H) (map (λ x. x.request) all) ≡ flat_map (asks_of country H) (map (λ x. x.request) some)
      → flat_map (asks_of country H) (map (λ x. x.request) (s ∷ all)) ≡ flat_map (asks_of country H) (map (λ x. x.request) (if here then s ∷ some else some))
  asked_more s all some mine true is goes rest = ap (λ (l : List HolderRequest). asks_of country H s.request ++ l) rest
  asked_more s all some true false is goes rest = absurd (let wrong = goes refl in cc)
  asked_more s all some false false is goes rest = ap (λ (l : List HolderRequest). l ++ flat_map (asks_of country H) (map (λ x. x.request) all)) (not_asked s.request is) ∙ rest

  -- H's commands among all are those that are sent to H's desk
  asked_at_home : (f : ℕ → ℕ) (desks : ℕ) (sent : List SentRequest) → AllByRecursion (IsRequestSentTo country f desks) sent
      → flat_map (asks_of country H) (map (λ s. s.request) sent) ≡ flat_map (asks_of country H) (requests_for (f H) sent)
  asked_at_home f desks [] placed = refl
  asked_at_home f desks (s ∷ sent) placed =
      asked_more s sent (filter (λ x. x.desk == f H) sent) (is_holder H (owner country s)) (s.desk == f H) refl
      (goes_home desk (owner country) f H s.desk (owner country s) placed.0.1) (asked_at_home f desks sent placed.1)
      ∙ ap (λ (l : List SentRequest). flat_map (asks_of country H) (map (λ x. x.request) l)) (sym (share_more desk (owner country) (f H) s sent (s.desk == f H) refl))

  -- ---- the replies to H

  own_parts_by : (r : Request) (rs others : List Request) (x : Reply) (xs ys : List Reply) (b : Bool) → is_holder H (whose country r) ≡ b
      → own no_desk (whose country) H (rs ++ others) (xs ++ ys) ≡ own no_desk (whose country) H rs xs ++ own no_desk (whose country) H others ys
      → own no_desk (whose country) H ((r ∷ rs) ++ others) ((x ∷ xs) ++ ys) ≡ own no_desk (whose country) H (r ∷ rs) (x ∷ xs) ++ own no_desk (whose country) H others ys
  own_parts_by r rs others x xs ys true is rest = rw is (ap (λ (l : List Reply). x ∷ l) rest)
  own_parts_by r rs others x xs ys false is rest = rw is rest

  own_parts : (rs others : List Request) (xs ys : List Reply) → length xs ≡ length rs
      → own no_desk (whose country) H (rs ++ others) (xs ++ ys) ≡ own no_desk (whose country) H rs xs ++ own no_desk (whose country) H others ys
  own_parts [] others [] ys same = refl
  own_parts [] others (x ∷ xs) ys same = absurd (omega (arith, same))
  own_parts (r ∷ rs) others [] ys same = absurd (omega (arith, same))
  own_parts (r ∷ rs) others (x ∷ xs) ys same =
      own_parts_by r rs others x xs ys (is_holder H (whose country r)) refl (own_parts rs others xs ys (omega (arith, same)))

  one_reply_by : (reply : Reply) (rest : List Reply) (b : Bool) → (if b then reply ∷ [] else []) ++ rest ≡ (if b then reply ∷ rest else rest)
  one_reply_by reply rest true = refl
  one_reply_by reply rest false = refl

  one_reply : (asks : Result Command WebFault) (reply : Reply) (rest : List Reply)
      → replies_by country H asks reply ++ rest ≡ (if is_holder H (asked_of country asks) then reply ∷ rest else rest)
  one_reply (Ok command) reply rest = one_reply_by reply rest (is_holder H (owner_of country command))
  one_reply (Err why) reply rest = refl

  replies_in_are : (before : ℕ) (es : List Exchange) → replies_in country H before es ≡ own no_desk (whose country) H (requests_in before es) (map (λ e. e.reply) es)
  replies_in_are before [] = refl
  replies_in_are before (e ∷ es) =
      ap (λ (l : List Reply). replies_by country H (command_in (question before e.wire)) e.reply ++ l) (replies_in_are (before + 1) es)
      ∙ one_reply (command_in (question before e.wire)) e.reply (own no_desk (whose country) H (requests_in (before + 1) es) (map (λ x. x.reply) es))

  replies_over_are : (streams : List (List Exchange)) → replies_over country H streams ≡ own no_desk (whose country) H (requests_over streams) (all_replies streams)
  replies_over_are [] = refl
  replies_over_are (es ∷ streams) =
      ap₂ (λ (a b : List Reply). a ++ b) (replies_in_are 0 es) (replies_over_are streams)
      ∙ sym (own_parts (requests_in 0 es) (requests_over streams) (map (λ e. e.reply) es) (all_replies streams) (number_in 0 es))

  own_sent : {X : Type 0} (sent : List SentRequest) (xs : List X) → own no_desk (whose country) H (map (λ s. s.request) sent) xs ≡ own desk (owner country) H sent xs
  own_sent [] xs = refl
  own_sent (s ∷ sent) [] = refl
  own_sent {X} (s ∷ sent) (x ∷ xs) = ap (λ (l : List X). if is_holder H (owner country s) then x ∷ l else l) (own_sent sent xs)

-- as many replies as requests
replies_number : (streams : List (List Exchange)) → length (all_replies streams) ≡ length (requests_over streams)
replies_number [] = refl
replies_number (es ∷ streams) =
    length-append (map (λ e. e.reply) es) (all_replies streams)
    ∙ ap₂ (λ (a b : ℕ). a + b) (number_in 0 es) (replies_number streams)
    ∙ sym (length-append (requests_in 0 es) (requests_over streams))

-- ---- what nobody owns

-- the reply to a request that nobody owns is made of the request alone, where no fault has a fixed one
NobodysReply : List ℕ → ℤ → Bool → Result Command WebFault → Reply → Type 0
NobodysReply country at close (Ok command) reply =
    owner_of country command ≡ None → is_made reply ≡ true → bytes_of reply ≡ said_reply (said (empty_account country) at command) close
NobodysReply country at close (Err why) reply = IsFaultReply why close reply

abbrev IsNobodys : List ℕ → Request → Reply → Type 0
IsNobodys country r reply = NobodysReply country r.at r.close r.asks reply

-- the bytes of a reply of a request that can't be read, where it isn't a fixed one
fault_bytes : (why : WebFault) (close : Bool) (reply : Reply) → is_made reply ≡ true → IsFaultReply why close reply → bytes_of reply ≡ fault_reply why close
fault_bytes why close reply made (inl none) = absurd (let wrong : is_made NoMemory ≡ true = ap is_made (sym none) ∙ made in cc)
fault_bytes why close reply made (inr told) = told.1

module _ (country : List ℕ) where
  one_nobodys : (at : ℤ) (close : Bool) (asks : Result Command WebFault) (reply : Reply) → ((why : WebFault) → asks ≡ Err why → IsFaultReply why close reply)
      → ((command : Command) → asks ≡ Ok command → owner_of country command ≡ None → is_made reply ≡ true
      → bytes_of reply ≡ said_reply (said (empty_account country) at command) close)
      → NobodysReply country at close asks reply
  unfolding NobodysReply
  one_nobodys at close (Ok command) reply faults nobodys = nobodys command refl
  one_nobodys at close (Err why) reply faults nobodys = faults why refl

  holds_in : (before : ℕ) (es : List Exchange) → FaultsAreTold before es → NobodysAreTold country before es
      → Holds no_desk (whose country) (IsNobodys country) (requests_in before es) (map (λ e. e.reply) es)
  holds_in before [] faults nobodys = tt
  holds_in before (e ∷ es) faults nobodys = (
    one_nobodys e.at (question before e.wire).close (command_in (question before e.wire)) e.reply faults.0 nobodys.0,
    holds_in (before + 1) es faults.1 nobodys.1,
  )

  holds_parts : (rs others : List Request) (xs ys : List Reply) → length xs ≡ length rs → Holds no_desk (whose country) (IsNobodys country) rs xs
      → Holds no_desk (whose country) (IsNobodys country) others ys → Holds no_desk (whose country) (IsNobodys country) (rs ++ others) (xs ++ ys)
  holds_parts [] others [] ys same first second = second
  holds_parts [] others (x ∷ xs) ys same first second = absurd (omega (arith, same))
  holds_parts (r ∷ rs) others [] ys same first second = absurd (omega (arith, same))
  holds_parts (r ∷ rs) others (x ∷ xs) ys same first second = (first.0, holds_parts rs others xs ys (omega (arith, same)) first.1 second)

  holds_over : (streams : List (List Exchange)) → All (FaultsAreTold 0) streams → All (NobodysAreTold country 0) streams
      → Holds no_desk (whose country) (IsNobodys country) (requests_over streams) (all_replies streams)
  holds_over [] faults nobodys = tt
  holds_over (es ∷ streams) faults nobodys =
      holds_parts (requests_in 0 es) (requests_over streams) (map (λ e. e.reply) es) (all_replies streams) (number_in 0 es)
      (holds_in 0 es (faults 0 [] (omega arith)) (nobodys 0 [] (omega arith)))
      (holds_over streams (λ k d below. faults (suc k) d (omega (arith, below))) (λ k d below. nobodys (suc k) d (omega (arith, below))))

  holds_sent : (sent : List SentRequest) (xs : List Reply) → Holds no_desk (whose country) (IsNobodys country) (map (λ s. s.request) sent) xs
      → Holds desk (owner country) (λ s. IsNobodys country s.request) sent xs
  holds_sent [] xs all = tt
  holds_sent (s ∷ sent) [] all = tt
  holds_sent (s ∷ sent) (x ∷ xs) all = (all.0, holds_sent sent xs all.1)

  -- where the same fault has a fixed reply, or none, the bytes are the same
  made_alike : (at : ℤ) (close : Bool) (asks : Result Command WebFault) (x y : Reply) → asked_of country asks ≡ None → is_made x ≡ true → is_made y ≡ true
      → NobodysReply country at close asks x → NobodysReply country at close asks y → bytes_of x ≡ bytes_of y
  unfolding NobodysReply
  made_alike at close (Ok command) x y none made other_made first second = first none made ∙ sym (second none other_made)
  made_alike at close (Err why) x y none made other_made first second = fault_bytes why close x made first ∙ sym (fault_bytes why close y other_made second)

  bytes_alike : (at : ℤ) (close : Bool) (asks : Result Command WebFault) (x y : Reply) → asked_of country asks ≡ None → fault_told x ≡ fault_told y
      → NobodysReply country at close asks x → NobodysReply country at close asks y → bytes_of x ≡ bytes_of y
  bytes_alike at close asks (Made x) (Made y) none same first second = made_alike at close asks (Made x) (Made y) none refl refl first second
  bytes_alike at close asks (Made x) NoMemory none same first second = absurd cc
  bytes_alike at close asks (Made x) Store none same first second = absurd cc
  bytes_alike at close asks NoMemory (Made y) none same first second = absurd cc
  bytes_alike at close asks NoMemory NoMemory none same first second = refl
  bytes_alike at close asks NoMemory Store none same first second = absurd cc
  bytes_alike at close asks Store (Made y) none same first second = absurd cc
  bytes_alike at close asks Store NoMemory none same first second = absurd cc
  bytes_alike at close asks Store Store none same first second = refl

  nobodys_alike : (sent : List SentRequest) (xs ys : List Reply) → map fault_told xs ≡ map fault_told ys
      → Holds desk (owner country) (λ s. IsNobodys country s.request) sent xs → Holds desk (owner country) (λ s. IsNobodys country s.request) sent ys
      → NobodysAlike desk (owner country) sent (map bytes_of xs) (map bytes_of ys)
  nobodys_alike [] xs ys same first second = tt
  nobodys_alike (s ∷ sent) [] ys same first second = tt
  nobodys_alike (s ∷ sent) (x ∷ xs) [] same first second = tt
  nobodys_alike (s ∷ sent) (x ∷ xs) (y ∷ ys) same first second = (
    λ none. bytes_alike s.request.at s.request.close s.request.asks x y none (heads same) first.0 second.0,
    nobodys_alike sent xs ys (tails same) first.1 second.1,
  )

-- ---- connections at a desk

module _ {D : Type 0} (view : DeskView D) (country : List ℕ) (streams : List (List Exchange)) (old new : Service D) (serving : IsServingAt view country streams old new) where
  serving_is : (c : Content) × IsServedOver country (λ H. fresh H (view.content (desk_of old))) streams c × (view.is_live (desk_of new) → view.content (desk_of new) ≡ c)
  serving_is =
      let served = serving.private serving.clean serving.live serving.sound (λ H. fresh H (view.content (desk_of old))) (fresh_tied (view.content (desk_of old))) in
      (served.0, subst (λ k. IsServedOver k (λ H. fresh H (view.content (desk_of old))) streams served.0) serving.country_is served.1, served.2)

  -- while no fault has shut the desk, its content is sound, and of its country
  serving_end : view.is_live (desk_of new) → ((view.content (desk_of new)).country ≡ country) × IsSound (view.content (desk_of new))
  serving_end live =
      let served = serving_is in
      (ap (λ (c : Content). c.country) (served.2 live) ∙ served.1.country_stays, subst IsSound (sym (served.2 live)) served.1.sound)

-- those of H's commands that did not fail
heard_are : (country : List ℕ) (H : ℕ) (streams : List (List Exchange))
    → heard_over country H streams ≡ still (asked_over country H streams) (map is_made (replies_over country H streams))
heard_are country H [] = refl
heard_are country H (es ∷ streams) =
    heard_then country H 0 es (asked_over country H streams) (heard_over country H streams) (replies_over country H streams) (heard_are country H streams)

-- a reply is no fixed one where it tells no fault
abbrev is_none : Option Fault → Bool
is_none None = true
is_none (Some why) = false

made_is : (reply : Reply) → is_made reply ≡ is_none (fault_told reply)
made_is (Made bytes) = refl
made_is NoMemory = refl
made_is Store = refl

made_are : (replies : List Reply) → map is_made replies ≡ map is_none (map fault_told replies)
made_are [] = refl
made_are (reply ∷ replies) = ap₂ (λ (b : Bool) (l : List Bool). b ∷ l) (made_is reply) (made_are replies)

-- ---- requests that are split

module _ {D E : Type 0} (view : DeskView D) (other : DeskView E) (country : List ℕ) (f : ℕ → ℕ) (desks : ℕ) (sent : List SentRequest) (streams : List (List Exchange))
    (parts : ℕ → List (List Exchange)) (old new : Service D) (olds news : ℕ → Service E)
    (split : IsSplitServing view other (shards_of country f desks) sent (record { streams = streams; old = old; new = new })
    (λ i. record { streams = parts i; old = olds i; new = news i })) where
  module _ (H : ℕ) where
    one_served : (c : Content) × IsServedOver country (λ G. fresh G (view.content (desk_of old))) streams c × (view.is_live (desk_of new) → view.content (desk_of new) ≡ c)
    one_served = serving_is view country streams old new split.one

    their_served : (c : Content) × IsServedOver country (λ G. fresh G (other.content (desk_of (olds (f H))))) (parts (f H)) c
        × (other.is_live (desk_of (news (f H))) → other.content (desk_of (news (f H))) ≡ c)
    their_served = serving_is other country (parts (f H)) (olds (f H)) (news (f H)) (split.many (f H) (split.placed H))

    begun_alike : fresh H (view.content (desk_of old)) ≡ fresh H (other.content (desk_of (olds (f H))))
    begun_alike =
        same_fresh H (view.content (desk_of old)) (other.content (desk_of (olds (f H))))
        (split.one.country_is ∙ sym (split.many (f H) (split.placed H)).country_is) (sym (split.begun H))

    -- H was told alike where the same failed
    told_alike : TellAlikeOver country H streams (parts (f H))
    told_alike =
        tell_alike_over country H (λ G. fresh G (view.content (desk_of old))) (λ G. fresh G (other.content (desk_of (olds (f H))))) streams (parts (f H))
        one_served.0 their_served.0 one_served.1 their_served.1 begun_alike

    agree : asked_over country H streams ≡ asked_over country H (parts (f H))
    agree =
        asked_over_are country H streams
        ∙ ap (flat_map (asks_of country H)) split.asked
        ∙ asked_at_home country H f desks sent split.sent_to
        ∙ sym (ap (flat_map (asks_of country H)) (split.shares (f H) (split.placed H)))
        ∙ sym (asked_over_are country H (parts (f H)))

    heard_same : FailTogetherOver country H streams (parts (f H)) → heard_over country H streams ≡ heard_over country H (parts (f H))
    heard_same failed = heard_are country H streams ∙ ap₂ still agree failed ∙ sym (heard_are country H (parts (f H)))

    rows_alike : FailTogetherOver country H streams (parts (f H)) → view.is_live (desk_of new) → other.is_live (desk_of (news (f H)))
        → rows_of H (other.content (desk_of (news (f H)))) ≡ rows_of H (view.content (desk_of new))
    rows_alike failed live other_live =
        ap (rows_of H) (their_served.2 other_live)
        ∙ sym (rows_by_account H one_served.0 their_served.0
        (one_served.1.tied.each H
        ∙ ap₂ (λ (b : Book) (l : List HolderRequest). account_of H (machine_book H b (commands_of l))) begun_alike (heard_same failed)
        ∙ sym (their_served.1.tied.each H)))
        ∙ ap (rows_of H) (sym (one_served.2 live))

    -- the replies to H's requests
    one_replies : replies_over country H streams ≡ own desk (owner country) H sent (all_replies streams)
    one_replies =
        replies_over_are country H streams
        ∙ ap (λ (l : List Request). own no_desk (whose country) H l (all_replies streams)) split.asked
        ∙ own_sent country H sent (all_replies streams)

    their_replies : replies_over country H (parts (f H)) ≡ own desk (owner country) H (at_desk desk (owner country) (f H) sent) (all_replies (parts (f H)))
    their_replies =
        replies_over_are country H (parts (f H))
        ∙ ap (λ (l : List Request). own no_desk (whose country) H l (all_replies (parts (f H)))) (split.shares (f H) (split.placed H))
        ∙ own_sent country H (filter (λ s. s.desk == f H) sent) (all_replies (parts (f H)))

  -- what is gathered
  all_gathered : List Reply
  all_gathered = gathered (map (λ s. s.desk) sent) (λ i. all_replies (parts i))

  their_number : (i : ℕ) → i < desks → length (all_replies (parts i)) ≡ length (filter (λ s. s.desk == i) sent)
  their_number i below =
      replies_number (parts i) ∙ ap length (split.shares i below) ∙ length-map (filter (λ s. s.desk == i) sent) (λ s. s.request)

  fits : Fits desk (owner country) desks sent (λ i. all_replies (parts i))
  fits i below = let number = their_number i below in omega (arith, number)

  own_gathered : (H : ℕ) → own desk (owner country) H sent all_gathered ≡ replies_over country H (parts (f H))
  unfolding all_gathered
  own_gathered H = gathered_own desk (owner country) f desks H sent (λ i. all_replies (parts i)) split.sent_to fits ∙ sym (their_replies H)

  -- the same at each of H's places
  own_alike : {X : Type 0} (g : Reply → X) (H : ℕ) → map g (replies_over country H streams) ≡ map g (own desk (owner country) H sent (all_replies streams))
  own_alike g H = ap (map g) (one_replies H)

  failed_alike : map fault_told (all_replies streams) ≡ map fault_told all_gathered → (H : ℕ) → FailAlikeOver country H streams (parts (f H))
  failed_alike same H =
      ap (map fault_told) (one_replies H)
      ∙ sym (own_map desk (owner country) fault_told H sent (all_replies streams))
      ∙ ap (own desk (owner country) H sent) same
      ∙ own_map desk (owner country) fault_told H sent all_gathered
      ∙ ap (map fault_told) (own_gathered H)

  failed_together : map fault_told (all_replies streams) ≡ map fault_told all_gathered → (H : ℕ) → FailTogetherOver country H streams (parts (f H))
  failed_together same H =
      made_are (replies_over country H streams) ∙ ap (map is_none) (failed_alike same H) ∙ sym (made_are (replies_over country H (parts (f H))))

  bytes_at : map fault_told (all_replies streams) ≡ map fault_told all_gathered → (H : ℕ)
      → own desk (owner country) H sent (map bytes_of (all_replies streams)) ≡ own desk (owner country) H sent (map bytes_of all_gathered)
  bytes_at same H =
      own_map desk (owner country) bytes_of H sent (all_replies streams)
      ∙ ap (map bytes_of) (sym (one_replies H))
      ∙ (told_alike H).replies (agree H) (failed_alike same H)
      ∙ ap (map bytes_of) (sym (own_gathered H))
      ∙ sym (own_map desk (owner country) bytes_of H sent all_gathered)

  one_holds : Holds desk (owner country) (λ s. IsNobodys country s.request) sent (all_replies streams)
  one_holds =
      let served = serving_is view country streams old new split.one in
      holds_sent country sent (all_replies streams)
      (subst (λ l. Holds no_desk (whose country) (IsNobodys country) l (all_replies streams)) split.asked (holds_over country streams served.1.faults served.1.nobodys))

  their_holds : (i : ℕ) → i < desks → Holds desk (owner country) (λ s. IsNobodys country s.request) (at_desk desk (owner country) i sent) (all_replies (parts i))
  their_holds i below =
      let served = serving_is other country (parts i) (olds i) (news i) (split.many i below) in
      holds_sent country (filter (λ s. s.desk == i) sent) (all_replies (parts i))
      (subst (λ l. Holds no_desk (whose country) (IsNobodys country) l (all_replies (parts i))) (split.shares i below) (holds_over country (parts i) served.1.faults served.1.nobodys))

  gathered_holds_all : Holds desk (owner country) (λ s. IsNobodys country s.request) sent all_gathered
  unfolding all_gathered
  gathered_holds_all = gathered_holds desk (owner country) (λ s. IsNobodys country s.request) f desks sent (λ i. all_replies (parts i)) split.sent_to their_holds

  gathered_number : length all_gathered ≡ length sent
  unfolding all_gathered
  gathered_number = length_gathered desk (owner country) f desks sent (λ i. all_replies (parts i)) split.sent_to fits

  one_number : length (all_replies streams) ≡ length sent
  one_number = replies_number streams ∙ ap length split.asked ∙ length-map sent (λ s. s.request)

  bytes_gathered : map fault_told (all_replies streams) ≡ map fault_told all_gathered → map bytes_of (all_replies streams) ≡ map bytes_of all_gathered
  bytes_gathered same =
      same_places desk (owner country) sent (map bytes_of (all_replies streams)) (map bytes_of all_gathered)
      (length-map (all_replies streams) bytes_of ∙ one_number)
      (length-map all_gathered bytes_of ∙ gathered_number)
      (nobodys_alike country sent (all_replies streams) all_gathered same one_holds gathered_holds_all)
      (bytes_at same)

  faults_are : map fault_told (all_replies streams) ≡ gathered (map (λ s. s.desk) sent) (λ i. map fault_told (all_replies (parts i)))
      → map fault_told (all_replies streams) ≡ map fault_told all_gathered
  unfolding all_gathered
  faults_are same =
      same ∙ sym (gathered_map fault_told (map (λ s. s.desk) sent) (λ i. all_replies (parts i)) (λ i. map fault_told (all_replies (parts i))) (λ j. refl))

  bytes_are : map bytes_of all_gathered ≡ gathered (map (λ s. s.desk) sent) (λ i. map bytes_of (all_replies (parts i)))
  unfolding all_gathered
  bytes_are = gathered_map bytes_of (map (λ s. s.desk) sent) (λ i. all_replies (parts i)) (λ i. map bytes_of (all_replies (parts i))) (λ j. refl)

pub servings_tell_as_one : {D E : Type 0} (view : DeskView D) (other : DeskView E) → ServingsTellAsOne view other
servings_tell_as_one {E = E} view other shards sent serving servings split H =
    let country = shards.country in
    let f = shards.home in
    let desks = shards.count in
    let streams = serving.streams in
    let old = serving.old in
    let new = serving.new in
    let parts : ℕ → List (List Exchange) = λ i. (servings i).streams in
    let olds : ℕ → Service E = λ i. (servings i).old in
    let news : ℕ → Service E = λ i. (servings i).new in (
      λ failed. (told_alike view other country f desks sent streams parts old new olds news split H).replies
          (agree view other country f desks sent streams parts old new olds news split H) failed,
      λ failed. (
        (told_alike view other country f desks sent streams parts old new olds news split H).told
            (agree view other country f desks sent streams parts old new olds news split H) failed,
        rows_alike view other country f desks sent streams parts old new olds news split H failed,
      ),
    )

pub replies_are_gathered : {D E : Type 0} (view : DeskView D) (other : DeskView E) → RepliesAreGathered view other
replies_are_gathered {E = E} view other shards sent serving servings split same =
    let country = shards.country in
    let f = shards.home in
    let desks = shards.count in
    let streams = serving.streams in
    let old = serving.old in
    let new = serving.new in
    let parts : ℕ → List (List Exchange) = λ i. (servings i).streams in
    let olds : ℕ → Service E = λ i. (servings i).old in
    let news : ℕ → Service E = λ i. (servings i).new in
    let faults = faults_are view other country f desks sent streams parts old new olds news split same in (
      bytes_gathered view other country f desks sent streams parts old new olds news split faults ∙ bytes_are view other country f desks sent streams parts old new olds news split,
      λ H. (failed_alike view other country f desks sent streams parts old new olds news split faults H, failed_together view other country f desks sent streams parts old new olds news split faults H),
    )

pub servings_hold_as_one : UnionIsOneContent → {D E : Type 0} (view : DeskView D) (other : DeskView E) → ServingsHoldAsOne view other
servings_hold_as_one law {E = E} view other shards sent serving servings split failed live others_live =
    let country = shards.country in
    let f = shards.home in
    let desks = shards.count in
    let streams = serving.streams in
    let old = serving.old in
    let new = serving.new in
    let parts : ℕ → List (List Exchange) = λ i. (servings i).streams in
    let olds : ℕ → Service E = λ i. (servings i).old in
    let news : ℕ → Service E = λ i. (servings i).new in
    let held = serving_end view country streams old new split.one live in
    union_is_content law country f desks (view.content (desk_of new)) (λ i. other.content (desk_of (news i))) held.0 held.1 split.placed
    (λ i below. serving_end other country (parts i) (olds i) (news i) (split.many i below) (others_live i below))
    (λ H. rows_alike view other country f desks sent streams parts old new olds news split H (failed H) live (others_live (f H) (split.placed H)))
