-- What is left of connections where nothing is known of their source.
use Rattle.std.proofs.Common.{◌≡◌, ℕ, ◌<◌, List, [], ◌∷◌, length, Option, Result, Ok, Err, ap, refl}
use Rattle.std.proofs.lemmas.Bool.{false≢true}
use Rattle.std.specs.Prelude.{IsErr, MatchResult}
use Rattle.std.specs.declared.io.Error.{Error}
use Rattle.td_http.specs.Connections.{Between, Connection, IsRefused, KnownConnections, KnownServer, ServedConnections, ServesConnections, beside, unknown_source}

-- the clock and the handler alone
abbrev without_source : {L C H : Type 0} → Between L C H → Between (Unit {0}) C H
without_source b = beside b.clock b.handler

-- connections one after another, where the source is left out
pub were_served_anyhow : {R W C H L : Type 0} (known : KnownConnections L R W) (server : KnownServer C H)
    (all_served : List (Connection R W)) (old new : Between L C H)
    → ServedConnections known server old all_served new
    → ServedConnections (unknown_source known.remaining known.contents) server
    (without_source old) all_served (without_source new)
were_served_anyhow known server [] old new were_served =
    ap without_source were_served
were_served_anyhow known server (connection ∷ all_served) old new were_served =
    let is = were_served.1 in (
      without_source were_served.0,
      record {
        busy = tt;
        came = tt;
        unread = is.unread;
        unwritten = is.unwritten;
        served = is.served;
        exchanges = is.exchanges;
        went = tt;
      },
      were_served_anyhow known server all_served were_served.0 new were_served.2,
    )

-- how they ended
pub ended_anyhow : {R W C H L : Type 0} (refuses : L → Error → L → Type 0) (all_served : List (Connection R W))
    (last new : Between L C H) (count : ℕ) (answer : Result Unit Error)
    → MatchResult answer (λ _. (length all_served ≡ count) × (new ≡ last))
    (λ why. (length all_served < count) × IsRefused refuses last why new)
    → MatchResult answer (λ _. (length all_served ≡ count) × (without_source new ≡ without_source last))
    (λ why. (length all_served < count)
    × IsRefused (λ _ _ _. Unit {0}) (without_source last) why (without_source new))
ended_anyhow refuses all_served last new count (Ok done) ended = (ended.0, ap without_source ended.1)
ended_anyhow refuses all_served last new count (Err why) ended =
    (ended.0, record { refused = tt; clock = ended.1.clock; handler = ended.1.handler })

-- no connection was served, and there was none to be had: the answer is an error
pub none_came : {R W C H : Type 0} (remaining : R → Option (List ℕ)) (contents : W → Option (List ℕ)) (server : KnownServer C H) (clock : C) (handler : H)
    (count : ℕ) (answer : Result Unit Error) → 0 < count → IsErr answer
    → (served : ServesConnections (unknown_source remaining contents) server (beside clock handler) (beside clock handler) count answer) × (served.all_served ≡ [])
none_came remaining contents server clock handler count (Ok done) some is_err = absurd (false≢true is_err)
none_came remaining contents server clock handler count (Err why) some is_err = (
  record {
    all_served = [];
    last = beside clock handler;
    were_served = refl;
    ended = (some, record { refused = tt; clock = refl; handler = refl });
  },
  refl,
)
