-- Connections that were served, and one more.
use Rattle.std.proofs.Common.{◌≡◌, ℕ, ◌+◌, List, [], ◌∷◌, ◌++◌, length, Result, Ok, Err, ap, ◌∙◌}
use Rattle.std.specs.Prelude.{IsErrAnd}
use Rattle.std.proofs.lemmas.Fn.{FoldsTo-push}
use Rattle.std.proofs.lemmas.List.{length-append}
use Rattle.std.specs.declared.io.Error.{Error}
use Rattle.td_http.specs.Connections.{Between, Connection, IsServedConnection, KnownConnections, KnownServer, ServedConnections}

-- the parts, one after the other
abbrev pub between : {L C H : Type 0} → L → C → H → Between L C H
between source clock handler = record { source = source; clock = clock; handler = handler }

-- an error that is handed on
pub answer_is : (answer : Result Unit Error) (why : Error) → IsErrAnd answer (λ told. told ≡ why)
    → answer ≡ Err why
answer_is (Ok done) why told = absurd told
answer_is (Err other) why told = ap Err told

-- so many connections were served
pub record Serving {R W C H L : Type 0} (known : KnownConnections L R W) (server : KnownServer C H)
    (old now : Between L C H) (count : ℕ) : Type 0 where
  pub all_served : List (Connection R W)
  pub were_served : ServedConnections known server old all_served now
  pub counted : length all_served ≡ count

-- one more
pub serving_more : {R W C H L : Type 0} (known : KnownConnections L R W) (server : KnownServer C H)
    (old now new : Between L C H) (count : ℕ) (connection : Connection R W)
    → Serving known server old now count
    → IsServedConnection known server now connection new
    → Serving known server old new (count + 1)
serving_more known server old now new count connection before is =
    let counted = before.counted in
    record {
      all_served = before.all_served ++ connection ∷ [];
      were_served = FoldsTo-push (IsServedConnection known server)
          old before.all_served now connection new before.were_served is;
      counted = length-append before.all_served (connection ∷ []) ∙ ap (λ (n : ℕ). n + 1) counted;
    }
