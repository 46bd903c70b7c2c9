-- Connections of a source that keeps its clients in order.
use Rattle.std.proofs.Common.{◌≡◌, ℕ, ◌+◌, ◌<◌, ◌≤◌, List, [], ◌∷◌, length, length-set, arith, refl}
use Rattle.std.specs.Prelude.{slice_set}
use Rattle.counted_io.specs.Counted.{inner_of}
use Rattle.td_http.specs.Connections.{Between, Connection, KnownConnections, KnownServer, ServedConnections}
use Rattle.td_machine.specs.Pinned.{AreServedInOrder}

-- The source keeps its clients, what was told to each, and how many have gone.
pub in_order : {R W C H L : Type 0} (clients : L → List R) (told : L → List W) (gone : L → ℕ)
    (known : KnownConnections L R W) (server : KnownServer C H)
    → ((old : L) (r : R) (w : W) (new : L) → known.gives old r w new → (clients old ≡ r ∷ clients new) × (told new ≡ told old) × (gone new ≡ gone old))
    → ((old : L) (r : R) (w : W) (new : L) → known.takes old r w new → (clients new ≡ clients old)
    × (gone old < length (told old) → (told new ≡ slice_set (told old) (gone old) w) × (gone new ≡ gone old + 1)))
    → (all : List (Connection R W)) (old new : Between L C H)
    → ServedConnections known server old all new
    → AreServedInOrder (clients old.source) (clients new.source) (told old.source) (told new.source) (gone old.source) all
in_order clients told gone known server gave took [] old new served =
    rw served (record { came = refl; kept = λ _. refl })
in_order clients told gone known server gave took (c ∷ all) old new served =
    let is = served.1 in
    let rest = in_order clients told gone known server gave took all served.0 new served.2 in
    let g = gave old.source (inner_of c.reader) (inner_of c.writer) is.busy is.came in
    let took_back = took is.busy (inner_of c.reader_left) (inner_of c.writer_left) served.0.source is.went in
    let step = rw (g.1, g.2) at took_back.1 in
    record {
      came = rw (g.0, ← took_back.0, rest.came) refl;
      kept = λ fits.
          let below : gone old.source < length (told old.source) = omega (arith, fits) in
          let now = step below in
          let room : gone old.source + 1 + length all ≤ length (told old.source) = omega (arith, fits) in
          rw (now.0, now.1) at (rest.kept (rw (now.0, now.1, length-set) room));
    }
