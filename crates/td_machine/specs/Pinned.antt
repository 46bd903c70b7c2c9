-- What became of the clients of a machine in memory.
use Rattle.std.specs.Prelude.{◌≡◌, ℕ, ◌+◌, ◌≤◌, List, [], ◌∷◌, ◌++◌, length, map, slice_set}
use Rattle.counted_io.specs.Counted.{inner_of}
use Rattle.td_http.specs.Connections.{Connection}

-- what was written to each client, put in its place, from this one on
abbrev pub told_from : {W : Type 0} → List W → ℕ → List W → List W
told_from told gone [] = told
told_from told gone (w ∷ ws) = told_from (slice_set told gone w) (gone + 1) ws

-- Connections are those of the clients, in their order, and what was written to each is kept in its place.
pub record AreServedInOrder {R W : Type 0} (clients clients_left : List R) (told told_left : List W) (gone : ℕ)
    (all : List (Connection R W)) : Type 0 where
  pub came : clients ≡ map (λ c. inner_of c.reader) all ++ clients_left
  pub kept : gone + length all ≤ length told → told_left ≡ told_from told gone (map (λ c. inner_of c.writer_left) all)
