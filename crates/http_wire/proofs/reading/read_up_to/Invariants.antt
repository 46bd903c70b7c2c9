use Rattle.std.proofs.Common.{◌≡◌, ℕ, ◌<◌, List, [], ◌++◌}
use Rattle.std.specs.Prelude.{◌⊎◌}
use Rattle.http_wire.specs.Input.{unread, room_of}
use Rattle.http_wire.specs.Reading.{ReadsOn, KeepsRoom, brought}
use Rattle.http_wire.proofs.reading.read_up_to.Given as goal

abbrev pub invariant-loop-wanted : goal.invariant-loop-wanted
invariant-loop-wanted g l =
    (given : List ℕ) × ReadsOn g.R.Read.remaining l.initial.reader l.reader (unread l.initial.input) given l.initial.reads l.reads brought
    × (unread l.input ≡ unread l.initial.input ++ given)
    × ((given ≡ []) ⊎ (l.reads < l.initial.reads))
    × KeepsRoom (room_of l.initial.input) (room_of l.input) l.initial.reads l.reads

abbrev pub decreases-loop-wanted : goal.decreases-loop-wanted
decreases-loop-wanted g l = l.reads
