use Rattle.std.proofs.Common.{◌≡◌, ℕ, List, ◌++◌}
use Rattle.http_wire.specs.Input.{unread, room_of}
use Rattle.http_wire.specs.Reading.{ReadsOn, KeepsRoom, brought}
use Rattle.http_wire.specs.Replies.{waiting, HoldsOrSends}
use Rattle.http_wire.proofs.reading.read_request.Given as goal

abbrev pub invariant-loop-wanted : goal.invariant-loop-wanted
invariant-loop-wanted g l =
    (given : List ℕ) × ReadsOn g.R.Read.remaining l.initial.reader l.reader (unread l.initial.input) given l.initial.reads l.reads brought
    × (unread l.input ≡ unread l.initial.input ++ given)
    × KeepsRoom (room_of l.initial.input) (room_of l.input) l.initial.reads l.reads
    × HoldsOrSends g.W.Write.contents l.initial.writer l.writer (waiting l.initial.replies) (waiting l.replies) l.initial.reads l.reads

abbrev pub decreases-loop-wanted : goal.decreases-loop-wanted
decreases-loop-wanted g l = l.reads
