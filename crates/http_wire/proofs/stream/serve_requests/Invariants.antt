use Rattle.http_wire.specs.Input.{unread, room_of}
use Rattle.http_wire.specs.Replies.{waiting}
use Rattle.http_wire.proofs.Serving.{Gathering, Words, sides}
use Rattle.http_wire.proofs.stream.serve_requests.Given as goal
use Rattle.http_wire.proofs.stream.serve_requests.Given.{Over}

-- the words of the function's bounds
abbrev pub words_of : (g : Over) → Words g.row.R.Denot g.row.W.Denot g.row.C.Denot g.row.H.Denot
words_of g = record {
  remaining = g.R.Read.remaining;
  contents = g.W.Write.contents;
  ticks = g.C.Clock.ticks;
  handles = g.H.Handler.handles;
  heads = g.H.Handler.handles_head;
}

abbrev pub invariant-loop-served : goal.invariant-loop-served
invariant-loop-served g l =
    Gathering (words_of g) (sides l.initial.reader l.initial.writer l.initial.clock l.initial.handler)
    (sides l.reader l.writer l.clock l.handler) (unread l.input) (waiting l.replies) (room_of l.input) l.reads l.served
