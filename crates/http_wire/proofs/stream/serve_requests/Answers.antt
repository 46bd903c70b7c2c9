use Rattle.std.proofs.Common.{arith, sym, rules, SFits, w64}
use Rattle.std.proofs.lemmas.Int.{to_z-of_z}
use Rattle.http_wire.proofs.Serving.{Handled, sides, gathering_first, handled, goes_on}
use Rattle.http_wire.proofs.Ends.{cut_reply, ends_fixed, ends_asked, served_all}
use Rattle.http_wire.proofs.ClosingReplies.{stopped}
use Rattle.http_wire.specs.Input.{unread, room_of}
use Rattle.http_wire.specs.Replies.{waiting}
use Rattle.http_wire.proofs.stream.serve_requests.Given.{Over}
use Rattle.http_wire.proofs.stream.serve_requests.Invariants.{words_of}
use Rattle.http_wire.proofs.stream.serve_requests.Goals as goal
use Rattle.http_wire.proofs.stream.serve_requests.Goals.{After-reply_to-reply}

-- the request was read and handled
handled_here : (g : Over) (c : After-reply_to-reply g)
    → Handled (words_of g) (sides c.args.reader.now c.args.writer.now c.args.clock.now c.args.handler.now)
    (sides c.read_request.new.reader c.read_request.new.writer c.seconds-at.new.self c.reply_to-reply.new.handler)
    (unread c.read_request.new.input) (waiting c.read_request.new.replies) (room_of c.read_request.new.input) c.read_request.new.reads c.loop-served.served
    c.in-Ok.request.close c.reply_to-reply.result
handled_here g c =
    let fits : SFits w64 c.seconds-at.result = search rules in
    handled c.loop-served.invariant _ _ _ _ _ c.in-Ok.request c.in-Ok.ensures.read.1 c.in-Ok.ensures.room c.in-Ok.ensures.read.2
    _ _ c.in-Ok.ensures.sending _ _ c.seconds-at.ensures c.reply_to-reply.result _ (rw (to_z-of_z w64 _ fits) at c.reply_to-reply.ensures)

pub loop-served-init : goal.loop-served-init
loop-served-init g c = gathering_first _ _ _ _ _ c.new-input.ensures c.new-replies.ensures.none

pub loop-served-preserved : goal.loop-served-preserved
loop-served-preserved g c =
    let h = handled_here g (goal.at.loop-served-preserved g c).After-reply_to-reply in
    let added = rw c.as_bytes.ensures at (c.add.ensures.added c.if-not-add.false) in
    goes_on h _ _ _ added (sym c.if-not-is_made.ensures) c.if-asks.false

pub returns-in-Err : goal.returns-in-Err
returns-in-Err g c =
    let read = c.in-Err.ensures.read in
    stopped c.loop-served.invariant c.loop-served-test.true c.in-Err.stop _ _ _ read.1 read.2 _ _ c.in-Err.ensures.sending _ _ _ c.end_stream.ensures

pub returns-then-not-add : goal.returns-then-not-add
returns-then-not-add g c =
    let h = handled_here g (goal.at.returns-then-not-add g c).After-reply_to-reply in
    cut_reply h c.loop-served-test.true _ (rw c.as_bytes.ensures at (c.add.ensures.cut c.if-not-add.true))

pub returns-then-not-is_made : goal.returns-then-not-is_made
returns-then-not-is_made g c =
    let h = handled_here g (goal.at.returns-then-not-is_made g c).After-reply_to-reply in
    let added = rw c.as_bytes.ensures at (c.add.ensures.added c.if-not-add.false) in
    ends_fixed h c.loop-served-test.true _ _ _ added _ _ c.last_sent.ensures (sym c.if-not-is_made.ensures)

pub returns-then-asks : goal.returns-then-asks
returns-then-asks g c =
    let h = handled_here g (goal.at.returns-then-asks g c).After-reply_to-reply in
    let added = rw c.as_bytes.ensures at (c.add.ensures.added c.if-not-add.false) in
    ends_asked h c.loop-served-test.true _ _ _ added _ _ c.last_sent-then-asks.ensures (sym c.if-not-is_made.ensures) c.if-asks.true

pub returns : goal.returns
returns g c = served_all c.loop-served.invariant (omega arith) _ _ c.last_sent-2.ensures
