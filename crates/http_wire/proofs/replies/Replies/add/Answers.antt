use Rattle.std.proofs.Common.{◌<◌, ◌++◌, length, true, arith, inr}
use Rattle.std.proofs.lemmas.List.{length-append}
use Rattle.counted_io.proofs.Chaining.{wrote_on}
use Rattle.http_wire.specs.Replies.{waiting, room_of}
use Rattle.http_wire.proofs.Sending.{cut_front, cut_behind}
use Rattle.http_wire.proofs.replies.Replies.add.Goals as goal

pub returns-then-send-clause-added : goal.returns-then-send-clause-added
returns-then-send-clause-added g c whole =
    let size = length-append (waiting c.args.self.now) c.args.reply.now in
    let over : room_of c.args.self.now < length (waiting c.args.self.now ++ c.args.reply.now) =
    let room = c.capacity.ensures in let len = c.len.ensures in let large = c.if-reply-capacity.false in omega arith in
    inr (over, wrote_on _ _ _ _ _ _ true (c.send.ensures.sent c.if-send.true) (c.write_whole.ensures.chain whole), c.send.ensures.none)

pub returns-then-send-clause-cut : goal.returns-then-send-clause-cut
returns-then-send-clause-cut g c cut = cut_behind _ _ _ _ _ _ (c.send.ensures.sent c.if-send.true) (c.write_whole.ensures.cut cut)

pub returns-else-send-clause-cut : goal.returns-else-send-clause-cut
returns-else-send-clause-cut g c cut = cut_front _ _ _ _ _ (c.send.ensures.cut cut)
