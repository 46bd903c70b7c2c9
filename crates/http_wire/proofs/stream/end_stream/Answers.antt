use Rattle.std.proofs.Common.{inl}
use Rattle.http_wire.proofs.stream.end_stream.Goals as goal

pub returns-then-send : goal.returns-then-send
returns-then-send g c = inl (_, c.send.ensures.sent c.if-send.true, c.part_with.ensures)
