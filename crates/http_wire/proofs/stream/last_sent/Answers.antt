use Rattle.std.proofs.Common.{false, inr, refl}
use Rattle.http_wire.proofs.Sending.{wrote_made}
use Rattle.http_wire.proofs.stream.last_sent.Goals as goal

pub returns-else-send : goal.returns-else-send
returns-else-send g c =
    let cut = c.send.ensures.cut c.if-send.false in
    inr (refl, cut, wrote_made _ _ _ _ false cut.wrote)
