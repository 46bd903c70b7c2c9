use Rattle.std.proofs.Common.{◌≡◌, [], ◌++◌, ◌∙◌, append-nil, rules, ap, refl, Err, inl, inr, subst, sym}
use Rattle.http_wire.specs.Input.{unread}
use Rattle.http_wire.specs.Wire.{BeginsServed}
use Rattle.http_wire.proofs.Readings.{ReadsOn-trans, StopsAs-after, joined, reads_none, room_first, room_on, stood_at}
use Rattle.http_wire.proofs.Sending.{sends_on, sends_before}
use Rattle.http_wire.proofs.reading.read_request.Goals as goal

pub loop-wanted-init : goal.loop-wanted-init
loop-wanted-init g c = ([], reads_none _ _ _ _, sym (append-nil (unread c.args.input.now)), room_first _ _, inl (refl, refl, refl))

pub loop-wanted-preserved : goal.loop-wanted-preserved
loop-wanted-preserved g c =
    let inv = c.loop-wanted.invariant in
    let call = c.in_ok-read_up_to.ensures.read in (
      inv.0 ++ call.0,
      ReadsOn-trans _ _ _ _ _ _ _ _ _ _ _ inv.1 (stood_at inv.2 call.1),
      joined _ _ _ _ _ inv.2 call.2.0,
      room_on _ _ _ _ _ _ inv.1.read.spent call.1.read.spent inv.3 c.in_ok-read_up_to.ensures.room,
      inr (sends_on _ _ _ _ _ _ _ _ inv.4 (c.send.ensures.sent c.if-not-send.false), c.send.ensures.none),
    )

pub returns-in_err-read_up_to-clause-read : goal.returns-in_err-read_up_to-clause-read
returns-in_err-read_up_to-clause-read g c =
    let inv = c.loop-wanted.invariant in
    let call = c.in_err-read_up_to.ensures.read in
    let same : c.from_residual.result ≡ Err c.in_err-read_up_to.field-0.0 = search rules in
    rw same (
      inv.0 ++ call.0,
      ReadsOn-trans _ _ _ _ _ _ _ _ _ _ _ inv.1 (stood_at inv.2 call.1),
      StopsAs-after _ _ _ _ _ _ _ _ _ _ _ _ inv.1.read.spent inv.3 inv.2 call.2,
    )

pub returns-in-Err-clause-read : goal.returns-in-Err-clause-read
returns-in-Err-clause-read g c = let inv = c.loop-wanted.invariant in (inv.0, inv.1, inr (subst BeginsServed (c.bytes.ensures ∙ inv.2) c.in-Err.ensures.memory))

pub returns-in_err-read_up_to-clause-sending : goal.returns-in_err-read_up_to-clause-sending
returns-in_err-read_up_to-clause-sending g c =
    let same : c.from_residual.result ≡ Err c.in_err-read_up_to.field-0.0 = search rules in
    rw same (sends_before _ _ _ _ _ _ _ c.in_err-read_up_to.field-0.0 (λ e. c.in_err-read_up_to.ensures.unwritten (ap Err e))
    (inr (sends_on _ _ _ _ _ _ _ _ c.loop-wanted.invariant.4 (c.send.ensures.sent c.if-not-send.false), c.send.ensures.none)))
