use Rattle.std.proofs.Common.{ap, sym}
use Rattle.std.specs.Fmt.{digits}
use Rattle.http_wire.specs.ReplyText.{framing_reply}
use Rattle.http_wire.proofs.framing.FramingError.reply.Goals as goal

pub returns-in-BadHead : goal.returns-in-BadHead
unfolding digits
returns-in-BadHead c = sym (ap framing_reply c.in-BadHead.is)

pub returns-in-HeadTooLarge : goal.returns-in-HeadTooLarge
unfolding digits
returns-in-HeadTooLarge c = sym (ap framing_reply c.in-HeadTooLarge.is)

pub returns-in-TransferEncoding : goal.returns-in-TransferEncoding
unfolding digits
returns-in-TransferEncoding c = sym (ap framing_reply c.in-TransferEncoding.is)

pub returns-in-BadLength : goal.returns-in-BadLength
unfolding digits
returns-in-BadLength c = sym (ap framing_reply c.in-BadLength.is)

pub returns-in-BodyTooLarge : goal.returns-in-BodyTooLarge
unfolding digits
returns-in-BodyTooLarge c = sym (ap framing_reply c.in-BodyTooLarge.is)
