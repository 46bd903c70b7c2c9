use Rattle.std.proofs.Common.{ap, sym}
use Rattle.std.specs.Fmt.{digits}
use Rattle.http_wire.specs.ReplyText.{bytes_of}
use Rattle.http_wire.proofs.reply.Reply.as_bytes.Goals as goal

pub returns-in-NoMemory : goal.returns-in-NoMemory
unfolding digits
returns-in-NoMemory c = sym (ap bytes_of c.in-NoMemory.is)

pub returns-in-Store : goal.returns-in-Store
unfolding digits
returns-in-Store c = sym (ap bytes_of c.in-Store.is)
