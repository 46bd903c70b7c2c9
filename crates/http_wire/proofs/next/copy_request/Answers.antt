use Rattle.std.proofs.Common.{rules}
use Rattle.http_wire.proofs.Tokens.{token_is}
use Rattle.http_wire.proofs.next.copy_request.Goals as goal

pub unreachable-requires : goal.unreachable-requires
unreachable-requires c = c.from_bytes.ensures.invalid.0 (search rules) (token_is c.args.method.now c.requires.token)
