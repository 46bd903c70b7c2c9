-- The parser's tokens are those of methods.
use Rattle.std.proofs.Common.{List, ℕ}
use Rattle.httparse.specs.Grammar as grammar
use Rattle.httparse.specs.Grammar.{is_token_byte}
use Rattle.http_header.specs.Token as methods

pub token_is : (bytes : List ℕ) → grammar.IsToken bytes → methods.IsToken bytes
unfolding is_token_byte methods.is_token_byte
token_is bytes token = token
