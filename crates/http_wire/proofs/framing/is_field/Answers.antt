use Rattle.std.proofs.Common.{map}
use Rattle.std.specs.Char.{to_ascii_lowercase}
use Rattle.std.proofs.lemmas.Slice.Eq.{bytes_eq-Decides}
use Rattle.std.proofs.lemmas.Bool.Decides.{same_from_decides}
use Rattle.httparse.specs.Spans.{header_bytes}
use Rattle.http_wire.proofs.framing.is_field.Goals as goal

pub returns : goal.returns
returns c =
    let test = rw c.of.ensures at c.eq_ignore_ascii_case.ensures.test in
    same_from_decides _ _ (λ is. test.0 is, λ same. test.1 same)
    (bytes_eq-Decides (map to_ascii_lowercase (header_bytes c.args.buf.now c.args.header.now).0) (map to_ascii_lowercase c.args.name.now))
