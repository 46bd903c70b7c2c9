use Rattle.std.proofs.Common.{◌≡◌, ◌++◌, map, drop}
use Rattle.std.specs.Prelude.{option_map}
use Rattle.std.specs.Char.{to_ascii_lowercase}
use Rattle.httparse.specs.Spans.{header_bytes}
use Rattle.http_wire.specs.Framing.{values_of}
use Rattle.http_wire.proofs.Fields.{found_so_far}
use Rattle.http_wire.proofs.framing.find_values.Given as goal

abbrev pub invariant-loop-header : goal.invariant-loop-header
invariant-loop-header l =
    values_of (map to_ascii_lowercase l.name) (map (header_bytes l.buf) l.headers)
    ≡ found_so_far (option_map (λ s. s.now) l.found) ++ values_of (map to_ascii_lowercase l.name) (map (header_bytes l.buf) (drop l.header-index l.headers))
