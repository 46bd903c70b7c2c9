use Rattle.std.proofs.Common.{◌≡◌, map, drop, codes}
use Rattle.std.specs.List.{list_any}
use Rattle.httparse.specs.Spans.{header_bytes}
use Rattle.http_wire.specs.Framing.{values_of, lists_close}
use Rattle.http_wire.proofs.framing.asks_close.Given as goal

-- the fields before have no such member
abbrev pub invariant-loop-header : goal.invariant-loop-header
invariant-loop-header l =
    list_any lists_close (values_of (codes "connection") (map (header_bytes l.buf) l.headers))
    ≡ list_any lists_close (values_of (codes "connection") (map (header_bytes l.buf) (drop l.header-index l.headers)))
