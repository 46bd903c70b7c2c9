use Rattle.std.proofs.Common.{ℕ, ◌+◌, List, ◌∷◌, ◌++◌, map, drop, get_or, ◌∙◌, ap, sym}
use Rattle.std.specs.Prelude.{option_map}
use Rattle.std.specs.Char.{to_ascii_lowercase}
use Rattle.httparse.specs.Spans.{header_bytes}
use Rattle.http_wire.specs.Framing.{values_of}
use Rattle.http_wire.proofs.Fields.{found_so_far, no_header, values_named, values_other, two_values, none_yet}
use Rattle.http_wire.proofs.framing.find_values.Goals as goal
use Rattle.http_wire.proofs.framing.find_values.Goals.{then-is_field+else-is_some, else-is_field}

pub returns-then-is_some : goal.returns-then-is_some
returns-then-is_some c =
    let more = values_named _ c.args.buf.now c.args.headers.now c.loop-header.header-index no_header c.loop-header-test.true (sym c.is_field.ensures ∙ c.if-is_field.true) in
    let all = c.loop-header.invariant ∙ ap (λ (vs : List (List ℕ)). found_so_far (option_map (λ s. s.now) c.loop-header.found) ++ vs) more in
    rw all (two_values (λ s. s.now) c.loop-header.found _ _ (sym c.is_some.ensures ∙ c.if-is_some.true))

pub loop-header-preserved : goal.loop-header-preserved
loop-header-preserved c =
    elim c.if-is_field.branch [
      | then-is_field+else-is_some w ↦
          let more = values_named _ c.args.buf.now c.args.headers.now c.loop-header.header-index no_header c.loop-header-test.true (sym c.is_field.ensures ∙ w.if-is_field.true) in
          let none = none_yet (λ s. s.now) c.loop-header.found (sym w.is_some.ensures ∙ w.if-is_some.false) in
          rw (w.found-is, w.of.ensures) (c.loop-header.invariant ∙ ap (λ (vs : List (List ℕ)). found_so_far (option_map (λ s. s.now) c.loop-header.found) ++ vs) more ∙ ap (λ (vs : List (List ℕ)). vs ++ (header_bytes c.args.buf.now (get_or c.args.headers.now c.loop-header.header-index no_header)).1 ∷ values_of (map to_ascii_lowercase c.args.name.now) (map (header_bytes c.args.buf.now) (drop (c.loop-header.header-index + 1) c.args.headers.now))) none)
      | else-is_field w ↦
          let more = values_other _ c.args.buf.now c.args.headers.now c.loop-header.header-index no_header c.loop-header-test.true (sym c.is_field.ensures ∙ w.if-is_field.false) in
          rw w.found-is (c.loop-header.invariant ∙ ap (λ (vs : List (List ℕ)). found_so_far (option_map (λ s. s.now) c.loop-header.found) ++ vs) more)
    ]
