use Rattle.std.proofs.Common.{◌≡◌, ◌+◌, ◌-◌, ◌*◌, arith, drop, get_or, ◌∙◌}
use Rattle.std.specs.Str.Parse.{digits_value, digits_value_after}
use Rattle.http_wire.proofs.Digits.{value_grows, value_step}
use Rattle.http_wire.proofs.framing.capped_value.Goals as goal
use Rattle.http_wire.proofs.framing.capped_value.Goals.{then-sum-le-MAX_BODY, else-sum-le-MAX_BODY}

pub loop-digit-preserved : goal.loop-digit-preserved
loop-digit-preserved c =
    elim c.if-sum-le-MAX_BODY.branch [
      | then-sum-le-MAX_BODY w ↦
          let here = c.loop-digit.invariant.exact w.if-sum-le-MAX_BODY.true in
          let stepped = value_step c.args.text.now c.loop-digit.digit-index c.loop-digit.sum c.requires c.loop-digit-test.true in
          let sum : c.if-sum-le-MAX_BODY.sum ≡ c.loop-digit.sum * 10 + (get_or c.args.text.now c.loop-digit.digit-index 0 - 48) = cc in
          let more : digits_value 10 c.args.text.now ≡ digits_value_after 10 c.if-sum-le-MAX_BODY.sum (drop (c.loop-digit.digit-index + 1) c.args.text.now) = rw sum (here ∙ stepped) in
          record { exact = λ _. more; above = λ above. omega (arith, more, w.sum-is, value_grows c.if-sum-le-MAX_BODY.sum (drop (c.loop-digit.digit-index + 1) c.args.text.now)) }
      | else-sum-le-MAX_BODY w ↦ record { exact = λ low. absurd (omega arith); above = λ _. c.loop-digit.invariant.above w.if-sum-le-MAX_BODY.false }
    ]
