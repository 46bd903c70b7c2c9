use Rattle.std.proofs.Common.{◌+◌, length, take, drop, arith, refl, sym, None, SomeIff}
use Rattle.std.proofs.lemmas.Bool.{false≢true}
use Rattle.std.proofs.lemmas.Grind.{common_steps}
use Rattle.std.proofs.lemmas.List.{length-take-le, length-drop}
use Rattle.std.proofs.lemmas.Option.{get_or_from_slice_get}
use Rattle.ascii_text.proofs.Decimals.{ten_power_small}
use Rattle.td_money.specs.Money.{IsCentsText, cents_value}
use Rattle.td_money.proofs.Amounts.{too_long, made_cents_text, SomeIff-same}
use Rattle.td_money.proofs.Readers.{cents_read_is}
use Rattle.std.proofs.lemmas.List.{take_rest}
use Rattle.td_money.proofs.money.Cents.read.Goals as goal
use Rattle.td_money.proofs.money.Cents.read.Goals.{then-point-gt14-via-then-point-gt14, then-point-gt14-via-else-point-gt14+then-text-point-ne46, then-point-gt14-via-else-point-gt14+else-text-point-ne46+then-not-is_whole}

pub returns-then-point-gt14 : goal.returns-then-point-gt14
returns-then-point-gt14 c =
    let text = c.args.text.now in
    let none : ¬ (IsCentsText text) = elim c.then-point-gt14.branch [
      | then-point-gt14-via-then-point-gt14 w ↦
          let a = c.in_ok-point.ensures in
          too_long text (omega (arith, w.if-point-gt14.true))
      | then-point-gt14-via-else-point-gt14+then-text-point-ne46 w ↦
          λ h. w.if-text-point-ne46.true (rw c.in_ok-point.ensures.1 (get_or_from_slice_get text _ 46 0 h.point))
      | then-point-gt14-via-else-point-gt14+else-text-point-ne46+then-not-is_whole w ↦
          λ h. false≢true (w.if-not-is_whole.ensures.form.1 (rw c.in_ok-point.ensures.1 h.whole))
    ] in
    record { value = cents_read_is text None none; form = none }

pub overflow_mul-whole : goal.overflow_mul-whole
overflow_mul-whole c =
    let a = c.in_ok-point.ensures in
    let size = length-take-le c.in_ok-point.point c.args.text.now (omega arith) in
    let power = ten_power_small (length (take c.in_ok-point.point c.args.text.now)) 14 (omega arith) in
    omega (arith, c.in_ok-whole.ensures.small)

pub overflow_add-whole : goal.overflow_add-whole
overflow_add-whole c =
    let a = c.in_ok-point.ensures in
    let size = length-take-le c.in_ok-point.point c.args.text.now (omega arith) in
    let power = ten_power_small (length (take c.in_ok-point.point c.args.text.now)) 14 (omega arith) in
    let rest = rw take_rest at c.in_ok-cents.ensures.small in
    let behind = length-drop (c.in_ok-point.point + 1) c.args.text.now in
    let fraction = ten_power_small (length (drop (c.in_ok-point.point + 1) c.args.text.now)) 2 (omega arith) in
    omega (arith, c.in_ok-whole.ensures.small, rest)

pub returns : goal.returns
returns c =
    let a = c.in_ok-point.ensures in
    let whole = c.in_ok-whole.ensures.value in
    let cents = rw take_rest at c.in_ok-cents.ensures.value in
    let text = c.args.text.now in
    let form : SomeIff c.new.result (IsCentsText text) (cents_value text) = SomeIff-same c.new.result _ _ _ _
    (λ range. made_cents_text c.args.text.now c.in_ok-point.point a.0 a.1 (c.is_whole.ensures.form.0 c.if-not-is_whole.false) c.if-text-point-ne46.false cents.0 (rw (sym whole.1, sym cents.1) range))
    (λ h. rw (whole.1, cents.1, a.1) h.range)
    (rw (whole.1, cents.1, a.1) refl)
    c.new.ensures.range in
    record { value = cents_read_is text c.new.result form; form = form }

pub returns-in_err-cents-clause-value : goal.returns-in_err-cents-clause-value
returns-in_err-cents-clause-value c = cents_read_is c.args.text.now c.from_residual-in_err-cents.result (grind (arith, common_steps))
