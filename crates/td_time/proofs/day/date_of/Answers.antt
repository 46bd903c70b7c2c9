use Rattle.std.proofs.Common.{◌≡◌, FitsSigned, w64, arith, ◌∙◌}
use Rattle.std.proofs.lemmas.Int.{ints, to_z-of_z}
use Rattle.jiff.proofs.SpanFacts.{signed_arith, date_add-days, can_add-days}
use Rattle.td_time.proofs.Calendar.{epoch_is_zero}
use Rattle.td_time.proofs.day.date_of.Goals as goal

pub unwrap-requires : goal.unwrap-requires
unwrap-requires c =
    let fits : FitsSigned w64 c.from.result = rw c.from.ensures (omega (arith, signed_arith)) in
    let only = simp to_z-of_z at c.days.ensures in
    let month : c.date.result.month ≡ 1 = cc in
    let day : c.date.result.day ≡ 1 = cc in
    let zero = epoch_is_zero c.date.result.year c.date.result.month c.date.result.day c.date.ensures.0 month day in
    c.checked_add.ensures.succeeds.1 ((can_add-days c.date.result c.from.result c.days.result only).1 (rw (zero, c.from.ensures) (omega (arith, ints), omega (arith, ints))))

pub returns : goal.returns
returns c =
    let fits : FitsSigned w64 c.from.result = rw c.from.ensures (omega (arith, signed_arith)) in
    let only = simp to_z-of_z at c.days.ensures in
    let month : c.date.result.month ≡ 1 = cc in
    let day : c.date.result.day ≡ 1 = cc in
    let zero = epoch_is_zero c.date.result.year c.date.result.month c.date.result.day c.date.ensures.0 month day in
    let added = rw c.unwrap.ensures at c.checked_add.ensures.value in
    added ∙ date_add-days c.date.result c.from.result c.days.result only ∙ rw (zero, c.from.ensures) (omega (arith, ints))
