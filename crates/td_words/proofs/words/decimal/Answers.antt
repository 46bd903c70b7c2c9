use Rattle.std.proofs.Common.{rules}
use Rattle.td_words.proofs.Numbers.{is_decimal, too_great, too_small, unparsed}
use Rattle.td_words.proofs.words.decimal.Goals as goal

pub returns-in-Ok : goal.returns-in-Ok
returns-in-Ok c =
    is_decimal c.args.text.now c.args.least c.args.greatest (search rules) c.in-Ok.n c.in-Ok.ensures.value.0 c.if-n-least.true
    c.if-n-greatest.true

pub returns-in_default : goal.returns-in_default
returns-in_default c =
    too_great c.args.text.now c.args.least c.args.greatest (search rules) c.in-Ok.n c.in-Ok.ensures.value.0 c.if-n-greatest.false

pub returns-in_default-2 : goal.returns-in_default-2
returns-in_default-2 c =
    too_small c.args.text.now c.args.least c.args.greatest (search rules) c.in-Ok.n c.in-Ok.ensures.value.0 c.if-n-least.false

pub returns-in_default-3 : goal.returns-in_default-3
returns-in_default-3 c =
    unparsed c.args.text.now c.args.least c.args.greatest (search rules) c.in_default.ensures.value.0
    c.ranges.greatest.fits
