use Rattle.std.proofs.Common.{refl}
use Rattle.ascii_text.proofs.Decimals.{two_digits, four_digits}
use Rattle.td_time.proofs.day.text_of.Goals as goal

pub returns : goal.returns
returns c =
    let civil = c.args.civil.now in
    rw (four_digits, two_digits civil.month, two_digits civil.day, c.last_digit.ensures, c.last_digit-2.ensures, c.last_digit-3.ensures, c.last_digit-4.ensures, c.last_digit-5.ensures, c.last_digit-6.ensures, c.last_digit-7.ensures, c.last_digit-8.ensures) refl
