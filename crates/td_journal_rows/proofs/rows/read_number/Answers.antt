use Rattle.std.proofs.Common.{arith}
use Rattle.std.proofs.lemmas.Bool.Decides.{nat_tests}
use Rattle.td_journal_rows.proofs.Lines.{number_is}
use Rattle.td_journal_rows.proofs.rows.read_number.Goals as goal

pub returns : goal.returns
returns c =
    number_is c.args.text.now c.read_digits.result (grind (arith, nat_tests, c.is_empty.ensures, c.if-is_empty.false)) (omega (arith, c.if-text-gt18.false)) c.read_digits.ensures.value
