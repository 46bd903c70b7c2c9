use Rattle.std.proofs.Common.{◌∷◌, ◌+◌, ◌/◌, ◌%◌, ap, arith, string_bytes}
use Rattle.std.proofs.lemmas.Str.{encode_ascii}
use Rattle.td_reports.specs.Texts.{amount_text}
use Rattle.td_reports.proofs.Padding.{amount_parts, styled_number}
use Rattle.td_reports.proofs.Texts.{put_as}
use Rattle.td_reports.proofs.lines.add_amount.Goals as goal

pub returns : goal.returns
returns c =
    let cents = c.args.amount in
    put_as c.write.result (string_bytes c.args.line.now) (string_bytes c.write.new.self) _ (32 ∷ amount_text cents) c.write.ensures.bytes
    (rw (
      c.laid_out.ensures,
      c.from-tens.ensures,
      c.from-ones.ensures,
      c.last_digit.ensures,
      c.last_digit-2.ensures,
      c.get-cents.ensures.value,
      styled_number 14 (cents / 100) (omega arith),
      encode_ascii (48 + cents / 10 % 10) (omega arith),
      encode_ascii (48 + cents % 10) (omega arith),
    ) (ap (λ l. 32 ∷ l) (amount_parts cents)))
