use Rattle.std.proofs.Common.{All}
use Rattle.td_base.specs.Codes.{IsAccessCode}
use Rattle.td_answers.proofs.PlainObjects.{guarantee_told}
use Rattle.td_answers.proofs.objects.guarantee_is_told_in.Goals as goal

pub returns : goal.returns
returns c =
    let all : All IsAccessCode c.args.guarantee.now.codes = rw (← c.as_slice.ensures.value) c.are_access_codes.ensures in
    guarantee_told c.args.guarantee.now c.args.used c.as_bytes-grn.ensures.form all
