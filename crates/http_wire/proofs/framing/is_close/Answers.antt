use Rattle.std.proofs.Common.{map, codes}
use Rattle.std.specs.Char.{to_ascii_lowercase}
use Rattle.std.proofs.lemmas.Slice.Eq.{bytes_eq-Decides}
use Rattle.std.proofs.lemmas.Bool.Decides.{same_from_decides}
use Rattle.httparse.specs.Grammar.{trim_ows}
use Rattle.http_wire.proofs.framing.is_close.Goals as goal

pub returns : goal.returns
unfolding trim_ows
returns c =
    let test = rw (c.trim_end.ensures, c.trim_start.ensures) at c.eq_ignore_ascii_case.ensures.test in
    same_from_decides _ _ (λ is. test.0 is, λ same. test.1 same)
    (bytes_eq-Decides (map to_ascii_lowercase (trim_ows c.args.member.now)) (codes "close"))
