use Rattle.std.proofs.Common.{All, take}
use Rattle.td_base.specs.Codes.{IsAccessCode}
use Rattle.td_answers.proofs.objects.are_access_codes.Given as goal

-- it holds of the codes before
abbrev pub invariant-loop-code : goal.invariant-loop-code
invariant-loop-code l = All IsAccessCode (take l.code-index l.codes)
